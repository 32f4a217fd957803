use Rattle.std.proofs.Common.{replicate, sym, ap, ◌∙◌}
use Rattle.trau_frame.specs.Frame.{frame_bits}
use Rattle.trau_frame.specs.DownFrame.{down_bits, down_control, down_data}
use Rattle.trau_frame.proofs.WrittenRows.{ones-below}
use Rattle.trau_frame.proofs.writing.write_down.Goals as goal

pub write_frame-requires-clause-data_bits : goal.write_frame-requires-clause-data_bits
write_frame-requires-clause-data_bits c = ones-below

pub returns-in-Idle-clause-bits : goal.returns-in-Idle-clause-bits
unfolding down_bits
returns-in-Idle-clause-bits c =
    c.write_frame.ensures.bits ∙
    ap (λ control. frame_bits control (replicate 260 1)) c.down_control-control.ensures.value ∙
    ap (λ f. frame_bits (down_control c.args.f.now) (down_data f)) (sym c.in-Idle.is)
