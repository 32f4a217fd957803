use Rattle.std.proofs.Common.{ℕ, refl, subst}
use Rattle.trau_frame.specs.declared.frames.DownFrame.TheVariants.{Idle}
use Rattle.fr_sides.specs.Downlink.{WrittenDownlink}
use Rattle.call_coders.proofs.coders.keep_quiet.Goals as goal

pub returns-clause-carried : goal.returns-clause-carried
returns-clause-carried c =
    let written : WrittenDownlink _ 3 c.write_downlink.result =
    subst (λ (k : ℕ). WrittenDownlink _ k c.write_downlink.result) c.number.ensures c.write_downlink.ensures in
    record {
      written = written;
      contents = Idle;
      bits = c.written_frames_are_those_of_the_line.ensures.idle _ _ written;
      kind_is = refl;
    }
