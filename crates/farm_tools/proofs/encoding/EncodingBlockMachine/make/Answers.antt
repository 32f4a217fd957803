use Rattle.std.proofs.Common.{◌≡◌, length, refl, arith}
use Rattle.block_lines.proofs.Making.{nothing_left}
use Rattle.farm_tools.specs.Machines.{encode_machine}
use Rattle.farm_tools.proofs.Machines.{one_line}
use Rattle.farm_tools.proofs.Making.{encode_more, encoder_more}
use Rattle.farm_tools.proofs.encoding.EncodingBlockMachine.make.Goals as goal

pub returns-clause-makes : goal.returns-clause-makes
returns-clause-makes c =
    let whole : length c.args.block.now ≡ 160 = omega (arith, c.requires.bound, c.if-block-lt160.false) in
    let frame = c.encode_frame.new.frame in
    one_line encode_machine _ _ c.args.block.now frame 40 (λ blocks rest. refl) refl c.encode_frame.ensures.long (record { whole = whole; good = tt })
    (encoder_more _ _ c.args.block.now frame c.encode_frame.ensures.history) (encode_more _ _ c.args.block.now frame c.encode_frame.ensures.history)

pub returns-then-block-lt160-clause-makes : goal.returns-then-block-lt160-clause-makes
returns-then-block-lt160-clause-makes c =
    nothing_left encode_machine _ c.args.block.now _ _ refl (λ blocks. refl) (λ j blocks. refl) (record { less = c.if-block-lt160.true; good = tt })
