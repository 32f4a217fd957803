use Rattle.std.proofs.Common.{◌≡◌, length, refl, arith, rules}
use Rattle.block_lines.proofs.Making.{nothing_left}
use Rattle.farm_tools.specs.Machines.{decode_machine}
use Rattle.farm_tools.proofs.Machines.{empty, one_line}
use Rattle.farm_tools.proofs.Making.{decode_more, decoder_more}
use Rattle.farm_tools.proofs.decoding.DecodingBlockMachine.make.Goals as goal

pub returns-clause-makes : goal.returns-clause-makes
returns-clause-makes c =
    let whole : length c.args.block.now ≡ 40 = omega (arith, c.requires.bound, c.if-block-lt40.false) in
    let octets = c.decode_octets.new.octets in
    one_line decode_machine _ _ c.args.block.now octets 160 (λ blocks rest. refl) refl c.decode_octets.ensures.long
    (record { whole = whole; good = c.in_ok-d.ensures.good.0 refl })
    (decoder_more _ _ c.args.block.now c.in_ok-d.d octets c.in_ok-d.ensures.data_bits c.decode_octets.ensures.history)
    (decode_more _ _ c.args.block.now c.in_ok-d.d octets c.in_ok-d.ensures.data_bits c.decode_octets.ensures.history)

pub returns-then-is_empty-clause-makes : goal.returns-then-is_empty-clause-makes
returns-then-is_empty-clause-makes c =
    let long : length c.args.block.now ≡ 0 = search rules in
    let none = empty c.args.block.now long in
    nothing_left decode_machine _ c.args.block.now _ _ refl (λ blocks. refl) (λ j blocks. refl) (record { less = omega (arith, long); good = none })
