use Rattle.std.proofs.Common.{◌≡◌, length, refl, arith, rules}
use Rattle.block_lines.proofs.Making.{nothing_left}
use Rattle.farm_tools.specs.Machines.{relay_machine}
use Rattle.farm_tools.proofs.Machines.{empty, one_line}
use Rattle.farm_tools.proofs.Making.{relay_more}
use Rattle.farm_tools.proofs.relaying.RelayingBlockMachine.make.Goals as goal

pub returns-clause-makes : goal.returns-clause-makes
returns-clause-makes c =
    let whole : length c.args.block.now ≡ 40 = omega (arith, c.requires.bound, c.if-block-lt40.false) in
    let octets = c.pack_frame.new.octets in
    one_line relay_machine _ _ c.args.block.now octets 40 (λ blocks rest. refl) refl c.pack_frame.ensures.long
    (record { whole = whole; good = c.in_ok-d.ensures.good.0 refl }) (λ blocks now. tt)
    (λ blocks now. relay_more blocks c.args.block.now c.in_ok-d.d octets c.in_ok-d.ensures.data_bits c.pack_frame.ensures.octets)

pub returns-then-is_empty-clause-makes : goal.returns-then-is_empty-clause-makes
returns-then-is_empty-clause-makes c =
    let long : length c.args.block.now ≡ 0 = search rules in
    let none = empty c.args.block.now long in
    nothing_left relay_machine _ c.args.block.now _ _ refl (λ blocks. refl) (λ j blocks. refl) (record { less = omega (arith, long); good = none })
