use Rattle.std.proofs.Common.{◌≡◌, ◌+◌, ◌*◌, ◌∷◌, [], ◌∙◌, ap, arith, get_or, length, refl, rules, subst, sym}
use Rattle.trau_bits.specs.Bits.{bits_of}
use Rattle.trau_submux.specs.Channels.{channel}
use Rattle.trau_submux.proofs.Channels.{bits_of-channel, channel_of-bits, for_four}
use Rattle.trau_submux.proofs.Parts.{Taken, first_more, second_more, third_more, fourth_more, nothing_taken, whole_taken}
use Rattle.trau_submux.proofs.four.split4.Goals as goal

pub loop-part-init : goal.loop-part-init
loop-part-init c = record {
  first = nothing_taken 0 c.args.slot.now _ refl;
  second = nothing_taken 1 c.args.slot.now _ refl;
  third = nothing_taken 2 c.args.slot.now _ refl;
  fourth = nothing_taken 3 c.args.slot.now _ refl;
}

pub loop-part-preserved : goal.loop-part-preserved
loop-part-preserved c =
    let slot = c.args.slot.now in
    let n = 8 * c.loop-part.part in
    let m = 8 * (c.loop-part.part + 1) in
    let u = c.eight_of_each.result.0 in
    let w = c.eight_of_each.result.1 in
    let long_u : length u ≡ 16 = search rules in
    let long_w : length w ≡ 16 = search rules in
    let old = c.loop-part.invariant in
    record {
      first = subst (λ row. Taken 0 slot row m) (sym c.put_eight.ensures)
          (first_more slot u w n m (omega arith) (omega arith) long_u long_w c.eight_of_each.ensures c.loop-part.first old.first);
      second = subst (λ row. Taken 1 slot row m) (sym c.put_eight-in-loop-part.ensures)
          (second_more slot u w n m (omega arith) (omega arith) long_u long_w c.eight_of_each.ensures c.loop-part.second old.second);
      third = subst (λ row. Taken 2 slot row m) (sym c.put_eight-in-loop-part-2.ensures)
          (third_more slot u w n m (omega arith) (omega arith) long_u long_w c.eight_of_each.ensures c.loop-part.third old.third);
      fourth = subst (λ row. Taken 3 slot row m) (sym c.put_eight-in-loop-part-3.ensures)
          (fourth_more slot u w n m (omega arith) (omega arith) long_u long_w c.eight_of_each.ensures c.loop-part.fourth old.fourth);
    }

pub returns-clause-channels : goal.returns-clause-channels
returns-clause-channels c =
    let slot = c.args.slot.now in
    let done = c.loop-part.invariant in
    for_four (λ j. get_or (c.loop-part.first ∷ c.loop-part.second ∷ c.loop-part.third ∷ c.loop-part.fourth ∷ []) j [] ≡ channel j slot)
    (whole_taken 0 slot c.loop-part.first (8 * c.loop-part.part) (omega arith) c.told-slot (omega (arith, c.loop-part-test.false)) done.first)
    (whole_taken 1 slot c.loop-part.second (8 * c.loop-part.part) (omega arith) c.told-slot (omega (arith, c.loop-part-test.false)) done.second)
    (whole_taken 2 slot c.loop-part.third (8 * c.loop-part.part) (omega arith) c.told-slot (omega (arith, c.loop-part-test.false)) done.third)
    (whole_taken 3 slot c.loop-part.fourth (8 * c.loop-part.part) (omega arith) c.told-slot (omega (arith, c.loop-part-test.false)) done.fourth)

pub returns-clause-bits : goal.returns-clause-bits
returns-clause-bits c = λ j below. ap bits_of (returns-clause-channels c j below) ∙ bits_of-channel j c.args.slot.now 40 (omega (arith, c.told-slot))

pub returns-clause-merged : goal.returns-clause-merged
returns-clause-merged c = λ j octets below small same. returns-clause-channels c j below ∙ channel_of-bits j c.args.slot.now octets small same
