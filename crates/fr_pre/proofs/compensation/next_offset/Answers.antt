use Rattle.std.proofs.Common.{arith, ap, ◌≤◌, ◌^◌, ◌*ℤ◌, ◌+ℤ◌, pos, subst, sym, unsigned_abs, FitsSigned, w64}
use Rattle.std.proofs.lemmas.Int.{to_z-of_z, ints}
use Rattle.trau_num.specs.Num.{floor_shr}
use Rattle.trau_num.proofs.Fitting.{shifted_fits}
use Rattle.fr_pre.specs.Offsets.{IsOffset, next_offset}
use Rattle.fr_pre.proofs.Floors.{offset_stays}
use Rattle.fr_pre.proofs.compensation.next_offset.Goals as goal

pub overflow_mul-result : goal.overflow_mul-result
overflow_mul-result c =
    let fo = c.ranges.offset in
    let o : unsigned_abs c.args.offset ≤ 2 ^ 29 = c.requires.offset in
    simp to_z-of_z (omega (arith, ints))

pub overflow_add-result : goal.overflow_add-result
overflow_add-result c =
    let fo = c.ranges.offset in
    let o : unsigned_abs c.args.offset ≤ 2 ^ 29 = c.requires.offset in
    let fp : FitsSigned w64 c.pull.result = record { sfits = c.pull.type_inv } in
    let b : unsigned_abs c.pull.result ≤ 2 ^ 35 = c.pull.ensures.bound in
    let fm : FitsSigned w64 (c.args.offset *ℤ pos 32735) = omega (arith, ints) in
    simp to_z-of_z (omega (arith, ints))

pub returns-clause-value : goal.returns-clause-value
unfolding next_offset
returns-clause-value c =
    let fo = c.ranges.offset in
    let fs = c.ranges.so in
    let o : unsigned_abs c.args.offset ≤ 2 ^ 29 = c.requires.offset in
    let fp : FitsSigned w64 c.pull.result = record { sfits = c.pull.type_inv } in
    let b : unsigned_abs c.pull.result ≤ 2 ^ 35 = c.pull.ensures.bound in
    let e = simp to_z-of_z at c.pull.ensures.value in
    let fm : FitsSigned w64 (c.args.offset *ℤ pos 32735) = omega (arith, ints) in
    let sum : FitsSigned w64 (c.args.offset *ℤ pos 32735 +ℤ c.pull.result) = omega (arith, ints) in
    let fits = shifted_fits w64 (c.args.offset *ℤ pos 32735 +ℤ c.pull.result) 15 sum in
    simp to_z-of_z (ap (λ z. floor_shr (c.args.offset *ℤ pos 32735 +ℤ z) 15) e)

pub returns-clause-within : goal.returns-clause-within
returns-clause-within c =
    subst (λ z. IsOffset z) (sym (returns-clause-value c)) (offset_stays c.args.offset c.args.so c.requires.offset c.requires.sample)
