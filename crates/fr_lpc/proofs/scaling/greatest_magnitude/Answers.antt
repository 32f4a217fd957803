use Rattle.std.proofs.Common.{◌≡◌, ◌≤◌, take, arith, rules, ◌∙◌, unsigned_abs, below_more, FitsSigned, w16}
use Rattle.std.proofs.lemmas.Int.{to_z-of_z, ints}
use Rattle.std.proofs.lemmas.List.{take_all}
use Rattle.trau_num.specs.Num.{entry}
use Rattle.fr_lpc.proofs.Scaled.{peak_more, peak_bounds}
use Rattle.fr_lpc.proofs.scaling.greatest_magnitude.Goals as goal

pub loop-k-preserved : goal.loop-k-preserved
loop-k-preserved c =
    let x : FitsSigned w16 (entry c.args.s.now c.loop-k.k) = search rules in
    let a : FitsSigned w16 c.abs16.result = search rules in
    let m : FitsSigned w16 c.max-most.result = search rules in
    let v = simp to_z-of_z at c.abs16.ensures.value in
    let e = simp to_z-of_z at c.max-most.ensures.value in
    let word : unsigned_abs (entry c.args.s.now c.loop-k.k) ≤ 32768 = omega (arith, ints) in
    simp to_z-of_z (record {
      most = e ∙ peak_more c.args.s.now c.loop-k.k _ c.abs16.result (omega (arith, c.told-s)) c.loop-k.invariant.most v;
      words = below_more (λ i. unsigned_abs (entry c.args.s.now i) ≤ 32768) c.loop-k.k c.loop-k.invariant.words word;
    })

pub returns-clause-not_negative : goal.returns-clause-not_negative
returns-clause-not_negative c =
    let all : take c.loop-k.k c.args.s.now ≡ c.args.s.now = take_all c.loop-k.k c.args.s.now (omega (arith, c.told-s)) in
    (peak_bounds c.args.s.now _ (rw all at c.loop-k.invariant.most)).0

pub returns-clause-greatest : goal.returns-clause-greatest
returns-clause-greatest c =
    let all : take c.loop-k.k c.args.s.now ≡ c.args.s.now = take_all c.loop-k.k c.args.s.now (omega (arith, c.told-s)) in
    (peak_bounds c.args.s.now _ (rw all at c.loop-k.invariant.most)).1
