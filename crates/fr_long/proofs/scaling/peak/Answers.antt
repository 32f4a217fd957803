use Rattle.std.proofs.Common.{◌≡◌, ◌≤ℤ◌, get_or, pos, rules, arith, sym, ap, ◌∙◌, FitsSigned, w16, to_z, ℤ, int_cmp, Bool, true, false, cond, is_lt, int_lt}
use Rattle.std.proofs.Common.{Less, Greater, Equal, refl, below_more}
use Rattle.std.specs.Int.{int_max}
use Rattle.std.specs.Ordering.{ord_max}
use Rattle.std.proofs.lemmas.Int.{to_z-of_z, ints, clamps}
use Rattle.trau_num.specs.Num.{abs_of, entry}
use Rattle.fr_long.specs.Scaling.{block_peak_of}
use Rattle.trau_lanes.proofs.LaneDots.{fold_more}
use Rattle.fr_long.proofs.scaling.peak.Goals as goal

is_less : (t u : Bool) → is_lt (cond t Less (cond u Greater Equal)) ≡ t
is_less true u = refl
is_less false true = refl
is_less false false = refl

-- `max` of the ordering is that of the integers
greater : (x y : ℤ) → ord_max int_cmp x y ≡ int_max x y
greater x y = ap (λ t. cond t x y) (is_less (int_lt y x) (int_lt x y))

-- what a greater peak stays above
bounds : (s a r : ℤ) → r ≡ int_max s a → pos 0 ≤ℤ s → (pos 0 ≤ℤ r) × (a ≤ℤ r) × ((x : ℤ) → x ≤ℤ s → x ≤ℤ r)
bounds s a r e h = (omega (arith, ints, clamps), omega (arith, ints, clamps), λ x l. omega (arith, ints, clamps))

pub loop-k-preserved : goal.loop-k-preserved
loop-k-preserved c =
    let x : FitsSigned w16 (get_or c.args.d.now c.loop-k.k (pos 0)) = search rules in
    let r : FitsSigned w16 c.abs16.result = search rules in
    let m : FitsSigned w16 c.max-peak.result = search rules in
    let a = simp to_z-of_z at c.abs16.ensures.value in
    let e : c.max-peak.result ≡ int_max (to_z w16 c.loop-k.peak-bits) (abs_of (get_or c.args.d.now c.loop-k.k (pos 0))) =
    simp to_z-of_z at c.max-peak.ensures ∙ greater (to_z w16 c.loop-k.peak-bits) c.abs16.result ∙ ap (int_max (to_z w16 c.loop-k.peak-bits)) a in
    let grown = bounds (to_z w16 c.loop-k.peak-bits) (abs_of (get_or c.args.d.now c.loop-k.k (pos 0))) c.max-peak.result e c.loop-k.invariant.not_negative in
    simp to_z-of_z (record {
      value = e ∙ ap (λ s. int_max s (abs_of (get_or c.args.d.now c.loop-k.k (pos 0)))) c.loop-k.invariant.value ∙
          sym (fold_more int_max (λ k. abs_of (entry c.args.d.now k)) c.loop-k.k);
      not_negative = grown.0;
      greatest = below_more (λ k. abs_of (entry c.args.d.now k) ≤ℤ c.max-peak.result) c.loop-k.k (λ k l. grown.2 _ (c.loop-k.invariant.greatest k l)) grown.1;
    })

pub returns-clause-value : goal.returns-clause-value
unfolding block_peak_of
returns-clause-value c = let e : c.loop-k.k ≡ 40 = omega arith in rw e at c.loop-k.invariant.value
