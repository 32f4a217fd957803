use Rattle.std.proofs.Common.{◌≡◌, ◌<◌, arith, sym, inl, inr, ap, ◌∙◌, w32, of_z}
use Rattle.std.proofs.lemmas.Int.{to_z-of_z}
use Rattle.std.proofs.lemmas.Bool.{cases_lt}
use Rattle.trau_num.specs.Num.{entry}
use Rattle.fr_long.proofs.lag.first_at.Goals as goal

pub loop-place-init : goal.loop-place-init
loop-place-init c = λ k l. absurd (omega arith)

pub loop-place-preserved : goal.loop-place-preserved
loop-place-preserved c = λ k l e.
    elim (cases_lt k c.loop-place.place) [
      | inl m ↦ c.loop-place.invariant k m e
      | inr m ↦
          let same : c.loop-place.place ≡ k = omega arith in
          c.if-correlations-place.false (ap (of_z w32) (ap (entry c.args.correlations.now) same ∙ e ∙ to_z-of_z w32 c.args.value c.ranges.value))
    ]

pub returns-then-correlations-place-clause-first : goal.returns-then-correlations-place-clause-first
returns-then-correlations-place-clause-first c =
    let f = c.ranges.value in
    simp to_z-of_z at c.loop-place.invariant

pub returns-clause-value : goal.returns-clause-value
returns-clause-value c =
    let place = c.requires.0 in
    let below : place < 81 = c.requires.1 in
    let is : entry c.args.correlations.now place ≡ c.args.value = c.requires.2 in
    elim (cases_lt place c.loop-place.place) [
      | inl m ↦ absurd (c.loop-place.invariant place m (is ∙ sym (to_z-of_z w32 c.args.value c.ranges.value)))
      | inr m ↦ let same : 80 ≡ place = omega arith in ap (entry c.args.correlations.now) same ∙ is
    ]

pub returns-clause-first : goal.returns-clause-first
returns-clause-first c =
    let f = c.ranges.value in
    let end : c.loop-place.place ≡ 80 = omega arith in
    rw end at (simp to_z-of_z at c.loop-place.invariant)
