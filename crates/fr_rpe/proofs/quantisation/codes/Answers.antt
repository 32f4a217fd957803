use Rattle.std.proofs.Common.{ℕ, ◌+◌, ◌<◌, pos, List, length, get_or, set, refl, inl, inr, arith, rules, FitsSigned, w16}
use Rattle.std.proofs.lemmas.Bool.{cases_eq}
use Rattle.std.proofs.lemmas.Int.{to_z-of_z}
use Rattle.std.proofs.lemmas.List.{get_or-set_same, get_or-set_other}
use Rattle.std.proofs.lemmas.List.Elements.{All-from_get_or}
use Rattle.trau_num.proofs.Fill.{fill_none, fill_next, fill_all}
use Rattle.fr_rpe.specs.Quantisation.{pulse_codes_of}
use Rattle.fr_rpe.proofs.quantisation.codes.Goals as goal

pub returns-clause-value : goal.returns-clause-value
unfolding pulse_codes_of
returns-clause-value c = fill_all 0 _ c.loop-i.xmc 13 c.loop-i.i (omega arith) c.loop-i.invariant.filled

pub returns-clause-below_8 : goal.returns-clause-below_8
returns-clause-below_8 c =
    let count = c.loop-i.invariant.filled.count in
    All-from_get_or (λ (code : ℕ). code < 8) c.loop-i.xmc 0 (λ k l. c.loop-i.invariant.below_8 k (omega arith))

pub loop-i-init : goal.loop-i-init
loop-i-init c = record { filled = fill_none 0 _ _ 13 refl; below_8 = λ k l. absurd (omega arith) }

below_next : (xs : List ℕ) (i y : ℕ) → i < length xs → y < 8 → ((k : ℕ) → k < i → get_or xs k 0 < 8) → (k : ℕ) → k < i + 1 → get_or (set xs i y) k 0 < 8
below_next xs i y l b h k m = elim (cases_eq k i) [
  | inl e ↦ rw (e, get_or-set_same xs i y 0 l) b
  | inr n ↦ rw (get_or-set_other xs i k y 0 n) (h k (omega arith))
]

pub loop-i-preserved : goal.loop-i-preserved
loop-i-preserved c =
    let old = c.loop-i.invariant in
    let sample : FitsSigned w16 (get_or c.args.pulses.now c.loop-i.i (pos 0)) = search rules in
    let value = rw (to_z-of_z w16 _ sample, c.of_max-scale.ensures.value) at c.code.ensures.value in
    record {
      filled = fill_next 0 _ c.loop-i.xmc 13 c.loop-i.i c.code.result (omega arith) old.filled value;
      below_8 = below_next c.loop-i.xmc c.loop-i.i c.code.result (omega (arith, old.filled.count)) c.code.ensures.below_8 old.below_8;
    }
