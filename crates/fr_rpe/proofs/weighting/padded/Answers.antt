use Rattle.std.proofs.Common.{◌≡◌, ℕ, ◌+◌, List, ℤ, pos, length, ◌∙◌, ◌≤◌, arith, rules, refl, inl, inr, ◌-◌}
use Rattle.std.specs.Prelude.{if◌then◌else◌, nat_lt}
use Rattle.std.proofs.lemmas.List.{get_or-replicate, length-replicate, get_or_past}
use Rattle.std.proofs.lemmas.List.FromFn.{fill_by_all}
use Rattle.std.proofs.lemmas.Bool.{cases_lt, lt-ltb}
use Rattle.std.proofs.lemmas.Grind.{common_steps}
use Rattle.fr_rpe.specs.Weighting.{sample_around, padded_block}
use Rattle.fr_rpe.proofs.weighting.padded.Goals as goal

none : (e : List ℤ) (p : ℕ) → pos 0 ≡ (if nat_lt p (5 + 0) then sample_around e p else pos 0)
none e p = grind (arith, common_steps)

-- past the block a list has its default, 0
full : (e : List ℤ) (p k : ℕ) → length e ≡ 40 → 40 ≤ k → (if nat_lt p (5 + k) then sample_around e p else pos 0) ≡ sample_around e p
full e p k l h =
    elim (cases_lt p (5 + k)) [
      | inl b ↦ rw (lt-ltb p (5 + k) b) refl
      | inr a ↦ grind (arith, common_steps, get_or_past e (p - 5) (pos 0) (omega arith))
    ]

pub loop-k-init : goal.loop-k-init
loop-k-init c = record { count = length-replicate 50 (pos 0); each = λ p l. get_or-replicate 50 p (pos 0) (pos 0) l ∙ none c.args.e.now p }

pub returns : goal.returns
unfolding padded_block
returns c =
    fill_by_all (sample_around c.args.e.now) c.loop-k.padded 50 (pos 0) c.loop-k.invariant.count
    (λ p l. c.loop-k.invariant.each p l ∙ full c.args.e.now p c.loop-k.k (search rules) (omega arith))
