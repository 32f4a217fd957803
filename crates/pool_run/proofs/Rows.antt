-- The passes of each worker.
use Rattle.std.proofs.Common.{◌≡◌, ◌≢◌, ℕ, zero, suc, ◌<◌, List, [], ◌∷◌, length, set, get_or, sym, refl, ap, ◌∙◌, subst, ⊎_elim, arith}
use Rattle.std.proofs.lemmas.Bool.{cases_eq}
use Rattle.pool_run.specs.declared.member.Member.{Member}
use Rattle.pool_run.specs.Pool.{passes_of}
use Rattle.pool_run.specs.Joins.{below}

module _ {W : Type 0} where
  -- 1 where the worker has a pass of deque i, else 0
  abbrev pub has_pass : ℕ → Member W → ℕ
  has_pass i m = below i (length m.passes.items)

  pub passes_at : (ms : List (Member W)) (j : ℕ) (d : Member W) → j < length ms → passes_of ms j ≡ (get_or ms j d).passes.items
  passes_at [] j d h = absurd (omega arith)
  passes_at (m ∷ ms) zero d h = refl
  passes_at (m ∷ ms) (suc j) d h = passes_at ms j d (omega arith)

  pub passes_set_same : (ms : List (Member W)) (j : ℕ) (m : Member W) → j < length ms → passes_of (set ms j m) j ≡ m.passes.items
  passes_set_same [] j m h = absurd (omega arith)
  passes_set_same (x ∷ ms) zero m h = refl
  passes_set_same (x ∷ ms) (suc j) m h = passes_set_same ms j m (omega arith)

  pub passes_set_other : (ms : List (Member W)) (i j : ℕ) (m : Member W) → i ≢ j → passes_of (set ms j m) i ≡ passes_of ms i
  passes_set_other [] i zero m ne = refl
  passes_set_other [] i (suc j) m ne = refl
  passes_set_other (x ∷ ms) zero zero m ne = absurd (ne refl)
  passes_set_other (x ∷ ms) zero (suc j) m ne = refl
  passes_set_other (x ∷ ms) (suc i) zero m ne = refl
  passes_set_other (x ∷ ms) (suc i) (suc j) m ne = passes_set_other ms i j m (λ e. ne (ap suc e))

  pub passes_set_kept : (ms : List (Member W)) (k : ℕ) (m : Member W) → k < length ms → m.passes.items ≡ passes_of ms k → (i : ℕ) →
      passes_of (set ms k m) i ≡ passes_of ms i
  passes_set_kept ms k m there is i =
      ⊎_elim (λ (e : i ≡ k). subst (λ (j : ℕ). passes_of (set ms k m) j ≡ passes_of ms j) (sym e) (passes_set_same ms k m there ∙ is))
      (λ (ne : i ≢ k). passes_set_other ms i k m ne) (cases_eq i k)
