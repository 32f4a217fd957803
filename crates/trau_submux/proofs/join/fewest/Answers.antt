use Rattle.std.proofs.Common.{◌≡◌, ⊎_elim, ◌⊎◌, ℕ, min, ◌∙◌, arith}
use Rattle.trau_submux.proofs.join.fewest.Goals as goal

lesser : (a b : ℕ) → (min a b ≡ a) ⊎ (min a b ≡ b)
lesser a b = grind arith

pub returns-clause-one : goal.returns-clause-one
returns-clause-one c =
    ⊎_elim
    (λ e. ⊎_elim (λ f. (0, omega arith, c.min-3.ensures ∙ e ∙ c.min.ensures ∙ f)) (λ f. (1, omega arith, c.min-3.ensures ∙ e ∙ c.min.ensures ∙ f)) (lesser _ _))
    (λ e. ⊎_elim (λ f. (2, omega arith, c.min-3.ensures ∙ e ∙ c.min-2.ensures ∙ f)) (λ f. (3, omega arith, c.min-3.ensures ∙ e ∙ c.min-2.ensures ∙ f))
    (lesser _ _))
    (lesser c.min.result c.min-2.result)
