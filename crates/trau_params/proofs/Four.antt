-- For crates above: what holds of each of four items holds at each index of their list (`all_four`).
use Rattle.std.proofs.Common.{ℕ, zero, suc, ◌<◌, [], ◌∷◌, get_or, arith}

pub all_four : {X : Type 0} (P : X → Type 0) (a b c d : X) → P a → P b → P c → P d →
    (k : ℕ) (e : X) → k < 4 → P (get_or (a ∷ b ∷ c ∷ d ∷ []) k e)
all_four P a b c d p q r s zero e l = p
all_four P a b c d p q r s (suc zero) e l = q
all_four P a b c d p q r s (suc (suc zero)) e l = r
all_four P a b c d p q r s (suc (suc (suc zero))) e l = s
all_four P a b c d p q r s (suc (suc (suc (suc k)))) e l = absurd (omega arith)
