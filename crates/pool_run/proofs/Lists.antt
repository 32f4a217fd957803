-- Lists that grow at their end, and numbers below a bound.
use Rattle.std.proofs.Common.{◌≡◌, ◌≢◌, ℕ, zero, suc, ◌<◌, ◌≤◌, List, [], ◌∷◌, ◌++◌, length, Option, None, Some, IfNone, MatchOption, refl, ap, ◌∙◌, arith}
use Rattle.std.proofs.Common.{append_assoc}
use Rattle.pool_run.specs.Joins.{below}

-- a list that had `ys` put at its end takes one more
pub one_more : {X : Type 0} (base ys xs zs : List X) (x : X) → xs ≡ base ++ ys → zs ≡ xs ++ x ∷ [] → zs ≡ base ++ (ys ++ x ∷ [])
one_more base ys xs zs x old new = new ∙ ap (λ l. l ++ x ∷ []) old ∙ append_assoc base ys (x ∷ [])

-- an item of a list that has some
pub any_of : {X : Type 0} (xs : List X) (k : ℕ) → k < length xs → X
any_of [] k h = absurd (omega arith)
any_of (x ∷ xs) k h = x

-- what can't have ended hasn't
pub none_absurd : {X : Type 0} (r : Option X) (n : ℕ) (P Q : Type 0) (R : X → Type 0) → MatchOption r ((n ≡ 0) × Q) R → (n ≡ 0 → ⊥) → IfNone r P
none_absurd None n P Q R is ne = absurd (ne is.0)
none_absurd (Some x) n P Q R is ne = tt

-- 1 below a bound, else 0
pub below_at : (n : ℕ) → below n (suc n) ≡ 1
below_at zero = refl
below_at (suc n) = below_at n

pub below_self : (n : ℕ) → below n n ≡ 0
below_self zero = refl
below_self (suc n) = below_self n

pub below_other : (i n : ℕ) → i ≢ n → below i (suc n) ≡ below i n
below_other zero zero ne = absurd (ne refl)
below_other zero (suc n) ne = refl
below_other (suc i) zero ne = refl
below_other (suc i) (suc n) ne = below_other i n (λ e. ne (ap suc e))

pub below_lt : (k n : ℕ) → k < n → below k n ≡ 1
below_lt k zero h = absurd (omega arith)
below_lt zero (suc n) h = refl
below_lt (suc k) (suc n) h = below_lt k n (omega arith)

pub below-le : (i n : ℕ) → below i n ≤ 1
below-le i zero = omega arith
below-le zero (suc n) = omega arith
below-le (suc i) (suc n) = below-le i n
