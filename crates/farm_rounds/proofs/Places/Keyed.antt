-- The calls of a farm by their numbers, where one has changed, or has gone.
use Rattle.std.proofs.Common.{◌≡◌, ◌≢◌, refl, sym, ◌∙◌, ℕ, zero, suc, ◌<◌, Bool, true, false, Option, Some, List, [], ◌∷◌, length, get_or, arith, inl, inr}
use Rattle.std.specs.Prelude.{◌==◌, if◌then◌else◌, slice_set}
use Rattle.std.proofs.lemmas.Bool.{eqb-true, eq-eqb, ne_eqb, cases_Bool, false≢true}
use Rattle.farm_rounds.specs.Calls.{Kept, kept_in}
use Rattle.farm_rounds.specs.Acts.{no_kept}

-- Two numbers are compared in either order.
pub eqb-sym : (m n : ℕ) → (m == n) ≡ (n == m)
eqb-sym m n = elim (cases_Bool (m == n)) [
  | inl t ↦ t ∙ sym (eq-eqb n m (sym (eqb-true m n t)))
  | inr f ↦ f ∙ sym (ne_eqb n m (λ q. false≢true (sym f ∙ eq-eqb m n (sym q))))
]

-- no earlier call has this number
abbrev pub IsFirst : List Kept → ℕ → ℕ → Type 0
IsFirst ks k c = (j : ℕ) → j < k → (get_or ks j no_kept).call.number ≢ c

-- the call with a number, by its place
pub kept_found : (ks : List Kept) (k c : ℕ) → k < length ks → (get_or ks k no_kept).call.number ≡ c → IsFirst ks k c →
    kept_in ks c ≡ Some (get_or ks k no_kept)
kept_found [] k c l e first = absurd (omega arith)
kept_found (x ∷ ks) zero c l e first = rw (eq-eqb x.call.number c e) refl
kept_found (x ∷ ks) (suc k) c l e first =
    rw (ne_eqb x.call.number c (first 0 (omega arith))) (kept_found ks k c (omega arith) e (λ j lj. first (suc j) (omega (arith, lj))))

-- another in its place
here : (y x : Kept) (c : ℕ) (rest : Option Kept) → x.call.number ≡ y.call.number →
    (if x.call.number == c then Some x else rest) ≡ (if c == x.call.number then Some x else (if y.call.number == c then Some y else rest))
here y x c rest e = elim (cases_Bool (x.call.number == c)) [
  | inl t ↦ rw (t, eq-eqb c x.call.number (sym (eqb-true x.call.number c t))) refl
  | inr f ↦ rw (f, ne_eqb c x.call.number (λ q. false_true f (eq-eqb x.call.number c (sym q))), sym e, f) refl
]
  where
    false_true : {b : Bool} → b ≡ false → b ≡ true → ⊥
    false_true p q = cc

pub kept_set : (ks : List Kept) (k : ℕ) (x : Kept) (c : ℕ) → k < length ks → x.call.number ≡ (get_or ks k no_kept).call.number →
    IsFirst ks k x.call.number → kept_in (slice_set ks k x) c ≡ (if c == x.call.number then Some x else kept_in ks c)
kept_set [] k x c l e first = absurd (omega arith)
kept_set (y ∷ ks) zero x c l e first = here y x c (kept_in ks c) e
kept_set (y ∷ ks) (suc k) x c l e first =
    let rest = kept_set ks k x c (omega arith) e (λ j lj. first (suc j) (omega (arith, lj))) in
    elim (cases_Bool (y.call.number == c)) [
      | inl t ↦ rw (t, ne_eqb c x.call.number (λ q. first 0 (omega arith) (eqb-true y.call.number c t ∙ q))) refl
      | inr f ↦ rw (f, rest) refl
    ]
