-- The calls of a farm by their numbers, where one has come or has gone.
use Rattle.std.proofs.Common.{◌≡◌, ◌≢◌, refl, sym, ap, ◌∙◌, ℕ, zero, suc, ◌<◌, ◌≤◌, Some, None, List, [], ◌∷◌, length, map, take, drop, get_or, arith, inl, inr}
use Rattle.std.specs.Prelude.{◌==◌, if◌then◌else◌}
use Rattle.std.specs.List.{All, insert, remove}
use Rattle.std.proofs.lemmas.Bool.{eqb-true, ne_eqb, cases_Bool}
use Rattle.std.proofs.lemmas.List.Elements.{All-append, All-cons, All-take, All-drop}
use Rattle.farm_rounds.specs.Calls.{Kept, kept_in}
use Rattle.farm_rounds.specs.Acts.{no_kept}
use Rattle.farm_rounds.proofs.Places.Keyed.{IsFirst}

-- ---- in a list

pub insert_map : {A B : Type 0} (f : A → B) (xs : List A) (k : ℕ) (x : A) → map f (insert xs k x) ≡ insert (map f xs) k (f x)
insert_map f xs zero x = refl
insert_map f [] (suc k) x = refl
insert_map f (y ∷ xs) (suc k) x = ap (λ ys. f y ∷ ys) (insert_map f xs k x)

pub remove_map : {A B : Type 0} (f : A → B) (xs : List A) (k : ℕ) → map f (remove xs k) ≡ remove (map f xs) k
remove_map f [] zero = refl
remove_map f [] (suc k) = refl
remove_map f (y ∷ xs) zero = refl
remove_map f (y ∷ xs) (suc k) = ap (λ ys. f y ∷ ys) (remove_map f xs k)

pub insert_all : {A : Type 0} (P : A → Type 0) (xs : List A) (k : ℕ) (x : A) → All P xs → P x → All P (insert xs k x)
insert_all P xs k x all p = All-append P (take k xs) (x ∷ drop k xs) (All-take P k xs all) (All-cons P x (drop k xs) p (All-drop P k xs all))

pub remove_all : {A : Type 0} (P : A → Type 0) (xs : List A) (k : ℕ) → All P xs → All P (remove xs k)
remove_all P xs k all = All-append P (take k xs) (drop (suc k) xs) (All-take P k xs all) (All-drop P (suc k) xs all)

-- ---- by their numbers

-- no other call has the number of the one at this place
abbrev pub IsAlone : List Kept → ℕ → Type 0
IsAlone ks k = (j : ℕ) → j < length ks → j ≢ k → (get_or ks j no_kept).call.number ≢ (get_or ks k no_kept).call.number

pub kept_none : (ks : List Kept) (c : ℕ) → ((j : ℕ) → j < length ks → (get_or ks j no_kept).call.number ≢ c) → kept_in ks c ≡ None
kept_none [] c apart = refl
kept_none (x ∷ ks) c apart = rw (ne_eqb x.call.number c (apart 0 (omega arith))) (kept_none ks c (λ j l. apart (suc j) (omega (arith, l))))

-- one has come
pub kept_insert : (ks : List Kept) (k : ℕ) (x : Kept) (c : ℕ) → k ≤ length ks → IsFirst ks k x.call.number →
    kept_in (insert ks k x) c ≡ (if x.call.number == c then Some x else kept_in ks c)
kept_insert ks zero x c l first = refl
kept_insert [] (suc k) x c l first = absurd (omega arith)
kept_insert (y ∷ ks) (suc k) x c l first =
    let rest = kept_insert ks k x c (omega arith) (λ j lj. first (suc j) (omega (arith, lj))) in
    elim (cases_Bool (y.call.number == c)) [
      | inl t ↦ rw (t, ne_eqb x.call.number c (λ q. first 0 (omega arith) (eqb-true y.call.number c t ∙ sym q))) refl
      | inr f ↦ rw (f, rest) refl
    ]

-- one has gone
pub kept_remove : (ks : List Kept) (k c : ℕ) → k < length ks → IsAlone ks k →
    kept_in (remove ks k) c ≡ (if (get_or ks k no_kept).call.number == c then None else kept_in ks c)
kept_remove [] k c l alone = absurd (omega arith)
kept_remove (x ∷ ks) zero c l alone = elim (cases_Bool (x.call.number == c)) [
  | inl t ↦ rw t (kept_none ks c (λ j lj q. alone (suc j) (omega (arith, lj)) (λ e. absurd (omega (arith, e))) (q ∙ sym (eqb-true x.call.number c t))))
  | inr f ↦ rw f refl
]
kept_remove (x ∷ ks) (suc k) c l alone =
    let rest = kept_remove ks k c (omega arith) (λ j lj ne. alone (suc j) (omega (arith, lj)) (λ e. ne (omega (arith, e)))) in
    elim (cases_Bool (x.call.number == c)) [
      | inl t ↦
          let other = ne_eqb (get_or ks k no_kept).call.number c
          (λ q. alone 0 (omega arith) (λ e. absurd (omega (arith, e))) (eqb-true x.call.number c t ∙ sym q)) in
          rw (t, other) refl
      | inr f ↦ rw (f, rest) refl
    ]
