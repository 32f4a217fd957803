-- Lists of numbers that rise.
use Rattle.std.proofs.Common.{◌≡◌, ◌≢◌, refl, sym, ap, ◌∙◌, ℕ, zero, suc, ◌+◌, ◌<◌, ◌≤◌, Bool, true, false, ◌||◌, List, [], ◌∷◌, cond, inl, inr, arith}
use Rattle.std.specs.Prelude.{◌==◌, filter}
use Rattle.std.specs.List.{list_any, range_with_len}
use Rattle.std.proofs.lemmas.Bool.{cases_lt, cases_eq, eq-eqb, ne_eqb}
use Rattle.farm_run.proofs.Listed.Tests.{no}

-- each is above the one before, and the first is at least m
abbrev pub Rises : ℕ → List ℕ → Type 0
Rises m [] = Unit {0}
Rises m (x ∷ xs) = (m ≤ x) × Rises (suc x) xs

-- whether a number is among some
abbrev pub has : ℕ → List ℕ → Bool
has c xs = list_any (λ x. c == x) xs

-- one below those that rise isn't
has_not : (m c : ℕ) (xs : List ℕ) → Rises m xs → c < m → has c xs ≡ false
has_not m c [] h l = refl
has_not m c (x ∷ xs) h l =
    let k = h.0 in
    ap (λ (b : Bool). b || has c xs) (ne_eqb c x (λ e. absurd (omega arith))) ∙ has_not (suc x) c xs h.1 (omega arith)

-- **Two lists that rise and have the same members are one.**
pub rising_same : (m k : ℕ) (xs ys : List ℕ) → Rises m xs → Rises k ys → ((c : ℕ) → has c xs ≡ has c ys) → xs ≡ ys
rising_same m k [] [] h i e = refl
rising_same m k [] (y ∷ ys) h i e = absurd (no (has y []) refl (e y ∙ ap (λ (b : Bool). b || has y ys) (eq-eqb y y refl)))
rising_same m k (x ∷ xs) [] h i e = absurd (no (has x []) refl (sym (e x) ∙ ap (λ (b : Bool). b || has x xs) (eq-eqb x x refl)))
rising_same m k (x ∷ xs) (y ∷ ys) h i e = ap (λ (z : ℕ). z ∷ xs) first ∙ ap (λ (zs : List ℕ). y ∷ zs) (rising_same (suc x) (suc y) xs ys h.1 i.1 rest)
  where
    first : x ≡ y
    first = elim (cases_lt x y) [
      | inl l ↦ absurd (no (has x (y ∷ ys)) (has_not y x (y ∷ ys) (omega arith, i.1) l) (sym (e x) ∙ ap (λ (b : Bool). b || has x xs) (eq-eqb x x refl)))
      | inr l ↦ elim (cases_lt y x) [
        | inl g ↦ absurd (no (has y (x ∷ xs)) (has_not x y (x ∷ xs) (omega arith, h.1) g) (e y ∙ ap (λ (b : Bool). b || has y ys) (eq-eqb y y refl)))
        | inr g ↦ omega arith
      ]
    ]

    rest : (c : ℕ) → has c xs ≡ has c ys
    rest c = elim (cases_eq c x) [
      | inl q ↦ has_not (suc x) c xs h.1 (omega arith) ∙ sym (has_not (suc y) c ys i.1 (omega (arith, first)))
      | inr q ↦
          sym (ap (λ (b : Bool). b || has c xs) (ne_eqb c x q)) ∙ e c ∙ ap (λ (b : Bool). b || has c ys) (ne_eqb c y (λ f. q (f ∙ sym first)))
    ]

-- ---- the numbers of a range that pass a test

-- numbers that rise from one rise from any lower one
rises_from : (m k : ℕ) (xs : List ℕ) → m ≤ k → Rises k xs → Rises m xs
rises_from m k [] l h = tt
rises_from m k (x ∷ xs) l h = (let i = h.0 in omega arith, h.1)

-- the numbers of a range that pass a test rise
pub range_rises : (p : ℕ → Bool) (a n : ℕ) → Rises a (filter p (range_with_len a n))
range_rises p a zero = tt
range_rises p a (suc n) = by (p a) (range_rises p (a + 1) n)
  where
    by : (b : Bool) → Rises (a + 1) (filter p (range_with_len (a + 1) n)) →
        Rises a (cond b (a ∷ filter p (range_with_len (a + 1) n)) (filter p (range_with_len (a + 1) n)))
    by true h = (omega arith, rises_from (suc a) (a + 1) _ (omega arith) h)
    by false h = rises_from a (a + 1) _ (omega arith) h

-- the filtered numbers of a range are those that pass the test, if these lie in the range
pub range_has : (p : ℕ → Bool) (a n c : ℕ) → (p c ≡ true → (a ≤ c) × (c < a + n)) → has c (filter p (range_with_len a n)) ≡ p c
range_has p a zero c h = by (p c) refl
  where
    by : (b : Bool) → p c ≡ b → false ≡ p c
    by true q = let k = h q in let low = k.0 in let high = k.1 in absurd (omega arith)
    by false q = sym q
range_has p a (suc n) c h = elim (cases_eq c a) [
  | inl q ↦ here q (p a) refl
  | inr q ↦ skip (p a) q ∙ range_has p (a + 1) n c (λ t. let k = h t in let low = k.0 in let high = k.1 in (above c a low q, omega arith))
]
  where
    above : (c a : ℕ) → a ≤ c → c ≢ a → a + 1 ≤ c
    above c a l n = omega arith

    here : c ≡ a → (b : Bool) → p a ≡ b →
        has c (cond (p a) (a ∷ filter p (range_with_len (a + 1) n))
        (filter p (range_with_len (a + 1) n))) ≡ p c
    here q true e =
        ap (λ (b : Bool). has c (cond b (a ∷ filter p (range_with_len (a + 1) n)) (filter p (range_with_len (a + 1) n)))) e
        ∙ ap (λ (b : Bool). b || has c (filter p (range_with_len (a + 1) n))) (eq-eqb c a q) ∙ sym (ap p q ∙ e)
    here q false e =
        ap (λ (b : Bool). has c (cond b (a ∷ filter p (range_with_len (a + 1) n)) (filter p (range_with_len (a + 1) n)))) e
        ∙ has_not (a + 1) c (filter p (range_with_len (a + 1) n)) (range_rises p (a + 1) n) (omega arith) ∙ sym (ap p q ∙ e)

    skip : (b : Bool) → c ≢ a → has c (cond b (a ∷ filter p (range_with_len (a + 1) n)) (filter p (range_with_len (a + 1) n)))
        ≡ has c (filter p (range_with_len (a + 1) n))
    skip true q = ap (λ (b : Bool). b || has c (filter p (range_with_len (a + 1) n))) (ne_eqb c a q)
    skip false q = refl
