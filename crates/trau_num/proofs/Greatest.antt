-- For crates above: the least number at which a function is greatest (`IsLeastGreatest`), and the first that passes a
-- test (`first_found`).
use Rattle.std.proofs.Common.{◌≡◌, ℕ, ℤ, zero, suc, ◌+◌, ◌<◌, ◌≤◌, ◌<ℤ◌, ◌≤ℤ◌, true, false, Bool, Some, None, arith, inl, inr, refl, ap, ◌∙◌}
use Rattle.std.specs.Prelude.{int_lt, int_le}
use Rattle.std.specs.List.{range_with_len, find, list_all}
use Rattle.std.proofs.lemmas.Int.{ints, by_lt_z}
use Rattle.std.proofs.lemmas.Bool.{cases_eq, cond-true, cond-false, and_from, and_left, and_right}

-- the tests of the code, by the orders
pub less : (a b : ℤ) → a <ℤ b → int_lt a b ≡ true
less a b l = grind (arith, ints)

pub not_less : (a b : ℤ) → b ≤ℤ a → int_lt a b ≡ false
not_less a b l = grind (arith, ints)

at_most : (a b : ℤ) → a ≤ℤ b → int_le a b ≡ true
at_most a b l = grind (arith, ints)

above : (a b : ℤ) → b <ℤ a → int_le a b ≡ false
above a b l = grind (arith, ints)

-- m is the least of the n numbers from a on at which f is greatest
pub record IsLeastGreatest (f : ℕ → ℤ) (a n m : ℕ) : Type 0 where
  pub at_least : a ≤ m
  pub below : m < a + n
  pub greatest : (k : ℕ) → a ≤ k → k < a + n → f k ≤ℤ f m
  pub least : (k : ℕ) → a ≤ k → k < m → f k <ℤ f m

-- facts of orders that the steps below take
same_at : (f : ℕ → ℤ) (k n : ℕ) → k ≡ n → f k ≤ℤ f n
same_at f k n e = rw e (omega (arith, ints))

below_next : (a b c : ℤ) → a ≤ℤ b → b <ℤ c → a <ℤ c
below_next a b c l m = omega (arith, ints)

weaker : (a b : ℤ) → a <ℤ b → a ≤ℤ b
weaker a b l = omega (arith, ints)

-- of one number
pub first_alone : (f : ℕ → ℤ) (a : ℕ) → IsLeastGreatest f a 1 a
first_alone f a = record {
  at_least = omega arith;
  below = omega arith;
  greatest = λ k l h. same_at f k a (omega arith);
  least = λ k l h. absurd (omega arith);
}

-- of one number more, at which f is greater
pub next_greater : (f : ℕ → ℤ) (a n m next : ℕ) → next ≡ a + n → IsLeastGreatest f a n m → f m <ℤ f next → IsLeastGreatest f a (n + 1) next
next_greater f a n m next e h l = record {
  at_least = omega arith;
  below = omega arith;
  greatest = λ k b c. elim (cases_eq k next) [
    | inl q ↦ same_at f k next q
    | inr q ↦ weaker (f k) (f next) (below_next (f k) (f m) (f next) (h.greatest k b (omega arith)) l)
  ];
  least = λ k b c. below_next (f k) (f m) (f next) (h.greatest k b (omega arith)) l;
}

-- and at which it isn't
pub next_not_greater : (f : ℕ → ℤ) (a n m next : ℕ) → next ≡ a + n → IsLeastGreatest f a n m → f next ≤ℤ f m → IsLeastGreatest f a (n + 1) m
next_not_greater f a n m next e h l =
    let low = h.at_least in
    let high = h.below in
    record {
      at_least = omega arith;
      below = omega arith;
      greatest = λ k b c. elim (cases_eq k next) [
        | inl q ↦ rw q l
        | inr q ↦ h.greatest k b (omega arith)
      ];
      least = h.least;
    }

-- some numbers have one
pub has_least_greatest : (f : ℕ → ℤ) (a n : ℕ) → (m : ℕ) × IsLeastGreatest f a (n + 1) m
has_least_greatest f a zero = (a, first_alone f a)
has_least_greatest f a (suc n) =
    let before = has_least_greatest f a n in
    let m = before.0 in
    let e : n + 1 ≡ suc n = omega arith in
    let h : IsLeastGreatest f a (suc n) m = rw e at before.1 in
    by_lt_z (f m) (f (a + suc n))
    (λ l. (a + suc n, next_greater f a (suc n) m (a + suc n) refl h l))
    (λ l. (m, next_not_greater f a (suc n) m (a + suc n) refl h l))

-- the first of n numbers from a on that passes
pub first_found : (p : ℕ → Bool) (a n m : ℕ) → a ≤ m → m < a + n → p m ≡ true → ((k : ℕ) → a ≤ k → k < m → p k ≡ false) →
    find p (range_with_len a n) ≡ Some m
first_found p a zero m l h t before = absurd (omega arith)
first_found p a (suc n) m l h t before =
    elim (cases_eq m a) [
      | inl q ↦ let here : p a ≡ true = rw (← q) t in cond-true (p a) _ _ here ∙ ap Some (rw q refl)
      | inr q ↦
          let here : p a ≡ false = before a (omega arith) (omega arith) in
          cond-false (p a) _ _ here ∙ first_found p (a + 1) n m (omega arith) (omega arith) t (λ k b c. before k (omega arith) c)
    ]

-- none of them passes
pub none_found : (p : ℕ → Bool) (a n : ℕ) → ((k : ℕ) → a ≤ k → k < a + n → p k ≡ false) → find p (range_with_len a n) ≡ None
none_found p a zero none = refl
none_found p a (suc n) none =
    cond-false (p a) _ _ (none a (omega arith) (omega arith)) ∙ none_found p (a + 1) n (λ k b c. none k (omega arith) (omega arith))

-- tests of all of n numbers from a on
all_pass : (p : ℕ → Bool) (a n : ℕ) → ((k : ℕ) → a ≤ k → k < a + n → p k ≡ true) → list_all p (range_with_len a n) ≡ true
all_pass p a zero each = refl
all_pass p a (suc n) each =
    and_from (p a) _ (each a (omega arith) (omega arith)) (all_pass p (a + 1) n (λ k b c. each k (omega arith) (omega arith)))

one_fails : (p : ℕ → Bool) (a n k : ℕ) → a ≤ k → k < a + n → p k ≡ false → list_all p (range_with_len a n) ≡ false
one_fails p a zero k l h f = absurd (omega arith)
one_fails p a (suc n) k l h f =
    elim (cases_eq k a) [
      | inl q ↦ and_left (p a) _ (rw (← q) f)
      | inr q ↦ and_right (p a) _ (one_fails p (a + 1) n k (omega arith) (omega arith) f)
    ]

-- f is above its value at the least number at which it is greatest at none of the numbers, and above that at any before
-- it at one of them
pub none_above : (f : ℕ → ℤ) (a n m : ℕ) → IsLeastGreatest f a n m → list_all (λ k. int_le (f k) (f m)) (range_with_len a n) ≡ true
none_above f a n m h = all_pass _ a n (λ k b c. at_most (f k) (f m) (h.greatest k b c))

pub some_above : (f : ℕ → ℤ) (a n m k : ℕ) → IsLeastGreatest f a n m → a ≤ k → k < m → list_all (λ j. int_le (f j) (f k)) (range_with_len a n) ≡ false
some_above f a n m k h b c = one_fails _ a n m h.at_least h.below (above (f m) (f k) (h.least k b c))
