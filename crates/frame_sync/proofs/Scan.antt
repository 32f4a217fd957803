-- Zeros are counted bit by bit, and behind sixteen of them a match is looked for.
use Rattle.std.proofs.Common.{◌≡◌, ℕ, ◌+◌, ◌-◌, ◌*◌, ◌<◌, ◌≤◌, Bool, true, false, if◌then◌else◌, ◌==◌, List, get_or, refl, subst, arith, inl, inr}
use Rattle.std.proofs.lemmas.Bool.{cases_lt, cases_eq, eq-eqb, ne_eqb}
use Rattle.trau_frame.specs.Match.{bit_in, is_match}
use Rattle.frame_sync.specs.Yields.{NoMatch}
use Rattle.trau_frame.proofs.Matches.{match_zeros, match_ones, match_from}

-- `run_length` bits before place `end` are zeros, and no more of those from `first` on
pub record Counted (w : List ℕ) (first end run_length : ℕ) : Type 0 where
  pub within : first + run_length ≤ end
  pub run : (k : ℕ) → end ≤ k + run_length → k < end → get_or w k 0 ≡ 0
  pub longest : (o : ℕ) → first ≤ o → o ≤ end → ((k : ℕ) → o ≤ k → k < end → get_or w k 0 ≡ 0) → end ≤ o + run_length

-- no match has its sixteen zeros before place `end`
pub record Unmatched (w : List ℕ) (first end : ℕ) : Type 0 where
  pub none : (o : ℕ) → first ≤ o → o + 16 ≤ end → is_match (bit_in w) o ≡ false

-- no zero is counted yet
pub counted_none : (w : List ℕ) (first : ℕ) → Counted w first first 0
counted_none w first = record {
  within = omega arith;
  run = λ k l h. absurd (omega arith);
  longest = λ o l h z. omega arith;
}

counted_zero : (w : List ℕ) (first end run_length : ℕ) → Counted w first end run_length → get_or w end 0 ≡ 0 → Counted w first (end + 1) (run_length + 1)
counted_zero w first end run_length c e =
    let within = c.within in
    record {
      within = omega arith;
      run = λ k l h. elim (cases_lt k end) [
        | inl before ↦ c.run k (omega arith) before
        | inr here ↦ let same : end ≡ k = omega arith in subst (λ j. get_or w j 0 ≡ 0) same e
      ];
      longest = λ o l h z. elim (cases_lt end o) [
        | inl after ↦ omega arith
        | inr before ↦ let old : end ≤ o + run_length = c.longest o l before (λ k m n. z k m (omega arith)) in omega arith
      ];
    }

counted_one : (w : List ℕ) (first end run_length : ℕ) → Counted w first end run_length → (get_or w end 0 ≡ 0 → ⊥) → Counted w first (end + 1) 0
counted_one w first end run_length c ne =
    let within = c.within in
    record {
      within = omega arith;
      run = λ k l h. absurd (omega arith);
      longest = λ o l h z. elim (cases_lt end o) [
        | inl after ↦ omega arith
        | inr before ↦ absurd (ne (z end before (omega arith)))
      ];
    }

pub counted_next : (w : List ℕ) (first end run_length next : ℕ) → Counted w first end run_length → next ≡ (if get_or w end 0 == 0 then run_length + 1 else 0) →
    Counted w first (end + 1) next
counted_next w first end run_length next c e =
    elim (cases_eq (get_or w end 0) 0) [
      | inl zero_bit ↦
          let z : next ≡ run_length + 1 = rw (eq-eqb (get_or w end 0) 0 zero_bit) at e in
          rw z (counted_zero w first end run_length c zero_bit)
      | inr other ↦
          let z : next ≡ 0 = rw (ne_eqb (get_or w end 0) 0 other) at e in
          rw z (counted_one w first end run_length c other)
    ]

-- what is not true is false
is_false : (b : Bool) → (b ≡ true → ⊥) → b ≡ false
is_false true h = absurd (h refl)
is_false false h = refl

-- no place is looked at yet
pub unmatched_none : (w : List ℕ) (first : ℕ) → Unmatched w first first
unmatched_none w first = record { none = λ o l h. absurd (omega arith) }

unmatched_next : (w : List ℕ) (first end : ℕ) → Unmatched w first end → ((o : ℕ) → first ≤ o → o + 16 ≡ end + 1 → is_match (bit_in w) o ≡ true → ⊥) →
    Unmatched w first (end + 1)
unmatched_next w first end u not_here = record {
  none = λ o l h. elim (cases_lt (o + 15) end) [
    | inl before ↦ u.none o l (omega arith)
    | inr here ↦ is_false (is_match (bit_in w) o) (not_here o l (omega arith))
  ];
}

-- too few zeros
pub unmatched_few : (w : List ℕ) (first end run_length : ℕ) → Counted w first (end + 1) run_length → run_length < 16 → Unmatched w first end →
    Unmatched w first (end + 1)
unmatched_few w first end run_length c few u = unmatched_next w first end u (λ o l e m.
    let long : end + 1 ≤ o + run_length = c.longest o l (omega arith) (λ k a b.
    let i : o + (k - o) ≡ k = omega arith in
    subst (λ j. get_or w j 0 ≡ 0) i (match_zeros (bit_in w) o m (k - o) (omega arith))) in
    absurd (omega arith))

-- a one is missing
pub unmatched_ones : (w : List ℕ) (first end : ℕ) → 15 ≤ end → (((row : ℕ) → 1 ≤ row → row < 20 → get_or w (end - 15 + 16 * row) 0 ≡ 1) → ⊥) →
    Unmatched w first end → Unmatched w first (end + 1)
unmatched_ones w first end far missing u = unmatched_next w first end u (λ o l e m.
    let place : o ≡ end - 15 = omega arith in
    missing (λ row a b. subst (λ p. get_or w (p + 16 * row) 0 ≡ 1) place (match_ones (bit_in w) o m row a b)))

-- a match
pub matched : (w : List ℕ) (first end run_length : ℕ) → Counted w first (end + 1) run_length → 16 ≤ run_length →
    ((row : ℕ) → 1 ≤ row → row < 20 → get_or w (end - 15 + 16 * row) 0 ≡ 1) → is_match (bit_in w) (end - 15) ≡ true
matched w first end run_length c many ones =
    let within = c.within in
    match_from (bit_in w) (end - 15) (λ i h. c.run (end - 15 + i) (omega arith) (omega arith)) ones

pub none_before : (w : List ℕ) (first end high : ℕ) → Unmatched w first end → high ≤ end - 15 → NoMatch (bit_in w) first high
none_before w first end high u l = λ o a b. u.none o a (omega arith)
