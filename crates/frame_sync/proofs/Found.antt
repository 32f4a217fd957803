-- The first match among places.
use Rattle.std.proofs.Common.{◌≡◌, ℕ, zero, suc, ◌+◌, ◌<◌, ◌≤◌, true, false, Option, Some, None, refl, sym, ap, subst, arith, inl, inr}
use Rattle.std.specs.Option.{MatchOption}
use Rattle.std.proofs.lemmas.Bool.{cases_lt, cases_Bool}
use Rattle.trau_frame.specs.Match.{is_match}
use Rattle.frame_sync.specs.Yields.{NoMatch}
use Rattle.frame_sync.specs.Periods.{first_match}

-- p is the first match of the places
pub record FoundAt (line : ℕ → ℕ) (first count p : ℕ) : Type 0 where
  pub from : first ≤ p
  pub below : p < first + count
  pub before : NoMatch line first p
  pub matches : is_match line p ≡ true

-- a place more that does not match
no_match_more : (line : ℕ → ℕ) (first high : ℕ) → is_match line first ≡ false → NoMatch line (first + 1) high → NoMatch line first high
no_match_more line first high e h = λ q a b. elim (cases_lt first q) [
  | inl later ↦ h q (omega arith) b
  | inr here ↦ let same : first ≡ q = omega arith in subst (λ k. is_match line k ≡ false) same e
]

-- where the first place does not match, the search says what it says of the rest
later : (line : ℕ → ℕ) (first count : ℕ) (o : Option ℕ) → is_match line first ≡ false →
    MatchOption o (NoMatch line (first + 1) (first + 1 + count)) (FoundAt line (first + 1) count) →
    MatchOption o (NoMatch line first (first + suc count)) (FoundAt line first (suc count))
later line first count None e h =
    let same : first + 1 + count ≡ first + suc count = omega arith in
    subst (NoMatch line first) same (no_match_more line first (first + 1 + count) e h)
later line first count (Some p) e h =
    let from = h.from in
    let below = h.below in
    record {
      from = omega arith;
      below = omega arith;
      before = no_match_more line first p e h.before;
      matches = h.matches;
    }

pub first_match-says : (line : ℕ → ℕ) (first count : ℕ) →
    MatchOption (first_match line first count) (NoMatch line first (first + count)) (FoundAt line first count)
unfolding first_match
first_match-says line first zero = λ q a b. absurd (omega arith)
first_match-says line first (suc count) = elim (cases_Bool (is_match line first)) [
  | inl e ↦ rw e (record { from = omega arith; below = omega arith; before = λ q a b. absurd (omega arith); matches = e })
  | inr e ↦ rw e (later line first count (first_match line (first + 1) count) e (first_match-says line (first + 1) count))
]

pub first_match-found : (line : ℕ → ℕ) (first count p : ℕ) → FoundAt line first count p → first_match line first count ≡ Some p
unfolding first_match
first_match-found line first zero p f = let a = f.from in let b = f.below in absurd (omega arith)
first_match-found line first (suc count) p f =
    let a = f.from in
    let b = f.below in
    elim (cases_lt first p) [
      | inl after ↦
          let e : is_match line first ≡ false = f.before first (omega arith) after in
          rw e (first_match-found line (first + 1) count p (record {
            from = omega arith;
            below = omega arith;
            before = λ q l h. f.before q (omega arith) h;
            matches = f.matches;
          }))
      | inr here ↦
          let same : first ≡ p = omega arith in
          let e : is_match line first ≡ true = subst (λ k. is_match line k ≡ true) (sym same) f.matches in
          rw e (ap Some same)
    ]

pub first_match-none : (line : ℕ → ℕ) (first count : ℕ) → NoMatch line first (first + count) → first_match line first count ≡ None
unfolding first_match
first_match-none line first zero h = refl
first_match-none line first (suc count) h =
    let e : is_match line first ≡ false = h first (omega arith) (omega arith) in
    rw e (first_match-none line (first + 1) count (λ q a b. h q (omega arith) (omega arith)))

pub first_match-same : (f g : ℕ → ℕ) (first count : ℕ) → ((p : ℕ) → first ≤ p → p < first + count → is_match f p ≡ is_match g p) →
    first_match f first count ≡ first_match g first count
unfolding first_match
first_match-same f g first zero h = refl
first_match-same f g first (suc count) h =
    let here : is_match f first ≡ is_match g first = h first (omega arith) (omega arith) in
    let rest = first_match-same f g (first + 1) count (λ p a b. h p (omega arith) (omega arith)) in
    rw (here, rest) refl
