-- All frames are found where each stands apart and every other bit is one.
use Rattle.std.proofs.Common.{◌≡◌, ℕ, ◌+◌, ◌*◌, ◌≤◌, ◌<◌, true, false, nat_le, List, [], ◌∷◌, length, take, get_or, sym, ap, ◌∙◌, ◌⊎◌, inl, inr, arith}
use Rattle.std.proofs.Common.{length-take}
use Rattle.std.proofs.lemmas.Bool.{cases_lt, le-leb, lt-leb, leb-true, and_parts, and_from, false_from_ne_true}
use Rattle.std.proofs.lemmas.List.{get_or-take}
use Rattle.trau_frame.specs.Match.{bit_in, frame_at}
use Rattle.trau_frame.proofs.Matches.{match_zeros, match_from, get_or-frame_at}
use Rattle.ccu_end.specs.Read.{down_frame_in}
use Rattle.ccu_end.specs.Found.{FoundFrame, is_found_at, FoundFrom, all_within}
use Rattle.ccu_end.proofs.Reading.{IsFrame, read-alike}

-- the line has the first 316 bits of a frame that says so there
pub record IsAt (line : List ℕ) (f : FoundFrame) : Type 0 where
  pub bits : List ℕ
  pub whole : IsFrame bits
  pub room : f.place + 316 ≤ length line
  pub same : (i : ℕ) → i < 316 → get_or line (f.place + i) 0 ≡ get_or bits i 0
  pub says : f.frame ≡ down_frame_in bits

abbrev pub AreAt : List ℕ → List FoundFrame → Type 0
AreAt line [] = Unit {0}
AreAt line (f ∷ fs) = IsAt line f × AreAt line fs

-- each stands 316 bits after the one before, and all end before `high`
abbrev pub AreApart : ℕ → List FoundFrame → ℕ → Type 0
AreApart low [] high = low ≤ high
AreApart low (f ∷ fs) high = (low ≤ f.place) × AreApart (f.place + 316) fs high

-- one of the first 316 bits of one of them
abbrev pub IsInside : List FoundFrame → ℕ → Type 0
IsInside [] q = ⊥
IsInside (f ∷ fs) q = ((f.place ≤ q) × (q < f.place + 316)) ⊎ IsInside fs q

-- ---- what is found in the first n bits of a line

pub record Zero (line : List ℕ) (n q : ℕ) : Type 0 where
  pub within : q + 316 ≤ n
  pub there : q + 316 ≤ length line
  pub zero_bit : get_or line q 0 ≡ 0

-- a found frame has its zeros
found-zero : (line : List ℕ) (n q : ℕ) → is_found_at (take n line) q ≡ true → Zero line n q
found-zero line n q t =
    let parts = and_parts _ _ t in
    let low : q + 316 ≤ length (take n line) = leb-true _ _ parts.0 in
    let long = length-take n line in
    let here : q + 0 ≡ q = omega arith in
    let zero = match_zeros (bit_in (take n line)) q parts.1 0 (omega arith) in
    record {
      within = omega arith;
      there = omega arith;
      zero_bit = sym (get_or-take n line q 0 (omega arith)) ∙ ap (λ k. get_or (take n line) k 0) (sym here) ∙ zero;
    }

-- a bit of one of them
bit-at : (line : List ℕ) (f : FoundFrame) (n i : ℕ) (a : IsAt line f) → f.place + 316 ≤ n → i < 316 → get_or (take n line) (f.place + i) 0 ≡ get_or a.bits i 0
bit-at line f n i a h l = get_or-take n line (f.place + i) 0 (omega arith) ∙ a.same i l

-- a frame that stands on the line is found, and read
at-found : (line : List ℕ) (f : FoundFrame) (n : ℕ) → IsAt line f → f.place + 316 ≤ n → is_found_at (take n line) f.place ≡ true
at-found line f n a h =
    let room = a.room in
    let long = length-take n line in
    let enough : f.place + 316 ≤ length (take n line) = omega arith in
    and_from _ _ (le-leb _ _ enough)
    (match_from (bit_in (take n line)) f.place
    (λ i l. bit-at line f n i a h (omega arith) ∙ a.whole.zeros i l)
    (λ row b l. bit-at line f n (16 * row) a h (omega arith) ∙ a.whole.ones row b l))

at-read : (line : List ℕ) (f : FoundFrame) (n : ℕ) → IsAt line f → f.place + 316 ≤ n → f.frame ≡ down_frame_in (frame_at (bit_in (take n line)) f.place)
at-read line f n a h =
    a.says ∙ sym (read-alike (frame_at (bit_in (take n line)) f.place) a.bits
    (λ i l. get_or-frame_at (bit_in (take n line)) f.place i 0 (omega arith) ∙ bit-at line f n i a h l))

-- those that stand apart from `low` on lie there
inside-from : (low high q : ℕ) (fs : List FoundFrame) → AreApart low fs high → IsInside fs q → low ≤ q
inside-from low high q [] a i = absurd i
inside-from low high q (f ∷ fs) a i = elim i [
  | inl here ↦ let l = a.0 in let h = here.0 in omega arith
  | inr later ↦ let l = a.0 in let r = inside-from (f.place + 316) high q fs a.1 later in omega arith
]

-- frames that lie apart from a place on do so from one before it
apart-from : (low less high : ℕ) (fs : List FoundFrame) → less ≤ low → AreApart low fs high → AreApart less fs high
apart-from low less high [] l a = omega arith
apart-from low less high (f ∷ fs) l a = let b = a.0 in (omega arith, a.1)

-- every zero of the first n bits from `low` on lies in one of them
abbrev pub Covered : List ℕ → ℕ → ℕ → List FoundFrame → Type 0
Covered line n low fs = (q : ℕ) → low ≤ q → Zero line n q → IsInside fs q

-- no frame before the first
not_before : (low high q : ℕ) (f : FoundFrame) (fs : List FoundFrame) → AreApart low (f ∷ fs) high → q < f.place → IsInside (f ∷ fs) q → ⊥
not_before low high q f fs a l i = elim i [
  | inl here ↦ let h = here.0 in absurd (omega arith)
  | inr later ↦ let r = inside-from (f.place + 316) high q fs a.1 later in absurd (omega arith)
]

-- what is covered behind the first frame, and before one that is cut off
covered-past : (line : List ℕ) (n low : ℕ) (f : FoundFrame) (fs : List FoundFrame) → low ≤ f.place → Covered line n low (f ∷ fs) →
    Covered line n (f.place + 316) fs
covered-past line n low f fs l c = λ q h z. elim (c q (omega arith) z) [
  | inl here ↦ let b = here.1 in absurd (omega arith)
  | inr later ↦ later
]

covered-short : (line : List ℕ) (n low : ℕ) (f : FoundFrame) (fs : List FoundFrame) → n < f.place + 316 → Covered line n low (f ∷ fs) → Covered line n low fs
covered-short line n low f fs l c = λ q h z. elim (c q h z) [
  | inl here ↦ let b = here.0 in let w = z.within in absurd (omega arith)
  | inr later ↦ later
]

-- so just the frames of the line are found
pub all-found : (line : List ℕ) (n low high : ℕ) (fs : List FoundFrame) → AreApart low fs high → AreAt line fs → Covered line n low fs →
    FoundFrom (take n line) low (all_within n fs)
all-found line n low high [] a s c = λ q l. false_from_ne_true _ (λ t. c q l (found-zero line n q t))
all-found line n low high (f ∷ fs) a s c = elim (cases_lt n (f.place + 316)) [
  | inl short ↦
      let e : nat_le (f.place + 316) n ≡ false = lt-leb _ _ short in
      let l = a.0 in
      rw e (all-found line n low high fs (apart-from (f.place + 316) low high fs (omega arith) a.1) s.1 (covered-short line n low f fs short c))
  | inr fits ↦
      let e : nat_le (f.place + 316) n ≡ true = le-leb _ _ fits in
      rw e (
        a.0,
        (λ q l h. false_from_ne_true _ (λ t. not_before low high q f fs a h (c q l (found-zero line n q t)))),
        at-found line f n s.0 fits,
        at-read line f n s.0 fits,
        all-found line n (f.place + 316) high fs a.1 s.1 (covered-past line n low f fs a.0 c),
      )
]
