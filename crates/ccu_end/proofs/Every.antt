-- Every line of whole periods has frames found in each of them, and they are one list.
use Rattle.std.proofs.Common.{◌≡◌, ℕ, zero, suc, ◌+◌, ◌-◌, ◌*◌, ◌<◌, ◌≤◌, Bool, true, false, ◌⊎◌, inl, inr, List, [], ◌∷◌, ◌++◌, length, All, refl, sym, ap}
use Rattle.std.proofs.Common.{◌∙◌, subst, arith}
use Rattle.std.proofs.lemmas.Bool.{cases_lt, cases_Bool}
use Rattle.std.proofs.lemmas.List.Elements.{All-head, All-tail}
use Rattle.trau_bits.specs.Bits.{bits_of}
use Rattle.trau_frame.specs.Match.{bit_in, is_match, frame_at}
use Rattle.ccu_end.specs.Read.{down_frame_in}
use Rattle.ccu_end.specs.Found.{FoundFrame}
use Rattle.ccu_end.specs.Window.{index_of, NoneNext, IsNext, AreNext, low_after}
use Rattle.ccu_end.specs.Heard.{ArePeriods, line_bits, all_of, EndsIn, EachEnds, AreHeard, last_bits}
use Rattle.ccu_end.proofs.Once.{same_found}
use Rattle.ccu_end.proofs.Periods.{heard-next, heard-none}

-- ---- there is one

-- the least number that passes a test
record Least (p : ℕ → Bool) (first o : ℕ) : Type 0 where
  from : first ≤ o
  passes : p o ≡ true
  none : (q : ℕ) → first ≤ q → q < o → p q ≡ false

-- the least of so many places that passes, or none
least : (p : ℕ → Bool) (first count : ℕ) →
    ((o : ℕ) × Least p first o × (o < first + count)) ⊎ ((q : ℕ) → first ≤ q → q < first + count → p q ≡ false)
least p first zero = inr (λ q a b. absurd (omega arith))
least p first (suc count) = elim (cases_Bool (p first)) [
  | inl t ↦ inl (first, record { from = omega arith; passes = t; none = λ q a b. absurd (omega arith) }, omega arith)
  | inr f ↦ elim (least p (first + 1) count) [
    | inl found ↦
        let from = found.1.from in
        let below = found.2 in
        inl (
          found.0,
          record {
            from = omega arith;
            passes = found.1.passes;
            none = λ q a b. elim (cases_lt first q) [
              | inl later ↦ found.1.none q (omega arith) b
              | inr here ↦ let e : first ≡ q = omega arith in subst (λ k. p k ≡ false) e f
            ];
          },
          omega arith,
        )
    | inr none ↦ inr (λ q a b. elim (cases_lt first q) [
      | inl later ↦ none q (omega arith) (omega arith)
      | inr here ↦ let e : first ≡ q = omega arith in subst (λ k. p k ≡ false) e f
    ])
  ]
]

-- the next frame of a window, or none
next-some : (w : List ℕ) (base low : ℕ) → ((f : FoundFrame) × IsNext w base low f) ⊎ NoneNext w base low (base + 5)
next-some w base low =
    let first = low + (base - 315 - low) in
    elim (least (λ q. is_match (bit_in w) (index_of base q)) first (base + 5 - first)) [
      | inl found ↦
          let from = found.1.from in
          let below = found.2 in
          let f : FoundFrame = record { place = found.0; frame = down_frame_in (frame_at (bit_in w) (index_of base found.0)) } in
          inl (
            f,
            record {
              from = omega arith;
              ends = omega arith;
              within = omega arith;
              first = λ q a b c. found.1.none q (omega arith) c;
              match = found.1.passes;
              says = refl;
            },
          )
      | inr none ↦ inr (λ q a b c. none q (omega arith) (omega arith))
    ]

-- all frames of a window
all-next : (w : List ℕ) (base low : ℕ) → (fs : List FoundFrame) × AreNext w base low fs
all-next w base low = elim (next-some w base low) [
  | inr none ↦ ([], none)
  | inl one ↦ elim (next-some w base (one.0.place + 316)) [
    | inr none ↦ (one.0 ∷ [], (one.1, none))
    | inl two ↦
        let ends = one.1.ends in
        let from = two.1.from in
        (one.0 ∷ two.0 ∷ [], (one.1, (two.1, λ q a b c. absurd (omega arith))))
  ]
]

-- so each line of whole periods has a list of found frames
pub some-heard : (past : List (List ℕ)) → ArePeriods past → (heard : List (List FoundFrame)) × AreHeard past heard
some-heard [] h = ([], heard-none)
some-heard (octets ∷ past) h =
    let before = some-heard past (All-tail (λ o. length o ≡ 40) octets past h) in
    let fs = all-next (last_bits past ++ bits_of octets) (320 * length past) (low_after 0 (all_of before.0)) in (
      fs.0 ∷ before.0,
      heard-next past octets before.0 fs.0 (All-tail (λ o. length o ≡ 40) octets past h)
          (All-head (λ o. length o ≡ 40) octets past h) before.1 fs.1,
    )

-- ---- and no other

-- all frames end before bit n, or from there on
Below : ℕ → List FoundFrame → Type 0
Below n [] = Unit {0}
Below n (f ∷ fs) = (f.place + 315 < n) × Below n fs

From : ℕ → List FoundFrame → Type 0
From n [] = Unit {0}
From n (f ∷ fs) = (n ≤ f.place + 315) × From n fs

-- those of two lists
below-more : (n m : ℕ) (fs gs : List FoundFrame) → n ≤ m → Below n fs → Below m gs → Below m (fs ++ gs)
unfolding Below
below-more n m [] gs l a b = b
below-more n m (f ∷ fs) gs l a b = let x = a.0 in (omega arith, below-more n m fs gs l a.1 b)

-- the frames of a period lie within it
ends-below : (k n : ℕ) (fs : List FoundFrame) → n ≡ 320 * k + 320 → All (EndsIn k) fs → Below n fs
unfolding Below
ends-below k n [] e h = tt
ends-below k n (f ∷ fs) e h =
    let here = All-head (EndsIn k) f fs h in
    let late = here.1 in
    (omega arith, ends-below k n fs e (All-tail (EndsIn k) f fs h))

ends-from : (k : ℕ) (fs : List FoundFrame) → All (EndsIn k) fs → From (320 * k) fs
unfolding From
ends-from k [] h = tt
ends-from k (f ∷ fs) h = let here = All-head (EndsIn k) f fs h in (here.0, ends-from k fs (All-tail (EndsIn k) f fs h))

-- and all before it before it
all-below : (heard : List (List FoundFrame)) → EachEnds heard → Below (320 * length heard) (all_of heard)
unfolding Below all_of
all-below [] e = tt
all-below (fs ∷ heard) e =
    below-more (320 * length heard) (320 * suc (length heard)) (all_of heard) fs (omega arith) (all-below heard e.1)
    (ends-below (length heard) (320 * suc (length heard)) fs (omega arith) e.0)

-- the first of a list, and the others
head_or : FoundFrame → List FoundFrame → FoundFrame
head_or d [] = d
head_or d (f ∷ fs) = f

tail_of : List FoundFrame → List FoundFrame
tail_of [] = []
tail_of (f ∷ fs) = fs

-- a frame that ends before a place is none of those behind it
apart : (n : ℕ) (f : FoundFrame) (gs hs : List FoundFrame) → f.place + 315 < n → From n gs → gs ≡ f ∷ hs → ⊥
unfolding From head_or
apart n f [] hs l h e = let count : 0 ≡ suc (length hs) = ap length e in absurd (omega arith)
apart n f (g ∷ gs) hs l h e =
    let same : g.place ≡ f.place = ap (λ x. (head_or f x).place) e in
    let late = h.0 in
    absurd (omega arith)

-- lists that are cut at one place have the same parts
same-parts : (n : ℕ) (xs bs cs ds : List FoundFrame) → Below n xs → From n bs → Below n cs → From n ds → xs ++ bs ≡ cs ++ ds → (xs ≡ cs) × (bs ≡ ds)
unfolding Below head_or tail_of
same-parts n [] bs [] ds a b c d e = (refl, e)
same-parts n [] bs (f ∷ cs) ds a b c d e = absurd (apart n f bs (cs ++ ds) c.0 b e)
same-parts n (f ∷ xs) bs [] ds a b c d e = absurd (apart n f ds (xs ++ bs) a.0 d (sym e))
same-parts n (f ∷ xs) bs (g ∷ cs) ds a b c d e =
    let first : f ≡ g = ap (head_or f) e in
    let rest = same-parts n xs bs cs ds a.1 b c.1 d (ap tail_of e) in
    (ap (λ x. x ∷ xs) first ∙ ap (λ l. g ∷ l) rest.0, rest.1)

-- so two lists of found frames are one
same-heard : (hs gs : List (List FoundFrame)) → length hs ≡ length gs → EachEnds hs → EachEnds gs → all_of hs ≡ all_of gs → hs ≡ gs
unfolding all_of
same-heard [] [] l a b e = refl
same-heard [] (ks ∷ gs) l a b e = absurd (omega arith)
same-heard (fs ∷ hs) [] l a b e = absurd (omega arith)
same-heard (fs ∷ hs) (ks ∷ gs) l a b e =
    let count : length hs ≡ length gs = omega arith in
    let low : Below (320 * length hs) (all_of gs) = subst (λ k. Below (320 * k) (all_of gs)) (sym count) (all-below gs b.1) in
    let high : From (320 * length hs) ks = subst (λ k. From (320 * k) ks) (sym count) (ends-from (length gs) ks b.0) in
    let parts = same-parts (320 * length hs) (all_of hs) fs (all_of gs) ks (all-below hs a.1) (ends-from (length hs) fs a.0) low high e in
    ap (λ x. x ∷ hs) parts.1 ∙ ap (λ l. ks ∷ l) (same-heard hs gs count a.1 b.1 parts.0)

pub one-heard : (past : List (List ℕ)) (hs gs : List (List FoundFrame)) → AreHeard past hs → AreHeard past gs → hs ≡ gs
one-heard past hs gs a b =
    same-heard hs gs (a.count ∙ sym b.count) a.each b.each (same_found (line_bits past) 0 (all_of hs) (all_of gs) a.all b.all)
