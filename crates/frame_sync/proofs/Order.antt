-- For crates above: the yields of periods, oldest first, are all yields of their bits (`all_yields-are`), one of each
-- period (`filter-yields`).
use Rattle.std.proofs.Common.{◌≡◌, ℕ, suc, ◌*◌, ◌<◌, ◌≤◌, true, false, List, [], ◌∷◌, ◌++◌, length, length-append, get_or, filter, reverse, Option, Some, None}
use Rattle.std.proofs.Common.{IfSome, option_to_list, refl, sym, ap, ◌∙◌, subst, arith, inl, inr, ◌⊎◌}
use Rattle.std.specs.List.{flat_map}
use Rattle.std.proofs.lemmas.Bool.{cases_lt}
use Rattle.std.proofs.lemmas.Bool.Decides.{nat_tests}
use Rattle.std.proofs.lemmas.List.{append-nil, reverse-append, reverse-reverse, length-reverse, get_or_append_left}
use Rattle.std.proofs.lemmas.List.Elements.{All-nil, All-head, All-tail, All-cons, All-append, filter-append}
use Rattle.std.proofs.lemmas.Grind.{flat_map-append}
use Rattle.std.proofs.Math.Seq.{get_or-append_seam}
use Rattle.trau_bits.specs.Bits.{bits_of}
use Rattle.frame_sync.specs.declared.yields.Yield.{Yield}
use Rattle.trau_frame.specs.Match.{bit_in}
use Rattle.frame_sync.specs.Yields.{Yields}
use Rattle.frame_sync.specs.Memory.{SyncMemory}
use Rattle.frame_sync.specs.Step.{next_period}
use Rattle.frame_sync.specs.Stands.{Stands}
use Rattle.frame_sync.specs.Periods.{line_bits, mode_after, yield_of, each_yield, ArePeriods, yield_in, all_yields, all_bits, EndsIn, ends_in}
use Rattle.frame_sync.proofs.Searched.{ends-searched}
use Rattle.frame_sync.proofs.Steps.{near-mode_after, stands-next}
use Rattle.frame_sync.proofs.Unique.{same_yields}
use Rattle.frame_sync.proofs.Whole.{flat_map-one, yields-past}

-- ---- the oldest first

reverse-cons : (octets : List ℕ) (past : List (List ℕ)) → reverse (octets ∷ past) ≡ reverse past ++ octets ∷ []
reverse-cons octets past = reverse-append (octets ∷ []) past

-- the line of a history is that of its periods in order
line_bits-is : (past : List (List ℕ)) → line_bits past ≡ all_bits (reverse past)
unfolding line_bits
line_bits-is [] = refl
line_bits-is (octets ∷ past) =
    ap (λ l. l ++ bits_of octets) (line_bits-is past) ∙
    sym (ap (flat_map bits_of) (reverse-cons octets past) ∙ flat_map-append bits_of (reverse past) (octets ∷ []) ∙
    ap (λ l. flat_map bits_of (reverse past) ++ l) (append-nil (bits_of octets)))

are_periods-reverse : (periods : List (List ℕ)) → ArePeriods periods → ArePeriods (reverse periods)
are_periods-reverse [] h = All-nil (λ o. length o ≡ 40)
are_periods-reverse (octets ∷ periods) h =
    rw (reverse-cons octets periods)
    (All-append (λ o. length o ≡ 40) (reverse periods) (octets ∷ [])
    (are_periods-reverse periods (All-tail (λ o. length o ≡ 40) octets periods h))
    (All-cons (λ o. length o ≡ 40) octets [] (All-head (λ o. length o ≡ 40) octets periods h) (All-nil (λ o. length o ≡ 40))))

-- the yields of periods are all yields of their bits
pub all_yields-are : (periods : List (List ℕ)) → ArePeriods periods → Yields (all_bits periods) (all_yields periods)
all_yields-are periods h =
    let bits : line_bits (reverse periods) ≡ all_bits periods = line_bits-is (reverse periods) ∙ ap all_bits (reverse-reverse periods) in
    subst (λ b. Yields b (all_yields periods)) bits (yields-past (reverse periods) (are_periods-reverse periods h))

length-each_yield : (past : List (List ℕ)) → length (each_yield past) ≡ length past
unfolding each_yield
length-each_yield [] = refl
length-each_yield (octets ∷ past) =
    let rest = length-each_yield past in
    length-append (each_yield past) (yield_of octets past ∷ []) ∙ omega arith

-- the newest
each_yield-newest : (octets : List ℕ) (past : List (List ℕ)) → get_or (each_yield (octets ∷ past)) (length past) None ≡ yield_of octets past
unfolding each_yield
each_yield-newest octets past =
    ap (λ k. get_or (each_yield past ++ yield_of octets past ∷ []) k None) (sym (length-each_yield past)) ∙
    get_or-append_seam (each_yield past) (yield_of octets past) [] None

-- the yield of one period more
pub yield_in-more : (periods : List (List ℕ)) (octets : List ℕ) → yield_in (periods ++ octets ∷ []) (length periods) ≡ yield_of octets (reverse periods)
yield_in-more periods octets =
    ap (λ l. get_or (each_yield l) (length periods) None) (reverse-append periods (octets ∷ [])) ∙
    ap (λ k. get_or (each_yield (octets ∷ reverse periods)) k None) (sym (length-reverse periods)) ∙
    each_yield-newest octets (reverse periods)

-- ---- each in its period

pub ends-yield_of : (octets : List ℕ) (past : List (List ℕ)) → IfSome (yield_of octets past) (EndsIn (length past))
ends-yield_of octets past = ends-searched (bit_in (line_bits (octets ∷ past))) (320 * length past) (mode_after past) (near-mode_after past)

-- a yield ends in its own period
ends_in-own : (k : ℕ) (y : Yield) → EndsIn k y → ends_in k y ≡ true
ends_in-own k y h = let a = h.0 in let b = h.1 in grind (arith, nat_tests)

-- and in no other
ends_in-other : (k n : ℕ) (y : Yield) → EndsIn n y → (k < n) ⊎ (n < k) → ends_in k y ≡ false
ends_in-other k n y h (inl l) = let a = h.0 in let b = h.1 in grind (arith, nat_tests)
ends_in-other k n y h (inr l) = let a = h.0 in let b = h.1 in grind (arith, nat_tests)

-- so the yields that end in a period are its own
filter-own : (k : ℕ) (y : Option Yield) → IfSome y (EndsIn k) → filter (ends_in k) (option_to_list y) ≡ option_to_list y
filter-own k None h = refl
filter-own k (Some y) h = rw (ends_in-own k y h) refl

filter-other : (k n : ℕ) (y : Option Yield) → IfSome y (EndsIn n) → (k < n) ⊎ (n < k) → filter (ends_in k) (option_to_list y) ≡ []
filter-other k n None h o = refl
filter-other k n (Some y) h o = rw (ends_in-other k n y h o) refl

-- one period more
filter-more : (k : ℕ) (octets : List ℕ) (past : List (List ℕ)) → filter (ends_in k) (flat_map option_to_list (each_yield (octets ∷ past))) ≡
    filter (ends_in k) (flat_map option_to_list (each_yield past)) ++ filter (ends_in k) (option_to_list (yield_of octets past))
unfolding each_yield
filter-more k octets past =
    ap (filter (ends_in k)) (flat_map-one (each_yield past) (yield_of octets past)) ∙
    filter-append (ends_in k) (flat_map option_to_list (each_yield past)) (option_to_list (yield_of octets past))

filter-older : (past : List (List ℕ)) (k : ℕ) → length past ≤ k → filter (ends_in k) (flat_map option_to_list (each_yield past)) ≡ []
filter-older [] k h = unfold each_yield in refl
filter-older (octets ∷ past) k h =
    let old : filter (ends_in k) (flat_map option_to_list (each_yield past)) ≡ [] = filter-older past k (omega (arith, h)) in
    let new : filter (ends_in k) (option_to_list (yield_of octets past)) ≡ [] =
    filter-other k (length past) (yield_of octets past) (ends-yield_of octets past) (inr (omega (arith, h))) in
    filter-more k octets past ∙ rw (old, new) refl

each_yield-early : (octets : List ℕ) (past : List (List ℕ)) (k : ℕ) → k < length past →
    get_or (each_yield (octets ∷ past)) k None ≡ get_or (each_yield past) k None
unfolding each_yield
each_yield-early octets past k h =
    let count = length-each_yield past in
    get_or_append_left (each_yield past) (yield_of octets past ∷ []) None k (omega arith)

filter-past : (past : List (List ℕ)) (k : ℕ) → k < length past →
    filter (ends_in k) (flat_map option_to_list (each_yield past)) ≡ option_to_list (get_or (each_yield past) k None)
filter-past [] k h = absurd (omega (arith, h))
filter-past (octets ∷ past) k h = elim (cases_lt k (length past)) [
  | inl early ↦
      let old = filter-past past k early in
      let new : filter (ends_in k) (option_to_list (yield_of octets past)) ≡ [] =
      filter-other k (length past) (yield_of octets past) (ends-yield_of octets past) (inl early) in
      let same : get_or (each_yield (octets ∷ past)) k None ≡ get_or (each_yield past) k None = each_yield-early octets past k early in
      filter-more k octets past ∙ rw new (append-nil _) ∙ old ∙ sym (ap option_to_list same)
  | inr here ↦
      let number : k ≡ length past = omega (arith, h) in
      let old : filter (ends_in k) (flat_map option_to_list (each_yield past)) ≡ [] = filter-older past k here in
      let new : filter (ends_in k) (option_to_list (yield_of octets past)) ≡ option_to_list (yield_of octets past) =
      filter-own k (yield_of octets past) (subst (λ n. IfSome (yield_of octets past) (EndsIn n)) (sym number) (ends-yield_of octets past)) in
      let newest : get_or (each_yield (octets ∷ past)) k None ≡ yield_of octets past =
      ap (λ n. get_or (each_yield (octets ∷ past)) n None) number ∙ each_yield-newest octets past in
      filter-more k octets past ∙ rw (old, new) (sym (ap option_to_list newest))
]

pub filter-yields : (periods : List (List ℕ)) (k : ℕ) → k < length periods →
    filter (ends_in k) (all_yields periods) ≡ option_to_list (yield_in periods k)
filter-yields periods k h = filter-past (reverse periods) k (subst (λ n. k < n) (sym (length-reverse periods)) h)

-- ---- of all yields of all bits, the one in the newest period

-- of all yields of a line, the one that ends in the newest period
newest-of-all : (octets : List ℕ) (past : List (List ℕ)) (ys : List Yield) → ArePeriods (octets ∷ past) → Yields (all_bits (reverse (octets ∷ past))) ys →
    filter (ends_in (length past)) ys ≡ option_to_list (yield_of octets past)
newest-of-all octets past ys h y =
    let same : ys ≡ all_yields (reverse (octets ∷ past)) =
    same_yields (all_bits (reverse (octets ∷ past))) ys (all_yields (reverse (octets ∷ past))) y
    (all_yields-are (reverse (octets ∷ past)) (are_periods-reverse (octets ∷ past) h)) in
    let count : length (reverse (octets ∷ past)) ≡ suc (length past) = length-reverse (octets ∷ past) in
    ap (filter (ends_in (length past))) same ∙ filter-yields (reverse (octets ∷ past)) (length past) (omega arith) ∙
    ap (λ l. option_to_list (get_or (each_yield l) (length past) None)) (reverse-reverse (octets ∷ past)) ∙ ap option_to_list (each_yield-newest octets past)

-- the same of what a step gives
pub fed-of-all : (memory after : SyncMemory) (octets : List ℕ) (y : Option Yield) → length octets ≡ 40 → next_period memory octets ≡ (y, after) →
    (past : List (List ℕ)) (ys : List Yield) → Stands past memory → Yields (all_bits (reverse (octets ∷ past))) ys →
    filter (ends_in (length past)) ys ≡ option_to_list y
fed-of-all memory after octets y count step past ys s all =
    let next = stands-next memory after octets y count step past s in
    newest-of-all octets past ys next.0.periods all ∙ sym (ap option_to_list next.1)
