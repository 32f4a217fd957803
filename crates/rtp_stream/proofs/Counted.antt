-- What becomes of a payload's periods, and how many there are of each kind.
use Rattle.std.proofs.Common.{◌≡◌, ℕ, zero, suc, ◌+◌, ◌-◌, ◌*◌, ◌^◌, ◌<◌, ◌≤◌, List, [], ◌∷◌, length, refl, sym, ap, subst, ◌∙◌, arith, ◌⊎◌}
use Rattle.std.specs.Prelude.{◌≢◌, Bool, true, false, if◌then◌else◌, min, ◌==◌, ◌&&◌, Option, Some, None, slice_range}
use Rattle.std.specs.List.{list_all, count_by, range_with_len}
use Rattle.std.proofs.lemmas.List.Sums.{sum_by-cons}
use Rattle.rtp_buffer.specs.declared.octet.Octet.{Octet}
use Rattle.rtp_buffer.specs.declared.octet.Octet.TheVariants.{Missing}
use Rattle.rtp_buffer.specs.declared.buffer.Buffer.{Buffer}
use Rattle.rtp_buffer.specs.declared.buffer.Outcome.{Outcome}
use Rattle.rtp_buffer.specs.declared.buffer.Outcome.TheVariants.{Taken, Late, Doubled}
use Rattle.rtp_buffer.specs.Octets.{has_come}
use Rattle.rtp_buffer.specs.Store.{place, known}
use Rattle.rtp_buffer.specs.Watch.{on, back}
use Rattle.rtp_buffer.specs.Pace.{wait_of, is_late}
use Rattle.rtp_buffer.specs.Buffer.{all_known, outcome_of, newer_of}
use Rattle.rtp_stream.specs.Payload.{octets_before, start_of, count_of, period_outcome, is_taken, is_late_one, is_doubled, newest_after, periods_that}
use Rattle.rtp_stream.proofs.Pieces.{starts, one_more, piece_length}

-- ---- a period's outcome

pub same_outcome : {N : ℕ} → (buffer : Buffer N) (period tick start other_start count other_count : ℕ) (outcome : Outcome) → start ≡ other_start → count ≡ other_count →
    outcome ≡ outcome_of buffer period start count tick → outcome ≡ outcome_of buffer period other_start other_count tick
same_outcome buffer period tick start other_start count other_count outcome s c h =
    h
    ∙ ap (λ (a : ℕ). outcome_of buffer period a count tick) s
    ∙ ap (λ (b : ℕ). outcome_of buffer period other_start b tick) c

-- the octets of a piece are those of its period
pub piece_counts : (octets : List ℕ) (size part n at piece : ℕ) → at ≡ octets_before (n * size) part (length octets) →
    at + piece ≡ octets_before ((n + 1) * size) part (length octets) → at + piece ≤ length octets →
    length (slice_range octets at (at + piece)) ≡ count_of size part (length octets) n
piece_counts octets size part n at piece a e r = piece_length octets at piece r ∙ omega (arith, a, e)

-- other periods: those in the same slot are forgotten if the period is taken
pub others_then : (outcome : Outcome) (same : Bool) (old new : Octet) → (same ≡ true → outcome ≡ Taken → new ≡ Missing) → (same ≡ false → new ≡ old) →
    (outcome ≡ Late → new ≡ old) → (outcome ≡ Doubled → new ≡ old) → new ≡ (if same && is_taken (Some outcome) then Missing else old)
others_then Taken true old new forgotten kept late doubled = forgotten refl refl
others_then Taken false old new forgotten kept late doubled = kept refl
others_then Late true old new forgotten kept late doubled = late refl
others_then Late false old new forgotten kept late doubled = late refl
others_then Doubled true old new forgotten kept late doubled = doubled refl
others_then Doubled false old new forgotten kept late doubled = doubled refl

same_all : (passes other : ℕ → Bool) (a n : ℕ) → ((k : ℕ) → a ≤ k → k < a + n → passes k ≡ other k) →
    list_all passes (range_with_len a n) ≡ list_all other (range_with_len a n)
same_all passes other a zero h = refl
same_all passes other a (suc n) h =
    ap (λ (b : Bool). b && list_all passes (range_with_len (a + 1) n)) (h a (omega arith) (omega arith))
    ∙ ap (λ (b : Bool). other a && b) (same_all passes other (a + 1) n (λ k l r. h k (omega (arith, l)) (omega (arith, r))))

-- a period has octets, and they fit
some_octets : (m size part length : ℕ) → part < size → octets_before m part length < length → 0 < octets_before (m + size) part length - octets_before m part length
some_octets m size part length p l = omega (arith, p, l)

octets_fit : (m size part start length : ℕ) → part < size → ((m ≡ 0) × (start ≡ part)) ⊎ ((size ≤ m) × (start ≡ 0)) →
    start + (octets_before (m + size) part length - octets_before m part length) ≤ size
octets_fit m size part start length p s = omega (arith, p, s)

pub count_is_some : (size part length n : ℕ) → part < size → octets_before (n * size) part length < length → 0 < count_of size part length n
count_is_some size part length n p l =
    subst (λ (m : ℕ). 0 < octets_before m part length - octets_before (n * size) part length) (sym (one_more n size)) (some_octets (n * size) size part length p l)

pub count_fits : (size part length n : ℕ) → part < size → start_of part n + count_of size part length n ≤ size
count_fits size part length n p =
    subst (λ (m : ℕ). start_of part n + (octets_before m part length - octets_before (n * size) part length) ≤ size) (sym (one_more n size))
    (octets_fit (n * size) size part (start_of part n) length p (starts n size part (start_of part n) refl))

some_count : (count : ℕ) (outcome : Outcome) → 0 < count → (if count == 0 then None else Some outcome) ≡ Some outcome
some_count count outcome h = grind (arith, h)

-- what becomes of it is as if nothing of the payload had been laid
pub as_before : {N : ℕ} → (initial now : Buffer N) (tick first part length n : ℕ) (outcome : Outcome) → part < N → octets_before (n * N) part length < length →
    now.pace.shift ≡ initial.pace.shift → ((k : ℕ) → k < N → place now.store.slots (on first n) k ≡ place initial.store.slots (on first n) k) →
    outcome ≡ outcome_of now (on first n) (start_of part n) (count_of N part length n) tick → period_outcome initial tick first part length n ≡ Some outcome
as_before {N} initial now tick first part length n outcome p l shift same h =
    some_count (count_of N part length n) _ (count_is_some N part length n p l)
    ∙ ap (λ (o : Outcome). Some o) (sym (h
    ∙ ap (λ (whole : Bool). if whole then Doubled else if is_late (wait_of now.pace (on first n) tick) then Late else Taken)
    (same_all (λ k. known now.store.slots (on first n) k) (λ k. known initial.store.slots (on first n) k) (start_of part n) (count_of N part length n)
    (λ k a b. ap has_come (same k (omega (arith, a, b, count_fits N part length n p)))))
    ∙ ap (λ (s : ℕ). if all_known initial.store.slots (on first n) (start_of part n) (count_of N part length n) then Doubled
    else if is_late (back (back (on first n) s) tick) then Late else Taken) shift))

-- ---- so many

first_counts : (passes : ℕ → Bool) (a : ℕ) (more : List ℕ) → count_by passes (a ∷ more) ≡ (if passes a then 1 else 0) + count_by passes more
first_counts passes a more = sum_by-cons (λ y. if passes y then 1 else 0) a more

pub one_more_counts : (passes : ℕ → Bool) (a n : ℕ) →
    count_by passes (range_with_len a (suc n)) ≡ count_by passes (range_with_len a n) + (if passes (a + n) then 1 else 0)
one_more_counts passes a zero =
    let same : a ≡ a + 0 = omega arith in
    subst (λ (x : ℕ). count_by passes (a ∷ []) ≡ 0 + (if passes x then 1 else 0)) same (grind (arith, first_counts passes a []))
one_more_counts passes a (suc n) =
    let same : a + 1 + n ≡ a + suc n = omega arith in
    subst (λ (x : ℕ). count_by passes (a ∷ range_with_len (a + 1) (suc n)) ≡ count_by passes (a ∷ range_with_len (a + 1) n) + (if passes x then 1 else 0)) same
    (omega (arith, first_counts passes a (range_with_len (a + 1) (suc n)), first_counts passes a (range_with_len (a + 1) n), one_more_counts passes (a + 1) n))

pub equal : (a b : ℕ) → (a == b) ≡ true → a ≡ b
equal a b h = grind (arith, h)

pub different : (a b : ℕ) → (a == b) ≡ false → a ≢ b
different a b h = grind (arith, h)

-- ---- no period comes after the last

-- a payload's octets were all laid
pub all_before : (n m size part length : ℕ) → n ≤ m → octets_before (n * size) part length ≡ length → octets_before (m * size) part length ≡ length
all_before n m size part length l e =
    let same : n + (m - n) ≡ m = omega (arith, l) in
    subst (λ (x : ℕ). octets_before (x * size) part length ≡ length) same (beyond (m - n))
  where
    beyond : (j : ℕ) → octets_before ((n + j) * size) part length ≡ length
    beyond j =
        let split : (n + j) * size ≡ n * size + j * size = omega arith in
        subst (λ (x : ℕ). octets_before x part length ≡ length) (sym split) (omega (arith, e))

pub none_left : (n m size part length : ℕ) → n ≤ m → octets_before (n * size) part length ≡ length → count_of size part length m ≡ 0
none_left n m size part length l e =
    omega (arith, all_before n m size part length l e, all_before n (m + 1) size part length (omega (arith, l)) e)

pub no_outcome : {N : ℕ} → (buffer : Buffer N) (tick first part length n m : ℕ) → n ≤ m → octets_before (n * N) part length ≡ length →
    period_outcome buffer tick first part length m ≡ None
no_outcome {N} buffer tick first part length n m l e = nothing (count_of N part length m) _ (none_left n m N part length l e)
  where
    nothing : (count : ℕ) (outcome : Outcome) → count ≡ 0 → (if count == 0 then None else Some outcome) ≡ None
    nothing count outcome h = grind (arith, h)

-- what doesn't change from a number on
stays_from : {A : Type 0} → (f : ℕ → A) (n e : ℕ) → ((m : ℕ) → n ≤ m → f (suc m) ≡ f m) → f (n + e) ≡ f n
stays_from f n zero h = ap f (omega arith)
stays_from f n (suc e) h = ap f (omega arith) ∙ h (n + e) (omega arith) ∙ stays_from f n e h

pub stays_to : {A : Type 0} → (f : ℕ → A) (n last : ℕ) → n ≤ last → ((m : ℕ) → n ≤ m → f (suc m) ≡ f m) → f last ≡ f n
stays_to f n last l h = ap f (omega (arith, l)) ∙ stays_from f n (last - n) h

pub count_stays : (passes : ℕ → Bool) (n last : ℕ) → n ≤ last → ((m : ℕ) → n ≤ m → passes m ≡ false) →
    count_by passes (range_with_len 0 last) ≡ count_by passes (range_with_len 0 n)
count_stays passes n last l h = stays_to (λ m. count_by passes (range_with_len 0 m)) n last l
    (λ m r. one_more_counts passes 0 m ∙ grind (arith, h m r))

pub newest_stays : (taken : ℕ → Bool) (first newest n last : ℕ) → n ≤ last → ((m : ℕ) → n ≤ m → taken m ≡ false) →
    newest_after taken first newest last ≡ newest_after taken first newest n
newest_stays taken first newest n last l h = stays_to (λ m. newest_after taken first newest m) n last l (λ m r. grind (arith, h m r))

-- ---- what is known of the counts after a payload's first n periods, and after one more

pub record Counting (n late doubled newest : ℕ) (outcome : ℕ → Option Outcome) (first initial : ℕ) : Type 0 where
  pub late_is : late ≡ count_by (λ m. is_late_one (outcome m)) (range_with_len 0 n)
  pub doubled_is : doubled ≡ count_by (λ m. is_doubled (outcome m)) (range_with_len 0 n)
  pub newest_is : newest ≡ newest_after (λ m. is_taken (outcome m)) first initial n
  pub few_late : late ≤ n
  pub few_doubled : doubled ≤ n

counted_one : (passes : ℕ → Bool) (n : ℕ) (b : Bool) (old new : ℕ) → passes n ≡ b → old ≡ count_by passes (range_with_len 0 n) →
    new ≡ old + (if b then 1 else 0) → new ≡ count_by passes (range_with_len 0 (n + 1))
counted_one passes n b old new e h more =
    let here : passes (0 + n) ≡ b = ap passes (plus n) ∙ e in
    let next : count_by passes (range_with_len 0 (suc n)) ≡ old + (if b then 1 else 0) =
    one_more_counts passes 0 n ∙ ap (λ (c : ℕ). c + (if passes (0 + n) then 1 else 0)) (sym h) ∙ ap (λ (x : Bool). old + (if x then 1 else 0)) here in
    let same : suc n ≡ n + 1 = omega arith in
    more ∙ sym next ∙ ap (λ (m : ℕ). count_by passes (range_with_len 0 m)) same
  where
    plus : (m : ℕ) → 0 + m ≡ m
    plus m = omega arith

at_most : (n old new : ℕ) (b : Bool) → old ≤ n → new ≡ old + (if b then 1 else 0) → new ≤ n + 1
at_most n old new true l e = omega (arith, l, e)
at_most n old new false l e = omega (arith, l, e)

pub record Kinds (outcome : Outcome) (late doubled new_late new_doubled : ℕ) : Type 0 where
  pub taken_is : outcome ≡ Taken → (new_late ≡ late) × (new_doubled ≡ doubled)
  pub late_is : outcome ≡ Late → (new_late ≡ min (late + 1) (2 ^ 32 - 1)) × (new_doubled ≡ doubled)
  pub doubled_is : outcome ≡ Doubled → (new_late ≡ late) × (new_doubled ≡ min (doubled + 1) (2 ^ 32 - 1))

new_late : (o : Outcome) (n late doubled more other : ℕ) → n < 51 → late ≤ n → Kinds o late doubled more other → more ≡ late + (if is_late_one (Some o) then 1 else 0)
new_late Taken n late doubled more other l few h = omega (arith, (h.taken_is refl).0)
new_late Late n late doubled more other l few h = omega (arith, l, few, (h.late_is refl).0)
new_late Doubled n late doubled more other l few h = omega (arith, (h.doubled_is refl).0)

new_doubled : (o : Outcome) (n late doubled other more : ℕ) → n < 51 → doubled ≤ n → Kinds o late doubled other more → more ≡ doubled + (if is_doubled (Some o) then 1 else 0)
new_doubled Taken n late doubled other more l few h = omega (arith, (h.taken_is refl).1)
new_doubled Late n late doubled other more l few h = omega (arith, (h.late_is refl).1)
new_doubled Doubled n late doubled other more l few h = omega (arith, l, few, (h.doubled_is refl).1)

newest_one : (taken : ℕ → Bool) (first initial n newest new : ℕ) (b : Bool) → taken n ≡ b → newest ≡ newest_after taken first initial n →
    new ≡ (if b then newer_of newest (on first n) else newest) → new ≡ newest_after taken first initial (n + 1)
newest_one taken first initial n newest new b e h more =
    let same : suc n ≡ n + 1 = omega arith in
    more
    ∙ ap (λ (x : ℕ). if b then newer_of x (on first n) else x) h
    ∙ ap (λ (x : Bool). if x then newer_of (newest_after taken first initial n) (on first n) else newest_after taken first initial n) (sym e)
    ∙ ap (λ (m : ℕ). newest_after taken first initial m) same

pub counted_then : (n late doubled newest more_late more_doubled new : ℕ) (outcomes : ℕ → Option Outcome) (outcome : Outcome) (first initial : ℕ) → n < 51 →
    outcomes n ≡ Some outcome → Kinds outcome late doubled more_late more_doubled →
    new ≡ (if is_taken (Some outcome) then newer_of newest (on first n) else newest) → Counting n late doubled newest outcomes first initial →
    Counting (n + 1) more_late more_doubled new outcomes first initial
counted_then n late doubled newest more_late more_doubled new outcomes outcome first initial l e kinds newer h =
    let a = new_late outcome n late doubled more_late more_doubled l h.few_late kinds in
    let b = new_doubled outcome n late doubled more_late more_doubled l h.few_doubled kinds in
    record {
      late_is = counted_one (λ m. is_late_one (outcomes m)) n (is_late_one (Some outcome)) late more_late (ap is_late_one e) h.late_is a;
      doubled_is = counted_one (λ m. is_doubled (outcomes m)) n (is_doubled (Some outcome)) doubled more_doubled (ap is_doubled e) h.doubled_is b;
      newest_is = newest_one (λ m. is_taken (outcomes m)) first initial n newest new (is_taken (Some outcome)) (ap is_taken e) h.newest_is newer;
      few_late = at_most n late more_late (is_late_one (Some outcome)) h.few_late a;
      few_doubled = at_most n doubled more_doubled (is_doubled (Some outcome)) h.few_doubled b;
    }

-- once all octets are laid, the counts are those of all 51 periods
pub counted_all : (n late doubled newest : ℕ) (outcomes : ℕ → Option Outcome) (first initial : ℕ) → n ≤ 51 → ((m : ℕ) → n ≤ m → outcomes m ≡ None) →
    Counting n late doubled newest outcomes first initial →
    (late ≡ periods_that (λ m. is_late_one (outcomes m))) × (doubled ≡ periods_that (λ m. is_doubled (outcomes m)))
    × (newest ≡ newest_after (λ m. is_taken (outcomes m)) first initial 51)
counted_all n late doubled newest outcomes first initial l none h = (
  h.late_is ∙ sym (count_stays (λ m. is_late_one (outcomes m)) n 51 l (λ m r. ap is_late_one (none m r))),
  h.doubled_is ∙ sym (count_stays (λ m. is_doubled (outcomes m)) n 51 l (λ m r. ap is_doubled (none m r))),
  h.newest_is ∙ sym (newest_stays (λ m. is_taken (outcomes m)) first initial n 51 l (λ m r. ap is_taken (none m r))),
)
