-- For crates above: after one more period the search's memory stands for all periods, and yields as all their bits do
-- (`stands-next`).
-- One period more, after any past.
use Rattle.std.proofs.Common.{◌≡◌, ℕ, suc, ◌+◌, ◌-◌, ◌*◌, ◌<◌, ◌≤◌, List, [], ◌∷◌, ◌++◌, length, length-append, get_or, Option, IfSome, refl, sym, ap, ◌∙◌}
use Rattle.std.proofs.Common.{subst, arith, inl, inr}
use Rattle.std.proofs.lemmas.Bool.{cases_lt}
use Rattle.std.proofs.lemmas.List.{get_or_append_left, get_or-append_right}
use Rattle.std.proofs.lemmas.List.Elements.{All-head, All-tail, All-cons}
use Rattle.trau_bits.specs.Bits.{AreBits, bits_of}
use Rattle.trau_bits.proofs.BitList.{length-bits_of}
use Rattle.trau_frame.proofs.RowPlaces.{bit-below}
use Rattle.frame_sync.specs.declared.yields.Ending.{Ending}
use Rattle.frame_sync.specs.declared.yields.Mode.{Mode}
use Rattle.frame_sync.specs.declared.yields.Yield.{Yield}
use Rattle.trau_frame.specs.Match.{bit_in}
use Rattle.frame_sync.specs.Periods.{searched, line_bits, mode_after, yield_of, ArePeriods, EndsIn, CarriesFrame}
use Rattle.frame_sync.specs.Memory.{SyncMemory, IsNear}
use Rattle.frame_sync.specs.Step.{bit_of_two, yield_of_ending, ends_in_two, next_period}
use Rattle.frame_sync.specs.Stands.{last_bits, memory_after, Stands}
use Rattle.frame_sync.proofs.Searched.{Agrees, near-searched, ends-searched, carries-searched, searched-agrees}

-- ---- what the code did

-- the search went over these bits, of a period of this number
pub record Went (periods n : ℕ) (window : List ℕ) (mode : Mode) (r : Option Yield × Mode) : Type 0 where
  pub number : n ≡ periods
  pub gives : r ≡ searched (bit_of_two (320 * n) window) (320 * n) mode

pub went-found : (periods n : ℕ) (window : List ℕ) (mode : Mode) (found : Ending × Mode) (y : Option Yield) → n ≡ periods →
    y ≡ yield_of_ending (bit_of_two (320 * n) window) found.0 →
    ends_in_two (320 * n) window found ≡ searched (bit_of_two (320 * n) window) (320 * n) mode → Went periods n window mode (y, found.1)
went-found periods n window mode found y number at gives = record { number = number; gives = ap (λ z. (z, found.1)) at ∙ gives }

-- what the code did in a period is the step, it keeps the mode near, and its yield ends there
pub next_period-went : (periods n : ℕ) (last bits window octets : List ℕ) (mode : Mode) (r : Option Yield × Mode) → Went periods n window mode r →
    bits ≡ bits_of octets → window ≡ last ++ bits_of octets →
    next_period (record { periods = periods; last = last; mode = mode }) octets ≡ (r.0, record { periods = periods + 1; last = bits; mode = r.1 })
unfolding next_period
next_period-went periods n last bits window octets mode r w eb ew =
    let gives : r ≡ searched (bit_of_two (320 * periods) (last ++ bits_of octets)) (320 * periods) mode =
    w.gives ∙ ap (λ k. searched (bit_of_two (320 * k) window) (320 * k) mode) w.number ∙
    ap (λ l. searched (bit_of_two (320 * periods) l) (320 * periods) mode) ew in
    let step : Option Yield × Mode → Option Yield × SyncMemory = λ x. (x.0, record { periods = periods + 1; last = bits_of octets; mode = x.1 }) in
    sym (ap step gives) ∙ ap (λ b. (r.0, record { periods = periods + 1; last = b; mode = r.1 })) (sym eb)

pub near-went : (periods n : ℕ) (window : List ℕ) (mode : Mode) (r : Option Yield × Mode) → Went periods n window mode r →
    IsNear (320 * periods) mode → IsNear (320 * (periods + 1)) r.1
near-went periods n window mode r w near =
    let base : 320 * periods ≡ 320 * n = ap (λ k. 320 * k) (sym w.number) in
    let next : 320 * n + 320 ≡ 320 * (periods + 1) = let e = w.number in omega arith in
    let old : IsNear (320 * n) mode = subst (λ b. IsNear b mode) base near in
    let new : IsNear (320 * n + 320) r.1 =
    subst (λ x. IsNear (320 * n + 320) x.1) (sym w.gives) (near-searched (bit_of_two (320 * n) window) (320 * n) mode old) in
    subst (λ b. IsNear b r.1) next new

pub ends-went : (periods n : ℕ) (window : List ℕ) (mode : Mode) (r : Option Yield × Mode) → Went periods n window mode r →
    IsNear (320 * periods) mode → IfSome r.0 (EndsIn periods)
ends-went periods n window mode r w near =
    let old : IsNear (320 * n) mode = subst (λ k. IsNear (320 * k) mode) (sym w.number) near in
    let ends : IfSome r.0 (EndsIn n) =
    subst (λ x. IfSome x.0 (EndsIn n)) (sym w.gives) (ends-searched (bit_of_two (320 * n) window) (320 * n) mode old) in
    subst (λ k. IfSome r.0 (EndsIn k)) w.number ends

pub carries-went : (periods n : ℕ) (window : List ℕ) (mode : Mode) (r : Option Yield × Mode) → Went periods n window mode r →
    AreBits window → IfSome r.0 CarriesFrame
carries-went periods n window mode r w bits =
    subst (λ x. IfSome x.0 CarriesFrame) (sym w.gives)
    (carries-searched (bit_of_two (320 * n) window) (320 * n) mode (λ i. bit-below window bits (i + 320 - 320 * n)))

-- ---- the definition

pub near-mode_after : (past : List (List ℕ)) → IsNear (320 * length past) (mode_after past)
unfolding mode_after
near-mode_after [] = (omega arith, omega arith, omega arith)
near-mode_after (octets ∷ past) =
    let next : 320 * length past + 320 ≡ 320 * suc (length past) = omega arith in
    subst (λ b. IsNear b (searched (bit_in (line_bits (octets ∷ past))) (320 * length past) (mode_after past)).1) next
    (near-searched (bit_in (line_bits (octets ∷ past))) (320 * length past) (mode_after past) (near-mode_after past))

pub length-line_bits : (past : List (List ℕ)) → ArePeriods past → length (line_bits past) ≡ 320 * length past
unfolding line_bits
length-line_bits [] h = refl
length-line_bits (octets ∷ past) h =
    let here : length octets ≡ 40 = All-head (λ o. length o ≡ 40) octets past h in
    let count = length-bits_of octets in
    let rest = length-line_bits past (All-tail (λ o. length o ≡ 40) octets past h) in
    length-append (line_bits past) (bits_of octets) ∙ omega arith

-- a bit of the newest of the past, by both lists
agrees-early : (past : List (List ℕ)) (bits : List ℕ) (i : ℕ) → ArePeriods past → 320 * length past ≤ i + 319 → i < 320 * length past →
    get_or (last_bits past ++ bits) (i + 320 - 320 * length past) 0 ≡ get_or (line_bits past ++ bits) i 0
unfolding last_bits line_bits
agrees-early [] bits i h l m = absurd (omega arith)
agrees-early (octets ∷ past) bits i h l m =
    let here : length octets ≡ 40 = All-head (λ o. length o ≡ 40) octets past h in
    let count = length-bits_of octets in
    let rest = length-line_bits past (All-tail (λ o. length o ≡ 40) octets past h) in
    let whole = length-append (line_bits past) (bits_of octets) in
    let same : i + 320 - 320 * suc (length past) ≡ i - 320 * length past = omega (arith, l, m) in
    get_or_append_left (bits_of octets) bits 0 (i + 320 - 320 * suc (length past)) (omega (arith, m)) ∙
    ap (λ k. get_or (bits_of octets) k 0) same ∙
    sym (get_or-append_right (line_bits past) (bits_of octets) (320 * length past) i 0 rest (omega (arith, l))) ∙
    sym (get_or_append_left (line_bits past ++ bits_of octets) bits 0 i (omega (arith, m)))

length-last_bits : (past : List (List ℕ)) → ArePeriods past → length (last_bits past) ≡ 320
unfolding last_bits
length-last_bits [] h = refl
length-last_bits (octets ∷ past) h =
    let here : length octets ≡ 40 = All-head (λ o. length o ≡ 40) octets past h in
    length-bits_of octets ∙ omega arith

-- the last two periods are the end of the line
agrees-late : (past : List (List ℕ)) (bits : List ℕ) (i : ℕ) → ArePeriods past → 320 * length past ≤ i →
    get_or (last_bits past ++ bits) (i + 320 - 320 * length past) 0 ≡ get_or (line_bits past ++ bits) i 0
agrees-late past bits i h l =
    let same : i + 320 - 320 * length past - 320 ≡ i - 320 * length past = omega arith in
    get_or-append_right (last_bits past) bits 320 (i + 320 - 320 * length past) 0 (length-last_bits past h) (omega arith) ∙
    ap (λ k. get_or bits k 0) same ∙
    sym (get_or-append_right (line_bits past) bits (320 * length past) i 0 (length-line_bits past h) l)

pub agrees-past : (past : List (List ℕ)) (bits : List ℕ) → ArePeriods past →
    Agrees (bit_of_two (320 * length past) (last_bits past ++ bits)) (bit_in (line_bits past ++ bits)) (320 * length past)
agrees-past past bits h = record {
  each = λ i l m. elim (cases_lt i (320 * length past)) [
    | inl early ↦ agrees-early past bits i h l early
    | inr late ↦ agrees-late past bits i h late
  ];
}

-- a step after any periods
pub next_period-after : (past : List (List ℕ)) (octets : List ℕ) → ArePeriods past →
    next_period (memory_after past) octets ≡ (yield_of octets past, memory_after (octets ∷ past))
unfolding next_period line_bits mode_after last_bits
next_period-after past octets h =
    let same : searched (bit_of_two (320 * length past) (last_bits past ++ bits_of octets)) (320 * length past) (mode_after past) ≡
    searched (bit_in (line_bits past ++ bits_of octets)) (320 * length past) (mode_after past) =
    searched-agrees _ _ (320 * length past) (mode_after past) (near-mode_after past) (agrees-past past (bits_of octets) h) in
    let count : length past + 1 ≡ suc (length past) = omega arith in
    let step : ℕ → Option Yield × Mode → Option Yield × SyncMemory = λ k x. (x.0, record { periods = k; last = bits_of octets; mode = x.1 }) in
    ap (step (length past + 1)) same ∙ ap (λ k. step k (searched (bit_in (line_bits past ++ bits_of octets)) (320 * length past) (mode_after past))) count

-- so the memory stands for one more
pub stands-next : (memory after : SyncMemory) (octets : List ℕ) (y : Option Yield) → length octets ≡ 40 → next_period memory octets ≡ (y, after) →
    (past : List (List ℕ)) → Stands past memory → Stands (octets ∷ past) after × (y ≡ yield_of octets past)
stands-next memory after octets y count step past s =
    let e : (yield_of octets past, memory_after (octets ∷ past)) ≡ (y, after) =
    sym (next_period-after past octets s.periods) ∙ sym (ap (λ m. next_period m octets) s.after) ∙ step in (
      record {
        periods = All-cons (λ o. length o ≡ 40) octets past count s.periods;
        after = sym (ap (λ x. x.1) e);
      },
      sym (ap (λ x. x.0) e),
    )
