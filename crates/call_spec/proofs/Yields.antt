-- What the search finds in each period is of all yields of the whole Up line.
use Rattle.std.proofs.Common.{◌≡◌, refl, sym, ap, ◌∙◌, subst, ℕ, ◌<◌, List, [], ◌∷◌, ◌++◌, length, filter, option_to_list}
use Rattle.std.proofs.Common.{reverse, All, arith}
use Rattle.std.specs.List.{flat_map}
use Rattle.std.proofs.lemmas.List.{reverse-reverse, length-reverse}
use Rattle.std.proofs.lemmas.List.Elements.{All-nil, All-cons, All-head, All-tail}
use Rattle.trau_bits.specs.Bits.{bits_of}
use Rattle.trau_bits.proofs.Joined.{bits_of-append}
use Rattle.frame_sync.specs.declared.yields.Yield.{Yield}
use Rattle.frame_sync.specs.Yields.{Yields}
use Rattle.frame_sync.specs.Periods.{line_bits, each_yield, ArePeriods, all_yields, yield_in, ends_in}
use Rattle.frame_sync.proofs.Whole.{yields-past}
use Rattle.frame_sync.proofs.Unique.{same_yields}
use Rattle.frame_sync.proofs.Order.{filter-yields}
use Rattle.call_leg.specs.Who.{Who}
use Rattle.call_leg.specs.Periods.{CallPeriod, ups_of}
use Rattle.call_leg.proofs.Heard.{length-ups_of}
use Rattle.call_spec.specs.Call.{periods, yield_at}
use Rattle.call_spec.specs.History.{IsCallHistory, up_in_history, call_of_history}
use Rattle.call_spec.proofs.Reading.{length-settings_of, ups-read}

-- ---- the Up line

line_bits-up : (ts : List CallPeriod) → line_bits (ups_of ts) ≡ bits_of (up_in_history ts)
unfolding line_bits bits_of
line_bits-up [] = refl
line_bits-up (t ∷ past) = ap (λ z. z ++ bits_of t.up) (line_bits-up past) ∙ sym (bits_of-append (up_in_history past) t.up)

are_periods : (ts : List CallPeriod) → All (λ t. length t.up ≡ 40) ts → ArePeriods (ups_of ts)
are_periods [] h = All-nil (λ octets. length octets ≡ 40)
are_periods (t ∷ past) h =
    All-cons (λ octets. length octets ≡ 40) t.up (ups_of past) (All-head (λ t. length t.up ≡ 40) t past h)
    (are_periods past (All-tail (λ t. length t.up ≡ 40) t past h))

-- what the periods yield is what the whole line yields
yields-up : (ts : List CallPeriod) → All (λ t. length t.up ≡ 40) ts → Yields (bits_of (up_in_history ts)) (flat_map option_to_list (each_yield (ups_of ts)))
yields-up ts h =
    subst (λ bits. Yields bits (flat_map option_to_list (each_yield (ups_of ts)))) (line_bits-up ts) (yields-past (ups_of ts) (are_periods ts h))

-- **What the search yields in a period are the yields that end in it.**
pub yield-ends : (who : Who) (ts : List CallPeriod) (ys : List Yield) (k : ℕ) → IsCallHistory ts → Yields (bits_of (call_of_history who ts).up) ys →
    k < periods (call_of_history who ts) →
    filter (ends_in k) ys ≡ option_to_list (yield_at (call_of_history who ts) k)
yield-ends who ts ys k h y l =
    let n = length-settings_of ts in
    let m = length-ups_of ts in
    let r = length-reverse (ups_of ts) in
    let all : flat_map option_to_list (each_yield (ups_of ts)) ≡ all_yields (reverse (ups_of ts)) =
    ap (λ us. flat_map option_to_list (each_yield us)) (sym (reverse-reverse (ups_of ts))) in
    ap (filter (ends_in k)) (same_yields (bits_of (up_in_history ts)) ys (flat_map option_to_list (each_yield (ups_of ts))) y (yields-up ts h.ups) ∙ all) ∙
    filter-yields (reverse (ups_of ts)) k (omega arith) ∙ ap (λ us. option_to_list (yield_in us k)) (sym (ups-read who ts h))
