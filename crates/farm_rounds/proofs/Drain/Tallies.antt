-- What is kept of the calls that end, call by call.
use Rattle.std.proofs.Common.{◌≡◌, ◌≢◌, refl, sym, ap, ◌∙◌, subst, ℕ, zero, suc, ◌+◌, ◌<◌, true, false, Bool, Option, Some, None, List, [], ◌∷◌, ◌++◌, length, take, get_or, arith, inl, inr}
use Rattle.std.specs.Prelude.{◌==◌, if◌then◌else◌}
use Rattle.std.specs.Option.{option_or}
use Rattle.std.specs.Global.{Box}
use Rattle.std.proofs.lemmas.Bool.{cases_Bool, eqb-true, eqb-false, ne_eqb}
use Rattle.std.proofs.lemmas.List.{take_more, map-append}
use Rattle.std.proofs.lemmas.List.Folds.{find-append}
use Rattle.call_leg.specs.Who.{Who}
use Rattle.call_leg.specs.Periods.{CallPeriod}
use Rattle.call_leg.specs.Settings.{Settings}
use Rattle.call_leg.specs.Stands.{Stands}
use Rattle.call_pair.specs.Phases.{leg_in}
use Rattle.farm_rounds.specs.Histories.{tally_of}
use Rattle.farm_rounds.specs.declared.open.OpenCall.{OpenCall}
use Rattle.farm_rounds.specs.declared.tally.Tally.{Tally}
use Rattle.farm_rounds.specs.Numbers.{IsRising}
use Rattle.farm_rounds.specs.Opens.{opens_in, goes_on_open}
use Rattle.farm_rounds.specs.Opened.{open_at, TallyAfter, TallyKept, that_ends}
use Rattle.farm_rounds.proofs.Places.Boxes.{at_read}
use Rattle.farm_rounds.proofs.Places.Found.{open_in}
use Rattle.farm_rounds.proofs.Places.Listed.{numbers_of, number_read, numbers_long}

-- ---- the first calls and one more

opens_more : (bs : List (Box OpenCall)) (k : ℕ) (b : Box OpenCall) → k < length bs →
    opens_in (take (k + 1) bs) ≡ opens_in (take k bs) ++ open_at bs k ∷ []
opens_more bs k b l =
    ap opens_in (take_more bs k b l) ∙ map-append (λ (x : Box OpenCall). x.value) (take k bs) (get_or bs k b ∷ [])
    ∙ ap (λ (o : OpenCall). opens_in (take k bs) ++ o ∷ []) (at_read bs k b l)

behind_it : (o : Option OpenCall) → option_or o None ≡ o
behind_it None = refl
behind_it (Some x) = refl

-- a number that none of the first calls has
none_before : (bs : List (Box OpenCall)) (k c : ℕ) → ((j : ℕ) → j < k → j < length bs → (open_at bs j).job.io.call ≢ c) →
    open_in (opens_in (take k bs)) c ≡ None
none_before [] zero c apart = refl
none_before [] (suc k) c apart = refl
none_before (b ∷ bs) zero c apart = refl
none_before (b ∷ bs) (suc k) c apart = rw (ne_eqb b.value.job.io.call c (apart 0 (omega arith) (omega arith)))
    (none_before bs k c (λ j lj l. apart (suc j) (omega (arith, lj)) (omega (arith, l))))

-- each call's number is one that no earlier call has
alone_so_far : (bs : List (Box OpenCall)) (k c : ℕ) → IsRising (numbers_of bs) → k < length bs →
    (open_at bs k).job.io.call ≡ c → open_in (opens_in (take k bs)) c ≡ None
alone_so_far bs k c rising l e = none_before bs k c (λ j lj within q. absurd (
    let rises = rising j k lj (omega (arith, numbers_long bs, l)) in
    let first = number_read bs j within in
    let second = number_read bs k l in
    omega (arith, rises, first, second, q, e)))

-- ---- what is kept

-- one call more: its own is kept where it ends, and every other's is as it was
pub tally_more : (bs : List (Box OpenCall)) (k c : ℕ) (b : Box OpenCall) (before was now : Tally) →
    IsRising (numbers_of bs) → k < length bs → TallyKept (opens_in (take k bs)) c before was →
    ((open_at bs k).job.io.call ≢ c → now ≡ was) →
    ((open_at bs k).job.io.call ≡ c → was ≡ before → TallyAfter (that_ends (Some (open_at bs k))) before now) →
    TallyKept (opens_in (take (k + 1) bs)) c before now
tally_more bs k c b before was now rising l kept other own =
    let o = open_at bs k in
    let first = open_in (opens_in (take k bs)) c in
    let found : open_in (opens_in (take (k + 1) bs)) c ≡ option_or first (if o.job.io.call == c then Some o else None) =
    ap (λ (os : List OpenCall). open_in os c) (opens_more bs k b l) ∙ find-append (λ (x : OpenCall). x.job.io.call == c) (opens_in (take k bs)) (o ∷ []) in
    elim (cases_Bool (o.job.io.call == c)) [
      | inl t ↦
          let e = eqb-true o.job.io.call c t in
          let none : first ≡ None = alone_so_far bs k c rising l e in
          let here : open_in (opens_in (take (k + 1) bs)) c ≡ Some o = found
          ∙ ap (λ (x : Option OpenCall). option_or x (if o.job.io.call == c then Some o else None)) none
          ∙ ap (λ (t : Bool). if t then Some o else None) t in
          subst (λ (x : Option OpenCall). TallyAfter (that_ends x) before now) (sym here)
          (own e (subst (λ (x : Option OpenCall). TallyAfter (that_ends x) before was) none kept))
      | inr f ↦
          let there : open_in (opens_in (take (k + 1) bs)) c ≡ first = found
          ∙ ap (λ (t : Bool). option_or first (if t then Some o else None)) f ∙ behind_it first in
          subst (λ (x : Option OpenCall). TallyAfter (that_ends x) before now) (sym there)
          (subst (λ (t : Tally). TallyAfter (that_ends first) before t) (sym (other (eqb-false o.job.io.call c f))) kept)
    ]

-- a call that goes on, and one that ends
pub tally_on : (o : OpenCall) (before now : Tally) → goes_on_open o ≡ true → now ≡ before → TallyAfter (that_ends (Some o)) before now
tally_on o before now e same = rw e same

pub tally_ended : (o : OpenCall) (before now : Tally) → goes_on_open o ≡ false →
    ((who : Who) (ts : List CallPeriod) (set : Settings) → Stands who ts set (leg_in o.job) → now ≡ tally_of ts set) → TallyAfter (that_ends (Some o)) before now
tally_ended o before now e ends = rw e ends
