-- An open call by its place and by its number.
use Rattle.std.proofs.Common.{◌≡◌, refl, sym, ap, ◌∙◌, subst, ℕ, zero, suc, ◌<◌, Option, Some, List, [], ◌∷◌, length, map, get_or, arith, inl, inr}
use Rattle.std.specs.Prelude.{◌==◌, is_some}
use Rattle.std.specs.Option.{option_map, option_and_then}
use Rattle.std.specs.List.{All}
use Rattle.std.specs.Global.{Box}
use Rattle.std.proofs.lemmas.Bool.{eqb-true, cases_Bool, false≢true}
use Rattle.std.proofs.lemmas.List.{length-map}
use Rattle.std.proofs.lemmas.List.Elements.{All-head, All-tail}
use Rattle.std.proofs.lemmas.Option.{same_Some}
use Rattle.call_number.specs.CallNumber.{IsCallNumber}
use Rattle.farm_rounds.specs.declared.open.OpenCall.{OpenCall}
use Rattle.farm_rounds.specs.Numbers.{IsRising}
use Rattle.farm_rounds.specs.Calls.{Call, Kept, kept_in, call_in, partner_in}
use Rattle.farm_rounds.specs.Acts.{no_kept, IsOpen}
use Rattle.farm_rounds.specs.Opens.{opens_in, kept_of, IsOpenCall}
use Rattle.farm_rounds.specs.Opened.{open_at}
use Rattle.farm_rounds.proofs.Places.Keyed.{IsFirst, kept_found}
use Rattle.farm_rounds.proofs.Orders.InPlace.{kept_read}
use Rattle.farm_rounds.proofs.Places.Boxes.{opens_long}
use Rattle.farm_rounds.proofs.Orders.Acts.{numbers_of}

-- what is seen at a place
pub number_read : (os : List OpenCall) (j : ℕ) → j < length os → (get_or (map kept_of os) j no_kept).call.number ≡ get_or (numbers_of os) j 0
number_read [] j l = absurd (omega arith)
number_read (o ∷ os) zero l = refl
number_read (o ∷ os) (suc j) l = number_read os j (omega arith)

pub listed_long : (live : List ℕ) (os : List OpenCall) → live ≡ numbers_of os → length live ≡ length os
listed_long live os e = ap length e ∙ length-map os (λ (o : OpenCall). o.job.io.call)

pub listed_at : (live : List ℕ) (os : List OpenCall) (j : ℕ) → live ≡ numbers_of os → j < length live →
    (get_or (map kept_of os) j no_kept).call.number ≡ get_or live j 0
listed_at live os j e l = number_read os j (omega (arith, l, listed_long live os e)) ∙ sym (ap (λ (ns : List ℕ). get_or ns j 0) e)

-- no earlier place has the number
first_there : (live : List ℕ) (os : List OpenCall) (k c : ℕ) → live ≡ numbers_of os → IsRising live → k < length live → get_or live k 0 ≡ c →
    IsFirst (map kept_of os) k c
first_there live os k c e rising l own j lj q =
    let lower = rising j k lj l in
    let same = listed_at live os j e (omega (arith, lj, l)) in
    absurd (omega (arith, lower, same, q, own))

-- the call at a number's place is the one with the number
pub found_at : (live : List ℕ) (os : List OpenCall) (k c : ℕ) → live ≡ numbers_of os → IsRising live → k < length live → get_or live k 0 ≡ c →
    kept_in (map kept_of os) c ≡ Some (get_or (map kept_of os) k no_kept)
found_at live os k c e rising l own =
    kept_found (map kept_of os) k c (omega (arith, l, listed_long live os e, length-map os kept_of)) (listed_at live os k e l ∙ own)
    (first_there live os k c e rising l own)

pub call_at : (live : List ℕ) (bs : List (Box OpenCall)) (k c : ℕ) → live ≡ numbers_of (opens_in bs) → IsRising live → k < length live →
    get_or live k 0 ≡ c → kept_in (map kept_of (opens_in bs)) c ≡ Some (kept_of (open_at bs k))
call_at live bs k c e rising l own =
    found_at live (opens_in bs) k c e rising l own
    ∙ ap Some (kept_read bs k (omega (arith, l, listed_long live (opens_in bs) e, opens_long bs)))

-- whether it has a partner
pub paired_at : (live : List ℕ) (bs : List (Box OpenCall)) (k c : ℕ) (o : OpenCall) →
    live ≡ numbers_of (opens_in bs) → IsRising live → k < length live → get_or live k 0 ≡ c → o ≡ open_at bs k →
    is_some o.partner ≡ is_some (partner_in (map kept_of (opens_in bs)) c)
paired_at live bs k c o e rising l own read =
    ap (λ (x : OpenCall). is_some x.partner) read
    ∙ sym (ap (λ (x : Option Kept). is_some (option_and_then (λ (y : Kept). y.partner) x)) (call_at live bs k c e rising l own))

-- its leg
pub leg_found : (ks : List Kept) (c : ℕ) (k : Kept) (x : Call) → kept_in ks c ≡ Some k → call_in ks c ≡ Some x → x.leg ≡ k.call.leg
leg_found ks c k x e f = ap (λ (y : Call). y.leg) (same_Some x k.call (sym f ∙ ap (option_map (λ y. y.call)) e))

-- an open call has a number of calls
pub open_number : (most : ℕ) (os : List OpenCall) (c : ℕ) → All (IsOpenCall most) os → IsOpen (map kept_of os) c → IsCallNumber c
open_number most [] c all isopen = absurd (false≢true isopen)
open_number most (o ∷ os) c all isopen = elim (cases_Bool (o.job.io.call == c)) [
  | inl t ↦ subst IsCallNumber (eqb-true o.job.io.call c t) (All-head (IsOpenCall most) o os all).number
  | inr f ↦ open_number most os c (All-tail (IsOpenCall most) o os all) (simp f at isopen)
]
