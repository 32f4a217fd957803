-- A round that is worked, where the marks of the calls' outgoing lines have changed and nothing else.
use Rattle.std.proofs.Common.{◌≡◌, refl, sym, ap, ◌∙◌, subst, ℕ, ◌<◌, Bool, Option, Some, None, List, length, map, get_or, arith}
use Rattle.std.specs.Prelude.{◌==◌, ◌&&◌}
use Rattle.std.specs.Option.{option_map}
use Rattle.std.specs.List.{All, list_any}
use Rattle.std.proofs.lemmas.List.{length-map, get_or-map}
use Rattle.std.proofs.lemmas.Simd.{map-map}
use Rattle.call_leg.specs.Stands.{Stands}
use Rattle.round_lines.specs.Portions.{PortionMemory}
use Rattle.round_lines.specs.Rounds.{Rising}
use Rattle.farm_rounds.specs.declared.open.OpenCall.{OpenCall}
use Rattle.farm_rounds.specs.Calls.{Kept, call_in, partner_in}
use Rattle.farm_rounds.specs.Numbers.{IsRising}
use Rattle.farm_rounds.specs.Opens.{kept_of, portion_of_open, same_call}
use Rattle.farm_rounds.specs.Opened.{HasBuffers}
use Rattle.farm_rounds.specs.Histories.{CallHistory, whose}
use Rattle.farm_rounds.specs.Settling.{goes_on_in}
use Rattle.farm_rounds.specs.Working.{IsWorkedCall, IsWorkedRound, StaysBridged, goes_on_call}
use Rattle.farm_rounds.specs.RoundHistories.{WorkedCall}
use Rattle.farm_rounds.proofs.Places.Found.{number_of, open_in, kept_by}
use Rattle.farm_rounds.proofs.Places.Numbered.{found_map, any_map}
use Rattle.farm_rounds.proofs.Drain.Farm.{call_of, partner_of, own}
use Rattle.farm_rounds.proofs.Work.Portions.{portions_rising}

-- ---- one call

partner_marked : (o p : Option OpenCall) → option_map same_call o ≡ option_map same_call p →
    partner_of (option_map kept_of o) ≡ partner_of (option_map kept_of p)
partner_marked None None e = refl
partner_marked None (Some y) e = absurd (cc)
partner_marked (Some x) None e = absurd (cc)
partner_marked (Some x) (Some y) e = let same : same_call x ≡ same_call y = cc in ap (λ (o : OpenCall). o.partner) same

-- it stands for the same periods
stands_marked : (stays : ℕ → Bool) (c : ℕ) (h : Option CallHistory) (o q : Option OpenCall)
    (p : Option ℕ) → option_map same_call o ≡ option_map same_call q → WorkedCall stays c h (call_of (option_map kept_of q)) p →
    WorkedCall stays c h (call_of (option_map kept_of o)) p
stands_marked stays c None None None p e w = w
stands_marked stays c None None (Some z) p e w = absurd w
stands_marked stays c None (Some y) None p e w = absurd (cc)
stands_marked stays c None (Some y) (Some z) p e w = absurd w
stands_marked stays c (Some t) None None p e w = absurd w
stands_marked stays c (Some t) None (Some z) p e w = absurd (cc)
stands_marked stays c (Some t) (Some y) None p e w = absurd w
stands_marked stays c (Some t) (Some y) (Some z) p e w =
    let same : same_call y ≡ same_call z = cc in (
      ap (λ (o : OpenCall). o.job.io.call) same ∙ w.0,
      subst (λ (o : OpenCall). Stands (whose c t) t.periods t.now (kept_of o).call.leg) (sym same) w.1,
      w.2,
    )

-- ---- all calls

-- what doesn't look at the marks is the same
module _ (opens now : List OpenCall) (same : map same_call now ≡ map same_call opens) where
  pub same_map : {Y : Type 0} (f : OpenCall → Y) → map (λ o. f (same_call o)) now ≡ map (λ o. f (same_call o)) opens
  same_map f = sym (map-map f same_call now) ∙ ap (λ (os : List OpenCall). map f os) same ∙ map-map f same_call opens

  same_all : (P : OpenCall → Type 0) → All (λ o. P (same_call o)) opens → All (λ o. P (same_call o)) now
  same_all P all k d l =
      let many : length now ≡ length opens = sym (length-map now same_call) ∙ ap length same ∙ length-map opens same_call in
      let there : k < length opens = omega (arith, l, many) in
      subst P
      (sym (get_or-map same_call opens k d (same_call d) there) ∙ ap (λ (os : List OpenCall). get_or os k (same_call d)) (sym same)
      ∙ get_or-map same_call now k d (same_call d) l) (all k d there)

  same_found : (c : ℕ) → option_map same_call (open_in now c) ≡ option_map same_call (open_in opens c)
  same_found c =
      sym (found_map (λ (o : OpenCall). number_of o == c) same_call now) ∙ ap (λ (os : List OpenCall). open_in os c) same
      ∙ found_map (λ (o : OpenCall). number_of o == c) same_call opens

  -- the same calls go on
  pub same_going : goes_on_call (map portion_of_open now) ≡ goes_on_call (map portion_of_open opens)
  same_going = λ i. λ c. at c i where
    at : (c : ℕ) → goes_on_call (map portion_of_open now) c ≡ goes_on_call (map portion_of_open opens) c
    at c =
        let test : PortionMemory → Bool = λ s. (s.lines.call == c) && goes_on_in s in
        any_map test portion_of_open now ∙ sym (any_map (λ (o : OpenCall). test (portion_of_open o)) same_call now)
        ∙ ap (λ (os : List OpenCall). list_any (λ (o : OpenCall). test (portion_of_open o)) os) same
        ∙ any_map (λ (o : OpenCall). test (portion_of_open o)) same_call opens ∙ sym (any_map test portion_of_open opens)

  -- the calls have the same partners
  pub same_partners : partner_in (map kept_of now) ≡ partner_in (map kept_of opens)
  same_partners = λ i. λ c. at c i where
    at : (c : ℕ) → partner_in (map kept_of now) c ≡ partner_in (map kept_of opens) c
    at c =
        ap partner_of (kept_by now c)
        ∙ partner_marked (open_in now c) (open_in opens c) (same_found c)
        ∙ sym (ap partner_of (kept_by opens c))

  -- the round is still a processed one
  pub still_worked : (most : ℕ) (live : List ℕ) → IsWorkedRound most live opens → IsWorkedRound most live now
  still_worked most live w = record {
    listed = w.listed ∙ sym (same_map number_of);
    rising = w.rising;
    each =
        λ k d l.
        let there =
        same_all (IsWorkedCall most)
        (λ i e m. let x = w.each i e m in record { number = x.number; lines = x.lines; worked = x.worked; fits = x.fits }) k d l in
        record { number = there.number; lines = there.lines; worked = there.worked; fits = there.fits };
    both = λ c d e. let m = w.both c d (sym (ap (λ (f : ℕ → Option ℕ). f c) same_partners) ∙ e) in (ap (λ (f : ℕ → Option ℕ). f d) same_partners ∙ m.0, m.1);
    bridged =
        subst (λ (stays : ℕ → Bool). All (StaysBridged stays) now) (sym same_going) (same_all (StaysBridged (goes_on_call (map portion_of_open opens))) w.bridged);
  }

  -- its calls stand for the same periods
  pub still_stand : (h : ℕ → Option CallHistory) →
      ((c : ℕ) → WorkedCall (goes_on_call (map portion_of_open opens)) c (h c) (call_in (map kept_of opens) c) (partner_in (map kept_of opens) c)) →
      (c : ℕ) → WorkedCall (goes_on_call (map portion_of_open now)) c (h c) (call_in (map kept_of now) c) (partner_in (map kept_of now) c)
  still_stand h stand c =
      subst (λ (f : ℕ → Bool). WorkedCall f c (h c) (call_in (map kept_of now) c) (partner_in (map kept_of now) c)) (sym same_going)
      (subst (λ (p : ℕ → Option ℕ). WorkedCall (goes_on_call (map portion_of_open opens)) c (h c) (call_in (map kept_of now) c) (p c)) (sym same_partners)
      (subst (λ (k : Option Kept). WorkedCall (goes_on_call (map portion_of_open opens)) c (h c) (call_of k) (partner_in (map kept_of opens) c))
      (sym (kept_by now c))
      (stands_marked (goes_on_call (map portion_of_open opens)) c (h c) (open_in now c) (open_in opens c) (partner_in (map kept_of opens) c) (same_found c)
      (subst (λ (k : Option Kept). WorkedCall (goes_on_call (map portion_of_open opens)) c (h c) (call_of k) (partner_in (map kept_of opens) c))
      (kept_by opens c) (stand c)))))

-- the calls' buffers have the round's length
pub buffered : (most : ℕ) (live : List ℕ) (opens : List OpenCall) → IsWorkedRound most live opens → All HasBuffers opens
buffered most live opens w k d l = (w.each k d l).fits

-- the calls' portions rise
pub portions_rise : (most : ℕ) (live : List ℕ) (opens : List OpenCall) → IsWorkedRound most live opens → Rising (map portion_of_open opens)
portions_rise most live opens w = portions_rising opens (subst IsRising w.listed w.rising) (own most live opens w)
