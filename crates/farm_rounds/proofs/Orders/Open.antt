-- A call that is opened stands where its number belongs.
use Rattle.std.proofs.Common.{◌≡◌, refl, sym, ap, ◌∙◌, subst, ℕ, ◌<◌, ◌≤◌, Bool, false, Option, Some, None, List, length, map, get_or, arith, inl, inr}
use Rattle.std.specs.Prelude.{◌==◌, if◌then◌else◌, is_some}
use Rattle.std.specs.Option.{option_map, option_and_then}
use Rattle.std.specs.List.{insert}
use Rattle.std.proofs.lemmas.Bool.{eqb-true, cases_Bool, true≢false}
use Rattle.std.proofs.lemmas.List.{length-map}
use Rattle.trau_alaw.specs.declared.Law.{Law}
use Rattle.switchboard.specs.declared.act.Act.TheVariants as act
use Rattle.call_number.specs.CallNumber.{IsCallNumber}
use Rattle.farm_rounds.specs.declared.open.OpenCall.{OpenCall}
use Rattle.farm_rounds.specs.Calls.{Kept, kept_in, call_in, partner_in}
use Rattle.farm_rounds.specs.Acts.{new_call, put_at, is_open_in, ActFits, Applied}
use Rattle.farm_rounds.specs.Opens.{kept_of, new_open, IsOpenCall, AreOpen}
use Rattle.farm_rounds.proofs.Places.Keyed.{eqb-sym}
use Rattle.farm_rounds.proofs.Places.Rising.{rising-insert}
use Rattle.farm_rounds.proofs.Orders.Acts.{numbers_of}
use Rattle.farm_rounds.proofs.Places.Placed.{listed_long, listed_at}
use Rattle.farm_rounds.proofs.Orders.ByNumber.{insert_map, insert_all, kept_insert}
use Rattle.farm_rounds.proofs.Orders.Partners.{mutual_after}

-- a call that isn't open has no partner
alone : (o : Option Kept) → is_some (option_map (λ k. k.call) o) ≡ false → option_and_then (λ k. k.partner) o ≡ None
alone None e = refl
alone (Some k) e = absurd (true≢false e)

new_sound : (most c : ℕ) (law : Law) → IsCallNumber c → IsOpenCall most (new_open c law)
new_sound most c law n = record { number = n; lines = refl; worked = omega arith; first = refl; none = refl; up = refl; down = refl }

module _ (live : List ℕ) (os : List OpenCall) (k call : ℕ) (law : Law) (e : live ≡ numbers_of os) (fits : ActFits (map kept_of os) (act.Opened call law))
    (l : k ≤ length live) (below : (j : ℕ) → j < k → get_or live j 0 < call) where
  abbrev new : OpenCall
  new = new_open call law

  found : (c : ℕ) → kept_in (map kept_of (insert os k new)) c ≡ (if c == call then Some (kept_of new) else kept_in (map kept_of os) c)
  found c =
      ap (λ (ks : List Kept). kept_in ks c) (insert_map kept_of os k new)
      ∙ kept_insert (map kept_of os) k (kept_of new) c (omega (arith, l, listed_long live os e, length-map os kept_of))
      (λ j lj q. absurd (let less = below j lj in let same = listed_at live os j e (omega (arith, lj, l)) in omega (arith, less, same, q)))
      ∙ ap (λ (b : Bool). if b then Some (kept_of new) else kept_in (map kept_of os) c) (eqb-sym call c)

  partners : (c : ℕ) → partner_in (map kept_of (insert os k new)) c ≡ partner_in (map kept_of os) c
  partners c = ap (option_and_then (λ k. k.partner)) (found c) ∙ elim (cases_Bool (c == call)) [
    | inl t ↦
        simp t (sym (alone (kept_in (map kept_of os) c) (subst (λ (n : ℕ). is_open_in (map kept_of os) n ≡ false) (sym (eqb-true c call t)) fits.0)))
    | inr f ↦ simp f refl
  ]

  calls : (c : ℕ) → call_in (map kept_of (insert os k new)) c ≡ put_at call (Some (new_call call law)) (call_in (map kept_of os)) c
  calls c = ap (option_map (λ k. k.call)) (found c) ∙ elim (cases_Bool (c == call)) [ inl t ↦ simp t refl | inr f ↦ simp f refl ]

  pub opened_applied : Applied (act.Opened call law) (map kept_of os) (map kept_of (insert os k new))
  opened_applied = record { calls = calls; partners = partners }

  pub opened_sound : ((j : ℕ) → k ≤ j → j < length live → call < get_or live j 0) → (most : ℕ) → AreOpen most live os →
      AreOpen most (insert live k call) (insert os k new)
  opened_sound above most s = record {
    listed = ap (λ (ns : List ℕ). insert ns k call) e ∙ sym (insert_map (λ (o : OpenCall). o.job.io.call) os k new);
    rising = rising-insert live k call s.rising l below above;
    each = insert_all (IsOpenCall most) os k new s.each (new_sound most call law fits.1);
    both = mutual_after (act.Opened call law) (map kept_of os) (map kept_of (insert os k new)) fits s.both opened_applied;
  }
