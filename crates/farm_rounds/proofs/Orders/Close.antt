-- A call that ends goes, and its partner goes on alone.
use Rattle.std.proofs.Common.{◌≡◌, ◌≢◌, refl, sym, ap, ◌∙◌, subst, ℕ, ◌<◌, Bool, Option, Some, None, List, length, map, get_or, arith, inl, inr}
use Rattle.std.specs.Prelude.{◌==◌, if◌then◌else◌}
use Rattle.std.specs.Option.{option_map, option_and_then}
use Rattle.std.specs.List.{All, remove}
use Rattle.std.proofs.lemmas.Bool.{ne_eqb, cases_Bool, cases_order}
use Rattle.std.proofs.lemmas.List.{length-map}
use Rattle.switchboard.specs.declared.act.Act.TheVariants as act
use Rattle.switchboard.specs.Calls.{is_this}
use Rattle.switchboard.specs.Open.{partner_without_both}
use Rattle.farm_rounds.specs.declared.open.OpenCall.{OpenCall}
use Rattle.farm_rounds.specs.Numbers.{IsRising}
use Rattle.farm_rounds.specs.Calls.{Kept, kept_in, call_in, partner_in}
use Rattle.farm_rounds.specs.Acts.{put_at, change_partner, parted_call, IsOpen, Applied}
use Rattle.farm_rounds.specs.Opens.{kept_of, IsOpenCall, AreOpen, AreMutual}
use Rattle.farm_rounds.specs.Opened.{IsReleased}
use Rattle.farm_rounds.proofs.Places.Rising.{rising-remove}
use Rattle.farm_rounds.proofs.Places.Keyed.{eqb-sym}
use Rattle.farm_rounds.proofs.Orders.Acts.{numbers_of, calls_changed, partners_put}
use Rattle.farm_rounds.proofs.Orders.ByNumber.{remove_map, remove_all, kept_remove, IsAlone}
use Rattle.farm_rounds.proofs.Places.Placed.{listed_long, listed_at}
use Rattle.farm_rounds.proofs.Orders.Partners.{mutual_after, partner_open}

-- ---- the partner goes on alone

released_calls : (p : Option ℕ) (before now : List OpenCall) → IsReleased p before now → (d : ℕ) →
    call_in (map kept_of now) d ≡ change_partner p parted_call (call_in (map kept_of before)) d
released_calls None before now e d = ap (λ (os : List OpenCall). call_in (map kept_of os) d) e
released_calls (Some q) before now m d = calls_changed q _ before now m parted_call (λ k. refl) d

released_partners : (p : Option ℕ) (before now : List OpenCall) →
    ((q : ℕ) → p ≡ Some q → IsOpen (map kept_of before) q) → IsReleased p before now → (d : ℕ) → partner_in (map kept_of now) d
    ≡ (if is_this d p then None else partner_in (map kept_of before) d)
released_partners None before now isopen e d = ap (λ (os : List OpenCall). partner_in (map kept_of os) d) e
released_partners (Some q) before now isopen m d = partners_put q _ before now m None (λ k. refl) (isopen q refl) d

pub released_numbers : (p : Option ℕ) (before now : List OpenCall) → IsReleased p before now → numbers_of now ≡ numbers_of before
released_numbers None before now e = ap numbers_of e
released_numbers (Some q) before now m = m.numbers

released_each : (p : Option ℕ) (before now : List OpenCall) → IsReleased p before now → (most : ℕ) →
    All (IsOpenCall most) before → All (IsOpenCall most) now
released_each None before now e most all = subst (All (IsOpenCall most)) (sym e) all
released_each (Some q) before now m most all = m.each most all

-- the call itself is as it was
released_other : (p : Option ℕ) (c : ℕ) (before now : List OpenCall) → ((q : ℕ) → p ≡ Some q → c ≢ q) → IsReleased p before now →
    kept_in (map kept_of now) c ≡ kept_in (map kept_of before) c
released_other None c before now apart e = ap (λ (os : List OpenCall). kept_in (map kept_of os) c) e
released_other (Some q) c before now apart m = m.calls c ∙ rw (ne_eqb c q (apart q refl)) refl

-- ---- the call goes

-- a rising list has a number once
alone_at : (live : List ℕ) (os : List OpenCall) (k : ℕ) → live ≡ numbers_of os → IsRising live → k < length live → IsAlone (map kept_of os) k
alone_at live os k e rising l j lj ne q =
    let long = listed_long live os e in
    let inside : j < length live = omega (arith, lj, long, length-map os kept_of) in
    let mine = listed_at live os k e l in
    let other = listed_at live os j e inside in
    elim (cases_order j k) [
      | inl s ↦ ne s
      | inr (inl less) ↦ absurd (let r = rising j k less l in omega (arith, r, mine, other, q))
      | inr (inr more) ↦ absurd (let r = rising k j more inside in omega (arith, r, mine, other, q))
    ]

module _ (live : List ℕ) (k call : ℕ) (l : k < length live) (own : get_or live k 0 ≡ call) (before mid : List OpenCall)
    (e : live ≡ numbers_of before) (rising : IsRising live) (both : AreMutual (map kept_of before))
    (free : IsReleased (partner_in (map kept_of before) call) before mid) where
  abbrev p : Option ℕ
  p = partner_in (map kept_of before) call

  same : live ≡ numbers_of mid
  same = e ∙ sym (released_numbers p before mid free)

  gone : (c : ℕ) → kept_in (map kept_of (remove mid k)) c ≡ (if c == call then None else kept_in (map kept_of mid) c)
  gone c =
      ap (λ (ks : List Kept). kept_in ks c) (remove_map kept_of mid k)
      ∙ kept_remove (map kept_of mid) k c (omega (arith, l, listed_long live mid same, length-map mid kept_of)) (alone_at live mid k same rising l)
      ∙ ap (λ (n : ℕ). if n == c then None else kept_in (map kept_of mid) c) (listed_at live mid k same l ∙ own)
      ∙ ap (λ (b : Bool). if b then None else kept_in (map kept_of mid) c) (eqb-sym call c)

  partner_there : (q : ℕ) → p ≡ Some q → IsOpen (map kept_of before) q
  partner_there q s = partner_open (map kept_of before) q call (both call q s).0

  calls : (c : ℕ) → call_in (map kept_of (remove mid k)) c ≡ put_at call None (change_partner p parted_call (call_in (map kept_of before))) c
  calls c = ap (option_map (λ k. k.call)) (gone c) ∙ elim (cases_Bool (c == call)) [
    | inl t ↦ simp t refl
    | inr f ↦ simp f (released_calls p before mid free c)
  ]

  partners : (c : ℕ) → partner_in (map kept_of (remove mid k)) c ≡ partner_without_both call p (partner_in (map kept_of before)) c
  partners c = ap (option_and_then (λ k. k.partner)) (gone c) ∙ elim (cases_Bool (c == call)) [
    | inl t ↦ simp t refl
    | inr f ↦ simp f (released_partners p before mid partner_there free c)
  ]

  pub ended_applied : Applied (act.Closed call p) (map kept_of before) (map kept_of (remove mid k))
  ended_applied = record { calls = calls; partners = partners }

  pub ended_sound : IsOpen (map kept_of before) call → (most : ℕ) → AreOpen most live before → AreOpen most (remove live k) (remove mid k)
  ended_sound isopen most s = record {
    listed = ap (λ (ns : List ℕ). remove ns k) same ∙ sym (remove_map (λ (o : OpenCall). o.job.io.call) mid k);
    rising = rising-remove live k rising l;
    each = remove_all (IsOpenCall most) mid k (released_each p before mid free most s.each);
    both = mutual_after (act.Closed call p) (map kept_of before) (map kept_of (remove mid k)) ((isopen, refl), tt) both ended_applied;
  }

  -- what is seen of the call that ended is what was seen before
  pub ended_same : kept_in (map kept_of mid) call ≡ kept_in (map kept_of before) call
  ended_same = released_other p call before mid (λ q s. (both call q s).1) free
