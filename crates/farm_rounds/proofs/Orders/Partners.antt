-- Bridges between two calls stay so whatever is done by an act.
use Rattle.std.proofs.Common.{◌≡◌, ◌≢◌, refl, sym, ap, ◌∙◌, ℕ, true, Option, Some, None, List, map, inl, inr}
use Rattle.std.specs.Prelude.{◌==◌, is_some}
use Rattle.std.specs.Option.{option_map, option_and_then}
use Rattle.std.specs.List.{All}
use Rattle.std.proofs.lemmas.Bool.{eqb-true, eq-eqb, ne_eqb, cases_Bool, false≢true}
use Rattle.std.proofs.lemmas.Option.{same_Some}
use Rattle.switchboard.specs.declared.act.Act.{Act}
use Rattle.switchboard.specs.declared.act.Act.TheVariants as act
use Rattle.farm_rounds.specs.declared.open.OpenCall.{OpenCall}
use Rattle.farm_rounds.specs.Calls.{Kept, kept_in, partner_in}
use Rattle.switchboard.specs.Open.{partner_after, partner_without_both}
use Rattle.farm_rounds.specs.Acts.{put_at, parted_call, IsOpen, ActFits, Applied}
use Rattle.farm_rounds.specs.Opens.{kept_of, IsOpenCall, AreOpen, AreMutual}
use Rattle.farm_rounds.specs.Opened.{IsChanged}
use Rattle.farm_rounds.proofs.Orders.Acts.{kept_with, partners_put}

-- each partner of these is another, whose partner it is
abbrev AreBoth : (ℕ → Option ℕ) → Type 0
AreBoth f = (c d : ℕ) → f c ≡ Some d → (f d ≡ Some c) × (c ≢ d)

-- a call that has a partner is open
paired_open : (o : Option Kept) (d : ℕ) → option_and_then (λ k. k.partner) o ≡ Some d → is_some (option_map (λ k. k.call) o) ≡ true
paired_open None d e = absurd (none e)
  where
    none : None ≡ Some d → ⊥
    none e = cc
paired_open (Some k) d e = refl

pub partner_open : (ks : List Kept) (c d : ℕ) → partner_in ks c ≡ Some d → IsOpen ks c
partner_open ks c d e = paired_open (kept_in ks c) d e

put_other : (c d : ℕ) (p : Option ℕ) (f : ℕ → Option ℕ) → c ≢ d → put_at c p f d ≡ f d
put_other c d p f ne = simp (ne_eqb d c (λ s. ne (sym s))) refl

-- once the bridge of a call is over, its partner still has it
pub still_paired : (a b : ℕ) (before mid : List OpenCall) → partner_in (map kept_of before) a ≡ Some b →
    (partner_in (map kept_of before) b ≡ Some a) × (a ≢ b) → IsChanged a (λ k. kept_with (parted_call k.call) None) before mid →
    is_some (partner_in (map kept_of mid) b) ≡ true
still_paired a b before mid e back m =
    ap is_some
    (partners_put a (λ k. kept_with (parted_call k.call) None) before mid m None (λ k. refl) (partner_open (map kept_of before) a b e) b
    ∙ put_other a b None (partner_in (map kept_of before)) back.1 ∙ back.0)

none_some : {d : ℕ} → None ≡ Some d → ⊥
none_some e = cc

-- two that were bridged, or one that had no partner, have none
both_parted : (f : ℕ → Option ℕ) (a b : ℕ) → AreBoth f → f a ≡ Some b → AreBoth (partner_without_both a (Some b) f)
both_parted f a b both e c d q = elim (cases_Bool (c == a)) [
  | inl t ↦ absurd (none_some (let r = simp t at q in r))
  | inr n ↦ elim (cases_Bool (c == b)) [
    | inl t ↦ absurd (none_some (let r = simp (n, t) at q in r))
    | inr m ↦
        let r : f c ≡ Some d = simp (n, m) at q in
        let back = both c d r in
        let na : d ≢ a = λ s. absurd (false≢true (sym m ∙ eq-eqb c b (same_Some c b (sym back.0 ∙ ap f s ∙ e)))) in
        let nb : d ≢ b = λ s. absurd (false≢true (sym n ∙ eq-eqb c a (same_Some c a (sym back.0 ∙ ap f s ∙ (both a b e).0)))) in
        (simp (ne_eqb d a na, ne_eqb d b nb) back.0, back.1)
  ]
]

both_alone : (f : ℕ → Option ℕ) (a : ℕ) → AreBoth f → f a ≡ None → AreBoth (partner_without_both a None f)
both_alone f a both e c d q = elim (cases_Bool (c == a)) [
  | inl t ↦ absurd (none_some (let r = simp t at q in r))
  | inr n ↦
      let r : f c ≡ Some d = simp n at q in
      let back = both c d r in
      let na : d ≢ a = λ s. absurd (none_some (sym e ∙ ap f (sym s) ∙ back.0)) in
      (simp (ne_eqb d a na) back.0, back.1)
]

-- two that had none have each other
both_joined : (f : ℕ → Option ℕ) (a b : ℕ) → AreBoth f → a ≢ b → f a ≡ None → f b ≡ None → AreBoth (put_at a (Some b) (put_at b (Some a) f))
both_joined f a b both apart ea eb c d q = elim (cases_Bool (c == a)) [
  | inl t ↦
      let ca = eqb-true c a t in
      let r : Some b ≡ Some d = simp t at q in
      let bd = same_Some b d r in
      (simp (ne_eqb d a (λ s. apart (sym s ∙ sym bd)), eq-eqb d b (sym bd)) (ap Some (sym ca)), λ s. apart (sym ca ∙ s ∙ sym bd))
  | inr n ↦ elim (cases_Bool (c == b)) [
    | inl t ↦
        let cb = eqb-true c b t in
        let r : Some a ≡ Some d = simp (n, t) at q in
        let ad = same_Some a d r in
        (simp (eq-eqb d a (sym ad)) (ap Some (sym cb)), λ s. apart (ad ∙ sym s ∙ cb))
    | inr m ↦
        let r : f c ≡ Some d = simp (n, m) at q in
        let back = both c d r in
        let na : d ≢ a = λ s. absurd (none_some (sym ea ∙ ap f (sym s) ∙ back.0)) in
        let nb : d ≢ b = λ s. absurd (none_some (sym eb ∙ ap f (sym s) ∙ back.0)) in
        (simp (ne_eqb d a na, ne_eqb d b nb) back.0, back.1)
  ]
]

both_closed : (f : ℕ → Option ℕ) (c : ℕ) (p : Option ℕ) → AreBoth f → f c ≡ p → AreBoth (partner_without_both c p f)
both_closed f c None both e = both_alone f c both e
both_closed f c (Some q) both e = both_parted f c q both e

both_after : (a : Act) (ks : List Kept) → ActFits ks a → AreMutual ks → AreBoth (partner_after a (partner_in ks))
both_after (act.Opened c law) ks fits both = both
both_after (act.Closed c p) ks fits both = both_closed (partner_in ks) c p both fits.0.1
both_after (act.Bridged a b) ks fits both = both_joined (partner_in ks) a b both fits.0.0 fits.0.2.0 fits.0.2.1
both_after (act.Unbridged a b) ks fits both = both_parted (partner_in ks) a b both fits.0
both_after (act.LevelSet c level) ks fits both = both
both_after (act.DtxSet c mode) ks fits both = both

-- by what an act has made of the calls
pub mutual_after : (a : Act) (before now : List Kept) → ActFits before a → AreMutual before → Applied a before now → AreMutual now
mutual_after a before now fits both p c d e =
    let back = both_after a before fits both c d (sym (p.partners c) ∙ e) in
    (p.partners d ∙ back.0, back.1)

-- **The calls are sound after an act that opens none and ends none.**
pub sound_after : (most : ℕ) (live : List ℕ) (a : Act) (before now : List OpenCall) → ActFits (map kept_of before) a → AreOpen most live before →
    Applied a (map kept_of before) (map kept_of now) → map (λ (o : OpenCall). o.job.io.call) now ≡ map (λ (o : OpenCall). o.job.io.call) before →
    All (IsOpenCall most) now → AreOpen most live now
sound_after most live a before now fits k p same each = record {
  listed = k.listed ∙ sym same;
  rising = k.rising;
  each = each;
  both = mutual_after a (map kept_of before) (map kept_of now) fits k.both p;
}
