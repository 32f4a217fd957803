-- What acts make of the histories of the calls.
use Rattle.std.proofs.Common.{◌≡◌, ◌≢◌, refl, sym, ap, ◌∙◌, subst, ℕ, ℤ, true, false, Option, Some, None, List, [], inl, inr}
use Rattle.std.specs.Prelude.{◌==◌, is_some}
use Rattle.std.specs.Option.{option_map}
use Rattle.std.proofs.lemmas.Bool.{cases_Bool, eqb-true, eq-eqb, ne_eqb, false≢true, true≢false}
use Rattle.trau_alaw.specs.declared.Law.{Law}
use Rattle.trau_orders.specs.declared.order.DtxMode.{DtxMode}
use Rattle.switchboard.specs.declared.act.Act.{Act}
use Rattle.switchboard.specs.declared.act.Act.TheVariants as act
use Rattle.switchboard.specs.Open.{partner_after}
use Rattle.call_leg.specs.Settings.{new_settings, with_level, with_mode, with_bridge, without_bridge}
use Rattle.call_leg.specs.Stands.{Stands}
use Rattle.call_leg.proofs.OrderLaws.{level-stands, mode-stands, begin-stands, end-stands, new-stands}
use Rattle.farm_rounds.specs.declared.tally.Tally.{Tally}
use Rattle.farm_rounds.specs.Calls.{Call, Kept, call_in, partner_in}
use Rattle.farm_rounds.specs.Acts.{new_call, bridged_call, parted_call, set_by, calls_after, IsOpen, ActFits, Applied}
use Rattle.farm_rounds.specs.Histories.{CallHistory, whose, CallStands, CallsStand, NoneWaits, NoneWaitsIn, set_now, histories_after, tally_of, kept_of}
use Rattle.farm_rounds.specs.Histories.{tallies_after}
use Rattle.farm_rounds.specs.Opens.{AreMutual}

-- ---- one call

-- a call that isn't there has no partner
closed_partner : (c : ℕ) (o : Option CallHistory) (x : Option Call) (p : Option ℕ) → is_some x ≡ false → CallStands c o x p → p ≡ None
closed_partner c None None p e h = h
closed_partner c (Some y) None p e h = absurd h
closed_partner c o (Some x) p e h = absurd (true≢false e)

-- a call that is bridged still stands for its periods
joins : (c b : ℕ) (o : Option CallHistory) (x : Option Call) (p : Option ℕ) → NoneWaits o → is_some x ≡ true → CallStands c o x p →
    CallStands c (option_map (set_now with_bridge) o) (option_map bridged_call x) (Some b)
joins c b None None p w t h = absurd (false≢true t)
joins c b None (Some x) p w t h = absurd h
joins c b (Some y) None p w t h = absurd h
joins c b (Some y) (Some x) p w t h = (h.0, begin-stands (whose c y) y.periods y.now x.leg w h.1, refl)

-- A call whose bridge is over stands for its periods without a bridge.
parts : (c : ℕ) (o : Option CallHistory) (x : Option Call) (p : Option ℕ) → is_some p ≡ true → CallStands c o x p →
    CallStands c (option_map (set_now without_bridge) o) (option_map parted_call x) None
parts c None None p t h = refl
parts c None (Some x) p t h = absurd h
parts c (Some y) None p t h = absurd h
parts c (Some y) (Some x) p t h = (h.0, end-stands (whose c y) y.periods y.now x.leg (h.2 ∙ t) h.1, refl)

-- A call whose level is set stands for its periods with that level.
sets_level : (c d : ℕ) (level : ℤ) (o : Option CallHistory) (x : Option Call) (p : Option ℕ) → CallStands c o x p →
    CallStands c (option_map (set_now (with_level level)) o) (option_map (set_by (act.LevelSet d level)) x) p
sets_level c d level None None p h = h
sets_level c d level None (Some x) p h = absurd h
sets_level c d level (Some y) None p h = absurd h
sets_level c d level (Some y) (Some x) p h = (h.0, level-stands (whose c y) y.periods y.now level x.leg h.1, h.2)

-- A call whose DTX mode is set stands for its periods with that mode.
sets_mode : (c d : ℕ) (mode : DtxMode) (o : Option CallHistory) (x : Option Call) (p : Option ℕ) → CallStands c o x p →
    CallStands c (option_map (set_now (with_mode mode)) o) (option_map (set_by (act.DtxSet d mode)) x) p
sets_mode c d mode None None p h = h
sets_mode c d mode None (Some x) p h = absurd h
sets_mode c d mode (Some y) None p h = absurd h
sets_mode c d mode (Some y) (Some x) p h = (h.0, mode-stands (whose c y) y.periods y.now mode x.leg h.1, h.2)

-- ---- all calls

module _ (h : ℕ → Option CallHistory) (ks : List Kept) (both : AreMutual ks) (s : CallsStand h ks) where
  at : (c d : ℕ) (P : ℕ → Type 0) → (d == c) ≡ true → P c → P d
  at c d P t p = subst P (sym (eqb-true d c t)) p

  abbrev Goal : Act → ℕ → Type 0
  Goal a d = CallStands d (histories_after a h d) (calls_after a (call_in ks) d) (partner_after a (partner_in ks) d)

  opened : (c : ℕ) (law : Law) → ActFits ks (act.Opened c law) → (d : ℕ) → Goal (act.Opened c law) d
  opened c law fits d = elim (cases_Bool (d == c)) [
    | inl t ↦
        let e = eqb-true d c t in
        let none : partner_in ks d ≡ None =
        at c d (λ n. partner_in ks n ≡ None) t (closed_partner c (h c) (call_in ks c) (partner_in ks c) fits.0 (s c)) in
        simp t (
          sym e,
          subst (λ (n : ℕ). Stands (record { number = d; law = law }) [] new_settings (new_call n law).leg) e
              (new-stands (record { number = d; law = law })),
          sym (ap is_some none),
        )
    | inr f ↦ simp f (s d)
  ]

  released : (c q : ℕ) → partner_in ks c ≡ Some q → (d : ℕ) → (d == c) ≡ false → Goal (act.Closed c (Some q)) d
  released c q e d f = elim (cases_Bool (d == q)) [
    | inl t ↦
        let back : partner_in ks d ≡ Some c = at q d (λ n. partner_in ks n ≡ Some c) t (both c q e).0 in
        simp (f, t) (parts d (h d) (call_in ks d) (partner_in ks d) (ap is_some back) (s d))
    | inr g ↦ simp (f, g) (s d)
  ]

  closed : (c : ℕ) (p : Option ℕ) → ActFits ks (act.Closed c p) → (d : ℕ) → Goal (act.Closed c p) d
  closed c None fits d = elim (cases_Bool (d == c)) [ inl t ↦ simp t refl | inr f ↦ simp f (s d) ]
  closed c (Some q) fits d = elim (cases_Bool (d == c)) [ inl t ↦ simp t refl | inr f ↦ released c q fits.0.1 d f ]

  joined_two : (a b : ℕ) → ActFits ks (act.Bridged a b) → NoneWaitsIn (act.Bridged a b) h → (d : ℕ) → Goal (act.Bridged a b) d
  joined_two a b fits w d = elim (cases_Bool (d == a)) [
    | inl t ↦
        let f : (d == b) ≡ false = ne_eqb d b (λ q. fits.0.0 (sym (eqb-true d a t) ∙ q)) in
        simp (t, f)
        (joins d b (h d) (call_in ks d) (partner_in ks d) (at a d (λ n. NoneWaits (h n)) t w.0) (at a d (λ n. IsOpen ks n) t fits.0.1.0) (s d))
    | inr f ↦ elim (cases_Bool (d == b)) [
      | inl t ↦
          simp (f, t)
          (joins d a (h d) (call_in ks d) (partner_in ks d) (at b d (λ n. NoneWaits (h n)) t w.1) (at b d (λ n. IsOpen ks n) t fits.0.1.1) (s d))
      | inr g ↦ simp (f, g) (s d)
    ]
  ]

  parted_two : (a b : ℕ) → ActFits ks (act.Unbridged a b) → (d : ℕ) → Goal (act.Unbridged a b) d
  parted_two a b fits d = elim (cases_Bool (d == a)) [
    | inl t ↦
        let f : (d == b) ≡ false = ne_eqb d b (λ q. (both a b fits.0).1 (sym (eqb-true d a t) ∙ q)) in
        simp (t, f) (parts d (h d) (call_in ks d) (partner_in ks d) (ap is_some (at a d (λ n. partner_in ks n ≡ Some b) t fits.0)) (s d))
    | inr f ↦ elim (cases_Bool (d == b)) [
      | inl t ↦
          simp (f, t)
          (parts d (h d) (call_in ks d) (partner_in ks d) (ap is_some (at b d (λ n. partner_in ks n ≡ Some a) t (both a b fits.0).0)) (s d))
      | inr g ↦ simp (f, g) (s d)
    ]
  ]

  by_act : (a : Act) → ActFits ks a → NoneWaitsIn a h → (d : ℕ) → Goal a d
  by_act (act.Opened c law) fits w d = opened c law fits d
  by_act (act.Closed c p) fits w d = closed c p fits d
  by_act (act.Bridged a b) fits w d = joined_two a b fits w d
  by_act (act.Unbridged a b) fits w d = parted_two a b fits d
  by_act (act.LevelSet c level) fits w d = elim (cases_Bool (d == c)) [
    | inl t ↦ simp t (sets_level d c level (h d) (call_in ks d) (partner_in ks d) (s d))
    | inr f ↦ simp f (s d)
  ]
  by_act (act.DtxSet c mode) fits w d = elim (cases_Bool (d == c)) [
    | inl t ↦ simp t (sets_mode d c mode (h d) (call_in ks d) (partner_in ks d) (s d))
    | inr f ↦ simp f (s d)
  ]

  pub stands_after : (a : Act) (now : List Kept) → ActFits ks a → NoneWaitsIn a h → Applied a ks now → CallsStand (histories_after a h) now
  stands_after a now fits w p d = rw (p.calls d, p.partners d) (by_act a fits w d)

-- ---- what is kept

-- an open call has a history
open_stands : (c : ℕ) (o : Option CallHistory) (x : Option Call) (p : Option ℕ) → is_some x ≡ true → CallStands c o x p →
    (y : CallHistory) × (m : Call) × (o ≡ Some y) × (x ≡ Some m) × Stands (whose c y) y.periods y.now m.leg
open_stands c None None p t h = absurd (false≢true t)
open_stands c None (Some x) p t h = absurd h
open_stands c (Some y) None p t h = absurd h
open_stands c (Some y) (Some x) p t h = (y, x, refl, refl, h.1)

-- a call with a history is open
history_stands : (c : ℕ) (o : Option CallHistory) (x : Option Call) (p : Option ℕ) (y : CallHistory) → o ≡ Some y → CallStands c o x p →
    (m : Call) × (x ≡ Some m) × Stands (whose c y) y.periods y.now m.leg
history_stands c o None p y e h = absurd (rw e at h)
history_stands c o (Some x) p y e h = let g = rw e at h in (x, refl, g.1)

-- a call that has had periods is open and stands for them
pub standing : (h : ℕ → Option CallHistory) (ks : List Kept) (c : ℕ) (y : CallHistory) → CallsStand h ks → h c ≡ Some y →
    (m : Call) × (call_in ks c ≡ Some m) × Stands (whose c y) y.periods y.now m.leg
standing h ks c y s e = history_stands c (h c) (call_in ks c) (partner_in ks c) y e (s c)

-- the tally of the call that ended
pub tallied : (h : ℕ → Option CallHistory) (ks : List Kept) (c : ℕ) (p : Option ℕ) (kept new : ℕ → Tally) → CallsStand h ks → IsOpen ks c →
    ((d : ℕ) → d ≢ c → new d ≡ kept d) →
    ((m : Call) (y : CallHistory) → call_in ks c ≡ Some m → Stands (whose c y) y.periods y.now m.leg → new c ≡ tally_of y.periods y.now) → (d : ℕ) →
    new d ≡ tallies_after (act.Closed c p) h kept d
tallied h ks c p kept new s o others this d = elim (cases_Bool (c == d)) [
  | inl t ↦ simp t (subst (λ (n : ℕ). new n ≡ kept_of (h n) (kept n)) (eqb-true c d t)
      (let r = open_stands c (h c) (call_in ks c) (partner_in ks c) o (s c) in this r.1 r.0 r.3 r.4
      ∙ sym (ap (λ (x : Option CallHistory). kept_of x (kept c)) r.2)))
  | inr f ↦ simp f (others d (λ q. false≢true (sym f ∙ eq-eqb c d (sym q))))
]
