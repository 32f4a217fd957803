-- What acts make of the calls and of their partners.
use Rattle.std.proofs.Common.{◌≡◌, ◌≢◌, refl, sym, ap, ◌∙◌, subst, ℕ, ℤ, ◌<◌, Bool, true, false, ◌||◌, Option, Some, None, List, [], ◌∷◌, length, map, arith, inl, inr}
use Rattle.std.specs.Prelude.{◌==◌, if◌then◌else◌, slice_set, slice_index, is_some}
use Rattle.std.specs.Option.{option_map, option_and_then}
use Rattle.std.specs.List.{All}
use Rattle.std.specs.Global.{Box}
use Rattle.std.proofs.lemmas.Bool.{eqb-true, ne_eqb, cases_Bool, false≢true}
use Rattle.std.proofs.lemmas.List.{length-map}
use Rattle.std.proofs.lemmas.List.Elements.{All-get_or, All-weaker}
use Rattle.trau_orders.specs.declared.order.DtxMode.{DtxMode}
use Rattle.switchboard.specs.declared.act.Act.TheVariants as act
use Rattle.call_pair.specs.declared.call_job.Phase.TheVariants.{First}
use Rattle.farm_rounds.specs.declared.open.OpenCall.{OpenCall}
use Rattle.farm_rounds.specs.Numbers.{IsRising, is_among}
use Rattle.farm_rounds.specs.Calls.{Call, Kept, kept_in, call_in, partner_in}
use Rattle.farm_rounds.specs.Acts.{change_at, put_at, bridged_call, parted_call, set_by, IsOpen, Applied}
use Rattle.farm_rounds.specs.Opens.{opens_in, kept_of, IsOpenCall}
use Rattle.farm_rounds.specs.Opened.{open_at, no_open, AreListed, IsChanged}
use Rattle.farm_rounds.proofs.Places.Boxes.{opens_long}
use Rattle.farm_rounds.proofs.Orders.InPlace.{changed_at}

-- ---- one call, in its place

abbrev pub kept_with : Call → Option ℕ → Kept
kept_with x p = record { call = x; partner = p }

pub kept_same : (x y : Call) (p q : Option ℕ) → x ≡ y → p ≡ q → kept_with x p ≡ kept_with y q
kept_same x y p q e f = ap (λ (z : Call). kept_with z p) e ∙ ap (kept_with y) f

-- a number's place in the list is a call's
pub listed_within : (bs : List (Box OpenCall)) (live : List ℕ) (k : ℕ) → AreListed live (opens_in bs) → k < length live → k < length bs
listed_within bs live k listed l =
    omega (arith, l, ap length listed.listed, length-map (opens_in bs) (λ (o : OpenCall). o.job.io.call), opens_long bs)

-- what holds of each call holds of the one at an index
there_at : (P : OpenCall → Type 0) (bs : List (Box OpenCall)) (live : List ℕ) (k : ℕ)
    (o : OpenCall) → AreListed live (opens_in bs) → k < length live → o ≡ open_at bs k → All P (opens_in bs) → P o
there_at P bs live k o listed l own all =
    subst P (sym own) (All-get_or P (opens_in bs) k no_open (omega (arith, listed_within bs live k listed l, opens_long bs)) all)

pub first_at : (bs : List (Box OpenCall)) (live : List ℕ) (k : ℕ) (o : OpenCall) → AreListed live (opens_in bs) → k < length live →
    o ≡ open_at bs k → o.job.phase ≡ First
first_at bs live k o listed l own = there_at (λ x. x.job.phase ≡ First) bs live k o listed l own listed.first

-- both halves of its leg are bridged if it has a partner
pub up_at : (bs : List (Box OpenCall)) (live : List ℕ) (k : ℕ) (o : OpenCall) → AreListed live (opens_in bs) → k < length live →
    o ≡ open_at bs k → is_some o.partner ≡ true → o.job.up.bridged ≡ true
up_at bs live k o listed l own e = there_at (λ x. x.job.up.bridged ≡ is_some x.partner) bs live k o listed l own listed.up ∙ e

pub down_at : (bs : List (Box OpenCall)) (live : List ℕ) (k : ℕ) (o : OpenCall) → AreListed live (opens_in bs) → k < length live →
    o ≡ open_at bs k → is_some o.partner ≡ true → o.job.down.bridged ≡ true
down_at bs live k o listed l own e = there_at (λ x. x.job.down.bridged ≡ is_some x.partner) bs live k o listed l own listed.down ∙ e

-- what is seen of it has changed, by what was read there
pub changed_there : (bs : List (Box OpenCall)) (live : List ℕ) (k call : ℕ) (o : OpenCall) (b : Box OpenCall) (f : Kept → Kept) →
    AreListed live (opens_in bs) → k < length live → slice_index live k ≡ call → o ≡ open_at bs k → kept_of b.value ≡ f (kept_of o) →
    b.value.job.io.call ≡ o.job.io.call → ((most : ℕ) → IsOpenCall most o → IsOpenCall most b.value) →
    IsChanged call f (opens_in bs) (opens_in (slice_set bs k b))
changed_there bs live k call o b f listed l e own is number sound =
    let within = listed_within bs live k listed l in
    changed_at bs live k call b f listed within l e (is ∙ ap (λ (x : OpenCall). f (kept_of x)) own) (number ∙ ap (λ (x : OpenCall). x.job.io.call) own)
    (λ most h. sound most (subst (IsOpenCall most) (sym own) h))
    (λ most all. All-get_or (IsOpenCall most) (opens_in bs) k no_open (omega (arith, within, opens_long bs)) all)

-- ---- the list of the numbers

abbrev pub numbers_of : List OpenCall → List ℕ
numbers_of os = map (λ o. o.job.io.call) os

-- a number is listed where the call is open
pub among_open : (os : List OpenCall) (c : ℕ) → is_among (numbers_of os) c ≡ is_some (call_in (map kept_of os) c)
among_open [] c = refl
among_open (o ∷ os) c = elim (cases_Bool (o.job.io.call == c)) [
  | inl t ↦ simp t refl
  | inr f ↦ simp f (among_open os c)
]

pub listed_open : (live : List ℕ) (os : List OpenCall) (c : ℕ) → live ≡ numbers_of os → IsOpen (map kept_of os) c → is_among live c ≡ true
listed_open live os c e isopen = ap (λ (ns : List ℕ). is_among ns c) e ∙ among_open os c ∙ isopen

pub listed_from : (most : ℕ) (live : List ℕ) (os : List OpenCall) → live ≡ numbers_of os →
    IsRising live → All (IsOpenCall most) os → AreListed live os
listed_from most live os e rising each = record {
  listed = e;
  rising = rising;
  first = All-weaker (IsOpenCall most) (λ o. o.job.phase ≡ First) (λ o h. h.first) os each;
  up = All-weaker (IsOpenCall most) (λ o. o.job.up.bridged ≡ is_some o.partner) (λ o h. h.up) os each;
  down = All-weaker (IsOpenCall most) (λ o. o.job.down.bridged ≡ is_some o.partner) (λ o h. h.down) os each;
}

-- ---- a call has changed, and its partner

called : (f : Kept → Kept) (g : Call → Call) → ((k : Kept) → (f k).call ≡ g k.call) → (o : Option Kept) →
    option_map (λ k. k.call) (option_map f o) ≡ option_map g (option_map (λ k. k.call) o)
called f g e None = refl
called f g e (Some k) = ap Some (e k)

paired : (f : Kept → Kept) (p : Option ℕ) → ((k : Kept) → (f k).partner ≡ p) → (o : Option Kept) → is_some (option_map (λ k. k.call) o) ≡ true →
    option_and_then (λ k. k.partner) (option_map f o) ≡ p
paired f p e None isopen = absurd (false≢true isopen)
paired f p e (Some k) isopen = e k

unpaired : (f : Kept → Kept) → ((k : Kept) → (f k).partner ≡ k.partner) → (o : Option Kept) →
    option_and_then (λ k. k.partner) (option_map f o) ≡ option_and_then (λ k. k.partner) o
unpaired f e None = refl
unpaired f e (Some k) = e k

module _ (call : ℕ) (f : Kept → Kept) (before now : List OpenCall) (m : IsChanged call f before now) where
  pub calls_changed : (g : Call → Call) → ((k : Kept) → (f k).call ≡ g k.call) → (d : ℕ) →
      call_in (map kept_of now) d ≡ change_at call g (call_in (map kept_of before)) d
  calls_changed g e d = ap (option_map (λ k. k.call)) (m.calls d) ∙ elim (cases_Bool (d == call)) [
    | inl t ↦ simp t (called f g e (kept_in (map kept_of before) d))
    | inr n ↦ simp n refl
  ]

  pub partners_put : (p : Option ℕ) → ((k : Kept) → (f k).partner ≡ p) → IsOpen (map kept_of before) call → (d : ℕ) →
      partner_in (map kept_of now) d ≡ put_at call p (partner_in (map kept_of before)) d
  partners_put p e isopen d = ap (option_and_then (λ k. k.partner)) (m.calls d) ∙ elim (cases_Bool (d == call)) [
    | inl t ↦
        let there : IsOpen (map kept_of before) d = subst (IsOpen (map kept_of before)) (sym (eqb-true d call t)) isopen in
        simp t (paired f p e (kept_in (map kept_of before) d) there)
    | inr n ↦ simp n refl
  ]

  pub partners_kept : ((k : Kept) → (f k).partner ≡ k.partner) → (d : ℕ) → partner_in (map kept_of now) d ≡ partner_in (map kept_of before) d
  partners_kept e d = ap (option_and_then (λ k. k.partner)) (m.calls d) ∙ elim (cases_Bool (d == call)) [
    | inl t ↦ simp t (unpaired f e (kept_in (map kept_of before) d))
    | inr n ↦ simp n refl
  ]

-- an open call stays open
opened_still : (call : ℕ) (g : Call → Call) (x : ℕ → Option Call) (d : ℕ) → is_some (x d) ≡ true → is_some (change_at call g x d) ≡ true
opened_still call g x d isopen = elim (cases_Bool (d == call)) [ inl t ↦ simp t (by (x d) isopen) | inr n ↦ simp n isopen ]
  where
    by : (o : Option Call) → is_some o ≡ true → is_some (option_map g o) ≡ true
    by None e = e
    by (Some y) e = refl

-- ---- two of them

-- two that are apart may change in either order
changed_apart : (a b : ℕ) (g : Call → Call) (x : ℕ → Option Call) (d : ℕ) → a ≢ b →
    change_at b g (change_at a g x) d ≡ change_at a g (change_at b g x) d
changed_apart a b g x d apart = elim (cases_Bool (d == a)) [
  | inl t ↦ let f : (d == b) ≡ false = ne_eqb d b (λ q. apart (sym (eqb-true d a t) ∙ q)) in simp (t, f) refl
  | inr n ↦ simp n refl
]

put_apart : (a b : ℕ) (p q : Option ℕ) (x : ℕ → Option ℕ) (d : ℕ) → a ≢ b → put_at b q (put_at a p x) d ≡ put_at a p (put_at b q x) d
put_apart a b p q x d apart = elim (cases_Bool (d == a)) [
  | inl t ↦ let f : (d == b) ≡ false = ne_eqb d b (λ q. apart (sym (eqb-true d a t) ∙ q)) in simp (t, f) refl
  | inr n ↦ simp n refl
]

module _ (a b : ℕ) (apart : a ≢ b) (f h : Kept → Kept) (before mid now : List OpenCall)
    (m : IsChanged a f before mid) (n : IsChanged b h mid now) where
  pub two_calls : (g : Call → Call) → ((k : Kept) → (f k).call ≡ g k.call) → ((k : Kept) → (h k).call ≡ g k.call) → (d : ℕ) →
      call_in (map kept_of now) d ≡ change_at a g (change_at b g (call_in (map kept_of before))) d
  two_calls g e q d =
      calls_changed b h mid now n g q d
      ∙ ap (λ (x : Option Call). if d == b then option_map g x else x) (calls_changed a f before mid m g e d)
      ∙ changed_apart a b g (call_in (map kept_of before)) d apart

  pub second_open : (g : Call → Call) → ((k : Kept) → (f k).call ≡ g k.call) → IsOpen (map kept_of before) b → IsOpen (map kept_of mid) b
  second_open g e isopen = ap is_some (calls_changed a f before mid m g e b) ∙ opened_still a g (call_in (map kept_of before)) b isopen

  pub two_partners : (p q : Option ℕ) → ((k : Kept) → (f k).partner ≡ p) → ((k : Kept) → (h k).partner ≡ q) → IsOpen (map kept_of before) a →
      IsOpen (map kept_of mid) b → (d : ℕ) → partner_in (map kept_of now) d ≡ put_at a p (put_at b q (partner_in (map kept_of before))) d
  two_partners p q e r isopen there d =
      partners_put b h mid now n q r there d
      ∙ ap (λ (x : Option ℕ). if d == b then q else x) (partners_put a f before mid m p e isopen d)
      ∙ put_apart a b p q (partner_in (map kept_of before)) d apart

-- ---- what an act does

-- two tests are one
one_test : {X : Type 0} (s t : Bool) (x y : X) → (if s then x else if t then x else y) ≡ (if s || t then x else y)
one_test true t x y = refl
one_test false t x y = refl

-- two calls are bridged
pub bridged_applied : (a b : ℕ) (before mid now : List OpenCall) → a ≢ b → IsOpen (map kept_of before) a → IsOpen (map kept_of before) b →
    IsChanged a (λ k. kept_with (bridged_call k.call) (Some b)) before mid → IsChanged b (λ k. kept_with (bridged_call k.call) (Some a)) mid now →
    Applied (act.Bridged a b) (map kept_of before) (map kept_of now)
bridged_applied a b before mid now apart oa ob m n = record {
  calls = two_calls a b apart _ _ before mid now m n bridged_call (λ k. refl) (λ k. refl);
  partners = two_partners a b apart _ _ before mid now m n (Some b) (Some a) (λ k. refl) (λ k. refl) oa
      (second_open a b apart _ _ before mid now m n bridged_call (λ k. refl) ob);
}

-- the bridge of two calls is over
pub unbridged_applied : (a b : ℕ) (before mid now : List OpenCall) → a ≢ b → IsOpen (map kept_of before) a → IsOpen (map kept_of before) b →
    IsChanged a (λ k. kept_with (parted_call k.call) None) before mid → IsChanged b (λ k. kept_with (parted_call k.call) None) mid now →
    Applied (act.Unbridged a b) (map kept_of before) (map kept_of now)
unbridged_applied a b before mid now apart oa ob m n = record {
  calls = two_calls a b apart _ _ before mid now m n parted_call (λ k. refl) (λ k. refl);
  partners = λ d.
      two_partners a b apart _ _ before mid now m n None None (λ k. refl) (λ k. refl) oa
      (second_open a b apart _ _ before mid now m n parted_call (λ k. refl) ob) d
      ∙ one_test (d == a) (d == b) None (partner_in (map kept_of before) d);
}

-- the level of a call is set
pub level_applied : (call : ℕ) (level : ℤ) (before now : List OpenCall) →
    IsChanged call (λ k. kept_with (set_by (act.LevelSet call level) k.call) k.partner) before now →
    Applied (act.LevelSet call level) (map kept_of before) (map kept_of now)
level_applied call level before now m = record {
  calls = calls_changed call _ before now m (set_by (act.LevelSet call level)) (λ k. refl);
  partners = partners_kept call _ before now m (λ k. refl);
}

-- the DTX mode of a call is set
pub mode_applied : (call : ℕ) (mode : DtxMode) (before now : List OpenCall) →
    IsChanged call (λ k. kept_with (set_by (act.DtxSet call mode) k.call) k.partner) before now →
    Applied (act.DtxSet call mode) (map kept_of before) (map kept_of now)
mode_applied call mode before now m = record {
  calls = calls_changed call _ before now m (set_by (act.DtxSet call mode)) (λ k. refl);
  partners = partners_kept call _ before now m (λ k. refl);
}
