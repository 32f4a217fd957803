-- For crates above: an order of each kind is refused (`IsRefused`), or the board was as the order needs it (`Joined`).
-- What an accepted order shows.
use Rattle.std.proofs.Common.{◌≡◌, refl, sym, ap, ◌∙◌, ℕ, ◌≢◌, Bool, true, false, Option, Some, None, List, [], ◌∷◌, inl, inr, ◌⊎◌}
use Rattle.std.specs.Prelude.{Result, Ok, Err, IsErr, ℤ, not, is_none, ◌==◌, option_map}
use Rattle.std.specs.Result.{IsErrAnd}
use Rattle.std.proofs.lemmas.Bool.{eq-eqb, ne_eqb}
use Rattle.std.proofs.lemmas.Result.{err_from_is_err_and}
use Rattle.trau_alaw.specs.declared.Law.{Law}
use Rattle.trau_orders.specs.declared.order.DtxMode.{DtxMode}
use Rattle.trau_orders.specs.declared.order.What.TheVariants as what
use Rattle.switchboard.specs.declared.act.Act.{Act}
use Rattle.switchboard.specs.declared.act.Act.TheVariants as act
use Rattle.switchboard.specs.declared.act.Refusal.{Refusal}
use Rattle.switchboard.specs.declared.table.Bridge.{Bridge}
use Rattle.switchboard.specs.declared.act.Refusal.TheVariants.{SameCall}
use Rattle.switchboard.specs.Replies.{Known, not_open, bridged, draining, refuse_if, first_of_tests, act_of, reply_from}
use Rattle.switchboard.specs.Bridges.{other}
use Rattle.switchboard.specs.Rows.{passes}
use Rattle.switchboard.specs.Stands.{InTable}
use Rattle.switchboard.proofs.Lists.{not_both}

abbrev pub IsRefused : Result Act Refusal → Type 0
IsRefused r = (e : Refusal) × (r ≡ Err e)

-- the first refusal, or else the act
abbrev pub reply : List (Option Refusal) → Act → Result Act Refusal
reply os a = elim (first_of_tests os) [ None ↦ Ok a | Some r ↦ Err r ]

-- a reply after one test, two and seven: a refusal, or the act, and each test was passed
one : (a : Act) (o : Option Refusal) → IsRefused (reply (o ∷ []) a) ⊎ ((reply (o ∷ []) a ≡ Ok a) × (o ≡ None))
one a (Some r) = inl (r, refl)
one a None = inr (refl, refl)

two : (a : Act) (o p : Option Refusal) → IsRefused (reply (o ∷ p ∷ []) a) ⊎ ((reply (o ∷ p ∷ []) a ≡ Ok a) × (o ≡ None) × (p ≡ None))
two a (Some r) p = inl (r, refl)
two a None (Some r) = inl (r, refl)
two a None None = inr (refl, refl, refl)

seven : (a : Act) (o p q r s t u : Option Refusal) → IsRefused (reply (o ∷ p ∷ q ∷ r ∷ s ∷ t ∷ u ∷ []) a)
    ⊎ ((reply (o ∷ p ∷ q ∷ r ∷ s ∷ t ∷ u ∷ []) a ≡ Ok a) × (o ≡ None) × (p ≡ None) × (q ≡ None) × (r ≡ None) × (s ≡ None) × (t ≡ None) × (u ≡ None))
seven a (Some x) p q r s t u = inl (x, refl)
seven a None (Some x) q r s t u = inl (x, refl)
seven a None None (Some x) r s t u = inl (x, refl)
seven a None None None (Some x) s t u = inl (x, refl)
seven a None None None None (Some x) t u = inl (x, refl)
seven a None None None None None (Some x) u = inl (x, refl)
seven a None None None None None None (Some x) = inl (x, refl)
seven a None None None None None None None = inr (refl, refl, refl, refl, refl, refl, refl, refl)

-- what a passed test tells
not_refused : (b : Bool) (r : Refusal) → refuse_if b r ≡ None → b ≡ false
not_refused true r e = cc
not_refused false r e = refl

not_not_refused : (b : Bool) (r : Refusal) → refuse_if (not b) r ≡ None → b ≡ true
not_not_refused true r e = refl
not_not_refused false r e = cc

none_mapped : {X Y : Type 0} (f : X → Y) (o : Option X) → option_map f o ≡ None → o ≡ None
none_mapped f None e = refl
none_mapped f (Some x) e = cc

-- what is known where an order is accepted: `open`
pub open_accepted : (k : Known) (c : ℕ) (law : Law) → IsRefused (reply_from k (what.OpenCall c law))
    ⊎ ((reply_from k (what.OpenCall c law) ≡ Ok (act.Opened c law)) × (k.is_open c ≡ false) × (k.has_ended c ≡ false))
open_accepted k c law = elim (two (act.Opened c law) _ _) [ inl e ↦ inl e | inr p ↦ inr (p.0, not_refused _ _ p.1, not_refused _ _ p.2) ]

-- `close`
pub close_accepted : (k : Known) (c : ℕ) → IsRefused (reply_from k (what.CloseCall c))
    ⊎ ((reply_from k (what.CloseCall c) ≡ Ok (act.Closed c (option_map (other c) (k.bridge_of c)))) × (k.is_open c ≡ true))
close_accepted k c = elim (one (act.Closed c (option_map (other c) (k.bridge_of c))) _) [ inl e ↦ inl e | inr p ↦ inr (p.0, not_not_refused _ _ p.1) ]

pub record Joined (k : Known) (a b : ℕ) : Type 0 where
  pub apart : a ≢ b
  pub open_a : k.is_open a ≡ true
  pub open_b : k.is_open b ≡ true
  pub alone_a : k.bridge_of a ≡ None
  pub alone_b : k.bridge_of b ≡ None
  pub drained_a : k.bridge_ended a ≡ None
  pub drained_b : k.bridge_ended b ≡ None

-- `bridge`
pub bridge_accepted : (k : Known) (a b : ℕ) → IsRefused (reply_from k (what.Bridge a b)) ⊎ ((reply_from k (what.Bridge a b) ≡ Ok (act.Bridged a b))
    × Joined k a b)
bridge_accepted k a b = elim (seven (act.Bridged a b) (refuse_if (a == b) (SameCall a)) (not_open k a) (not_open k b) (bridged k a) (bridged k b) (draining k a)
    (draining k b)) [
      | inl e ↦ inl e
      | inr p ↦ inr (
        p.0,
        record {
          apart = λ e. not_both (a == b) (not_refused _ _ p.1) (eq-eqb a b e);
          open_a = not_not_refused _ _ p.2;
          open_b = not_not_refused _ _ p.3;
          alone_a = none_mapped _ _ p.4;
          alone_b = none_mapped _ _ p.5;
          drained_a = none_mapped _ _ p.6;
          drained_b = none_mapped _ _ p.7;
        },
      )
    ]

-- `unbridge`
pub unbridge_accepted : (k : Known) (c : ℕ) → IsRefused (reply_from k (what.Unbridge c))
    ⊎ ((x : Bridge) × (reply_from k (what.Unbridge c) ≡ Ok (act.Unbridged x.a x.b)) × (k.is_open c ≡ true) × (k.bridge_of c ≡ Some x))
unbridge_accepted k c = elim (two (act_of k (what.Unbridge c)) _ _) [
  | inl e ↦ inl e
  | inr p ↦ inr (found k c p.0 (not_not_refused _ _ p.1) (k.bridge_of c) refl (not_refused _ _ p.2))
]
  where
    found : (k : Known) (c : ℕ) → reply_from k (what.Unbridge c) ≡ Ok (act_of k (what.Unbridge c)) →
        k.is_open c ≡ true → (o : Option Bridge) → k.bridge_of c ≡ o → is_none (k.bridge_of c) ≡ false →
        (x : Bridge) × (reply_from k (what.Unbridge c) ≡ Ok (act.Unbridged x.a x.b)) × (k.is_open c ≡ true) × (k.bridge_of c ≡ Some x)
    found k c e o None b n = absurd (let q : is_none (k.bridge_of c) ≡ true = ap is_none b in cc)
    found k c e o (Some x) b n = (x, e ∙ ap (λ (o : Option Bridge). Ok (elim o [ None ↦ act.Unbridged c c | Some x ↦ act.Unbridged x.a x.b ])) b, o, b)

-- `level`
pub level_accepted : (k : Known) (c : ℕ) (v : ℤ) →
    IsRefused (reply_from k (what.Level c v)) ⊎ ((reply_from k (what.Level c v) ≡ Ok (act.LevelSet c v)) × (k.is_open c ≡ true))
level_accepted k c v = elim (one (act.LevelSet c v) _) [ inl e ↦ inl e | inr p ↦ inr (p.0, not_not_refused _ _ p.1) ]

-- `dtx`
pub dtx_accepted : (k : Known) (c : ℕ) (m : DtxMode) → IsRefused (reply_from k (what.Dtx c m)) ⊎ ((reply_from k (what.Dtx c m) ≡ Ok (act.DtxSet c m))
    × (k.is_open c ≡ true))
dtx_accepted k c m = elim (one (act.DtxSet c m) _) [ inl e ↦ inl e | inr p ↦ inr (p.0, not_not_refused _ _ p.1) ]

-- ---- the tests one after another

-- a test that is passed, and one that isn't
pub next_test : (o : Option Refusal) (os : List (Option Refusal)) (r : Result (Unit {0}) Refusal) (u : Unit {0}) (x : Option Refusal) → r ≡ passes o →
    r ≡ Ok u → first_of_tests os ≡ x → first_of_tests (o ∷ os) ≡ x
next_test None os r u x p q h = h
next_test (Some e) os r u x p q h = cc

-- the first test that fails refuses
pub failed_test : (o : Option Refusal) (os : List (Option Refusal)) (r : Result (Unit {0}) Refusal) (e : Refusal) → r ≡ passes o → r ≡ Err e →
    first_of_tests (o ∷ os) ≡ Some e
failed_test None os r e p q = cc
failed_test (Some d) os r e p q = let s : Err d ≡ Err e = sym p ∙ q in cc

-- A refusal for the reason that the tests give is their reply.
pub refused_by : (os : List (Option Refusal)) (a : Act) (e : Refusal) (x : Result Act Refusal) →
    first_of_tests os ≡ Some e → IsErrAnd x (λ d. d ≡ e) → x ≡ reply os a
refused_by os a e x first is = let p = err_from_is_err_and x is in p.1 ∙ ap Err p.2 ∙ ap (λ (o : Option Refusal). elim o [ None ↦ Ok a | Some r ↦ Err r ])
    (sym first)

-- a refusal names no call
pub none_in_table : (x : Result Act Refusal) → IsErr x → InTable x
none_in_table (Ok a) e = cc
none_in_table (Err r) e = tt

-- calls that differ pass the test of sameness
pub not_same : (a b : ℕ) (os : List (Option Refusal)) (x : Option Refusal) → a ≢ b → first_of_tests os ≡ x →
    first_of_tests (refuse_if (a == b) (SameCall a) ∷ os) ≡ x
not_same a b os x n e = ap (λ (t : Bool). first_of_tests (refuse_if t (SameCall a) ∷ os)) (ne_eqb a b n) ∙ e
