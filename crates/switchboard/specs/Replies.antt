-- The reply to an order: the first refusal that holds, else the act.
use Rattle.std.specs.Prelude.{ℕ, pos, ◌≤ℤ◌, Bool, not, if◌then◌else◌, ◌==◌, Option, Some, None, is_none, option_map, Result, Ok, Err, List, [], ◌∷◌}
use Rattle.trau_orders.specs.declared.order.Order.{Order}
use Rattle.trau_orders.specs.declared.order.What.{What}
use Rattle.trau_orders.specs.declared.order.What.TheVariants as what
use Rattle.call_number.specs.CallNumber.{IsCallNumber}
use Rattle.switchboard.specs.declared.act.Act.{Act}
use Rattle.switchboard.specs.declared.act.Act.TheVariants as act
use Rattle.switchboard.specs.declared.act.Refusal.{Refusal}
use Rattle.switchboard.specs.declared.act.Refusal.TheVariants.{AlreadyOpen, NotOpen, Bridged, NotBridged, SameCall, Draining, NumberUsed}
use Rattle.switchboard.specs.declared.table.Bridge.{Bridge}
use Rattle.switchboard.specs.Calls.{Done, is_open, has_ended}
use Rattle.switchboard.specs.Bridges.{bridge_of, bridge_ended, other}

-- What is known when an order comes: the open calls, the ended calls, a call's bridge, and a call's bridge that an
-- earlier order of the same stamp ended.
pub record Known : Type 0 where
  pub is_open : ℕ → Bool
  pub has_ended : ℕ → Bool
  pub bridge_of : ℕ → Option Bridge
  pub bridge_ended : ℕ → Option Bridge

-- what follows at period t from the executed orders and the calls that are gone
abbrev pub known_of : (ℕ → Bool) → ℕ → List Done → Known
known_of gone t ds = record {
  is_open = is_open gone ds;
  has_ended = has_ended gone ds;
  bridge_of = bridge_of gone ds;
  bridge_ended = bridge_ended t ds;
}

-- ---- the seven refusals

abbrev pub refuse_if : Bool → Refusal → Option Refusal
refuse_if b r = if b then Some r else None

-- 1: `open` of an open call
abbrev pub already_open : Known → ℕ → Option Refusal
already_open k c = refuse_if (k.is_open c) (AlreadyOpen c)

-- 2: any other order that names a call that isn't open
abbrev pub not_open : Known → ℕ → Option Refusal
not_open k c = refuse_if (not (k.is_open c)) (NotOpen c)

-- 3: `bridge` that names a bridged call
abbrev pub bridged : Known → ℕ → Option Refusal
bridged k c = option_map (λ x. Bridged c (other c x)) (k.bridge_of c)

-- 4: `unbridge` of an open call that isn't bridged
abbrev pub not_bridged : Known → ℕ → Option Refusal
not_bridged k c = refuse_if (is_none (k.bridge_of c)) (NotBridged c)

-- 5: `bridge` of a call with itself
abbrev pub same_call : ℕ → ℕ → Option Refusal
same_call a b = refuse_if (a == b) (SameCall a)

-- 6: `bridge` that names a call whose bridge was ended by an order of this stamp
abbrev pub draining : Known → ℕ → Option Refusal
draining k c = option_map (λ x. Draining c (other c x)) (k.bridge_ended c)

-- 7: `open` of a number that was opened before and has ended
abbrev pub number_used : Known → ℕ → Option Refusal
number_used k c = refuse_if (k.has_ended c) (NumberUsed c)

-- ---- replies

-- the tests of an order, in their order
abbrev pub tests : Known → What → List (Option Refusal)
tests k (what.OpenCall c law) = already_open k c ∷ number_used k c ∷ []
tests k (what.CloseCall c) = not_open k c ∷ []
tests k (what.Bridge a b) = same_call a b ∷ not_open k a ∷ not_open k b ∷
    bridged k a ∷ bridged k b ∷ draining k a ∷ draining k b ∷ []
tests k (what.Unbridge c) = not_open k c ∷ not_bridged k c ∷ []
tests k (what.Level c v) = not_open k c ∷ []
tests k (what.Dtx c m) = not_open k c ∷ []

-- what an accepted order does
abbrev pub act_of : Known → What → Act
act_of k (what.OpenCall c law) = act.Opened c law
act_of k (what.CloseCall c) = act.Closed c (option_map (other c) (k.bridge_of c))
act_of k (what.Bridge a b) = act.Bridged a b
act_of k (what.Unbridge c) = elim (k.bridge_of c) [
  | None ↦ act.Unbridged c c
  | Some x ↦ act.Unbridged x.a x.b
]
act_of k (what.Level c v) = act.LevelSet c v
act_of k (what.Dtx c m) = act.DtxSet c m

-- the first refusal that holds
abbrev pub first_of_tests : List (Option Refusal) → Option Refusal
first_of_tests [] = None
first_of_tests (None ∷ rs) = first_of_tests rs
first_of_tests (Some r ∷ rs) = Some r

abbrev pub reply_from : Known → What → Result Act Refusal
reply_from k w = elim (first_of_tests (tests k w)) [ None ↦ Ok (act_of k w) | Some r ↦ Err r ]

-- A call that is opened has a call's number, and a level that is set isn't negative.
abbrev pub IsInRange : Act → Type 0
IsInRange (act.Opened c law) = IsCallNumber c
IsInRange (act.LevelSet c v) = pos 0 ≤ℤ v
IsInRange _ = Unit {0}

-- the reply to an order after these; `gone` are the calls that ended without an order
abbrev pub reply_to : (ℕ → Bool) → List Done → Order → Result Act Refusal
reply_to gone ds o = reply_from (known_of gone o.stamp ds) o.what
