-- What an accepted order does to the calls of a farm, by their numbers (this project's profile).
use Rattle.std.specs.Prelude.{◌≡◌, ℕ, ◌==◌, if◌then◌else◌, Bool, true, false, Option, Some, None, is_some, List}
use Rattle.std.specs.Option.{option_map}
use Rattle.trau_alaw.specs.declared.Law.{Law}
use Rattle.trau_alaw.specs.declared.Law.TheVariants.{A}
use Rattle.switchboard.specs.declared.act.Act.{Act}
use Rattle.switchboard.specs.declared.act.Act.TheVariants.{Opened, Closed, Bridged, Unbridged, LevelSet, DtxSet}
use Rattle.switchboard.specs.Open.{FindsOpen, partner_after}
use Rattle.switchboard.specs.Replies.{IsInRange}
use Rattle.call_leg.specs.Memory.{LegMemory}
use Rattle.call_leg.specs.Memory as leg
use Rattle.call_leg.specs.Step.{with_down, begin_bridge, bridge_over, set_level, set_mode}
use Rattle.farm_rounds.specs.Calls.{Call, Kept, call_in, partner_in}

-- ---- one call

-- before its first period
abbrev pub new_call : ℕ → Law → Call
new_call c law = record {
  number = c;
  leg = leg.home_memory (record { number = c; law = law });
  down_failed = false;
  out_failed = false;
}

-- the default if there is no call
abbrev pub no_kept : Kept
no_kept = record { call = new_call 0 A; partner = None }

abbrev pub with_leg : LegMemory → Call → Call
with_leg m x = record {
  number = x.number;
  leg = m;
  down_failed = x.down_failed;
  out_failed = x.out_failed;
}

-- a call whose bridge starts, and one whose bridge is over
abbrev pub bridged_call : Call → Call
bridged_call x = with_leg (begin_bridge x.leg) x

abbrev pub parted_call : Call → Call
parted_call x = with_leg (with_down x.leg (bridge_over x.leg.down)) x

-- a call whose level or DTX mode an act sets
abbrev pub set_by : Act → Call → Call
set_by (LevelSet c level) x = with_leg (with_down x.leg (set_level level x.leg.down)) x
set_by (DtxSet c mode) x = with_leg (with_down x.leg (set_mode mode x.leg.down)) x
set_by _ x = x

-- ---- all calls

-- call c gets x, or its value is changed by g; all others stay
abbrev pub put_at : {A : Type 0} → ℕ → Option A → (ℕ → Option A) → ℕ → Option A
put_at c x f d = if d == c then x else f d

abbrev pub change_at : {A : Type 0} → ℕ → (A → A) → (ℕ → Option A) → ℕ → Option A
change_at c g f d = if d == c then option_map g (f d) else f d

-- the partner's value is changed by g, if there is one
abbrev pub change_partner : {A : Type 0} → Option ℕ → (A → A) → (ℕ → Option A) → ℕ → Option A
change_partner None g f = f
change_partner (Some p) g f = change_at p g f

abbrev pub calls_after : Act → (ℕ → Option Call) → ℕ → Option Call
calls_after (Opened c law) f = put_at c (Some (new_call c law)) f
calls_after (Closed c p) f = put_at c None (change_partner p parted_call f)
calls_after (Bridged a b) f = change_at a bridged_call (change_at b bridged_call f)
calls_after (Unbridged a b) f = change_at a parted_call (change_at b parted_call f)
calls_after (LevelSet c level) f = change_at c (set_by (LevelSet c level)) f
calls_after (DtxSet c mode) f = change_at c (set_by (DtxSet c mode)) f

-- ---- when an act can be applied

abbrev pub is_open_in : List Kept → ℕ → Bool
is_open_in calls c = is_some (call_in calls c)

abbrev pub IsOpen : List Kept → ℕ → Type 0
IsOpen calls c = is_open_in calls c ≡ true

-- The calls are as the switchboard found them.
abbrev pub ActFits : List Kept → Act → Type 0
ActFits calls act = FindsOpen act (is_open_in calls) (partner_in calls) × IsInRange act

-- it opens a call
abbrev pub IsOpening : Act → Type 0
IsOpening (Opened c law) = Unit {0}
IsOpening _ = ⊥

-- the calls and their partners after an act
pub record Applied (act : Act) (before now : List Kept) : Type 0 where
  pub calls : (c : ℕ) → call_in now c ≡ calls_after act (call_in before) c
  pub partners : (c : ℕ) → partner_in now c ≡ partner_after act (partner_in before) c
