-- The level or the DTX mode of a call is set, in its place.
use Rattle.std.proofs.Common.{◌≡◌, ◌<◌, ◌∙◌, refl, sym, ap, subst, ℕ, ℤ, List, length, map, slice_set, slice_index, slice_index_or}
use Rattle.std.specs.Box.{with_value}
use Rattle.std.specs.Global.{Box}
use Rattle.trau_orders.specs.declared.order.DtxMode.{DtxMode}
use Rattle.switchboard.specs.declared.act.Act.{Act}
use Rattle.switchboard.specs.declared.act.Act.TheVariants as act
use Rattle.call_leg.specs.Memory.{DownMemory}
use Rattle.call_leg.specs.Step.{with_down, set_level, set_mode}
use Rattle.call_pair.specs.Phases.{CallMemory}
use Rattle.farm_rounds.specs.declared.open.OpenCall.{OpenCall}
use Rattle.farm_rounds.specs.Calls.{Call}
use Rattle.farm_rounds.specs.Acts.{ActFits, Applied, set_by, with_leg}
use Rattle.farm_rounds.specs.Opens.{AreOpen, IsOpenCall, calls_of, kept_of, opens_in}
use Rattle.farm_rounds.specs.Opened.{AreListed, IsChanged}
use Rattle.farm_rounds.proofs.Places.Boxes.{at_read}
use Rattle.farm_rounds.proofs.Orders.Acts.{kept_with, listed_from, listed_within, changed_there, level_applied, mode_applied}
use Rattle.farm_rounds.proofs.Orders.Partners.{sound_after}

pub open_listed : (most : ℕ) (live : List ℕ) (os : List OpenCall) → AreOpen most live os → AreListed live os
open_listed most live os s = listed_from most live os s.listed s.rising s.each

-- what the act leaves: the calls as it says, and sound
pub record IsSet (set : Act) (live : List ℕ) (before now : List OpenCall) : Type 0 where
  pub applied : Applied set (map kept_of before) (map kept_of now)
  pub sound : (most : ℕ) → AreOpen most live before → AreOpen most live now

-- the call o, which is read at k, has the job j now
module _ (most : ℕ) (live : List ℕ) (bs : List (Box OpenCall)) (k call : ℕ) (b : Box OpenCall) (o : OpenCall) (j : CallMemory)
    (are_open : AreOpen most live (opens_in bs)) (within : k < length live) (own : slice_index live k ≡ call) (read : o ≡ (slice_index_or bs k b).value) where
  abbrev now : List OpenCall
  now = opens_in (slice_set bs k (with_value (slice_index_or bs k b) (record o { job = j })))

  abbrev IsSetBy : Act → Type 0
  IsSetBy set = IsChanged call (λ x. kept_with (set_by set x.call) x.partner) (opens_in bs) now

  -- g sets the downlink half, and its bridge stays
  changed : (set : Act) (g : DownMemory → DownMemory) → ((x : Call) → with_leg (with_down x.leg (g x.leg.down)) x ≡ set_by set x) →
      ((d : DownMemory) → (g d).bridged ≡ d.bridged) → j ≡ record o.job { down = g o.job.down } → IsSetBy set
  changed set g by bridged job =
      let listed = open_listed most live (opens_in bs) are_open in
      let there = listed_within bs live k listed within in
      changed_there bs live k call o _ (λ x. kept_with (set_by set x.call) x.partner) listed within own (read ∙ at_read bs k b there)
      (ap (λ (m : CallMemory). kept_of (record o { job = m })) job ∙ ap (λ (x : Call). kept_with x o.partner) (by (kept_of o).call))
      (ap (λ (m : CallMemory). m.io.call) job)
      (λ n h. subst (λ (m : CallMemory). IsOpenCall n (record o { job = m })) (sym job) (record {
        number = h.number;
        lines = h.lines;
        worked = h.worked;
        first = h.first;
        none = h.none;
        up = h.up;
        down = bridged o.job.down ∙ h.down;
      }))

  set_sound : (set : Act) → ActFits (calls_of bs) set → IsSetBy set → Applied set (calls_of bs) (map kept_of now) → IsSet set live (opens_in bs) now
  set_sound set fits m applied = record {
    applied = applied;
    sound = λ n s. sound_after n live set (opens_in bs) now fits s applied m.numbers (m.each n s.each);
  }

  pub level_set : (level : ℤ) → ActFits (calls_of bs) (act.LevelSet call level) → j ≡ record o.job { down = set_level level o.job.down } →
      IsSet (act.LevelSet call level) live (opens_in bs) now
  level_set level fits job =
      let m = changed (act.LevelSet call level) (set_level level) (λ x. refl) (λ d. refl) job in
      set_sound (act.LevelSet call level) fits m (level_applied call level (opens_in bs) now m)

  pub mode_set : (mode : DtxMode) → ActFits (calls_of bs) (act.DtxSet call mode) → j ≡ record o.job { down = set_mode mode o.job.down } →
      IsSet (act.DtxSet call mode) live (opens_in bs) now
  mode_set mode fits job =
      let m = changed (act.DtxSet call mode) (set_mode mode) (λ x. refl) (λ d. refl) job in
      set_sound (act.DtxSet call mode) fits m (mode_applied call mode (opens_in bs) now m)
