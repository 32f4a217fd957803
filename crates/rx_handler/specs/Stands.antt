-- The memory that a history leads to, the newest period first.
use Rattle.std.specs.Prelude.{◌≡◌, ℕ, ◌+◌, min, if◌then◌else◌, List, [], ◌∷◌, length}
use Rattle.trau_params.specs.Fields.{Fields}
use Rattle.rx_muting.specs.Draws.{state_after}
use Rattle.rx_subst.specs.Lost.{silent_from_lost}
use Rattle.rx_noise.specs.Mix.{approach_steps}
use Rattle.rx_noise.specs.Noise.{silent_from_fall}
use Rattle.rx_handler.specs.Profile.{fall_from_missed}
use Rattle.rx_handler.specs.Heard.{Heard}
use Rattle.rx_handler.specs.Effective.{is_anchor}
use Rattle.rx_handler.specs.Past.{Anchor, NoAnchor, AtGood, AtSid, anchor_of, missed_in, periods_of_fall, approach_start_of, draw_count}
use Rattle.rx_handler.specs.Memory.{RxState, Quiet, Speech, Noise, RxMemory}

-- the step in the period of a descriptor, by the latest anchor before it: 1 in noise; the last otherwise, as nothing is
-- approached
abbrev pub first_step : Anchor → ℕ
first_step NoAnchor = approach_steps
first_step (AtGood p since) = approach_steps
first_step (AtSid q since) = 1

-- the step in the newest period
unfoldable pub step_of : List Heard → ℕ
step_of [] = approach_steps
step_of (y ∷ past) = if is_anchor y then first_step (anchor_of past) else min (step_of past + 1) approach_steps

-- the state by the latest anchor; `old q` is where the approach of a descriptor q there began
abbrev pub state_from : (Fields → Fields) → ℕ → Anchor → RxState
state_from old step NoAnchor = Quiet
state_from old step (AtGood p since) = Speech p (min (length since) silent_from_lost)
state_from old step (AtSid q since) =
    Noise (old q) q step (min (missed_in since) fall_from_missed) (min (periods_of_fall since) silent_from_fall)

-- the state that this history leads to
abbrev pub state_after_past : List Heard → RxState
state_after_past past = state_from (λ q. approach_start_of past q) (step_of past) (anchor_of past)

-- the memory is the one that this history of the call leads to
pub record Stands (call : ℕ) (past : List Heard) (memory : RxMemory) : Type 0 where
  pub state : memory.state ≡ state_after_past past
  pub source : memory.source ≡ state_after call (draw_count past)
