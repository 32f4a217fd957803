-- The table of states, one period at a time (this project's profile, where GSM 06.11, 06.12 and 06.31 leave it open).
use Rattle.std.specs.Prelude.{ℕ, ◌+◌, min, Bool, if◌then◌else◌, ◌==◌, List, [], ◌∷◌}
use Rattle.trau_params.specs.Fields.{Fields}
use Rattle.rx_muting.specs.Draws.{state_after, draw_of}
use Rattle.rx_subst.specs.Lost.{silent_from_lost}
use Rattle.rx_noise.specs.Mix.{approach_steps, mix_of}
use Rattle.rx_noise.specs.Noise.{silent_from_fall}
use Rattle.rx_handler.specs.Profile.{fall_from_missed}
use Rattle.rx_handler.specs.Heard.{Heard, Good, Sid, Idle, Lost}
use Rattle.rx_handler.specs.Origin.{Origin, NoFrame, GoodFrame, LostFrame, NoiseFrame, draws_of, frame_of, EffectiveFields}
use Rattle.rx_handler.specs.Memory.{RxState, Quiet, Speech, Noise, RxMemory}

-- how many descriptors were missed, after one more period
abbrev pub missed_after : ℕ → Bool → ℕ
missed_after count missed = min (count + (if missed then 1 else 0)) fall_from_missed

-- for how many periods the level has fallen, after one more; `count` descriptors were missed by then
abbrev pub fall_after : ℕ → ℕ → ℕ
fall_after count fall = if count == fall_from_missed then min (fall + 1) silent_from_fall else fall

-- after a lost period; `missed`: it brought an unusable speech frame where a silence descriptor was due (TAF 1)
abbrev pub state_after_loss : RxState → Bool → RxState
state_after_loss Quiet missed = Quiet
state_after_loss (Speech p n) missed = Speech p (min (n + 1) silent_from_lost)
state_after_loss (Noise old q step count fall) missed =
    let after = missed_after count missed in Noise old q (min (step + 1) approach_steps) after (fall_after after fall)

-- After silence descriptor r. In noise, its period is step 1 of the approach. It starts at the noise of the period
-- before, or at r itself if the level of that noise has begun to fall. After speech or quiet nothing is approached, so
-- all steps are done.
abbrev pub state_after_sid : RxState → Fields → RxState
state_after_sid Quiet r = Noise r r approach_steps 0 0
state_after_sid (Speech p n) r = Noise r r approach_steps 0 0
state_after_sid (Noise old q step count fall) r = Noise (if fall == 0 then mix_of old q step else r) r 1 0 0

-- after any period
abbrev pub next_state : RxState → Heard → RxState
next_state state (Good p) = Speech p 0
next_state state (Sid q) = state_after_sid state q
next_state state Idle = Quiet
next_state state (Lost missed) = state_after_loss state missed

-- what the frame of a period is made from, by the state after it
abbrev pub origin_by : RxState → Origin
origin_by Quiet = NoFrame
origin_by (Speech p n) = if n == 0 then GoodFrame p else LostFrame p n
origin_by (Noise old q step count fall) = NoiseFrame (mix_of old q step) fall

-- one period: its effective frame, and the memory after it
unfoldable pub received : RxMemory → Heard → EffectiveFields × RxMemory
received memory y =
    let state = next_state memory.state y in
    let origin = origin_by state in
    (frame_of origin (draw_of memory.source), record { state = state; source = state_after memory.source (draws_of origin) })

-- all periods, the oldest first
unfoldable pub all_received : RxMemory → List Heard → List EffectiveFields
all_received memory [] = []
all_received memory (y ∷ ys) = let first = received memory y in first.0 ∷ all_received first.1 ys
