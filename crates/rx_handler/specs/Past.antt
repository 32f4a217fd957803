-- The effective frame again, over a history with the newest period first, so that a proof can add one period at a time.
use Rattle.std.specs.Prelude.{ℕ, ◌+◌, min, if◌then◌else◌, ◌==◌, nat_le, List, [], ◌∷◌, length, filter}
use Rattle.trau_params.specs.Fields.{Fields}
use Rattle.rx_muting.specs.Draws.{draws_from}
use Rattle.rx_subst.specs.Lost.{silent_from_lost}
use Rattle.rx_noise.specs.Mix.{approach_steps, mix_of}
use Rattle.rx_noise.specs.Noise.{silent_from_fall}
use Rattle.rx_handler.specs.Profile.{fall_from_missed}
use Rattle.rx_handler.specs.Heard.{Heard, Good, Sid, Idle, Lost}
use Rattle.rx_handler.specs.Origin.{Origin, NoFrame, GoodFrame, LostFrame, NoiseFrame, draws_of, frame_of, EffectiveFields, Quiet}
use Rattle.rx_handler.specs.Effective.{is_anchor, is_missed}

-- the latest anchor. AtGood, AtSid: good speech or a silence descriptor, with what was heard since, the newest first.
-- NoAnchor: there was none yet, or it is an idle frame, from which no frame is made
pub data Anchor : Type 0 where
  NoAnchor : Anchor
  AtGood AtSid : Fields → List Heard → Anchor

-- the latest anchor after one more period, which is no anchor itself
abbrev pub anchor_after : Heard → Anchor → Anchor
anchor_after y NoAnchor = NoAnchor
anchor_after y (AtGood p since) = AtGood p (y ∷ since)
anchor_after y (AtSid q since) = AtSid q (y ∷ since)

-- the latest anchor of a history
unfoldable pub anchor_of : List Heard → Anchor
anchor_of [] = NoAnchor
anchor_of (Good p ∷ past) = AtGood p []
anchor_of (Sid q ∷ past) = AtSid q []
anchor_of (Idle ∷ past) = NoAnchor
anchor_of (Lost missed ∷ past) = anchor_after (Lost missed) (anchor_of past)

-- how many descriptors were missed
abbrev pub missed_in : List Heard → ℕ
missed_in since = length (filter is_missed since)

-- for how many periods the level has fallen: 1 in that of the second missed descriptor
unfoldable pub periods_of_fall : List Heard → ℕ
periods_of_fall [] = 0
periods_of_fall (y ∷ since) = periods_of_fall since + (if nat_le fall_from_missed (missed_in (y ∷ since)) then 1 else 0)

-- the base of the noise, if it approaches descriptor q from `old` and this was heard after q
abbrev pub approached_of : Fields → Fields → List Heard → Fields
approached_of old q since = mix_of old q (min (length since + 1) approach_steps)

-- where the approach of a further descriptor q starts, by the latest anchor before it. `old r` is where the approach of
-- a descriptor r there began
abbrev pub start_from : Anchor → (Fields → Fields) → Fields → Fields
start_from NoAnchor old q = q
start_from (AtGood p since) old q = q
start_from (AtSid r since) old q = if periods_of_fall since == 0 then approached_of (old r) r since else q

-- where the approach of descriptor q, the latest anchor, began
unfoldable pub approach_start_of : List Heard → Fields → Fields
approach_start_of [] q = q
approach_start_of (y ∷ past) q = if is_anchor y then start_from (anchor_of past) (λ r. approach_start_of past r) q else approach_start_of past q

-- what the frame of the newest period is made from, by the latest anchor
abbrev pub origin_from : (Fields → Fields) → Anchor → Origin
origin_from old NoAnchor = NoFrame
origin_from old (AtGood p []) = GoodFrame p
origin_from old (AtGood p (y ∷ since)) = LostFrame p (min (length (y ∷ since)) silent_from_lost)
origin_from old (AtSid q since) = NoiseFrame (approached_of (old q) q since) (min (periods_of_fall since) silent_from_fall)

abbrev pub origin_of : List Heard → Origin
origin_of past = origin_from (λ q. approach_start_of past q) (anchor_of past)

-- how many draws all periods took
unfoldable pub draw_count : List Heard → ℕ
draw_count [] = 0
draw_count (y ∷ past) = draw_count past + draws_of (origin_of (y ∷ past))

-- the effective frame of the newest period of a call
unfoldable pub effective_of : ℕ → List Heard → EffectiveFields
effective_of call [] = Quiet
effective_of call (y ∷ past) = frame_of (origin_of (y ∷ past)) (draws_from call (draw_count past))
