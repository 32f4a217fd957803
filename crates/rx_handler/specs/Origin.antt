-- The effective frame of a period, and what it is made from.
use Rattle.std.specs.Prelude.{ℕ, Bool, true, false}
use Rattle.trau_params.specs.Fields.{Fields}
use Rattle.trau_params.specs.Silence.{silent_fields}
use Rattle.rx_subst.specs.Lost.{lost_of, lost_draws}
use Rattle.rx_noise.specs.Noise.{noise_of, noise_draws}

-- an effective frame by its fields
pub data EffectiveFields : Type 0 where
  Quiet : EffectiveFields
  Speech Made : Fields → EffectiveFields

abbrev pub is_quiet : EffectiveFields → Bool
is_quiet Quiet = true
is_quiet (Speech p) = false
is_quiet (Made p) = false

-- the fields that an effective frame hands to the partner of a bridge: silence if the call is quiet
abbrev pub handed_fields : EffectiveFields → Fields
handed_fields Quiet = silent_fields
handed_fields (Speech p) = p
handed_fields (Made p) = p

-- what it is made from. NoFrame: nothing, as the call is quiet. GoodFrame: this good speech frame. LostFrame: the last
-- good speech frame, and how many periods ago it came. NoiseFrame: the base of the noise, which approaches the latest
-- silence descriptor, and for how many periods the level has fallen. Both counts stop where the frame is silence. Base:
-- the frame before its level is lowered and its lags, gains and random parts are set; so only its ratios and block
-- maxima count.
pub data Origin : Type 0 where
  NoFrame : Origin
  GoodFrame : Fields → Origin
  LostFrame NoiseFrame : Fields → ℕ → Origin

-- how many draws the frame takes
abbrev pub draws_of : Origin → ℕ
draws_of NoFrame = 0
draws_of (GoodFrame p) = 0
draws_of (LostFrame p n) = lost_draws n
draws_of (NoiseFrame q fall) = noise_draws fall

-- the frame; `draw k m` is its draw number k, from 0, below m
abbrev pub frame_of : Origin → (ℕ → ℕ → ℕ) → EffectiveFields
frame_of NoFrame draw = Quiet
frame_of (GoodFrame p) draw = Speech p
frame_of (LostFrame p n) draw = Made (lost_of p n draw)
frame_of (NoiseFrame q fall) draw = Made (noise_of q fall draw)
