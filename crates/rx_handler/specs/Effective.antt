-- The effective frame of each period of a call, by looking back over what was heard in its periods, numbered from 0
-- (this project's profile, where GSM 06.11, 06.12 and 06.31 leave it open).
use Rattle.std.specs.Prelude.{◌≡◌, ℕ, ◌+◌, ◌-◌, zero, suc, min, Bool, true, false, if◌then◌else◌, ◌==◌, Option, Some, None, List, map, filter, length}
use Rattle.std.specs.Prelude.{slice_get, slice_index_or}
use Rattle.std.specs.List.{range_with_len}
use Rattle.std.specs.Option.{option_map_or}
use Rattle.trau_params.specs.Fields.{Fields}
use Rattle.rx_muting.specs.Draws.{draws_from}
use Rattle.rx_subst.specs.Lost.{silent_from_lost}
use Rattle.rx_noise.specs.Mix.{approach_steps, mix_of}
use Rattle.rx_noise.specs.Noise.{silent_from_fall}
use Rattle.rx_handler.specs.Profile.{fall_from_missed}
use Rattle.rx_handler.specs.Heard.{Heard, Good, Sid, Idle, Lost}
use Rattle.rx_handler.specs.Origin.{Origin, NoFrame, GoodFrame, LostFrame, NoiseFrame, draws_of, frame_of, EffectiveFields}

-- an anchor: good speech, a silence descriptor or an idle frame
abbrev pub is_anchor : Heard → Bool
is_anchor (Good p) = true
is_anchor (Sid q) = true
is_anchor Idle = true
is_anchor (Lost missed) = false

-- a missed descriptor: one was due, and an unusable speech frame came
abbrev pub is_missed : Heard → Bool
is_missed (Good p) = false
is_missed (Sid q) = false
is_missed Idle = false
is_missed (Lost missed) = missed

-- the period of the latest anchor up to and including period k
unfoldable pub latest_anchor : (ℕ → Heard) → ℕ → Option ℕ
latest_anchor heard zero = if is_anchor (heard 0) then Some 0 else None
latest_anchor heard (suc k) = if is_anchor (heard (suc k)) then Some (suc k) else latest_anchor heard k

-- the periods after g, up to and including k, in which a descriptor was missed
unfoldable pub missed_since : (ℕ → Heard) → ℕ → ℕ → List ℕ
missed_since heard g k = filter (λ i. is_missed (heard i)) (range_with_len (g + 1) (k - g))

-- for how many periods the level has fallen in period k: 1 in that of the second missed descriptor after g
unfoldable pub fall_at : (ℕ → Heard) → ℕ → ℕ → ℕ
fall_at heard g k = option_map_or (λ t. min (k - t + 1) silent_from_fall) (slice_get (missed_since heard g k) (fall_from_missed - 1)) 0

-- the base of the noise in period k, if it has approached descriptor q from `old` since period g, a step in each period
abbrev pub approached_at : Fields → Fields → ℕ → ℕ → Fields
approached_at old q g k = mix_of old q (min (k - g + 1) approach_steps)

-- Descriptor q comes in period k + 1; the latest anchor before it is period g, heard as the last argument. The approach
-- starts at the base of period k, if g was a descriptor whose noise hasn't begun to fall; otherwise at q itself. `old
-- r` is where the approach of a descriptor r in g began.
abbrev pub start_after : (ℕ → Heard) → ℕ → (Fields → Fields) → Fields → ℕ → Heard → Fields
start_after heard k old q g (Good p) = q
start_after heard k old q g (Sid r) = if fall_at heard g k == 0 then approached_at (old r) r g k else q
start_after heard k old q g Idle = q
start_after heard k old q g (Lost missed) = q

-- where the approach of descriptor q began, if q is the latest anchor in period k
unfoldable pub approach_start_at : (ℕ → Heard) → ℕ → Fields → Fields
approach_start_at heard zero q = q
approach_start_at heard (suc k) q =
    if is_anchor (heard (suc k))
    then option_map_or (λ g. start_after heard k (λ r. approach_start_at heard k r) q g (heard g)) (latest_anchor heard k) q
    else approach_start_at heard k q

-- the base of the noise in period k, if the latest anchor is descriptor q of period g
abbrev pub base_at : (ℕ → Heard) → ℕ → ℕ → Fields → Fields
base_at heard k g q = approached_at (approach_start_at heard k q) q g k

-- what the frame of period k is made from, if the latest anchor is period g, heard as the last argument
abbrev pub origin_after : (ℕ → Heard) → ℕ → ℕ → Heard → Origin
origin_after heard k g (Good p) = if g == k then GoodFrame p else LostFrame p (min (k - g) silent_from_lost)
origin_after heard k g (Sid q) = NoiseFrame (base_at heard k g q) (fall_at heard g k)
origin_after heard k g Idle = NoFrame
origin_after heard k g (Lost missed) = NoFrame

-- what the frame of period k is made from: nothing, if there is no anchor yet
unfoldable pub origin_at : (ℕ → Heard) → ℕ → Origin
origin_at heard k = option_map_or (λ g. origin_after heard k g (heard g)) (latest_anchor heard k) NoFrame

-- how many draws the periods before period k took: its own draws are numbered from there on
unfoldable pub draws_before : (ℕ → Heard) → ℕ → ℕ
draws_before heard zero = 0
draws_before heard (suc k) = draws_before heard k + draws_of (origin_at heard k)

-- the effective frame of period k of a call; the random source starts at the call's number
unfoldable pub effective_at : ℕ → (ℕ → Heard) → ℕ → EffectiveFields
effective_at call heard k = frame_of (origin_at heard k) (draws_from call (draws_before heard k))

-- period k has noise: the latest anchor is period g, in which descriptor q came
abbrev pub IsNoise : (ℕ → Heard) → ℕ → ℕ → Fields → Type 0
IsNoise heard k g q = (latest_anchor heard k ≡ Some g) × (heard g ≡ Sid q)

-- what was heard in period k, from the list of all periods, the oldest first; after its end: lost
abbrev pub heard_in : List Heard → ℕ → Heard
heard_in ys k = slice_index_or ys k (Lost false)

-- the effective frame of each period of a list
abbrev pub effectives : ℕ → List Heard → List EffectiveFields
effectives call ys = map (effective_at call (heard_in ys)) (range_with_len 0 (length ys))
