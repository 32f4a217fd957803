-- The state of a framer, by absolute places of the Pcm line and of the downlink.
use Rattle.std.specs.Prelude.{◌≡◌, ℕ, ◌+◌, ◌-◌, ◌*◌, ◌<◌, zero, suc, List, [], ◌∷◌, ◌++◌, length, drop}
use Rattle.down_framer.specs.Memory.{FramerMemory}
use Rattle.down_framer.specs.Made.{Period, MadeFrame, next_start, grown, made_frames, downlink_of}

-- The octets held are those of the Pcm line from the next frame's start on. If that start lies past the end of the
-- line, the octets up to it are to be skipped. The bits in store are those of the downlink so far, without the first
-- `out`.
pub record Holds (pcm line : List ℕ) (out start : ℕ) (s : FramerMemory) : Type 0 where
  pub held : s.held ≡ drop start pcm
  pub to_skip : s.to_skip ≡ start - length pcm
  pub stored : s.stored ≡ drop out line

-- ---- over lists of periods, with the newest first; the load of a period is its 160 octets

abbrev pub PcmPeriod : Type 0
PcmPeriod = Period (List ℕ)

abbrev pub PcmFrame : Type 0
PcmFrame = MadeFrame (List ℕ)

-- the Pcm line of some periods
abbrev pub pcm_of : List PcmPeriod → List ℕ
pcm_of [] = []
pcm_of (p ∷ past) = pcm_of past ++ p.load

-- The state between periods, after those of the past. `bits` gives the bits of the newest of some frames.
pub record StandsBetween (bits : List PcmFrame → List ℕ) (past : List PcmPeriod) (s : FramerMemory) : Type 0 where
  -- each period brought 160 octets
  pub pcm : length (pcm_of past) ≡ 160 * length past
  -- no frame is left to be made
  pub ahead : 160 * length past < next_start (made_frames past) + 160
  -- after the first 320 bits the downlink has two for each octet up to the next frame's start
  pub line : length (downlink_of bits (made_frames past)) ≡ 320 + 2 * next_start (made_frames past)
  pub places : Holds (pcm_of past) (downlink_of bits (made_frames past)) (320 * length past) (next_start (made_frames past)) s

-- the frames after n tries to make one in period p
abbrev pub tries : {A : Type 0} → ℕ → Period A → List (Period A) → List (MadeFrame A)
tries zero p past = made_frames past
tries (suc n) p past = grown p past (tries n p past)

-- The state within period p, after its octets were put and frames `fs` were made.
pub record StandsWithin (bits : List PcmFrame → List ℕ) (p : PcmPeriod) (past : List PcmPeriod) (fs : List PcmFrame) (s : FramerMemory) : Type 0 where
  pub pcm : length (pcm_of (p ∷ past)) ≡ 160 * length past + 160
  pub tried : (n : ℕ) × (fs ≡ tries n p past)
  pub ahead : 160 * length past < next_start fs + 160
  pub line : length (downlink_of bits fs) ≡ 320 + 2 * next_start fs
  pub places : Holds (pcm_of (p ∷ past)) (downlink_of bits fs) (320 * length past) (next_start fs) s
