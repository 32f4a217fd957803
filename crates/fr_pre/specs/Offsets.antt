-- Offset compensation as a sequence of offsets (GSM 06.10, section 4.2.2): L_z2 is 2^15 times the downscaled sample
-- plus an offset, which slowly follows the mean of the samples, with the opposite sign.
use Rattle.std.specs.Prelude.{◌≡◌, ℕ, ◌+◌, ◌<◌, ◌≤◌, ◌^◌, ℤ, pos, ◌+ℤ◌, ◌-ℤ◌, ◌*ℤ◌, List, ◌∷◌, unsigned_abs}
use Rattle.trau_num.specs.Num.{clamp16, floor_shr, entry}
use Rattle.fr_pre.specs.Preprocessing.{downscaled, preemphasised}

-- the offset at the sample after so: 32735 / 2^15 of the offset at so, rounded, less 33 so; 1081344 is 33 * 2^15
unfoldable pub next_offset : ℤ → ℤ → ℤ
next_offset offset so = floor_shr (offset *ℤ pos 32735 +ℤ (pos 16384 -ℤ so *ℤ pos 1081344)) 15

-- sof of a downscaled sample and the offset at it
unfoldable pub without_offset : ℤ → ℤ → ℤ
without_offset so offset = clamp16 (so +ℤ floor_shr (offset +ℤ pos 16384) 15)

-- the magnitude of a downscaled sample is at most 2^14
abbrev pub IsDownscaled : ℤ → Type 0
IsDownscaled so = unsigned_abs so ≤ 2 ^ 14

-- the magnitude of an offset is at most 2^29, after any samples from the home state
abbrev pub IsOffset : ℤ → Type 0
IsOffset offset = unsigned_abs offset ≤ 2 ^ 29

-- the downscaled samples of a frame, after the last of the frame before
pub record AreDownscaled (before : ℤ) (x so : List ℤ) : Type 0 where
  pub first : entry so 0 ≡ before
  pub each : (k : ℕ) → k < 160 → entry so (k + 1) ≡ downscaled (entry x k)
  pub within : (k : ℕ) → k < 161 → IsDownscaled (entry so k)

-- the offset at each sample of a frame; the first follows from the offset `before`
pub record AreOffsets (before : ℤ) (so offsets : List ℤ) : Type 0 where
  pub each : (k : ℕ) → k < 160 → entry offsets k ≡ next_offset (entry (before ∷ offsets) k) (entry so k)
  pub within : (k : ℕ) → k < 160 → IsOffset (entry offsets k)

-- the samples without their offsets, after the last of the frame before
pub record AreFree (before : ℤ) (so offsets sof : List ℤ) : Type 0 where
  pub first : entry sof 0 ≡ before
  pub each : (k : ℕ) → k < 160 → entry sof (k + 1) ≡ without_offset (entry so (k + 1)) (entry offsets k)

-- the samples after preemphasis
pub record ArePreemphasised (sof s : List ℤ) : Type 0 where
  pub each : (k : ℕ) → k < 160 → entry s k ≡ preemphasised (entry sof k) (entry sof (k + 1))
