-- The yield of each period, by the mode of the search. A period has 40 octets; a history has the newest period first.
use Rattle.std.specs.Prelude.{ℕ, zero, suc, ◌+◌, ◌-◌, ◌*◌, ◌≡◌, ◌≤◌, ◌<◌, Bool, true, false, ◌&&◌, if◌then◌else◌, ◌==◌, nat_le, nat_lt, max, List, [], ◌∷◌}
use Rattle.std.specs.Prelude.{◌++◌, length, All, reverse, slice_index_or, Option, Some, None, option_to_list}
use Rattle.std.specs.List.{flat_map}
use Rattle.trau_bits.specs.Bits.{AreBits, bits_of}
use Rattle.trau_frame.specs.Frame.{Synced}
use Rattle.frame_sync.specs.declared.yields.Mode.{Mode}
use Rattle.frame_sync.specs.declared.yields.Mode.TheVariants.{Hunting, Locked}
use Rattle.frame_sync.specs.declared.yields.Yield.{Yield}
use Rattle.frame_sync.specs.declared.yields.Yield.TheVariants.{Frame, Miss}
use Rattle.trau_frame.specs.Match.{bit_in, is_match, frame_at}
use Rattle.frame_sync.specs.Yields.{misses_to_hunt, place_of}

-- the mode after a miss at p with `misses` misses in a row before it: after the last miss of a lock the search hunts
abbrev pub after_miss : ℕ → ℕ → Mode
after_miss p misses = if misses + 1 == misses_to_hunt then Hunting (p + 320) else Locked (p + 320) (misses + 1)

-- the first of `count` places from `first` on that matches
unfoldable pub first_match : (ℕ → ℕ) → ℕ → ℕ → Option ℕ
first_match line first zero = None
first_match line first (suc count) = if is_match line first then Some first else first_match line (first + 1) count

-- when hunting from `low` on: the first match whose last bit is one of the 320 bits of the period that begins at `base`
abbrev pub found_in : (ℕ → ℕ) → ℕ → ℕ → Option ℕ
found_in line base low = let first = max low (base - 319) in first_match line first (base + 1 - first)

-- the yield and the next mode if the search hunted from `low` on and found this
abbrev pub hunted : (ℕ → ℕ) → ℕ → Option ℕ → Option Yield × Mode
hunted line low None = (None, Hunting low)
hunted line low (Some p) = (Some (Frame p (frame_at line p)), Locked (p + 320) 0)

-- the yield and the next mode if a frame was due at `next`, by whether that place matches
abbrev pub yield_due : (ℕ → ℕ) → ℕ → ℕ → Bool → Option Yield × Mode
yield_due line next misses true = (Some (Frame next (frame_at line next)), Locked (next + 320) 0)
yield_due line next misses false = (Some (Miss next), after_miss next misses)

-- the yield of the period that begins at `base`, and the mode after it; while locked, the frame that is due always ends
-- in it
unfoldable pub searched : (ℕ → ℕ) → ℕ → Mode → Option Yield × Mode
searched line base (Hunting low) = hunted line low (found_in line base low)
searched line base (Locked next misses) = yield_due line next misses (is_match line next)

-- all bits of the periods, the oldest first
unfoldable pub line_bits : List (List ℕ) → List ℕ
line_bits [] = []
line_bits (octets ∷ past) = line_bits past ++ bits_of octets

-- the mode after all periods
unfoldable pub mode_after : List (List ℕ) → Mode
mode_after [] = Hunting 0
mode_after (octets ∷ past) = (searched (bit_in (line_bits (octets ∷ past))) (320 * length past) (mode_after past)).1

-- the yield that ends in the period after the past, or none
abbrev pub yield_of : List ℕ → List (List ℕ) → Option Yield
yield_of octets past = (searched (bit_in (line_bits (octets ∷ past))) (320 * length past) (mode_after past)).0

-- each period's yield, the oldest first
unfoldable pub each_yield : List (List ℕ) → List (Option Yield)
each_yield [] = []
each_yield (octets ∷ past) = each_yield past ++ yield_of octets past ∷ []

-- every period has 40 octets
abbrev pub ArePeriods : List (List ℕ) → Type 0
ArePeriods periods = All (λ octets. length octets ≡ 40) periods

-- the yield of period k, or none, of periods with the oldest first
abbrev pub yield_in : List (List ℕ) → ℕ → Option Yield
yield_in periods k = slice_index_or (each_yield (reverse periods)) k None

-- all their yields in order
abbrev pub all_yields : List (List ℕ) → List Yield
all_yields periods = flat_map option_to_list (each_yield (reverse periods))

-- all their bits in order
abbrev pub all_bits : List (List ℕ) → List ℕ
all_bits periods = flat_map bits_of periods

-- the last of a yield's 320 bits is one of bits 320 k to 320 k + 319
abbrev pub EndsIn : ℕ → Yield → Type 0
EndsIn k y = (320 * k ≤ place_of y + 319) × (place_of y + 319 < 320 * k + 320)

-- the same as a test
abbrev pub ends_in : ℕ → Yield → Bool
ends_in k y = nat_le (320 * k) (place_of y + 319) && nat_lt (place_of y + 319) (320 * k + 320)

-- a frame has 320 bits with the sync pattern
abbrev pub CarriesFrame : Yield → Type 0
CarriesFrame (Frame p f) = (length f ≡ 320) × AreBits f × Synced f
CarriesFrame (Miss p) = Unit {0}
