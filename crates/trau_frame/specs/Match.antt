-- The places on a line that have the sync pattern of a frame (GSM 08.60). A line is a function that gives the bit at
-- each place, from 0 on.
use Rattle.std.specs.Prelude.{ℕ, ◌+◌, Bool, true, ◌==◌, List, map, slice_index}
use Rattle.std.specs.List.{list_all, range_with_len}
use Rattle.trau_frame.specs.Role.{Role, Sync, Control, Data, Time, role_of}

-- a list of bits as a line
abbrev pub bit_in : List ℕ → ℕ → ℕ
bit_in bits p = slice_index bits p

-- whether a bit fits a role: a sync bit has its value, and any other bit fits
abbrev pub fits : Role → ℕ → Bool
fits (Sync value) bit = bit == value
fits (Control c) bit = true
fits (Data n) bit = true
fits (Time t) bit = true

-- the 35 sync bits of the frame at place p have their values
unfoldable pub is_match : (ℕ → ℕ) → ℕ → Bool
is_match line p = list_all (λ i. fits (role_of i) (line (p + i))) (range_with_len 0 320)

-- the 320 bits from place p on
unfoldable pub frame_at : (ℕ → ℕ) → ℕ → List ℕ
frame_at line p = map (λ i. line (p + i)) (range_with_len 0 320)
