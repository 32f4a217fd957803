-- The bits of a frame by their roles, in either direction (GSM 08.60).
use Rattle.std.specs.Prelude.{◌≡◌, ℕ, zero, suc, ◌+◌, ◌-◌, ◌*◌, ◌<◌, List, map, length, slice_index}
use Rattle.std.specs.List.{range_with_len}
use Rattle.trau_frame.specs.Role.{Role, Sync, Control, Data, Time, role_of, bit_with}

-- each sync bit has its value
abbrev pub Synced : List ℕ → Type 0
Synced bits = (i bit : ℕ) → i < 320 → role_of i ≡ Sync bit → slice_index bits i ≡ bit

-- the number in n control bits from C`first` on, most significant first
unfoldable pub number_in : List ℕ → ℕ → ℕ → ℕ
number_in bits first zero = 0
number_in bits first (suc n) = 2 * number_in bits first n + bit_with bits (Control (first + n))

-- the data bits D1 to D260
unfoldable pub data_of : List ℕ → List ℕ
data_of bits = map (λ n. bit_with bits (Data n)) (range_with_len 1 260)

-- the bit that is written for a role; `control` has C1 to C21, `d` has D1 to D260, and T bits are 1
abbrev pub bit_for : List ℕ → List ℕ → Role → ℕ
bit_for control d (Sync bit) = bit
bit_for control d (Control c) = slice_index control (c - 1)
bit_for control d (Data n) = slice_index d (n - 1)
bit_for control d (Time t) = 1

-- the 320 bits with these control and data bits
unfoldable pub frame_bits : List ℕ → List ℕ → List ℕ
frame_bits control d = map (λ i. bit_for control d (role_of i)) (range_with_len 0 320)

-- the first n of the 320 places have these control and data bits
pub record IsWritten (control d bits : List ℕ) (n : ℕ) : Type 0 where
  pub count : length bits ≡ 320
  pub each : (i : ℕ) → i < n → slice_index bits i ≡ bit_for control d (role_of i)
