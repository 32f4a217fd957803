-- Which of the four grids of a block is coded (GSM 06.10, section 4.2.14).
use Rattle.std.specs.Prelude.{ℕ, ◌+◌, ◌*◌, ◌^◌, ◌<◌, ◌≡◌, Bool, ℤ, pos, ◌+ℤ◌, ◌<ℤ◌, ◌≤ℤ◌, int_le, List, map, fold}
use Rattle.std.specs.List.{range_with_len, find, list_all}
use Rattle.std.specs.Option.{unwrap_or}
use Rattle.trau_num.specs.Num.{l_mult_of, floor_shr, entry}

-- xM of the grid that starts at m: thirteen samples, three apart
unfoldable pub pulses_on_grid : List ℤ → ℕ → List ℤ
pulses_on_grid x m = map (λ i. entry x (m + 3 * i)) (range_with_len 0 13)

-- the energy of one sample: twice the square of a quarter of it
unfoldable pub sample_energy : ℤ → ℤ
sample_energy x = l_mult_of (floor_shr x 2) (floor_shr x 2)

-- EM: the energy of the first n samples of the grid that starts at m
unfoldable pub energy_up_to : ℕ → List ℤ → ℕ → ℤ
energy_up_to n x m = fold ◌+ℤ◌ (pos 0) (map (λ i. sample_energy (entry x (m + 3 * i))) (range_with_len 0 n))

-- the energy of the whole grid that starts at m
abbrev pub grid_energy : List ℤ → ℕ → ℤ
grid_energy x m = energy_up_to 13 x m

-- the four grids, each by its first sample
unfoldable pub grids : List ℕ
grids = range_with_len 0 4

-- no grid has more energy than the grid m
unfoldable pub is_strongest : List ℤ → ℕ → Bool
is_strongest x m = list_all (λ n. int_le (grid_energy x n) (grid_energy x m)) grids

-- Mc: the first of the strongest grids; there always is one, so the default 0 never counts
unfoldable pub grid_of : List ℤ → ℕ
grid_of x = unwrap_or (find (is_strongest x) grids) 0

-- no grid has more energy than the grid m, and each before it has less
pub record IsStrongestGrid (x : List ℤ) (m : ℕ) : Type 0 where
  pub below_4 : m < 4
  pub greatest : (n : ℕ) → n < 4 → grid_energy x n ≤ℤ grid_energy x m
  pub least : (n : ℕ) → n < m → grid_energy x n <ℤ grid_energy x m

-- the energies of the first n samples of each grid, each within 0 to 2^27 * n
pub record AreEnergies (n : ℕ) (x sums : List ℤ) : Type 0 where
  pub each : (m : ℕ) → m < 4 → entry sums m ≡ energy_up_to n x m
  pub at_least : (m : ℕ) → m < 4 → pos 0 ≤ℤ entry sums m
  pub at_most : (m : ℕ) → m < 4 → entry sums m ≤ℤ pos (2 ^ 27 * n)
