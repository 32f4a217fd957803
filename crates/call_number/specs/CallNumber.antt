-- The numbers of calls (this project's profile).
use Rattle.std.specs.Prelude.{ℕ, ◌≤◌, List}
use Rattle.std.specs.List.{range_with_len}

-- calls are numbered from 1 to 4,096
abbrev pub IsCallNumber : ℕ → Type 0
IsCallNumber c = (1 ≤ c) × (c ≤ 4096)

-- all call numbers, in ascending order
abbrev pub call_numbers : List ℕ
call_numbers = range_with_len 1 4096
