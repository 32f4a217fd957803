-- The job of the tests: writes down at each place how many places remain, as a decimal digit.
use Rattle.std.specs.Prelude.{ℕ, zero, suc, ◌+◌, ◌*◌, ◌%◌, ◌^◌}

-- the digits after n more places, in 32 bits
abbrev pub digits_after : ℕ → ℕ → ℕ
digits_after zero digits = digits
digits_after (suc n) digits = digits_after n ((digits * 10 % 2 ^ 32 + suc n) % 2 ^ 32)
