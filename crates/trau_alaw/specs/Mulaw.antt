-- Mu-law (G.711, table 2a), in values of 16 bits.
use Rattle.std.specs.Prelude.{ℕ, ◌+◌, ◌-◌, ◌*◌, ◌/◌, ◌%◌, ◌^◌, ◌==◌, ◌&&◌, nat_lt, bit_xor, if◌then◌else◌}
use Rattle.trau_alaw.specs.Companding.{Companding}

-- the least magnitude of a step of a segment; the first interval is cut off at 0
abbrev pub mulaw_least : ℕ → ℕ → ℕ
mulaw_least segment step = (16 + step) * 2 ^ (segment + 3) - 132

-- the magnitude after the last one of a step of a segment; magnitudes above 32,635 belong to the last interval
abbrev pub mulaw_end : ℕ → ℕ → ℕ
mulaw_end segment step = if segment == 7 && step == 15 then 32768 else (17 + step) * 2 ^ (segment + 3) - 132

-- the magnitude that stands for a step of a segment
abbrev pub mulaw_centre : ℕ → ℕ → ℕ
mulaw_centre segment step = (16 + step) * 2 ^ (segment + 3) + 2 ^ (segment + 2) - 132

-- the octet with every bit inverted is a sign (1 for negative), three bits of segment and four bits of step
unfoldable pub mulaw : Companding
mulaw octet =
    let code = bit_xor octet 255 in
    record {
      is_positive = nat_lt code 128;
      least = mulaw_least (code / 16 % 8) (code % 16);
      width = mulaw_end (code / 16 % 8) (code % 16) - mulaw_least (code / 16 % 8) (code % 16);
      centre = mulaw_centre (code / 16 % 8) (code % 16);
    }
