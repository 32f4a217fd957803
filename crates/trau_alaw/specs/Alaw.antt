-- A-law (G.711, table 1a), in values of 16 bits.
use Rattle.std.specs.Prelude.{ℕ, ◌+◌, ◌*◌, ◌/◌, ◌%◌, ◌^◌, nat_eq, nat_le, bit_xor, if◌then◌else◌}
use Rattle.trau_alaw.specs.Companding.{Companding}

-- the least magnitude of a step of a segment
abbrev pub alaw_least : ℕ → ℕ → ℕ
alaw_least segment step = if nat_eq segment 0 then 16 * step else (16 + step) * 2 ^ (segment + 3)

-- the number of magnitudes of a step of a segment
abbrev pub alaw_width : ℕ → ℕ
alaw_width segment = if nat_eq segment 0 then 16 else 2 ^ (segment + 3)

-- the octet with every second bit inverted (0x55) is a sign, three bits of segment and four bits of step
unfoldable pub alaw : Companding
alaw octet =
    let code = bit_xor octet 85 in
    record {
      is_positive = nat_le 128 code;
      least = alaw_least (code / 16 % 8) (code % 16);
      width = alaw_width (code / 16 % 8);
      centre = alaw_least (code / 16 % 8) (code % 16) + alaw_width (code / 16 % 8) / 2;
    }
