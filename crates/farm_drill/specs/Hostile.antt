-- Uplinks that no base station sends (this project's profile).
use Rattle.std.specs.Prelude.{ℕ, ◌*◌, ◌%◌, ◌==◌, false, if◌then◌else◌, List, [], ◌∷◌, map, replicate, slice_index}
use Rattle.std.specs.List.{range_with_len, flat_map}
use Rattle.trau_bits.specs.Bits.{octets_of}
use Rattle.trau_params.specs.Fields.{Fields}
use Rattle.trau_params.specs.Bits260.{bits260}
use Rattle.trau_frame.specs.declared.frames.Kind.TheVariants.{Speech}
use Rattle.trau_frame.specs.declared.frames.Class.TheVariants.{Good}
use Rattle.trau_frame.specs.UpBits.{bits_saying}
use Rattle.farm_drill.specs.declared.hostile_line.HostileKind.{HostileKind}
use Rattle.farm_drill.specs.declared.hostile_line.HostileKind.TheVariants.{Zeros, Ones, GreatestDelay, Advance, Cut, DataOnes}

-- what the encoder makes of a frame of zero samples from its initial state
abbrev pub zero_fields : Fields
zero_fields = record {
  larc = 32 ∷ 32 ∷ 20 ∷ 11 ∷ 8 ∷ 5 ∷ 3 ∷ 2 ∷ [];
  nc = replicate 4 40;
  bc = replicate 4 0;
  mc = replicate 4 0;
  xmaxc = replicate 4 0;
  xmc = replicate 4 (replicate 13 4);
}

-- the bits of a good speech frame with this alignment field and these data bits; TAF and DTXd are 0
unfoldable pub good_bits : ℕ → List ℕ → List ℕ
good_bits align d = bits_saying (record { kind = Speech; class = Good; taf = false; dtxd = false; align = align; d = d })

-- the bits of a frame of zero samples with this alignment field
unfoldable pub zero_bits : ℕ → List ℕ
zero_bits align = good_bits align (bits260 zero_fields)

-- the bits of a period of a line that repeats the first 305 bits of a frame of zero samples
unfoldable pub cut_bits : ℕ → List ℕ
cut_bits period = map (λ p. slice_index (zero_bits 0) (p % 305)) (range_with_len (320 * period) 320)

-- what the line with a number, 0 to 5, consists of
unfoldable pub hostile_kind : ℕ → HostileKind
hostile_kind number =
    if number == 0 then Zeros
    else if number == 1 then Ones
    else if number == 2 then GreatestDelay
    else if number == 3 then Advance
    else if number == 4 then Cut
    else DataOnes

-- the 40 octets of a period: bits alone, frames of zero samples that ask for the greatest delay (39) or an advance (63)
-- or that are each cut after their 305th bit, or good frames whose data bits are all 1
unfoldable pub hostile_octets : HostileKind → ℕ → List ℕ
hostile_octets Zeros period = replicate 40 0
hostile_octets Ones period = replicate 40 255
hostile_octets GreatestDelay period = octets_of (zero_bits 39)
hostile_octets Advance period = octets_of (zero_bits 63)
hostile_octets Cut period = octets_of (cut_bits period)
hostile_octets DataOnes period = octets_of (good_bits 0 (replicate 260 1))

-- the line: the octets of its periods, one after the other
unfoldable pub hostile_line : ℕ → ℕ → List ℕ
hostile_line kind periods = flat_map (hostile_octets (hostile_kind kind)) (range_with_len 0 periods)
