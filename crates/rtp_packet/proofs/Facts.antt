-- What is known of octets that are a packet: they pass each test.
use Rattle.std.proofs.Common.{◌≡◌, ℕ, ◌+◌, ◌-◌, ◌*◌, ◌<◌, ◌≤◌, List, length, refl, arith}
use Rattle.std.specs.Prelude.{true, false, Option, Some, None, Ok, slice_index}
use Rattle.rtp_packet.specs.declared.packet.Packet.{Packet}
use Rattle.rtp_packet.specs.Packet.{packet_of, packet_within, header_of, version_of, is_control, payload_from, padding_of, number_of_two, has_extension, has_padding, sources_end}

pub record Passes (xs : List ℕ) (p : Packet) : Type 0 where
  pub padding : ℕ
  pub twelve : 12 ≤ length xs
  pub version : version_of xs ≡ 2
  pub media : is_control (header_of xs).payload_type ≡ false
  pub from : payload_from xs ≡ Some p.from
  pub padding_is : padding_of xs ≡ Some padding
  pub room : p.from + padding ≤ length xs
  pub header : p.header ≡ header_of xs
  pub until : p.until ≡ length xs - padding

pub passed : (xs : List ℕ) (p : Packet) → Passes xs p → packet_of xs ≡ Ok p
unfolding packet_of
passed xs p h = grind (arith, h.twelve, h.version, h.media, h.from, h.padding_is, h.room, h.header, h.until)

-- ---- the tests of a packet

twelve : (xs : List ℕ) (p : Packet) → packet_of xs ≡ Ok p → 12 ≤ length xs
unfolding packet_of
twelve xs p h = grind (arith, h)

version : (xs : List ℕ) (p : Packet) → packet_of xs ≡ Ok p → version_of xs ≡ 2
unfolding packet_of
version xs p h = grind (arith, h)

media : (xs : List ℕ) (p : Packet) → packet_of xs ≡ Ok p → is_control (header_of xs).payload_type ≡ false
unfolding packet_of
media xs p h = grind (arith, h)

within_is : (xs : List ℕ) (p : Packet) → packet_of xs ≡ Ok p → packet_within xs (payload_from xs) (padding_of xs) ≡ Ok p
unfolding packet_of
within_is xs p h = grind (arith, h)

-- ---- the payload

record Within (xs : List ℕ) (from padding : Option ℕ) (p : Packet) : Type 0 where
  pub count : ℕ
  pub from_is : from ≡ Some p.from
  pub padding_is : padding ≡ Some count
  pub room : p.from + count ≤ length xs
  pub header : p.header ≡ header_of xs
  pub until : p.until ≡ length xs - count

within : (xs : List ℕ) (from padding : Option ℕ) (p : Packet) → packet_within xs from padding ≡ Ok p → Within xs from padding p
within xs None padding p h = absurd (grind (arith, h))
within xs (Some from) None p h = absurd (grind (arith, h))
within xs (Some from) (Some padding) p h = record {
  count = padding;
  from_is = grind (arith, h);
  padding_is = refl;
  room = grind (arith, h);
  header = grind (arith, h);
  until = grind (arith, h);
}

pub passes : (xs : List ℕ) (p : Packet) → packet_of xs ≡ Ok p → Passes xs p
passes xs p h =
    let inside : Within xs (payload_from xs) (padding_of xs) p = within xs (payload_from xs) (padding_of xs) p (within_is xs p h) in
    record {
      padding = inside.count;
      twelve = twelve xs p h;
      version = version xs p h;
      media = media xs p h;
      from = inside.from_is;
      padding_is = inside.padding_is;
      room = inside.room;
      header = inside.header;
      until = inside.until;
    }

-- ---- extension and padding, if there is some or none

pub from_plain : (xs : List ℕ) (from : ℕ) → payload_from xs ≡ Some from → has_extension xs ≡ false → from ≡ sources_end xs
from_plain xs from h e = grind (arith, h, e)

pub from_extended : (xs : List ℕ) (from : ℕ) → payload_from xs ≡ Some from → has_extension xs ≡ true →
    from ≡ sources_end xs + 4 + 4 * number_of_two xs (sources_end xs + 2)
from_extended xs from h e = grind (arith, h, e)

pub no_padding : (xs : List ℕ) (count : ℕ) → padding_of xs ≡ Some count → has_padding xs ≡ false → count ≡ 0
no_padding xs count h e = grind (arith, h, e)

pub some_padding : (xs : List ℕ) (count : ℕ) → padding_of xs ≡ Some count → has_padding xs ≡ true → count ≡ slice_index xs (length xs - 1)
some_padding xs count h e = grind (arith, h, e)

pub padding_counts : (xs : List ℕ) (count : ℕ) → padding_of xs ≡ Some count → has_padding xs ≡ true → 0 < count
padding_counts xs count h e = grind (arith, h, e)

-- ---- the same the other way

pub plain_from : (xs : List ℕ) → has_extension xs ≡ false → sources_end xs ≤ length xs → payload_from xs ≡ Some (sources_end xs)
plain_from xs e l = grind (arith, e, l)

pub extended_from : (xs : List ℕ) → has_extension xs ≡ true → sources_end xs + 4 ≤ length xs →
    payload_from xs ≡ Some (sources_end xs + 4 + 4 * number_of_two xs (sources_end xs + 2))
extended_from xs e l = grind (arith, e, l)

pub padding_none : (xs : List ℕ) → has_padding xs ≡ false → padding_of xs ≡ Some 0
padding_none xs e = grind (arith, e)

pub padding_some : (xs : List ℕ) → has_padding xs ≡ true → 0 < slice_index xs (length xs - 1) → padding_of xs ≡ Some (slice_index xs (length xs - 1))
padding_some xs e l = grind (arith, e, l)
