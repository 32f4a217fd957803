-- A packet without contributing sources, extension and padding.
use Rattle.std.proofs.Common.{◌≡◌, ℕ, ◌+◌, List, [], ◌++◌, length, refl, sym, ap, arith}
use Rattle.std.specs.Prelude.{false, Ok, slice_index}
use Rattle.std.proofs.lemmas.List.{append-nil}
use Rattle.rtp_packet.specs.declared.header.Header.{Header}
use Rattle.rtp_packet.specs.declared.packet.Packet.{Packet}
use Rattle.rtp_packet.specs.Packet.{packet_of, header_of, is_control, plain_octet}
use Rattle.rtp_packet.specs.Layout.{Parts, AreParts}
use Rattle.rtp_packet.proofs.Facts.{passed}
use Rattle.rtp_packet.proofs.Laid.{parts_pass}

abbrev plain_parts : List ℕ → List ℕ → Parts
plain_parts head payload = record { head = head; sources = []; extension = []; payload = payload; padding = [] }

abbrev plain : Header → List ℕ → Packet
plain h payload = record { header = h; from = 12; until = 12 + length payload }

are_parts : (head payload : List ℕ) (h : Header) → length head ≡ 12 → slice_index head 0 ≡ plain_octet → header_of head ≡ h →
    is_control h.payload_type ≡ false → AreParts (plain_parts head payload) (plain h payload)
are_parts head payload h n first says media = record {
  head = n;
  version = rw first refl;
  says = sym says;
  media = media;
  sources = rw first refl;
  extension = rw first refl;
  padding = rw first refl;
  from = omega (arith, n);
  until = refl;
}

pub plain_packet : (head payload : List ℕ) (h : Header) → length head ≡ 12 → slice_index head 0 ≡ plain_octet → header_of head ≡ h →
    is_control h.payload_type ≡ false → packet_of (head ++ payload) ≡ Ok (plain h payload)
plain_packet head payload h n first says media =
    passed (head ++ payload) (plain h payload) (parts_pass (head ++ payload) (plain h payload) (record {
      parts = plain_parts head payload;
      joined_is = ap (λ (r : List ℕ). head ++ r) (sym (append-nil payload));
      laid_out = are_parts head payload h n first says media;
    }))
