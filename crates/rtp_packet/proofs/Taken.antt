-- What is read of octets is the packet that they are.
use Rattle.std.proofs.Common.{◌≡◌, ℕ, List, sym, ◌∙◌}
use Rattle.std.specs.Prelude.{Result, Ok, Err, IfOk}
use Rattle.rtp_packet.specs.declared.packet.Packet.{Packet}
use Rattle.rtp_packet.specs.declared.packet.Refusal.{Refusal}
use Rattle.rtp_packet.specs.Packet.{packet_of}
use Rattle.rtp_packet.specs.Layout.{IsPacket}
use Rattle.rtp_packet.proofs.Facts.{passes, passed}
use Rattle.rtp_packet.proofs.Laid.{laid_out, parts_pass}

pub taken : (xs : List ℕ) (p : Packet) → packet_of xs ≡ Ok p → IsPacket xs p
taken xs p h = laid_out xs p (passes xs p h)

pub only : (xs : List ℕ) (p : Packet) → IsPacket xs p → packet_of xs ≡ Ok p
only xs p h = passed xs p (parts_pass xs p h)

pub if_packet : (xs : List ℕ) (r : Result Packet Refusal) → r ≡ packet_of xs → IfOk r (λ p. IsPacket xs p)
if_packet xs (Ok p) h = taken xs p (sym h)
if_packet xs (Err e) h = _

pub only_packet : (xs : List ℕ) (r : Result Packet Refusal) (p : Packet) → r ≡ packet_of xs → IsPacket xs p → r ≡ Ok p
only_packet xs r p h i = h ∙ only xs p i
