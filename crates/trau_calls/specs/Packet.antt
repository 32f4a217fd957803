-- What a datagram does to a call.
use Rattle.std.specs.Prelude.{◌≡◌, ℕ, zero, suc, List}
use Rattle.rtp_session.specs.declared.incoming.Outcome.{Outcome}
use Rattle.rtp_session.specs.declared.incoming.Outcome.TheVariants.{Taken, NoPacket, Control, OtherType, Empty, OddSize, TooLong, OnProbation, GivenUp, Far}
use Rattle.rtp_session.specs.Datagram.{TakesDatagram}
use Rattle.rtp_session.specs.Incoming.{IsAdmitted, IsUntouched, PlaysTheSame}
use Rattle.rtp_call.specs.declared.call.Call.{Call}

-- the number of an outcome for C
abbrev pub reason_of : Outcome → ℕ
reason_of Taken = 0
reason_of NoPacket = 1
reason_of Control = 2
reason_of OtherType = 3
reason_of Empty = 4
reason_of OddSize = 5
reason_of TooLong = 6
reason_of OnProbation = 7
reason_of GivenUp = 8
reason_of Far = 9

-- The stream of the side takes it. Side 0 is the base station, any other one the exchange.
abbrev pub SideTakes : ℕ → Call → Call → List ℕ → ℕ → ℕ → Outcome → Type 0
SideTakes zero old new datagram tick behind outcome = TakesDatagram old.gsm new.gsm datagram tick behind outcome
SideTakes (suc other) old new datagram tick behind outcome = TakesDatagram old.pcm new.pcm datagram tick behind outcome

-- **What becomes of a datagram, by its octets, the side's stream and the tick**, and its number
pub record TakesPacket (side : ℕ) (old new : Call) (datagram : List ℕ) (tick behind reason : ℕ) : Type 0 where
  pub outcome : Outcome
  pub reason_is : reason ≡ reason_of outcome
  pub takes : SideTakes side old new datagram tick behind outcome

-- **A stranger's datagram changes nothing but counts, who is on probation, and what came of the source that is heard.**
abbrev pub IsStrangers : ℕ → Call → Call → List ℕ → ℕ → Type 0
IsStrangers zero old new datagram tick = (IsAdmitted old.gsm datagram tick → ⊥) → IsUntouched old.gsm new.gsm
IsStrangers (suc other) old new datagram tick = (IsAdmitted old.pcm datagram tick → ⊥) → IsUntouched old.pcm new.pcm

-- nothing changes of what is played of the side
abbrev pub SidePlaysTheSame : ℕ → Call → Call → Type 0
SidePlaysTheSame zero old new = PlaysTheSame old.gsm.stream new.gsm.stream
SidePlaysTheSame (suc other) old new = PlaysTheSame old.pcm.stream new.pcm.stream

-- the other side, both coders and both outgoing streams stay
abbrev pub IsOfSide : ℕ → Call → Call → Type 0
IsOfSide zero old new = new ≡ record old { gsm = new.gsm }
IsOfSide (suc other) old new = new ≡ record old { pcm = new.pcm }
