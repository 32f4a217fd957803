-- A call whose Up line was recorded frame by frame: each period of it is one whole frame. Lists have the newest period
-- first.
use Rattle.std.specs.Prelude.{◌≡◌, ℕ, Bool, is_some, All, List, [], ◌∷◌, map, length}
use Rattle.trau_bits.specs.Bits.{bits_of}
use Rattle.trau_frame.specs.UpFrame.{words_in}
use Rattle.trau_frame.specs.Frame.{Synced}
use Rattle.fr_sides.specs.Receiving.{ReceiverPeriod}
use Rattle.fr_sides.specs.Octets.{HeardIn}
use Rattle.fr_sides.specs.Uplink.{heard_in_uplink, WrittenUplink}
use Rattle.call_leg.specs.Uplink.{field_by}
use Rattle.call_leg.specs.Periods.{CallPeriod}
use Rattle.call_sides.specs.Received.{receiver_period}
use Rattle.call_sides.specs.Sent.{AsksNoShift}
use Rattle.call_sides.specs.Written.{AreOctets33}

-- 40 octets with the sync pattern from their first bit on
abbrev pub IsWholeFrame : List ℕ → Type 0
IsWholeFrame octets = (length octets ≡ 40) × Synced (bits_of octets)

abbrev pub AreWholeFrames : List CallPeriod → Type 0
AreWholeFrames ts = All (λ t. IsWholeFrame t.up) ts

-- the frame of 40 octets asks for no shift
abbrev pub FrameAsksNoShift : List ℕ → Type 0
FrameAsksNoShift octets = let w = words_in (bits_of octets) in AsksNoShift (field_by w.kind w.align)

-- what the receive side gets by the frame of each period alone
abbrev pub recorded_periods : List CallPeriod → List ReceiverPeriod
recorded_periods ts = map (λ t. receiver_period (heard_in_uplink (bits_of t.up)) (is_some t.handed)) ts

-- The period t of a call records what the receive side got in p: its 40 octets of the Up line are the uplink frame for
-- the 33 octets, the kind and the TAF by which p was heard, and it lies in a bridge exactly if p was handed over.
pub record IsRecordOf (p : ReceiverPeriod) (t : CallPeriod) : Type 0 where
  pub frame : List ℕ
  pub kind : ℕ
  pub taf : Bool
  pub octets : AreOctets33 frame
  pub heard : HeardIn kind taf frame p.heard
  pub written : (length t.up ≡ 40) × WrittenUplink frame kind taf t.up
  pub handed : p.handed ≡ is_some t.handed

-- period by period
abbrev pub AreRecordsOf : List ReceiverPeriod → List CallPeriod → Type 0
AreRecordsOf [] [] = Unit {0}
AreRecordsOf [] (t ∷ ts) = ⊥
AreRecordsOf (p ∷ ps) [] = ⊥
AreRecordsOf (p ∷ ps) (t ∷ ts) = IsRecordOf p t × AreRecordsOf ps ts
