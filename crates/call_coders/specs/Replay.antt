-- A live call as `trau run` sees it: its recorded periods. Lists have the newest period first.
use Rattle.std.specs.Prelude.{◌≡◌, ℕ, ℤ, Bool, false, if◌then◌else◌, None, All, List, ◌∷◌, length, Some, true, ◌||◌}
use Rattle.trau_alaw.specs.declared.Law.{Law}
use Rattle.trau_alaw.specs.Period.{compressed, expanded}
use Rattle.trau_bits.specs.Bits.{bits_of}
use Rattle.trau_params.specs.Bits260.{bits260}
use Rattle.trau_orders.specs.declared.order.DtxMode.TheVariants.{On, Off}
use Rattle.trau_frame.specs.declared.frames.DownFrame.{DownFrame}
use Rattle.trau_frame.specs.declared.frames.DownFrame.TheVariants as down
use Rattle.trau_frame.specs.DownFrame.{down_bits}
use Rattle.rx_handler.specs.Past.{effective_of}
use Rattle.down_framer.specs.Bridges.{in_bridge, LeavePeriodsBetween}
use Rattle.fr_sides.specs.Memory.{ReceiverMemory, SenderMemory}
use Rattle.fr_sides.specs.Receiving.{ReceiverPeriod, ReceiverStands}
use Rattle.fr_sides.specs.Sending.{SenderPeriod, sender_period, sent_now, SenderStands}
use Rattle.fr_sides.specs.Octets.{ReceivedOctets, HandedOctets, CarriesFrame}
use Rattle.fr_sides.specs.Uplink.{WrittenUplink}
use Rattle.fr_sides.specs.Downlink.{WrittenDownlink}
use Rattle.call_leg.specs.Who.{Who}
use Rattle.call_leg.specs.Uplink.{heard_as, handed_fields}
use Rattle.call_leg.specs.Periods.{CallPeriod, sighting_after, heard_of}
use Rattle.call_leg.specs.Out.{out_of}
use Rattle.call_leg.specs.Down.{down_periods, frames_of, frame_now}
use Rattle.call_sides.specs.Received.{BridgesHavePeriods}
use Rattle.call_sides.specs.Sent.{sender_periods}
use Rattle.call_sides.specs.Recorded.{AreRecordsOf}
use Rattle.call_sides.specs.Written.{AreOctets33, kind_of_sp}
use Rattle.call_coders.specs.declared.coders.DownKind.{DownKind}
use Rattle.call_coders.specs.declared.coders.DownKind.TheVariants.{Speech, Descriptor, Idle}

abbrev pub who_is : ℕ → Law → Who
who_is number law = record { number = number; law = law }

-- a recorded period outside of bridges
abbrev pub period_of : List ℕ → List ℕ → ℤ → Bool → CallPeriod
period_of up pcm level dtx = record {
  up = up;
  pcm = pcm;
  level = level;
  mode = if dtx then On else Off;
  starts = false;
  handed = None;
}

-- one in a bridge, in which these 260 bits are handed over; `starts`: the bridge starts at it
abbrev pub bridged_period : List ℕ → List ℕ → ℤ → Bool → Bool → List ℕ → CallPeriod
bridged_period up pcm level dtx starts item = record {
  up = up;
  pcm = pcm;
  level = level;
  mode = if dtx then On else Off;
  starts = starts;
  handed = Some item;
}

-- What a call of `trau run` hands to its partner in a period with this frame on Up: the 260 bits of its effective
-- frame, by the call's number. They depend on nothing else of the period.
abbrev pub item_of : ℕ → List ℕ → List CallPeriod → List ℕ
item_of number up past = bits260 (handed_fields (effective_of number (heard_as (sighting_after past up) ∷ heard_of past)))

-- a bridge can start at the next period, if that doesn't follow a bridge, or can go on in it
abbrev pub CanBeBridged : Bool → List CallPeriod → Type 0
CanBeBridged starts past = (starts ≡ true → in_bridge (down_periods past) ≡ false) × ((starts || in_bridge (down_periods past)) ≡ true)

-- The state of the two coders is the one after these recorded periods.
pub record CallStands (who : Who) (ts : List CallPeriod) (receiver : ReceiverMemory) (sender : SenderMemory) : Type 0 where
  pub heard : List ReceiverPeriod
  pub records : AreRecordsOf heard ts
  pub receiver_is : ReceiverStands who.number heard receiver
  pub sender_is : SenderStands (sender_periods who ts) sender
  pub pcms : All (λ t. length t.pcm ≡ 160) ts
  pub bridges : LeavePeriodsBetween (down_periods ts)
  pub begun : BridgesHavePeriods ts

-- **After these periods the coders stand for them, and the newest octets of Out, and the newest frame for Down, are
-- those that a call of `trau run` makes of their Up and Pcm.**
pub record Replays (who : Who) (ts : List CallPeriod) (receiver : ReceiverMemory) (sender : SenderMemory) (out down : List ℕ) : Type 0 where
  pub stands : CallStands who ts receiver sender
  pub out_is : out ≡ out_of who ts
  pub down_is : bits_of down ≡ down_bits (frame_now who (frames_of ts))

-- ---- what Down carries

-- its number for `fr_sides`
abbrev pub number_of : DownKind → ℕ
number_of Speech = 0
number_of Descriptor = 1
number_of Idle = 3

-- that of a frame with this SP
abbrev pub kind_sent : Bool → DownKind
kind_sent true = Speech
kind_sent false = Descriptor

abbrev pub kind_in : DownFrame → DownKind
kind_in down.Idle = Idle
kind_in (down.Speech d sp) = kind_sent sp

-- **Down is the downlink frame for these 33 octets and this kind.**
pub record IsCarried (frame : List ℕ) (kind : DownKind) (down : List ℕ) : Type 0 where
  pub written : WrittenDownlink frame (number_of kind) down
  pub contents : DownFrame
  pub bits : bits_of down ≡ down_bits contents
  pub kind_is : kind ≡ kind_in contents

-- the octets `out` are what the receive side gives for a period, by the law
pub record HeardPeriod (law : Law) (frame : List ℕ) (kind : ℕ) (taf : Bool) (before after : ReceiverMemory) (out : List ℕ) (sounds : Bool) : Type 0 where
  pub samples : List ℤ
  pub received : ReceivedOctets kind taf frame before samples after sounds
  pub out_is : out ≡ compressed law samples

-- the octets `down` are the downlink frame for the 33 octets that the transmit side sends for a period, and their kind
pub record SpokenPeriod (law : Law) (pcm : List ℕ) (level : ℤ) (dtx : Bool) (before after : SenderMemory) (frame : List ℕ) (kind : ℕ) (down : List ℕ) : Type 0 where
  pub octets : AreOctets33 frame
  pub sp : Bool
  pub kind_is : kind ≡ kind_of_sp sp
  pub written : WrittenDownlink frame kind down
  pub history : (past : List SenderPeriod) → SenderStands past before →
      SenderStands (sender_period (expanded law pcm) level dtx ∷ past) after
      × CarriesFrame frame (sent_now (sender_period (expanded law pcm) level dtx) past).fields
      × (sp ≡ (sent_now (sender_period (expanded law pcm) level dtx) past).sp)

-- the octets `up` are the uplink frame for what a period in a bridge brought, and `next` the 33 octets that the receive
-- side hands over in it
pub record HandedPeriod (before after : ReceiverMemory) (up next : List ℕ) : Type 0 where
  pub frame : List ℕ
  pub kind : ℕ
  pub taf : Bool
  pub octets : AreOctets33 frame
  pub written : (length up ≡ 40) × WrittenUplink frame kind taf up
  pub sounds : Bool
  pub handed_is : HandedOctets kind taf frame before next after sounds
