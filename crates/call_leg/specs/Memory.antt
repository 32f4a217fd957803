-- The memory of a leg.
use Rattle.std.specs.Prelude.{ℕ, ℤ, pos, Bool, true, false, List, []}
use Rattle.trau_alaw.specs.declared.Law.{Law}
use Rattle.trau_orders.specs.declared.order.DtxMode.{DtxMode}
use Rattle.trau_orders.specs.declared.order.DtxMode.TheVariants.{Uplink}
use Rattle.trau_io.specs.declared.ends.Counts.{Counts}
use Rattle.frame_sync.specs.Memory as search
use Rattle.rx_handler.specs.Memory as rx
use Rattle.fr_decoder.specs.Memory as decoder
use Rattle.fr_encoder.specs.Memory as encoder
use Rattle.tx_dtx.specs.Memory as tx
use Rattle.down_framer.specs.Memory as framer
use Rattle.time_align.specs.Memory as align
use Rattle.call_leg.specs.Who.{Who}
use Rattle.call_leg.specs.Counted.{no_counts}
use Rattle.call_leg.specs.declared.coder.Coder.{Coder}
use Rattle.call_leg.specs.declared.down_side.DownSide.{DownSide}

-- the encoder and the transmit side
pub record CoderMemory : Type 0 where
  pub encoder : encoder.EncoderMemory
  pub tx : tx.TxMemory

-- both in their reset state
abbrev pub home_coder : CoderMemory
home_coder = record { encoder = encoder.home_memory; tx = tx.home_memory }

-- the downlink half: the call's law, the framer (bits in store, octets held), the shift that was asked for, the handed
-- frames that wait, the coder, the settings, DTXd of the last speech frame, whether this period is quiet and whether it
-- lies in a bridge, how many handed frames of the latest bridge were sent, and how many frames were made
pub record DownMemory : Type 0 where
  pub law : Law
  pub framer : framer.FramerMemory
  pub align : align.AlignMemory
  pub waiting : List (List ℕ)
  pub coder : CoderMemory
  pub level : ℤ
  pub mode : DtxMode
  pub dtxd : Bool
  pub quiet : Bool
  pub bridged : Bool
  pub sent : ℕ
  pub made : ℕ

-- the downlink half of a new call with this law
abbrev pub home_down : Law → DownMemory
home_down law = record {
  law = law;
  framer = framer.home_memory;
  align = align.home_memory;
  waiting = [];
  coder = home_coder;
  level = pos 256;
  mode = Uplink;
  dtxd = false;
  quiet = true;
  bridged = false;
  sent = 0;
  made = 0;
}

-- a leg: the call's law, the memory of the uplink, and the downlink half
pub record LegMemory : Type 0 where
  pub law : Law
  pub search : search.SyncMemory
  pub rx : rx.RxMemory
  pub decoder : decoder.DecoderMemory
  pub counts : Counts
  pub down : DownMemory

-- the memory of a new call's leg
abbrev pub home_memory : Who → LegMemory
home_memory who = record {
  law = who.law;
  search = search.home_memory;
  rx = rx.home_memory who.number;
  decoder = decoder.home_memory;
  counts = no_counts;
  down = home_down who.law;
}

-- how many periods the leg has had: its search counts them
abbrev pub periods_of_leg : LegMemory → ℕ
periods_of_leg m = m.search.periods

-- the memories of the code's structs
abbrev pub coder_memory : Coder → CoderMemory
coder_memory s = record { encoder = s.encoder; tx = s.tx }

abbrev pub down_memory : DownSide → DownMemory
down_memory d = record {
  law = d.law;
  framer = d.framer;
  align = d.align;
  waiting = d.waiting.items;
  coder = coder_memory d.coder;
  level = d.level;
  mode = d.mode;
  dtxd = d.dtxd;
  quiet = d.quiet;
  bridged = d.bridged;
  sent = d.sent;
  made = d.made;
}
