-- How each operation of a leg changes its memory. A period is in Halves.antt.
use Rattle.std.specs.Prelude.{ℕ, ◌+◌, ℤ, Bool, true, false, not, ◌||◌, ◌==◌, nat_le, if◌then◌else◌, List, [], ◌∷◌, ◌++◌, length, take, drop}
use Rattle.circular_buffer.specs.Buffer.{keep_last}
use Rattle.trau_alaw.specs.declared.Law.{Law}
use Rattle.trau_alaw.specs.Period.{expanded, compressed}
use Rattle.trau_params.specs.Fields.{Fields}
use Rattle.trau_params.specs.Bits260.{bits260}
use Rattle.trau_orders.specs.declared.order.DtxMode.{DtxMode}
use Rattle.trau_frame.specs.declared.frames.DownFrame.{DownFrame}
use Rattle.trau_frame.specs.declared.frames.DownFrame.TheVariants as frame
use Rattle.trau_frame.specs.DownFrame as frames
use Rattle.rx_handler.specs.Origin.{EffectiveFields, Quiet, Speech, Made}
use Rattle.fr_decoder.specs.Memory as decoder
use Rattle.fr_decoder.specs.Step.{decoded_frame}
use Rattle.fr_encoder.specs.Step as encoder
use Rattle.tx_dtx.specs.Step as tx
use Rattle.time_align.specs.Memory as align
use Rattle.time_align.specs.Step.{after_thaw, after_freeze, adopted}
use Rattle.down_framer.specs.Memory as framer
use Rattle.down_framer.specs.Step.{after_frame, after_put, after_take}
use Rattle.call_leg.specs.Uplink.{handed_fields}
use Rattle.call_leg.specs.Periods.{dtx_in}
use Rattle.call_leg.specs.Out.{idle_octets}
use Rattle.call_leg.specs.Down.{coded_as, speech}
use Rattle.call_leg.specs.Memory.{CoderMemory, home_coder, DownMemory, LegMemory}
use Rattle.call_leg.specs.Places.{in_u32, in_u64}

-- ---- the uplink

-- a frame is decoded: its octets, and the decoder after it
abbrev pub played_frame : Law → decoder.DecoderMemory → Fields → List ℕ × decoder.DecoderMemory
played_frame law m p = let decoded = decoded_frame m p in (compressed law decoded.0, decoded.1)

-- no frame is decoded: idle octets, and the decoder is reset
abbrev pub played_none : Law → List ℕ × decoder.DecoderMemory
played_none law = (idle_octets law, decoder.home_memory)

-- a period: its effective frame is decoded if the leg is alone and the period isn't quiet
abbrev pub played : Law → decoder.DecoderMemory → EffectiveFields → Bool → List ℕ × decoder.DecoderMemory
played law m Quiet alone = played_none law
played law m (Speech p) alone = if alone then played_frame law m p else played_none law
played law m (Made p) alone = if alone then played_frame law m p else played_none law

-- ---- orders

abbrev pub with_down : LegMemory → DownMemory → LegMemory
with_down m d = record m { down = d }

-- the level is set
abbrev pub set_level : ℤ → DownMemory → DownMemory
set_level level d = record d { level = level }

-- the DTX mode is set
abbrev pub set_mode : DtxMode → DownMemory → DownMemory
set_mode mode d = record d { mode = mode }

-- shifts thaw if no bridge is on and no handed frame waits
abbrev pub thawed : align.AlignMemory → Bool → List (List ℕ) → align.AlignMemory
thawed m bridged waiting = if bridged || not (length waiting == 0) then m else after_thaw m

abbrev pub bridge_begun : DownMemory → DownMemory
bridge_begun d = record d { align = after_freeze d.align; coder = home_coder; bridged = true; sent = 0 }

abbrev pub begin_bridge : LegMemory → LegMemory
begin_bridge m = record m { decoder = decoder.home_memory; down = bridge_begun m.down }

abbrev pub bridge_over : DownMemory → DownMemory
bridge_over d = record d { align = thawed d.align false d.waiting; bridged = false }

-- the frame waits; if more than two would wait, only the last two do
abbrev pub after_handing : DownMemory → EffectiveFields → DownMemory
after_handing d e = record d { waiting = keep_last 2 (d.waiting ++ bits260 (handed_fields e) ∷ []) }

-- ---- the downlink

-- the speech frame that is sent for 160 octets
abbrev pub coded_next : Law → CoderMemory → List ℕ → ℤ → Bool → DownFrame × CoderMemory
coded_next law m octets level on =
    let encoded = encoder.encoded_frame m.encoder (expanded law octets) in
    let sent = tx.next_sent m.tx (coded_as encoded.0 level on) in
    (speech sent.0, record { encoder = encoded.1; tx = sent.1 })

-- the next frame if no handed one waits: idle in a quiet period, else the next 160 octets, coded
abbrev pub own_next : Law → CoderMemory → List ℕ → Bool → ℤ → Bool → DownFrame × CoderMemory
own_next law m held quiet level on = if quiet then (frame.Idle, home_coder) else coded_next law m (take 160 held) level on

-- the next frame: the handed one that has waited longest, or else the leg's own
abbrev pub next_by : Law → List (List ℕ) → CoderMemory → List ℕ → Bool → ℤ → Bool → DownFrame × CoderMemory
next_by law [] m held quiet level on = own_next law m held quiet level on
next_by law (x ∷ more) m held quiet level on = (frame.Speech x true, home_coder)

-- after a frame was made: `next` is the frame with the coder after it, `shift` is its shift with the alignment after it
abbrev pub after_made : DownMemory → DownFrame × CoderMemory → ℤ × align.AlignMemory → DownMemory
after_made d next shift = record {
  law = d.law;
  framer = after_frame d.framer (frames.down_bits next.0) shift.0;
  align = thawed shift.1 d.bridged (drop 1 d.waiting);
  waiting = drop 1 d.waiting;
  coder = next.1;
  level = d.level;
  mode = d.mode;
  dtxd = d.dtxd;
  quiet = d.quiet;
  bridged = d.bridged;
  sent = if not (length d.waiting == 0) then in_u32 (d.sent + 1) else d.sent;
  made = in_u64 (d.made + 1);
}

unfoldable pub frame_made : DownMemory → DownMemory
frame_made d = after_made d (next_by d.law d.waiting d.coder d.framer.held d.quiet d.level (dtx_in d.mode d.dtxd)) (adopted d.align)

-- one frame is made, if 160 octets are held
abbrev pub frame_tried : DownMemory → DownMemory
frame_tried d = if nat_le 160 (length d.framer.held) then frame_made d else d

abbrev pub with_framer : DownMemory → framer.FramerMemory → DownMemory
with_framer d f = record d { framer = f }

-- the 320 bits of the Down line, and the memory after them
unfoldable pub down_worked : DownMemory → List ℕ → List ℕ × DownMemory
down_worked d pcm =
    let made = frame_tried (frame_tried (with_framer d (after_put d.framer pcm))) in
    (take 320 made.framer.stored, with_framer made (after_take made.framer))
