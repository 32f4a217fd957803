-- The frames of a call's downlink, which frame carries what its partner hands over in a period, and what of the call's
-- lines doesn't depend on that. Frames are numbered from 0.
use Rattle.std.specs.Prelude.{◌≡◌, ◌≤◌, ◌<◌, ℕ, ◌+◌, ◌-◌, ◌*◌, true, Some, None, List, length, map, filter, slice_index, slice_index_or}
use Rattle.trau_frame.specs.declared.frames.DownFrame.{DownFrame}
use Rattle.trau_frame.specs.declared.frames.DownFrame.TheVariants.{Speech, Idle}
use Rattle.trau_frame.specs.Role.{Data, role_of}
use Rattle.switchboard.specs.declared.act.Span as board
use Rattle.down_framer.specs.ByNumber.{when}
use Rattle.call_spec.specs.Call.{Call, Span, item_at}
use Rattle.call_spec.specs.Out.{out}
use Rattle.call_spec.specs.Down.{without_items, frame_by_number, frames_of_call, HasItem, down_frames, line, down}
use Rattle.run_spec.specs.Run.{Run, start_in}
use Rattle.run_spec.specs.Facts.{carries_in}
use Rattle.run_calls_spec.specs.Whole.{span_for, whole_call, IsBridged}

-- frame j of a call as it is sent
abbrev pub sent_as : Call → ℕ → DownFrame
sent_as call j = slice_index_or (down_frames call (frames_of_call call)) j Idle

-- the bit of the Down line at which frame j begins: after 320 ones, and two bits for each octet of the Pcm line before
-- its start
abbrev pub frame_begin : Call → ℕ → ℕ
frame_begin call j = 320 + 2 * (frame_by_number call j).start

-- of a call of a run: how many frames it makes, these frames as they are sent, frame j as it is sent, and where it
-- begins
abbrev pub frame_count : Run → ℕ → ℕ
frame_count r c = length (frames_of_call (whole_call r c))

abbrev pub sent_frames : Run → ℕ → List DownFrame
sent_frames r c = down_frames (whole_call r c) (frames_of_call (whole_call r c))

abbrev pub frame_as_sent : Run → ℕ → ℕ → DownFrame
frame_as_sent r c j = sent_as (whole_call r c) j

abbrev pub frame_place : Run → ℕ → ℕ → ℕ
frame_place r c j = frame_begin (whole_call r c) j

-- the bits that are made for its Down line: 320 ones, then each frame with what its shift adds or leaves out
abbrev pub made_bits : Run → ℕ → List ℕ
made_bits r c = line (whole_call r c) (frames_of_call (whole_call r c))

-- the period of the run in which it is made
abbrev pub made_in : Run → ℕ → ℕ → ℕ
made_in r c j = start_in r c + when (frame_by_number (whole_call r c) j).start

-- frame j of call c carries what the call is handed in period t of the run, in span x
abbrev pub CarriesHanded : Run → ℕ → ℕ → board.Span → ℕ → Type 0
CarriesHanded r c t x j = HasItem (whole_call r c) (span_for r c x) j (t - x.from)

-- call c makes frame j, and what it is handed in period t of the bridge goes out in this frame
pub record Sends (r : Run) (c t : ℕ) (x : board.Span) (j : ℕ) : Type 0 where
  pub bridged : IsBridged r c t x
  pub made : j < frame_count r c
  pub carries : CarriesHanded r c t x j

-- When period u of the run begins, what call c is handed in an earlier period t of span x still waits: no frame made
-- before carries it.
pub record WaitsUnsent (r : Run) (c u t : ℕ) (x : board.Span) : Type 0 where
  pub bridged : IsBridged r c t x
  pub handed : t < u
  pub unsent : (j : ℕ) → CarriesHanded r c t x j → u ≤ made_in r c j

-- the first frame made in a span's first period or later
pub record IsFirstOfSpan (call : Call) (span : Span) (j : ℕ) : Type 0 where
  pub begun : span.from ≤ when (frame_by_number call j).start
  pub first : (i : ℕ) → i < j → when (frame_by_number call i).start < span.from

-- how many of the frames that a call makes carry what it is handed in a span
abbrev pub frames_with : Run → ℕ → board.Span → ℕ
frames_with r c x = length (filter (λ f. carries_in (x.from - start_in r c) (x.to - start_in r c) f.carries) (frames_of_call (whole_call r c)))

-- ---- what doesn't depend on what is handed over

-- the same call, except for the items that are handed over in its spans
pub record HasOtherItems (call other : Call) : Type 0 where
  pub spans : map without_items other.spans ≡ map without_items call.spans
  pub rest : other ≡ record call { spans = other.spans }

-- frame j is sent as the speech frame, with SP 1, of the item that the call is handed in its period h
pub record SendsItem (call : Call) (j h : ℕ) : Type 0 where
  pub item : List ℕ
  pub handed : item_at call.spans h ≡ Some item
  pub sent : sent_as call j ≡ Speech item true

-- bit k of the Down line is no data bit of a frame that carries an item
abbrev pub IsNoItemBit : Call → ℕ → Type 0
IsNoItemBit call k = (j h i n : ℕ) → (frame_by_number call j).carries ≡ Some h → k ≡ frame_begin call j + i → i < 320 →
    role_of i ≡ Data n → ⊥

-- The lines are the same except for the data bits of frames that carry an item. The same frames are made, each with its
-- start, its shift and the period whose item it carries. A frame that carries no item is sent the same. A frame that
-- carries one is the speech frame of each call's own item of that period.
pub record DiffersInItems (call other : Call) : Type 0 where
  pub out_line : out other ≡ out call
  pub down_length : length (down other) ≡ length (down call)
  pub down_line : (k : ℕ) → k < length (down call) → IsNoItemBit call k → slice_index (down other) k ≡ slice_index (down call) k
  pub made : frames_of_call other ≡ frames_of_call call
  pub sent : (j : ℕ) → j < length (frames_of_call call) → (frame_by_number call j).carries ≡ None → sent_as other j ≡ sent_as call j
  pub handed : (j h : ℕ) → j < length (frames_of_call call) → (frame_by_number call j).carries ≡ Some h → SendsItem call j h × SendsItem other j h
