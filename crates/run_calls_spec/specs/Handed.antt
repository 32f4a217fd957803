-- What is handed over in the bridges of a run, and that it goes out (this project's profile).
use Rattle.std.specs.Prelude.{◌≡◌, ◌≤◌, ◌<◌, ◌↔◌, ℕ, ◌+◌, ◌-◌, ◌*◌, true, Some, None, List, length, map, take, slice_index, Contains}
use Rattle.trau_params.specs.Bits260.{bits260}
use Rattle.trau_io.specs.declared.line.Line.{Line}
use Rattle.trau_frame.specs.declared.frames.DownFrame.TheVariants.{Speech}
use Rattle.trau_frame.specs.Frame.{data_of}
use Rattle.trau_frame.specs.DownFrame.{down_bits}
use Rattle.trau_frame.specs.Relay.{IsGoodSpeech}
use Rattle.frame_sync.specs.declared.yields.Yield.TheVariants.{Frame}
use Rattle.switchboard.specs.declared.act.Span.{Span}
use Rattle.call_leg.specs.Uplink.{handed_fields}
use Rattle.call_spec.specs.Call.{Call}
use Rattle.call_spec.specs.Down.{frame_by_number, down}
use Rattle.run_spec.specs.Run.{Run, spans_in, start_in, end_in, other_in, IsOpened}
use Rattle.run_spec.specs.Facts.{sent_by, span_line, report_of}
use Rattle.run_calls_spec.specs.Whole.{span_for, whole_call, IsBridged, item_for, yield_on, frame_on}
use Rattle.run_calls_spec.specs.Sent.{frame_count, sent_frames, frame_as_sent, frame_place, made_bits, made_in, CarriesHanded, Sends, WaitsUnsent, IsFirstOfSpan}
use Rattle.run_calls_spec.specs.Sent.{frames_with, HasOtherItems, DiffersInItems}

-- What a call is handed in the periods of a bridge: its partner's effective frames, as 260 bits, and nothing else.
pub record HandsOver (r : Run) : Type 0 where
  -- whichever lines failed, the report has a line for each bridge, with the bridge's span
  pub reported : (failed : List Line) → map (λ l. l.span) (report_of r failed).spans ≡ spans_in r
  pub line_for_each : (failed : List Line) → (report_of r failed).spans ≡ map (span_line r) (spans_in r)
  -- in each period of a bridge both of its calls have this period
  pub both : (c t : ℕ) (x : Span) → IsBridged r c t x →
      (start_in r c ≤ t) × (t < end_in r c) × (start_in r (other_in c x) ≤ t) × (t < end_in r (other_in c x))
  pub within : (c t : ℕ) (x : Span) → IsBridged r c t x → item_for r c t ≡ Some (bits260 (handed_fields (frame_on r (other_in c x) t)))
  pub outside : (c t : ℕ) → start_in r c ≤ t → t < end_in r c → ((x : Span) → IsBridged r c t x → ⊥) → item_for r c t ≡ None

-- What a call is handed goes out on its Down line, each frame once and in order, and nothing else is carried.
pub record GoesOut (r : Run) : Type 0 where
  -- each frame that is made is sent
  pub each : (c : ℕ) → IsOpened r c → length (sent_frames r c) ≡ frame_count r c
  -- what a call is handed in a period of a bridge goes out in a frame that it makes; only what it is handed in its last
  -- period may be lost
  pub goes : (c t : ℕ) (x : Span) → IsBridged r c t x → t + 1 < end_in r c → (j : ℕ) × Sends r c t x j
  -- this frame is a speech frame with SP 1 and the 260 bits that were handed over; the bits of a good speech frame are
  -- unchanged
  pub sent : (c t : ℕ) (x : Span) (j : ℕ) → Sends r c t x j →
      frame_as_sent r c j ≡ Speech (bits260 (handed_fields (frame_on r (other_in c x) t))) true
  pub unchanged : (c t : ℕ) (x : Span) (j p : ℕ) (bits : List ℕ) → Sends r c t x j → yield_on r (other_in c x) t ≡ Some (Frame p bits) → IsGoodSpeech bits →
      frame_as_sent r c j ≡ Speech (data_of bits) true
  -- the Down line has 320 bits for each of the call's periods; it has the frame's 320 bits one after another, as far as
  -- the line goes
  pub long : (c : ℕ) → IsOpened r c → length (down (whole_call r c)) ≡ 320 * (end_in r c - start_in r c)
  pub on_line : (c t : ℕ) (x : Span) (j k : ℕ) → Sends r c t x j → k < 320 → frame_place r c j + k < length (down (whole_call r c)) →
      slice_index (down (whole_call r c)) (frame_place r c j + k) ≡ slice_index (down_bits (frame_as_sent r c j)) k
  -- every frame that is made begins on the line or at its end; one that carries what was handed over is on it whole,
  -- unless it is the last frame made
  pub begins : (c j : ℕ) → IsOpened r c → j < frame_count r c → frame_place r c j ≤ length (down (whole_call r c))
  pub whole : (c t : ℕ) (x : Span) (j : ℕ) → Sends r c t x j → j + 1 < frame_count r c → frame_place r c j + 320 ≤ length (down (whole_call r c))
  -- the Down line has the first of the bits that are made for it; at most 632 more are made, which stay unwritten
  pub front : (c : ℕ) → down (whole_call r c) ≡ take (320 * (end_in r c - start_in r c)) (made_bits r c)
  pub unwritten : (c : ℕ) → IsOpened r c → length (made_bits r c) ≤ length (down (whole_call r c)) + 632
  -- no frame carries anything else
  pub only : (c j h : ℕ) → (frame_by_number (whole_call r c) j).carries ≡ Some h →
      (x : Span) × IsBridged r c (start_in r c + h) x × CarriesHanded r c (start_in r c + h) x j
  -- what is handed n periods after the bridge's start goes out n frames after the first frame made in the bridge's
  -- first period or later; so what is handed later goes out in a later frame, and each once
  pub first : (c : ℕ) (x : Span) → (first : ℕ) × IsFirstOfSpan (whole_call r c) (span_for r c x) first
  pub place : (c t : ℕ) (x : Span) (first j : ℕ) → IsBridged r c t x → IsFirstOfSpan (whole_call r c) (span_for r c x) first →
      CarriesHanded r c t x j ↔ (j ≡ first + (t - x.from))
  pub in_order : (c t u : ℕ) (x : Span) (j k : ℕ) → IsBridged r c t x → IsBridged r c u x → CarriesHanded r c t x j → CarriesHanded r c u x k → t < u → j < k
  pub once : (c t : ℕ) (x : Span) (j k : ℕ) → IsBridged r c t x → CarriesHanded r c t x j → CarriesHanded r c t x k → j ≡ k
  -- the frame is made in the period in which its bits are handed over or in the next one; so between periods at most
  -- one handed frame waits, that of the period just over
  pub soon : (c t : ℕ) (x : Span) (j : ℕ) → IsBridged r c t x → CarriesHanded r c t x j →
      (t ≤ made_in r c j) × (made_in r c j ≤ t + 1)
  pub one_waits : (c u t : ℕ) (x : Span) → WaitsUnsent r c u t x → u ≡ t + 1
  -- for each direction of a bridge the report counts the frames that carry what was handed over in it: what A handed
  -- over is in frames that B made, and the other way round
  pub counted : (c : ℕ) (x : Span) → IsOpened r c → sent_by r x c ≡ frames_with r c x
  pub told : (x : Span) → Contains (spans_in r) x → ((span_line r x).sent_a ≡ frames_with r x.b x) × ((span_line r x).sent_b ≡ frames_with r x.a x)
  -- in each direction what was handed over in the bridge's periods is sent or lost, and at most one frame is lost
  pub sent_or_lost : (x : Span) → Contains (spans_in r) x → (x.from ≤ x.to) ×
      ((span_line r x).sent_a + (span_line r x).lost_a ≡ x.to - x.from) × ((span_line r x).sent_b + (span_line r x).lost_b ≡ x.to - x.from)
  pub lost : (x : Span) → Contains (spans_in r) x → ((span_line r x).lost_a ≤ 1) × ((span_line r x).lost_b ≤ 1)
  -- of the call's lines, only the data bits of frames that carry what it is handed depend on what it is handed
  pub nothing_else : (c : ℕ) (other : Call) → IsOpened r c → HasOtherItems (whole_call r c) other → DiffersInItems (whole_call r c) other
