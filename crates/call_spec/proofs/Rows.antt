-- Worked stretches, spans and lines, by computing.
use Rattle.std.proofs.Common.{◌≡◌, refl, ℕ, pos, Bool, true, false, nat_le, Option, Some, None, List, [], ◌∷◌, ◌++◌, map, take, reverse, replicate}
use Rattle.std.specs.List.{flat_map}
use Rattle.trau_alaw.specs.declared.Law.{Law}
use Rattle.trau_alaw.specs.declared.Law.TheVariants.{A, Mu}
use Rattle.trau_alaw.specs.Period.{compressed}
use Rattle.trau_bits.specs.Bits.{bits_of}
use Rattle.trau_params.specs.Fields.{Fields, fields_in}
use Rattle.trau_orders.specs.declared.order.DtxMode.TheVariants.{Uplink}
use Rattle.trau_frame.specs.DownFrame.{down_bits, down_control}
use Rattle.trau_frame.specs.Frame.{number_in, data_of, frame_bits}
use Rattle.trau_frame.specs.Role.{role_of, place_of_role}
use Rattle.trau_frame.specs.UpFrame.{words_in}
use Rattle.trau_frame.specs.declared.frames.DownFrame.TheVariants as frames
use Rattle.trau_frame.specs.Match.{is_match, frame_at}
use Rattle.frame_sync.specs.Periods.{each_yield, searched, first_match, line_bits, mode_after}
use Rattle.rx_handler.specs.Effective.{effective_at, origin_at, latest_anchor}
use Rattle.fr_decoder.specs.Decoded.{decoded}
use Rattle.time_align.specs.Shift.{shift_of}
use Rattle.call_leg.specs.Periods.{CallPeriod}
use Rattle.call_spec.specs.Stretches.{stretches}
use Rattle.call_spec.specs.Call.{Call, Setting, Span, item_at, starts_at}
use Rattle.call_spec.specs.Out.{out}
use Rattle.call_spec.specs.Down.{down}
use Rattle.call_spec.specs.History.{spans_in_history}

-- ---- stretches that do not fall

rising : stretches nat_le (1 ∷ 4 ∷ 4 ∷ 2 ∷ 3 ∷ 1 ∷ []) ≡ (1 ∷ 4 ∷ 4 ∷ []) ∷ (2 ∷ 3 ∷ []) ∷ (1 ∷ []) ∷ []
rising = refl

-- ---- a span from 1 to 3, one without a period at 3 and one from 4 to 5

abbrev period : Bool → Option (List ℕ) → CallPeriod
period starts handed = record { up = []; pcm = []; level = pos 256; mode = Uplink; starts = starts; handed = handed }

abbrev some_periods : List CallPeriod
some_periods =
    period false None ∷ period true (Some (7 ∷ [])) ∷ period false (Some (8 ∷ [])) ∷ period true None ∷ period true (Some (9 ∷ [])) ∷ period false None ∷ []

abbrev spans : List Span
spans = reverse (spans_in_history (reverse some_periods))

froms : map {B = ℕ × ℕ} (λ s. (s.from, s.to)) spans ≡ (1, 3) ∷ (3, 3) ∷ (4, 5) ∷ []
froms = refl

items : map (item_at spans) (0 ∷ 1 ∷ 2 ∷ 3 ∷ 4 ∷ 5 ∷ []) ≡ None ∷ Some (7 ∷ []) ∷ Some (8 ∷ []) ∷ None ∷ Some (9 ∷ []) ∷ None ∷ []
items = refl

starts : map (starts_at spans) (0 ∷ 1 ∷ 2 ∷ 3 ∷ 4 ∷ 5 ∷ []) ≡ false ∷ true ∷ false ∷ true ∷ true ∷ false ∷ []
starts = refl

-- ---- a call of three periods whose uplink has no frame

abbrev silent_call : Law → List Span → Call
silent_call law spans = record {
  who = record { number = 1; law = law };
  up = replicate 120 0;
  pcm = replicate 480 213;
  settings = replicate 3 (let s : Setting = record { level = pos 256; mode = Uplink } in s);
  spans = spans;
}

silent_out : out (silent_call A []) ≡ replicate 480 213
unfolding each_yield searched first_match is_match role_of line_bits mode_after bits_of effective_at origin_at latest_anchor
silent_out = refl

silent_mulaw : out (silent_call Mu []) ≡ replicate 480 255
unfolding each_yield searched first_match is_match role_of line_bits mode_after bits_of effective_at origin_at latest_anchor
silent_mulaw = refl

-- the octets of an idle frame
abbrev idle : List ℕ
idle = 0 ∷ 0 ∷ 184 ∷ 15 ∷ replicate 36 255

silent_down : down (silent_call A []) ≡ replicate 320 1 ++ bits_of idle ++ bits_of idle
unfolding each_yield searched first_match is_match role_of line_bits mode_after bits_of effective_at origin_at latest_anchor down_bits down_control frame_bits
silent_down = refl

-- with an item in period 1
abbrev item : List ℕ
item = 0 ∷ replicate 258 1 ++ 0 ∷ []

handed_down : down (silent_call A (record { from = 1; to = 2; items = item ∷ [] } ∷ []))
    ≡ replicate 320 1 ++ bits_of idle ++ down_bits (frames.Speech item true)
unfolding each_yield searched first_match is_match role_of line_bits mode_after bits_of effective_at origin_at latest_anchor down_bits down_control frame_bits
handed_down = refl

-- ---- a call whose uplink begins with an idle frame that asks for a shift of 156 octets

abbrev asks : List ℕ
asks = 0 ∷ 0 ∷ 194 ∷ 112 ∷ flat_map {X = ℕ} (λ k. 128 ∷ 0 ∷ []) (replicate 18 0)

abbrev shifted_call : Call
shifted_call = record {
  who = record { number = 1; law = A };
  up = asks ++ replicate 80 0;
  pcm = replicate 480 213;
  settings = replicate 3 (let s : Setting = record { level = pos 256; mode = Uplink } in s);
  spans = [];
}

shifted_down : down shifted_call ≡ replicate 320 1 ++ bits_of idle ++ replicate 312 1 ++ take 8 (bits_of idle)
unfolding each_yield searched first_match is_match role_of line_bits mode_after bits_of effective_at origin_at latest_anchor down_bits down_control frame_bits
    words_in number_in place_of_role frame_at shift_of
shifted_down = refl

-- ---- three good speech frames, and a span without a period at the second: two plain stretches

abbrev speech : List ℕ
speech = 0 ∷ 0 ∷ 136 ∷ 0 ∷ flat_map {X = ℕ} (λ k. 128 ∷ 0 ∷ []) (replicate 18 0)

abbrev speech_call : Law → Call
speech_call law = record {
  who = record { number = 1; law = law };
  up = speech ++ speech ++ speech;
  pcm = replicate 480 213;
  settings = replicate 3 (let s : Setting = record { level = pos 256; mode = Uplink } in s);
  spans = record { from = 1; to = 1; items = [] } ∷ [];
}

abbrev parameters : Fields
parameters = fields_in (data_of (bits_of speech))

speech_out : out (speech_call A) ≡ compressed A (decoded (parameters ∷ [])) ++ (compressed A (decoded (parameters ∷ parameters ∷ [])) ++ [])
unfolding each_yield searched first_match is_match role_of line_bits mode_after bits_of effective_at origin_at latest_anchor words_in number_in place_of_role
    frame_at
speech_out = refl

speech_mulaw : out (speech_call Mu) ≡ compressed Mu (decoded (parameters ∷ [])) ++ (compressed Mu (decoded (parameters ∷ parameters ∷ [])) ++ [])
unfolding each_yield searched first_match is_match role_of line_bits mode_after bits_of effective_at origin_at latest_anchor words_in number_in place_of_role
    frame_at
speech_mulaw = refl
