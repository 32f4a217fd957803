-- The frames of a downlink and the line that they make, by absolute places of the Pcm line and of the downlink (this
-- project's profile, modelled on GSM 08.60). Lists of periods and of frames have the newest first.
use Rattle.std.specs.Prelude.{ℕ, ◌+◌, ◌-◌, ◌*◌, ℤ, pos, negsuc, Bool, false, if◌then◌else◌, ◌==◌, nat_le, Option, Some, None, is_none, List, [], ◌∷◌, ◌++◌}
use Rattle.std.specs.Prelude.{length, map, take, drop, replicate, filter, find}
use Rattle.time_align.specs.Shift.{latest_shift}

-- A period of 20 ms as the downlink sees it: the alignment field of its uplink frame of speech or idle, if it has one;
-- whether a bridge starts at it; whether it lies in a bridge, and so hands a frame over; and its load, which is any
-- other data for its frames.
pub record Period (A : Type 0) : Type 0 where
  pub field : Option ℕ
  pub starts : Bool
  pub bridged : Bool
  pub load : A

-- A made frame: its first octet of the Pcm line; the period that makes it; its shift; the period whose handed frame it
-- carries; the number of bridges that had started by then; and the load of its period.
pub record MadeFrame (A : Type 0) : Type 0 where
  pub start : ℕ
  pub period : ℕ
  pub shift : ℤ
  pub carries : Option ℕ
  pub epoch : ℕ
  pub load : A

-- the number of octets from the start of a frame to the start of the next one: 160 plus its shift
abbrev pub octets_to_next : ℤ → ℕ
octets_to_next (pos v) = 160 + v
octets_to_next (negsuc v) = 159 - v

-- the first octet of the next frame
abbrev pub next_start : {A : Type 0} → List (MadeFrame A) → ℕ
next_start [] = 0
next_start (f ∷ fs) = f.start + octets_to_next f.shift

-- the period at which the latest bridge started
abbrev pub latest_start : {A : Type 0} → List (Period A) → Option ℕ
latest_start [] = None
latest_start (p ∷ past) = if p.starts then Some (length past) else latest_start past

-- whether a frame is handed over in period k
abbrev pub hands_at : {A : Type 0} → ℕ → List (Period A) → Bool
hands_at k [] = false
hands_at k (p ∷ past) = if k == length past then p.bridged else hands_at k past

-- the number of frames made in period s or later
abbrev pub made_from : {A : Type 0} → ℕ → List (MadeFrame A) → ℕ
made_from s fs = length (filter (λ f. nat_le s f.period) fs)

-- The period whose handed frame goes out next: the start of the latest bridge plus the number of frames made since, if
-- that period is in the bridge.
abbrev pub handed_due : {A : Type 0} → List (Period A) → List (MadeFrame A) → Option ℕ
handed_due ps fs = elim (latest_start ps) [
  | None ↦ None
  | Some s ↦ let h = s + made_from s fs in if hands_at h ps then Some h else None
]

-- the fields of the periods after that of the last frame that carried nothing, or of all periods if there is no such
-- frame
abbrev pub counted_fields : {A : Type 0} → List (Period A) → List (MadeFrame A) → List (Option ℕ)
counted_fields ps fs = elim (find (λ f. is_none f.carries) fs) [
  | None ↦ map (λ p. p.field) ps
  | Some m ↦ take (length ps - (m.period + 1)) (map (λ p. p.field) ps)
]

-- a frame that carries a handed one has shift 0; any other has the shift asked for last
abbrev pub shift_due : {A : Type 0} → List (Period A) → List (MadeFrame A) → ℤ
shift_due ps fs = elim (handed_due ps fs) [ None ↦ latest_shift (counted_fields ps fs) | Some h ↦ pos 0 ]

-- the number of bridges that have started
abbrev pub epoch_of : {A : Type 0} → List (Period A) → ℕ
epoch_of ps = length (filter (λ p. p.starts) ps)

-- the next frame, made in the newest period
abbrev pub next_frame : {A : Type 0} → Period A → List (Period A) → List (MadeFrame A) → MadeFrame A
next_frame p past fs = record {
  start = next_start fs;
  period = length past;
  shift = shift_due (p ∷ past) fs;
  carries = handed_due (p ∷ past) fs;
  epoch = epoch_of (p ∷ past);
  load = p.load;
}

-- a frame is made in the period that brings its last octet
abbrev pub grown : {A : Type 0} → Period A → List (Period A) → List (MadeFrame A) → List (MadeFrame A)
grown p past fs = if nat_le (next_start fs) (160 * length past) then next_frame p past fs ∷ fs else fs

-- the frames made in these periods; a period makes no frame, one or two
abbrev pub made_frames : {A : Type 0} → List (Period A) → List (MadeFrame A)
made_frames [] = []
made_frames (p ∷ past) = grown p past (grown p past (made_frames past))

-- ---- the line

-- a frame on the downlink: its 320 bits and then two ones for each octet that is lost, or its bits without the four T
-- bits if octets are taken a second time
abbrev pub frame_on_line : ℤ → List ℕ → List ℕ
frame_on_line (pos v) bits = bits ++ replicate (2 * v) 1
frame_on_line (negsuc v) bits = take 316 bits

-- the downlink so far: 320 ones, and then the frames; `bits` gives the bits of the newest of some frames
abbrev pub downlink_of : {A : Type 0} → (List (MadeFrame A) → List ℕ) → List (MadeFrame A) → List ℕ
downlink_of bits [] = replicate 320 1
downlink_of bits (f ∷ fs) = downlink_of bits fs ++ frame_on_line f.shift (bits (f ∷ fs))

-- the 320 bits that go out in the newest period
abbrev pub down_of : {A : Type 0} → (List (MadeFrame A) → List ℕ) → List (Period A) → List ℕ
down_of bits [] = []
down_of bits (p ∷ past) = take 320 (drop (320 * length past) (downlink_of bits (made_frames (p ∷ past))))
