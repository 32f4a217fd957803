-- The frames that a base station finds on a downlink (GSM 08.60; how it searches is this project's profile), and those
-- that were made. Lists of found frames have the oldest first, lists of periods and of made frames the newest.
use Rattle.std.specs.Prelude.{◌≡◌, ◌≤◌, ◌<◌, ℕ, ◌+◌, ◌*◌, ℤ, Bool, true, false, ◌&&◌, nat_le, Some, IfSome, List, [], ◌∷◌, ◌++◌, length, filter}
use Rattle.trau_frame.specs.declared.frames.DownFrame.{DownFrame}
use Rattle.trau_frame.specs.DownFrame.{HasBits, down_bits}
use Rattle.trau_frame.specs.Match.{bit_in, is_match, frame_at}
use Rattle.down_framer.specs.Made.{MadeFrame, octets_to_next, downlink_of}
use Rattle.ccu_end.specs.declared.finds.Found.{Found as Place}
use Rattle.ccu_end.specs.Read.{down_frame_in, HasLength}

-- a found frame: its place, and what it says
abbrev pub FoundFrame : Type 0
FoundFrame = Place

-- its data bits are bits
abbrev pub HaveBits : FoundFrame → Type 0
HaveBits f = IfSome f.frame HasBits

-- the 35 sync bits match at p, and the list has the 316 bits from p on
abbrev pub is_found_at : List ℕ → ℕ → Bool
is_found_at bits p = nat_le (p + 316) (length bits) && is_match (bit_in bits) p

-- no frame is found from `low` on and before `high`
abbrev pub NoneFound : List ℕ → ℕ → ℕ → Type 0
NoneFound bits low high = (q : ℕ) → low ≤ q → q < high → is_found_at bits q ≡ false

-- These are all frames found from `low` on: each at the lowest place, and the next one is looked for from 316 bits
-- after it.
abbrev pub FoundFrom : List ℕ → ℕ → List FoundFrame → Type 0
FoundFrom bits low [] = (q : ℕ) → low ≤ q → is_found_at bits q ≡ false
FoundFrom bits low (f ∷ fs) =
    (low ≤ f.place) × NoneFound bits low f.place × (is_found_at bits f.place ≡ true) ×
    (f.frame ≡ down_frame_in (frame_at (bit_in bits) f.place)) × FoundFrom bits (f.place + 316) fs

-- these are all frames found in a list of bits
abbrev pub Found : List ℕ → List FoundFrame → Type 0
Found bits fs = FoundFrom bits 0 fs

-- ---- those that were made; `frame` gives the newest of some frames

-- the downlink so far
abbrev pub downlink : {A : Type 0} → (List (MadeFrame A) → DownFrame) → List (MadeFrame A) → List ℕ
downlink frame fs = downlink_of (λ gs. down_bits (frame gs)) fs

-- the place of a frame that starts at an octet of the Pcm line: 320 bits, and two for each octet before that one
abbrev pub place_of : {A : Type 0} → MadeFrame A → ℕ
place_of f = 320 + 2 * f.start

-- each of them has 260 data bits or is idle
abbrev pub HaveLength : {A : Type 0} → (List (MadeFrame A) → DownFrame) → List (MadeFrame A) → Type 0
HaveLength frame [] = Unit {0}
HaveLength frame (f ∷ fs) = HasLength (frame (f ∷ fs)) × HaveLength frame fs

-- the frames, each at its place
abbrev pub as_made : {A : Type 0} → (List (MadeFrame A) → DownFrame) → List (MadeFrame A) → List FoundFrame
as_made frame [] = []
as_made frame (f ∷ fs) = as_made frame fs ++ (record { place = place_of f; frame = Some (frame (f ∷ fs)) }) ∷ []

-- the frames whose first 316 bits are among the first n bits of the line
abbrev pub all_within : ℕ → List FoundFrame → List FoundFrame
all_within n fs = filter (λ f. nat_le (f.place + 316) n) fs

-- ---- places by shifts, the oldest first

-- the first place is p; each further one is 320 bits and two for each octet of the shift after the one before
abbrev pub places_from : ℕ → List ℤ → List ℕ
places_from p [] = []
places_from p (v ∷ vs) = p ∷ places_from (p + 2 * octets_to_next v) vs

abbrev pub shifts_of : {A : Type 0} → List (MadeFrame A) → List ℤ
shifts_of [] = []
shifts_of (f ∷ fs) = shifts_of fs ++ f.shift ∷ []
