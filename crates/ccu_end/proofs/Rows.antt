-- Worked places, by computing.
use Rattle.std.proofs.Common.{◌≡◌, refl, ℕ, zero, suc, ◌+◌, ◌*◌, true, false, Some, List, [], ◌∷◌, map, pos, negsuc}
use Rattle.std.specs.Prelude.{reverse}
use Rattle.time_align.specs.Shift.{shift_of}
use Rattle.trau_frame.specs.declared.frames.DownFrame.TheVariants.{Idle, Speech}
use Rattle.trau_frame.specs.declared.frames.Kind.TheVariants as kinds
use Rattle.trau_frame.specs.UpFrame.{UpWords}
use Rattle.down_framer.specs.Made.{Period, made_frames}
use Rattle.ccu_end.specs.Found.{FoundFrame, as_made, all_within, places_from}
use Rattle.ccu_end.specs.Asked.{offset_of, field_for, waiting, answered, asked}

-- a shift of 156, one of -2, and none
by_shifts : places_from 320 (pos 156 ∷ negsuc 1 ∷ pos 0 ∷ []) ≡ 320 ∷ 952 ∷ 1268 ∷ []
by_shifts = refl

abbrev alone : ℕ → Period (Unit {0})
alone field = record { field = Some field; starts = false; bridged = false; load = tt }

-- field 39 in period 0, 63 in period 2, 40 in period 3, in the first 1,600 bits
found : map (λ f. f.place) (all_within 1600 (as_made (λ fs. Idle) (made_frames (reverse (map alone (39 ∷ 0 ∷ 63 ∷ 40 ∷ 0 ∷ [])))))) ≡ 320 ∷ 952 ∷ 1268 ∷ []
unfolding shift_of
found = refl

-- ---- worked answers

abbrev frame_of : ℕ → FoundFrame
frame_of p = record { place = p; frame = Some (Speech [] true) }

-- speech at 320, 952 and 1268, in the second, fourth and fifth of five periods
abbrev five : List (List FoundFrame)
five = (frame_of 1268 ∷ []) ∷ (frame_of 952 ∷ []) ∷ [] ∷ (frame_of 320 ∷ []) ∷ [] ∷ []

fields_of : ℕ → List (List FoundFrame) → List ℕ
fields_of want heard = reverse (map (λ a. a.field) (answered want heard))

-- place 0 is wanted: one octet later is asked for behind 952 and again behind 1268, which ends the wait
five_fields : fields_of 0 five ≡ 0 ∷ 0 ∷ 0 ∷ 1 ∷ 1 ∷ []
unfolding fields_of answered waiting
five_fields = refl

-- what is sent in each of these periods, the newest first
all_asked : ℕ → List (List FoundFrame) → List UpWords
all_asked want [] = []
all_asked want (fs ∷ heard) = asked want (fs ∷ heard) ∷ all_asked want heard

five_kinds : map (λ w. w.kind) (reverse (all_asked 0 five)) ≡ kinds.Idle ∷ kinds.Speech ∷ kinds.Idle ∷ kinds.Speech ∷ kinds.Speech ∷ []
unfolding all_asked asked
five_kinds = refl

-- frames that stay 320 bits apart: place 100 is wanted behind 320, 12 octets later, and asked for again where the
-- eighth frame since is found
abbrev in_place : ℕ → List (List FoundFrame)
in_place zero = []
in_place (suc k) = (frame_of (320 * k + 320) ∷ []) ∷ in_place k

asked_again : fields_of 100 (in_place 10) ≡ 12 ∷ 0 ∷ 0 ∷ 0 ∷ 0 ∷ 0 ∷ 0 ∷ 0 ∷ 12 ∷ 0 ∷ []
unfolding fields_of answered waiting
asked_again = refl

-- four bits later is asked for by 62, and fewer bits by nothing
small_offsets : map (λ p. field_for (offset_of 4 p)) (320 ∷ 321 ∷ 319 ∷ 316 ∷ 324 ∷ 328 ∷ []) ≡ 62 ∷ 0 ∷ 0 ∷ 1 ∷ 0 ∷ 39 ∷ []
small_offsets = refl

-- two frames of one period: the last of them counts
two_in_one : fields_of 4 ((frame_of 636 ∷ frame_of 320 ∷ []) ∷ []) ≡ 62 ∷ []
unfolding fields_of answered waiting
two_in_one = refl
