-- For crates above: a written frame has 320 bits (`length-down_bits`), is in sync (`synced-down_bits`), and is read
-- again as it was written.
use Rattle.std.proofs.Common.{◌≡◌, ℕ, ◌+◌, ◌-◌, ◌<◌, List, map, length, get_or, sym, ap, ◌∙◌, arith}
use Rattle.std.specs.List.{range_with_len}
use Rattle.std.proofs.lemmas.List.FromFn.{length-map-range_with_len, get_or-map-range_with_len}
use Rattle.std.proofs.lemmas.Grind.{same_number_lists}
use Rattle.trau_frame.specs.declared.frames.DownFrame.{DownFrame}
use Rattle.trau_frame.specs.Role.{Role, Data, role_of, place_of_role, bit_with, IsRole}
use Rattle.trau_frame.specs.Frame.{Synced, data_of, bit_for, frame_bits}
use Rattle.trau_frame.specs.DownFrame.{down_control, down_data, down_bits}
use Rattle.trau_frame.proofs.Places.{role_of-place_of, place_of-below}

pub length-frame_bits : (control d : List ℕ) → length (frame_bits control d) ≡ 320
unfolding frame_bits
length-frame_bits control d = length-map-range_with_len (λ i. bit_for control d (role_of i)) 0 320

pub get_or-frame_bits : (control d : List ℕ) (i e : ℕ) → i < 320 → get_or (frame_bits control d) i e ≡ bit_for control d (role_of i)
unfolding frame_bits
get_or-frame_bits control d i e h = get_or-map-range_with_len (λ i. bit_for control d (role_of i)) 0 320 i i e h (omega arith)

pub synced-frame_bits : (control d : List ℕ) → Synced (frame_bits control d)
synced-frame_bits control d = λ i bit h e. get_or-frame_bits control d i 0 h ∙ ap (bit_for control d) e

pub bit_with-frame_bits : (control d : List ℕ) (r : Role) → IsRole r → bit_with (frame_bits control d) r ≡ bit_for control d r
bit_with-frame_bits control d r h =
    get_or-frame_bits control d (place_of_role r) 0 (place_of-below r h) ∙ ap (bit_for control d) (role_of-place_of r h)

pub data_of-frame_bits : (control d : List ℕ) → length d ≡ 260 → data_of (frame_bits control d) ≡ d
unfolding data_of
data_of-frame_bits control d len =
    let count : length (map (λ n. bit_with (frame_bits control d) (Data n)) (range_with_len 1 260)) ≡ 260 =
    length-map-range_with_len (λ n. bit_with (frame_bits control d) (Data n)) 1 260 in
    same_number_lists _ d (count ∙ sym len) (λ k below.
    let inside : k < 260 = omega arith in
    let index : k + 1 - 1 ≡ k = omega arith in
    get_or-map-range_with_len (λ n. bit_with (frame_bits control d) (Data n)) 1 260 k (k + 1) 0 inside (omega arith) ∙
    bit_with-frame_bits control d (Data (k + 1)) (omega arith, omega arith) ∙ ap (λ n. get_or d n 0) index)

pub length-down_bits : (f : DownFrame) → length (down_bits f) ≡ 320
unfolding down_bits
length-down_bits f = length-frame_bits (down_control f) (down_data f)

pub synced-down_bits : (f : DownFrame) → Synced (down_bits f)
unfolding down_bits
synced-down_bits f = synced-frame_bits (down_control f) (down_data f)
