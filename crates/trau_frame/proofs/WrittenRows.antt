-- For crates above: a frame that is written with bits is made of bits (`frame_bits-below`), also of ones alone
-- (`ones-below`).
-- A frame is written row by row.
use Rattle.std.proofs.Common.{◌≡◌, ℕ, ◌+◌, ◌-◌, ◌*◌, ◌<◌, ◌≤◌, List, map, replicate, length, get_or, set, refl, sym, ap, ◌∙◌, subst, arith, slice_range, inl}
use Rattle.std.proofs.Common.{inr}
use Rattle.std.specs.List.{range_with_len}
use Rattle.std.proofs.lemmas.List.{length-set, get_or-replicate}
use Rattle.std.proofs.lemmas.List.Edits.{fill_by_more}
use Rattle.std.proofs.lemmas.List.FromFn.{fill_by_all, length-map-range_with_len, get_or-map-range_with_len}
use Rattle.std.proofs.lemmas.Bool.{cases_lt}
use borrow.Rule.Slice.PartMut.{put_mid}
use Rattle.trau_bits.specs.Bits.{AreBits}
use Rattle.trau_frame.specs.Role.{Role, Sync, Control, Data, Time, role_of, place_of_role, IsRole}
use Rattle.trau_frame.specs.Frame.{bit_for, frame_bits, IsWritten}
use Rattle.trau_frame.proofs.Places.{role_of-zeros, role_of-ones, role_of-within}
use Rattle.trau_frame.proofs.RowPlaces.{place_of-row, place_of-last, place_of-low, place_of-high, place_of-time, role_of-at, bit-below}
use Rattle.trau_frame.proofs.Copied.{get_or-part, get_or-put_mid_below, get_or-put_mid, length-put_mid}

-- one bit more
pub written_next : (control d bits : List ℕ) (n x : ℕ) → n < 320 → IsWritten control d bits n → x ≡ bit_for control d (role_of n) →
    IsWritten control d (set bits n x) (n + 1)
written_next control d bits n x l h e =
    let count = h.count in
    record {
      count = length-set bits n x ∙ count;
      each = rw e (fill_by_more (λ i. bit_for control d (role_of i)) bits n 0 (omega arith) h.each);
    }

-- the next place takes the bit of its role
pub written_role : (r : Role) (control d bits : List ℕ) (n m x : ℕ) → IsRole r → place_of_role r ≡ n → n < 320 → m ≡ n + 1 →
    x ≡ bit_for control d r → IsWritten control d bits n → IsWritten control d (set bits n x) m
written_role r control d bits n m x within e l next same h =
    rw next (written_next control d bits n x l h (same ∙ ap (bit_for control d) (sym (role_of-at r n within e))))

-- so many bits written, by another name of the number
pub written_to : (control d bits : List ℕ) (n m : ℕ) → n ≡ m → IsWritten control d bits n → IsWritten control d bits m
written_to control d bits n m e h = subst (IsWritten control d bits) e h

-- a zero of the first row
pub written_zero : (control d bits : List ℕ) (i : ℕ) → i < 16 → IsWritten control d bits i → IsWritten control d (set bits i 0) (i + 1)
written_zero control d bits i l h =
    written_next control d bits i 0 (omega arith) h (sym (ap (bit_for control d) (role_of-zeros i l)))

-- the one at the start of a row
pub written_one : (control d bits : List ℕ) (row n m : ℕ) → 1 ≤ row → row < 20 → n ≡ 16 * row → m ≡ n + 1 →
    IsWritten control d bits n → IsWritten control d (set bits n 1) m
written_one control d bits row n m l h e next w =
    let role : role_of n ≡ Sync 1 = ap role_of e ∙ role_of-ones row l h in
    rw next (written_next control d bits n 1 (omega arith) w (sym (ap (bit_for control d) role)))

-- C1 to C15
pub written_low : (control d bits : List ℕ) (c : ℕ) → c < 15 → IsWritten control d bits (17 + c) →
    IsWritten control d (set bits (17 + c) (get_or control c 0)) (17 + (c + 1))
written_low control d bits c l h =
    let place : place_of_role (Control (c + 1)) ≡ 17 + c = place_of-low (c + 1) (omega arith) ∙ omega arith in
    let index : c ≡ c + 1 - 1 = omega arith in
    written_role (Control (c + 1)) control d bits (17 + c) (17 + (c + 1)) (get_or control c 0) (omega arith, omega arith) place
    (omega arith) (omega arith) (ap (λ k. get_or control k 0) index) h

-- the last five data bits
pub written_last : (control d bits : List ℕ) (n : ℕ) → n < 5 → IsWritten control d bits (305 + n) →
    IsWritten control d (set bits (305 + n) (get_or d (255 + n) 0)) (305 + (n + 1))
written_last control d bits n l h =
    let index : 255 + n ≡ 255 + n + 1 - 1 = omega arith in
    written_role (Data (255 + n + 1)) control d bits (305 + n) (305 + (n + 1)) (get_or d (255 + n) 0)
    (omega arith, omega arith) (place_of-last n (255 + n + 1) l refl) (omega arith) (omega arith)
    (ap (λ k. get_or d k 0) index) h

-- C16 to C21
pub written_high : (control d bits : List ℕ) (c : ℕ) → c < 6 → IsWritten control d bits (310 + c) →
    IsWritten control d (set bits (310 + c) (get_or control (15 + c) 0)) (310 + (c + 1))
written_high control d bits c l h =
    let place : place_of_role (Control (15 + c + 1)) ≡ 310 + c = place_of-high (15 + c + 1) (omega arith) ∙ omega arith in
    let index : 15 + c ≡ 15 + c + 1 - 1 = omega arith in
    written_role (Control (15 + c + 1)) control d bits (310 + c) (310 + (c + 1)) (get_or control (15 + c) 0)
    (omega arith, omega arith) place (omega arith) (omega arith) (ap (λ k. get_or control k 0) index) h

-- T1 to T4
pub written_time : (control d bits : List ℕ) (t : ℕ) → t < 4 → IsWritten control d bits (316 + t) →
    IsWritten control d (set bits (316 + t) 1) (316 + (t + 1))
written_time control d bits t l h =
    let place : place_of_role (Time (t + 1)) ≡ 316 + t = place_of-time (t + 1) ∙ omega arith in
    written_role (Time (t + 1)) control d bits (316 + t) (316 + (t + 1)) 1 (omega arith, omega arith) place
    (omega arith) (omega arith) refl h

-- all places are written
pub written_all : (control d bits : List ℕ) → IsWritten control d bits 320 → bits ≡ frame_bits control d
unfolding frame_bits
written_all control d bits h = fill_by_all (λ i. bit_for control d (role_of i)) bits 320 0 h.count h.each

-- ---- a row copied as a whole

-- a row's fifteen data bits
pub written_part : (control d bits ys : List ℕ) (row k : ℕ) → row < 17 → k ≡ 15 → length d ≡ 260 → length ys ≡ 15 →
    ys ≡ slice_range d (15 * row) (15 * row + 15) → IsWritten control d bits (32 + 16 * row + 1) →
    IsWritten control d (put_mid (32 + 16 * row + 1) k bits ys) (32 + 16 * row + 16)
written_part control d bits ys row k r fifteen len part same h =
    let count = h.count in
    record {
      count = length-put_mid (32 + 16 * row + 1) k bits ys (omega arith) (omega arith) ∙ count;
      each = λ i below. elim (cases_lt i (32 + 16 * row + 1)) [
        | inl before ↦ get_or-put_mid_below (32 + 16 * row + 1) k bits ys i before (omega arith) ∙ h.each i before
        | inr here ↦
            let j : ℕ = i - (32 + 16 * row + 1) in
            let small : j < 15 = omega arith in
            let place : 32 + 16 * row + 1 + j ≡ i = omega arith in
            let index : 15 * row + j + 1 - 1 ≡ 15 * row + j = omega arith in
            ap (λ n. get_or (put_mid (32 + 16 * row + 1) k bits ys) n 0) (sym place) ∙
            get_or-put_mid (32 + 16 * row + 1) k bits ys j (omega arith) (omega arith) ∙
            ap (λ l. get_or l j 0) same ∙ get_or-part d (15 * row) 15 j (omega arith) small ∙
            ap (λ n. get_or d n 0) (sym index) ∙
            sym (ap (bit_for control d) (role_of-at (Data (15 * row + j + 1)) i (omega arith, omega arith)
            (place_of-row row j (15 * row + j + 1) r small refl ∙ place)))
      ];
    }

-- ---- what is written are bits

pub bit_for-below : (control d : List ℕ) (r : Role) → AreBits control → AreBits d → IsRole r → bit_for control d r < 2
bit_for-below control d (Sync bit) hc hd h = h
bit_for-below control d (Control c) hc hd h = bit-below control hc (c - 1)
bit_for-below control d (Data n) hc hd h = bit-below d hd (n - 1)
bit_for-below control d (Time t) hc hd h = omega arith

pub frame_bits-below : (control d : List ℕ) → AreBits control → AreBits d → AreBits (frame_bits control d)
unfolding frame_bits
frame_bits-below control d hc hd = λ i e below.
    let count : length (map (λ i. bit_for control d (role_of i)) (range_with_len 0 320)) ≡ 320 =
    length-map-range_with_len (λ i. bit_for control d (role_of i)) 0 320 in
    let inside : i < 320 = omega arith in
    rw (get_or-map-range_with_len (λ i. bit_for control d (role_of i)) 0 320 i i e inside (omega arith))
    (bit_for-below control d (role_of i) hc hd (role_of-within i inside))

-- the data bits of an idle frame
pub ones-below : (k d : ℕ) → k < 260 → get_or (replicate 260 1) k d < 2
ones-below k d h = rw (get_or-replicate 260 k 1 d h) (omega arith)
