-- For crates above: the data bits that are read out of bits are bits (`data_of-below`).
-- Data bits are read row by row.
use Rattle.std.proofs.Common.{◌≡◌, ℕ, ◌+◌, ◌-◌, ◌*◌, ◌<◌, ◌≤◌, List, map, length, get_or, slice_range, refl, sym, ap, ◌∙◌, subst, arith, inl, inr}
use Rattle.std.specs.List.{range_with_len}
use Rattle.std.proofs.lemmas.Bool.{cases_lt}
use Rattle.std.proofs.lemmas.List.FromFn.{length-map-range_with_len, get_or-map-range_with_len}
use Rattle.std.proofs.lemmas.Grind.{same_number_lists}
use borrow.Rule.Slice.PartMut.{put_mid}
use Rattle.trau_bits.specs.Bits.{AreBits}
use Rattle.trau_frame.specs.Role.{Data, place_of_role, bit_with}
use Rattle.trau_frame.specs.Frame.{data_of}
use Rattle.trau_frame.proofs.RowPlaces.{place_of-row, place_of-last, bit-below}
use Rattle.trau_frame.proofs.Copied.{get_or-part, get_or-put_mid_below, get_or-put_mid, length-put_mid}

-- the first n data bits are read
pub record IsRead (bits d : List ℕ) (n : ℕ) : Type 0 where
  pub count : length d ≡ 260
  pub each : (k : ℕ) → k < n → get_or d k 0 ≡ bit_with bits (Data (k + 1))

-- bits that stand one behind another, copied as a whole
read_part : (bits d ys : List ℕ) (from place n k m : ℕ) → from + n ≤ 260 → place + n ≤ length bits → k ≡ n → m ≡ from + n →
    ((j : ℕ) → j < n → place_of_role (Data (from + j + 1)) ≡ place + j) → length ys ≡ n → ys ≡ slice_range bits place (place + n) →
    IsRead bits d from → IsRead bits (put_mid from k d ys) m
read_part bits d ys from place n k m within inside width next stand len same h =
    let count = h.count in
    record {
      count = length-put_mid from k d ys (omega arith) (omega arith) ∙ count;
      each = λ i below. elim (cases_lt i from) [
        | inl before ↦ get_or-put_mid_below from k d ys i before (omega arith) ∙ h.each i before
        | inr here ↦
            let j : ℕ = i - from in
            let small : j < n = omega arith in
            let index : from + j ≡ i = omega arith in
            ap (λ i. get_or (put_mid from k d ys) i 0) (sym index) ∙
            get_or-put_mid from k d ys j (omega arith) (omega arith) ∙
            ap (λ l. get_or l j 0) same ∙ get_or-part bits place n j inside small ∙
            ap (λ p. get_or bits p 0) (sym (stand j small)) ∙
            ap (λ i. bit_with bits (Data (i + 1))) index
      ];
    }

-- fifteen data bits
pub read_row : (bits d ys : List ℕ) (row k : ℕ) → row < 17 → length bits ≡ 320 → k ≡ 15 → length ys ≡ 15 →
    ys ≡ slice_range bits (32 + 16 * row + 1) (32 + 16 * row + 1 + 15) → IsRead bits d (15 * row) →
    IsRead bits (put_mid (15 * row) k d ys) (15 * (row + 1))
read_row bits d ys row k r all width len same h =
    read_part bits d ys (15 * row) (32 + 16 * row + 1) 15 k (15 * (row + 1)) (omega arith) (omega arith) width (omega arith)
    (λ j l. place_of-row row j (15 * row + j + 1) r l refl) len same h

-- the last five data bits
pub read_last : (bits d ys : List ℕ) → length bits ≡ 320 → length ys ≡ 5 → ys ≡ slice_range bits 305 310 →
    IsRead bits d 255 → IsRead bits (put_mid 255 5 d ys) 260
read_last bits d ys all len same h =
    read_part bits d ys 255 305 5 5 260 (omega arith) (omega arith) refl refl
    (λ j l. place_of-last j (255 + j + 1) l refl) len same h

-- so many bits read, by another name of the number
pub read_to : (bits d : List ℕ) (n m : ℕ) → n ≡ m → IsRead bits d n → IsRead bits d m
read_to bits d n m e h = subst (IsRead bits d) e h

-- all 260
pub read_all : (bits d : List ℕ) → IsRead bits d 260 → d ≡ data_of bits
unfolding data_of
read_all bits d h =
    same_number_lists d _ (h.count ∙ sym (length-map-range_with_len (λ n. bit_with bits (Data n)) 1 260)) (λ k below.
    let count = h.count in
    let inside : k < 260 = omega arith in
    h.each k inside ∙ sym (get_or-map-range_with_len (λ n. bit_with bits (Data n)) 1 260 k (k + 1) 0 inside (omega arith)))

pub data_of-below : (bits : List ℕ) → AreBits bits → AreBits (data_of bits)
unfolding data_of
data_of-below bits h = λ k e below.
    let count : length (map (λ n. bit_with bits (Data n)) (range_with_len 1 260)) ≡ 260 =
    length-map-range_with_len (λ n. bit_with bits (Data n)) 1 260 in
    rw (get_or-map-range_with_len (λ n. bit_with bits (Data n)) 1 260 k (k + 1) e (omega arith) (omega arith))
    (bit-below bits h (place_of_role (Data (k + 1))))
