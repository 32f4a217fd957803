-- For crates above: a field is written, or read, bit by bit after the fields before it (`put_next`, `read_next`).
use Rattle.std.proofs.Common.{◌≡◌, ℕ, ◌+◌, ◌-◌, ◌*◌, ◌/◌, ◌%◌, ◌^◌, ◌<◌, ◌≤◌, zero, suc, List, [], ◌∷◌, ◌++◌, length, map, take, set, get_or, refl, sym, ap}
use Rattle.std.proofs.Common.{subst, ◌∙◌, inl, inr, sum, append_assoc, arith}
use Rattle.std.specs.List.{range_with_len, flat_map}
use Rattle.std.proofs.lemmas.List.{take_more, take_more_set, length-take-le, append-nil, get_or-set_same, get_or-set_other, get_or-replicate}
use Rattle.std.proofs.lemmas.List.Sums.{sum_by_more}
use Rattle.std.proofs.lemmas.Bool.{cases_eq}
use Rattle.std.proofs.lemmas.List.FromFn.{map-range_with_len_more, length-map-range_with_len}
use Rattle.std.proofs.lemmas.Nat.{shr-shr, pow-add}
use Rattle.trau_params.specs.Widths.{pulse_widths, xmc_width}
use Rattle.trau_params.specs.FieldBits.{low_bits, field_bits}

-- ---- the bits of one value

pub length-low_bits : (width value : ℕ) → length (low_bits width value) ≡ width
unfolding low_bits
length-low_bits width value = length-map-range_with_len (λ t. value / 2 ^ t % 2) 0 width

-- one more bit at the end
pub low_bits-more : (n value : ℕ) → low_bits (n + 1) value ≡ low_bits n value ++ value / 2 ^ n % 2 ∷ []
unfolding low_bits
low_bits-more n value = map-range_with_len_more (λ t. value / 2 ^ t % 2) 0 n n (omega arith)

-- a function over a range that begins one later
map-range-shifted : (f : ℕ → ℕ) (a n : ℕ) → map f (range_with_len (a + 1) n) ≡ map (λ t. f (t + 1)) (range_with_len a n)
map-range-shifted f a zero = refl
map-range-shifted f a (suc n) = ap (λ xs. f (a + 1) ∷ xs) (map-range-shifted f (a + 1) n)

-- a bit in front doubles the rest
halved : (value bit t : ℕ) → bit < 2 → (2 * value + bit) / 2 ^ (t + 1) ≡ value / 2 ^ t
halved value bit t h =
    let e : t + 1 ≡ 1 + t = omega arith in
    let half : (2 * value + bit) / 2 ^ 1 ≡ value = omega arith in
    ap (λ k. (2 * value + bit) / 2 ^ k) e ∙ sym (shr-shr (2 * value + bit) 1 t) ∙ ap (λ n. n / 2 ^ t) half

pub low_bits-front : (n value bit : ℕ) → bit < 2 → low_bits (n + 1) (2 * value + bit) ≡ bit ∷ low_bits n value
unfolding low_bits
low_bits-front n value bit h =
    let f : ℕ → ℕ = λ t. (2 * value + bit) / 2 ^ t % 2 in
    let e : n + 1 ≡ suc n = omega arith in
    let first : (2 * value + bit) / 2 ^ 0 % 2 ≡ bit = omega arith in
    let rest : map (λ t. (2 * value + bit) / 2 ^ (t + 1) % 2) (range_with_len 0 n) ≡ map (λ t. value / 2 ^ t % 2) (range_with_len 0 n) =
    λ i. map (λ t. halved value bit t h i % 2) (range_with_len 0 n) in
    ap (λ m. map (λ t. (2 * value + bit) / 2 ^ t % 2) (range_with_len 0 m)) e ∙
    ap (λ b. b ∷ map (λ t. (2 * value + bit) / 2 ^ t % 2) (range_with_len (0 + 1) n)) first ∙
    ap (λ xs. bit ∷ xs) (map-range-shifted (λ t. (2 * value + bit) / 2 ^ t % 2) 0 n ∙ rest)

-- ---- writing and reading one bit more

-- no bit is written yet
pub put_none : (bits : List ℕ) (at value : ℕ) → take (at + 0) bits ≡ take at bits ++ low_bits 0 value
unfolding low_bits
put_none bits at value = let e : at + 0 ≡ at = omega arith in rw (e, append-nil) refl

-- bit t is written behind the earlier ones
pub put_next : (bits old : List ℕ) (at t value : ℕ) → at + t < length bits →
    take (at + t) bits ≡ take at old ++ low_bits t value →
    take (at + (t + 1)) (set bits (at + t) (value / 2 ^ t % 2)) ≡ take at old ++ low_bits (t + 1) value
put_next bits old at t value l h =
    let e : at + (t + 1) ≡ at + t + 1 = omega arith in
    rw (e, low_bits-more t value)
    (take_more_set bits (at + t) (value / 2 ^ t % 2) l ∙ ap (λ xs. xs ++ value / 2 ^ t % 2 ∷ []) h ∙
    append_assoc (take at old) (low_bits t value) (value / 2 ^ t % 2 ∷ []))

-- no bit is read yet
pub read_none : (bits : List ℕ) (at width : ℕ) →
    take (at + width) bits ≡ take (at + width) bits ++ low_bits (width - width) 0
unfolding low_bits
read_none bits at width = let e : width - width ≡ 0 = omega arith in rw (e, append-nil) refl

-- a value fits with one bit more
pub read_fits : (width t value bit : ℕ) → 0 < t → t ≤ width → bit < 2 → value < 2 ^ (width - t) →
    2 * value + bit < 2 ^ (width - (t - 1))
read_fits width t value bit p l b h =
    let e : width - (t - 1) ≡ width - t + 1 = omega arith in
    rw e (omega (arith, pow-add 2 (width - t) 1))

-- bit t - 1 is read before the later ones
pub read_next : (bits : List ℕ) (at width t value : ℕ) → 0 < t → t ≤ width → at + t ≤ length bits →
    get_or bits (at + (t - 1)) 0 < 2 →
    take (at + width) bits ≡ take (at + t) bits ++ low_bits (width - t) value →
    take (at + width) bits ≡
    take (at + (t - 1)) bits ++ low_bits (width - (t - 1)) (2 * value + get_or bits (at + (t - 1)) 0)
read_next bits at width t value p l r b h =
    let bit : ℕ = get_or bits (at + (t - 1)) 0 in
    let e : width - (t - 1) ≡ width - t + 1 = omega arith in
    let f : at + t ≡ at + (t - 1) + 1 = omega arith in
    h ∙ ap (λ k. take k bits ++ low_bits (width - t) value) f ∙
    ap (λ xs. xs ++ low_bits (width - t) value) (take_more bits (at + (t - 1)) 0 (omega arith)) ∙
    append_assoc (take (at + (t - 1)) bits) (get_or bits (at + (t - 1)) 0 ∷ []) (low_bits (width - t) value) ∙
    ap (λ xs. take (at + (t - 1)) bits ++ xs)
    (sym (low_bits-front (width - t) value (get_or bits (at + (t - 1)) 0) b) ∙
    ap (λ k. low_bits k (2 * value + get_or bits (at + (t - 1)) 0)) (sym e))

-- ---- fields, one more at the end

field_bits-nil : (widths : List ℕ) → field_bits widths [] ≡ []
field_bits-nil [] = refl
field_bits-nil (w ∷ ws) = refl

-- a value more at the end
field_bits-push : (widths values : List ℕ) (value : ℕ) → length values < length widths →
    field_bits widths (values ++ value ∷ []) ≡ field_bits widths values ++ low_bits (get_or widths (length values) 0) value
field_bits-push [] values value h = absurd (omega arith)
field_bits-push (w ∷ ws) [] value h = ap (λ xs. low_bits w value ++ xs) (field_bits-nil ws) ∙ append-nil (low_bits w value)
field_bits-push (w ∷ ws) (v ∷ vs) value h =
    ap (λ xs. low_bits w v ++ xs) (field_bits-push ws vs value (omega arith)) ∙
    sym (append_assoc (low_bits w v) (field_bits ws vs) (low_bits (get_or ws (length vs) 0) value))

-- the first i + 1 fields are the first i and one more
pub field_bits-more : (widths values : List ℕ) (i : ℕ) → i < length widths → i < length values →
    field_bits widths (take (i + 1) values) ≡ field_bits widths (take i values) ++ low_bits (get_or widths i 0) (get_or values i 0)
field_bits-more widths values i h l =
    let n : length (take i values) ≡ i = length-take-le i values (omega arith) in
    ap (field_bits widths) (take_more values i 0 l) ∙
    field_bits-push widths (take i values) (get_or values i 0) (omega arith) ∙
    ap (λ k. field_bits widths (take i values) ++ low_bits (get_or widths k 0) (get_or values i 0)) n

-- the same where that value was set
pub field_bits-set : (widths values : List ℕ) (i value : ℕ) → i < length widths → i < length values →
    field_bits widths (take (i + 1) (set values i value)) ≡ field_bits widths (take i values) ++ low_bits (get_or widths i 0) value
field_bits-set widths values i value h l =
    let n : length (take i values) ≡ i = length-take-le i values (omega arith) in
    ap (field_bits widths) (take_more_set values i value l) ∙
    field_bits-push widths (take i values) value (omega arith) ∙
    ap (λ k. field_bits widths (take i values) ++ low_bits (get_or widths k 0) value) n

-- ---- the fields of a list, one more written or read

-- the next value fits too
pub fit_next : (limit : ℕ → ℕ) (values : List ℕ) (i value : ℕ) → i < length values →
    ((k : ℕ) → k < i → get_or values k 0 < limit k) → value < limit i →
    (k : ℕ) → k < i + 1 → get_or (set values i value) k 0 < limit k
fit_next limit values i value l h v k b =
    elim (cases_eq k i) [
      | inl e ↦ subst (λ j. get_or (set values i value) j 0 < limit j) (sym e) (rw get_or-set_same v)
      | inr n ↦ let before : k < i = omega arith in rw (get_or-set_other values i k value 0 n) (h k before)
    ]

-- the place after the next field
pub sum-more : (widths : List ℕ) (i at : ℕ) → i < length widths → at ≡ sum (take i widths) →
    at + get_or widths i 0 ≡ sum (take (i + 1) widths)
sum-more widths i at h e = let m = sum_by_more (λ x. x) widths i 0 h in omega (arith, m)

-- the fields of a list of numbered parts, one more part
pub flat_map-range-more : (f : ℕ → List ℕ) (a n j : ℕ) → a + n ≡ j →
    flat_map f (range_with_len a (n + 1)) ≡ flat_map f (range_with_len a n) ++ f j
flat_map-range-more f a zero j e =
    let s : j ≡ a = omega arith in
    rw s (append-nil (f a))
flat_map-range-more f a (suc n) j e =
    let s : suc n + 1 ≡ suc (n + 1) = omega arith in
    ap (λ m. flat_map f (range_with_len a m)) s ∙
    ap (λ xs. f a ++ xs) (flat_map-range-more f (a + 1) n j (omega arith)) ∙
    sym (append_assoc (f a) (flat_map f (range_with_len (a + 1) n)) (f j))

-- thirteen pulses behind other bits, one more
pub pulses-more : (front values : List ℕ) (i : ℕ) → i < 13 → i < length values →
    (front ++ field_bits pulse_widths (take i values)) ++ low_bits xmc_width (get_or values i 0) ≡
    front ++ field_bits pulse_widths (take (i + 1) values)
pulses-more front values i h l =
    let w : get_or pulse_widths i 0 ≡ 3 = get_or-replicate 13 i 3 0 h in
    append_assoc front (field_bits pulse_widths (take i values)) (low_bits 3 (get_or values i 0)) ∙
    ap (λ xs. front ++ xs)
    (ap (λ k. field_bits pulse_widths (take i values) ++ low_bits k (get_or values i 0)) (sym w) ∙
    sym (field_bits-more pulse_widths values i h l))

-- the same where that pulse was set
pub pulses-set : (front values : List ℕ) (i value : ℕ) → i < 13 → i < length values →
    (front ++ field_bits pulse_widths (take i values)) ++ low_bits xmc_width value ≡
    front ++ field_bits pulse_widths (take (i + 1) (set values i value))
pulses-set front values i value h l =
    let w : get_or pulse_widths i 0 ≡ 3 = get_or-replicate 13 i 3 0 h in
    append_assoc front (field_bits pulse_widths (take i values)) (low_bits 3 value) ∙
    ap (λ xs. front ++ xs)
    (ap (λ k. field_bits pulse_widths (take i values) ++ low_bits k value) (sym w) ∙
    sym (field_bits-set pulse_widths values i value h l))
