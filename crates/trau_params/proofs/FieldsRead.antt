-- For crates above: the fields that are read out of a frame's bits are the frame's (`fields_in-bits260_of`).
use Rattle.std.proofs.Common.{◌≡◌, ℕ, ◌+◌, ◌*◌, ◌/◌, ◌%◌, ◌^◌, ◌<◌, zero, suc, List, [], map, length, get_or, refl, sym, ap, subst, ◌∙◌, arith}
use Rattle.std.specs.List.{range_with_len}
use Rattle.std.proofs.Math.Nat.{div-eq_of_lt}
use Rattle.std.proofs.lemmas.List.Elements.{All-get_or}
use Rattle.std.proofs.lemmas.List.FromFn.{fill_by_all, sum_by-map-range_with_len_more}
use Rattle.std.proofs.lemmas.Nat.{shr-shr, pow-add}
use Rattle.trau_params.specs.declared.params.Params.{Params}
use Rattle.trau_params.specs.Widths.{FitWidth}
use Rattle.trau_params.specs.Bits260.{bits260_of}
use Rattle.trau_params.specs.Fields.{fields_of, number_at, block_numbers, fields_in}
use Rattle.trau_params.specs.Places.{StandsAt}
use Rattle.trau_params.specs.Shape.{HasShape}
use Rattle.trau_params.proofs.FieldPlaces.{fields_stand}

-- ---- one number

pub number_at-none : (bits : List ℕ) (offset : ℕ) → number_at bits offset 0 ≡ 0
unfolding number_at
number_at-none bits offset = refl

pub number_at-more : (bits : List ℕ) (offset n : ℕ) →
    number_at bits offset (n + 1) ≡ number_at bits offset n + get_or bits (offset + n) 0 * 2 ^ n
unfolding number_at
number_at-more bits offset n =
    sum_by-map-range_with_len_more (λ x. x) (λ t. get_or bits (offset + t) 0 * 2 ^ t) 0 n n (omega arith)

-- a bit beside twice the bits above it
doubled : (half bit power : ℕ) → bit * power + half * (power * 2) ≡ (2 * half + bit) * power
doubled half bit power = omega arith

-- the low n bits of the value and those above them are the value
low_and_high : (bits : List ℕ) (offset value n : ℕ) → StandsAt bits offset n value →
    number_at bits offset n + value / 2 ^ n * 2 ^ n ≡ value
low_and_high bits offset value zero s = omega (arith, number_at-none bits offset)
low_and_high bits offset value (suc n) s =
    let e : n + 1 ≡ suc n = omega arith in
    let high : ℕ = value / 2 ^ n in
    let half : value / 2 ^ (n + 1) ≡ high / 2 = sym (shr-shr value n 1) in
    let split : 2 * (high / 2) + high % 2 ≡ high = omega arith in
    let next : number_at bits offset n + high % 2 * 2 ^ n + high / 2 * (2 ^ n * 2) ≡ value =
    (omega (arith, doubled (high / 2) (high % 2) (2 ^ n))) ∙ ap (λ h. number_at bits offset n + h * 2 ^ n) split ∙
    low_and_high bits offset value n (λ t h. s t (omega arith)) in
    subst (λ m. number_at bits offset m + value / 2 ^ m * 2 ^ m ≡ value) e
    (rw (number_at-more bits offset n, s n (omega arith), half, pow-add 2 n 1) next)

-- the number in a field's bits is its value
number_read : (bits : List ℕ) (offset width value : ℕ) → StandsAt bits offset width value → value < 2 ^ width →
    value ≡ number_at bits offset width
number_read bits offset width value s h =
    let none : value / 2 ^ width ≡ 0 = div-eq_of_lt h in
    sym (low_and_high bits offset value width s) ∙ ap (λ q. number_at bits offset width + q * 2 ^ width) none ∙ (omega arith)

-- ---- the fields of a frame

-- a field of each of the four blocks
block_numbers_read : (bits values : List ℕ) (offset width : ℕ) → length values ≡ 4 → FitWidth width values →
    ((j : ℕ) → j < 4 → StandsAt bits (offset + 56 * j) width (get_or values j 0)) → block_numbers bits offset width ≡ values
block_numbers_read bits values offset width n fit s =
    sym (fill_by_all (λ j. number_at bits (offset + 56 * j) width) values 4 0 n
    (λ j h. number_read bits (offset + 56 * j) width (get_or values j 0) (s j h)
    (All-get_or (λ v. v < 2 ^ width) values j 0 (omega arith) fit)))

-- the thirteen pulses of a block
pulses_read : (bits pulses : List ℕ) (offset : ℕ) → length pulses ≡ 13 → FitWidth 3 pulses →
    ((i : ℕ) → i < 13 → StandsAt bits (offset + 3 * i) 3 (get_or pulses i 0)) →
    pulses ≡ map (λ i. number_at bits (offset + 3 * i) 3) (range_with_len 0 13)
pulses_read bits pulses offset n fit s =
    fill_by_all (λ i. number_at bits (offset + 3 * i) 3) pulses 13 0 n
    (λ i h. number_read bits (offset + 3 * i) 3 (get_or pulses i 0) (s i h)
    (All-get_or (λ v. v < 8) pulses i 0 (omega arith) fit))

pub fields_in-bits260_of : (p : Params) → HasShape p → fields_in (bits260_of p) ≡ fields_of p
unfolding fields_in
fields_in-bits260_of p n =
    let s = fields_stand p n in
    let larc = sym (fill_by_all _ p.larc 8 0 n.larc
    (λ i h. number_read (bits260_of p) _ _ (get_or p.larc i 0) (s.larc i h) (p.larc_fit i h))) in
    let nc = block_numbers_read (bits260_of p) p.nc 36 7 n.nc p.nc_fit s.nc in
    let bc = block_numbers_read (bits260_of p) p.bc 43 2 n.bc p.bc_fit s.bc in
    let mc = block_numbers_read (bits260_of p) p.mc 45 2 n.mc p.mc_fit s.mc in
    let xmaxc = block_numbers_read (bits260_of p) p.xmaxc 47 6 n.xmaxc p.xmaxc_fit s.xmaxc in
    let xmc = sym (fill_by_all _ p.xmc 4 [] n.xmc
    (λ j h. pulses_read (bits260_of p) (get_or p.xmc j []) (53 + 56 * j) (n.pulses j h)
    (All-get_or (λ row. FitWidth 3 row) p.xmc j [] (omega (arith, n.xmc)) p.xmc_fit) (λ i l. s.xmc j i h l))) in
    λ k. record { larc = larc k; nc = nc k; bc = bc k; mc = mc k; xmaxc = xmaxc k; xmc = xmc k }

-- so the fields that bits of a frame carry are its fields
pub fields_of_bits : (p : Params) (bits : List ℕ) → HasShape p → bits260_of p ≡ bits → fields_of p ≡ fields_in bits
fields_of_bits p bits n e = sym (fields_in-bits260_of p n) ∙ ap fields_in e
