-- The standard's sum L_z2 is 2^15 of a downscaled sample and an offset.
use Rattle.std.proofs.Common.{◌≡◌, ℤ, pos, negsuc, ◌+ℤ◌, ◌-ℤ◌, ◌*ℤ◌, ◌<ℤ◌, ◌≤ℤ◌, neg_ℤ, arith, ap, ◌∙◌}
use Rattle.std.proofs.lemmas.Int.{ints}
use Rattle.trau_num.specs.Num.{floor_shr, clamp16, clamp32, mult_r_of, l_add_of}
use Rattle.trau_num.proofs.Fitting.{word_stays}
use Rattle.fr_pre.specs.Offsets.{IsOffset, IsDownscaled, next_offset, without_offset}
use Rattle.fr_pre.specs.Preprocessing.{next_l_z2, offset_free}

-- q is the floor of z / 2^15
pub record IsFloor (z q : ℤ) : Type 0 where
  pub low : (q *ℤ pos 32768) ≤ℤ z
  pub high : z <ℤ (q *ℤ pos 32768 +ℤ pos 32768)

-- a shift down by 15 is the floor, and there is one
pub floor : (z : ℤ) → IsFloor z (floor_shr z 15)
floor (pos n) = record { low = omega (arith, ints); high = omega (arith, ints) }
floor (negsuc n) = record { low = omega (arith, ints); high = omega (arith, ints) }

-- the next offset is one that samples from home can give
pub offset_stays : (offset so : ℤ) → IsOffset offset → IsDownscaled so → IsOffset (next_offset offset so)
unfolding next_offset
offset_stays offset so o s =
    let f = floor (offset *ℤ pos 32735 +ℤ (pos 16384 -ℤ so *ℤ pos 1081344)) in
    let low = f.low in
    let high = f.high in
    omega (arith, ints)

-- a long is not clamped
clamp32_none : (z : ℤ) → neg_ℤ (pos 2147483648) ≤ℤ z → z ≤ℤ pos 2147483647 → clamp32 z ≡ z
clamp32_none z l h = grind (arith, ints)

-- the standard's two products are one
two_products : (z1 offset l msp held q : ℤ) → l ≡ offset +ℤ z1 *ℤ pos 32768 → IsFloor l msp →
    IsFloor ((l -ℤ msp *ℤ pos 32768) *ℤ pos 32735 +ℤ pos 16384) held → IsFloor (offset *ℤ pos 32735 +ℤ (pos 16384 -ℤ z1 *ℤ pos 1081344)) q →
    msp *ℤ pos 32735 +ℤ held ≡ q +ℤ z1 *ℤ pos 32768
two_products z1 offset l msp held q e f g h =
    let fl = f.low in
    let fh = f.high in
    let gl = g.low in
    let gh = g.high in
    let hl = h.low in
    let hh = h.high in
    omega (arith, ints)

-- the lower product is a word
lower_word : (l msp held : ℤ) → IsFloor l msp → IsFloor ((l -ℤ msp *ℤ pos 32768) *ℤ pos 32735 +ℤ pos 16384) held → clamp16 held ≡ held
lower_word l msp held f g =
    let fl = f.low in
    let fh = f.high in
    let gl = g.low in
    let gh = g.high in
    word_stays held (omega (arith, ints))

-- an offset and a downscaled sample are within a long word
within_long : (so offset : ℤ) → IsDownscaled so → IsOffset offset → clamp32 (offset +ℤ so *ℤ pos 32768) ≡ offset +ℤ so *ℤ pos 32768
within_long so offset s o =
    let low : neg_ℤ (pos 2147483648) ≤ℤ (offset +ℤ so *ℤ pos 32768) = omega (arith, ints) in
    let high : (offset +ℤ so *ℤ pos 32768) ≤ℤ pos 2147483647 = omega (arith, ints) in
    clamp32_none _ low high

-- the next sum from the sum of z1 and its offset
pub sum_goes_on : (z1 so offset l : ℤ) → IsDownscaled z1 → IsDownscaled so → IsOffset offset → l ≡ offset +ℤ z1 *ℤ pos 32768 →
    next_l_z2 l (so -ℤ z1) ≡ next_offset offset z1 +ℤ so *ℤ pos 32768
unfolding next_l_z2 next_offset mult_r_of l_add_of
sum_goes_on z1 so offset l z s o e =
    let f = floor l in
    let g = floor ((l -ℤ floor_shr l 15 *ℤ pos 32768) *ℤ pos 32735 +ℤ pos 16384) in
    let h = floor (offset *ℤ pos 32735 +ℤ (pos 16384 -ℤ z1 *ℤ pos 1081344)) in
    let held = floor_shr ((l -ℤ floor_shr l 15 *ℤ pos 32768) *ℤ pos 32735 +ℤ pos 16384) 15 in
    let q = floor_shr (offset *ℤ pos 32735 +ℤ (pos 16384 -ℤ z1 *ℤ pos 1081344)) 15 in
    let p = two_products z1 offset l _ _ _ e f g h in
    let w = lower_word l _ _ f g in
    let total : floor_shr l 15 *ℤ pos 32735 +ℤ ((so -ℤ z1) *ℤ pos 32768 +ℤ held) ≡ q +ℤ so *ℤ pos 32768 = omega (arith, ints) in
    rw w (ap (λ v. clamp32 v) total ∙ within_long so (next_offset offset z1) s (offset_stays offset z1 o z))

-- L_z2 rounded is the sample without its offset
pub rounds_on : (so offset l : ℤ) → IsDownscaled so → IsOffset offset → l ≡ offset +ℤ so *ℤ pos 32768 → offset_free l ≡ without_offset so offset
unfolding offset_free without_offset l_add_of
rounds_on so offset l s o e =
    let low : neg_ℤ (pos 2147483648) ≤ℤ (l +ℤ pos 16384) = omega (arith, ints) in
    let high : (l +ℤ pos 16384) ≤ℤ pos 2147483647 = omega (arith, ints) in
    let c = clamp32_none (l +ℤ pos 16384) low high in
    let f = floor (l +ℤ pos 16384) in
    let g = floor (offset +ℤ pos 16384) in
    let fl = f.low in
    let fh = f.high in
    let gl = g.low in
    let gh = g.high in
    let r : floor_shr (l +ℤ pos 16384) 15 ≡ so +ℤ floor_shr (offset +ℤ pos 16384) 15 = omega (arith, ints) in
    rw c (ap (λ v. clamp16 v) r)
