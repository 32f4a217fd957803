-- The parameters of a block, one from the other.
use Rattle.std.proofs.Common.{◌≡◌, ℕ, ℤ, ◌*◌, ◌^◌, ◌≤◌, ◌≤ℤ◌, List, unsigned_abs, arith}
use Rattle.std.proofs.lemmas.Int.{ints}
use Rattle.std.proofs.Math.Nat.{mul-le-mul_right}
use Rattle.trau_num.specs.Num.{abs_of}
use Rattle.fr_rpe.specs.declared.scale.Scale.{Scale}
use Rattle.fr_rpe.specs.Scale.{scale_shift}
use Rattle.fr_rpe.specs.Weighting.{weighted_block}
use Rattle.fr_rpe.specs.Selection.{grid_of, pulses_on_grid}
use Rattle.fr_rpe.specs.Quantisation.{maximum_of, coded_maximum, pulse_codes_of, IsBelowScale}
use Rattle.fr_rpe.specs.Pulses.{block_of}
use Rattle.fr_rpe.specs.Encoding.{mc_of, pulses_of, xmax_of, xmaxc_of, xmc_of}

-- each part of a block's coding by the parts before it
pub is_mc : (e x : List ℤ) (mc : ℕ) → x ≡ weighted_block e → mc ≡ grid_of x → mc ≡ mc_of e
unfolding mc_of
is_mc e x mc a b = cc

pub are_pulses : (e x pulses : List ℤ) (mc : ℕ) → x ≡ weighted_block e → mc ≡ mc_of e → pulses ≡ pulses_on_grid x mc → pulses ≡ pulses_of e
unfolding pulses_of
are_pulses e x pulses mc a b p = cc

pub is_xmax : (e pulses : List ℤ) (xmax : ℤ) → pulses ≡ pulses_of e → xmax ≡ maximum_of pulses → xmax ≡ xmax_of e
unfolding xmax_of
is_xmax e pulses xmax p m = cc

pub is_xmaxc : (e : List ℤ) (xmax : ℤ) (xmaxc : ℕ) → xmax ≡ xmax_of e → xmaxc ≡ coded_maximum (unsigned_abs xmax) → xmaxc ≡ xmaxc_of e
unfolding xmaxc_of
is_xmaxc e xmax xmaxc m c = cc

pub is_xmc : (e pulses : List ℤ) (xmaxc : ℕ) (xmc : List ℕ) → pulses ≡ pulses_of e → xmaxc ≡ xmaxc_of e → xmc ≡ pulse_codes_of xmaxc pulses → xmc ≡ xmc_of e
unfolding xmc_of
is_xmc e pulses xmaxc xmc p m c = cc

pub is_ep : (mc mc' xmaxc xmaxc' : ℕ) (xmc xmc' : List ℕ) (ep : List ℤ) → mc ≡ mc' → xmaxc ≡ xmaxc' → xmc ≡ xmc' → ep ≡ block_of mc xmaxc xmc →
    ep ≡ block_of mc' xmaxc' xmc'
is_ep mc mc' xmaxc xmaxc' xmc xmc' ep a b c e = cc

magnitude_below : (pulse xmax : ℤ) → abs_of pulse ≤ℤ xmax → unsigned_abs (abs_of pulse) ≤ unsigned_abs xmax
unfolding abs_of
magnitude_below pulse xmax l = omega (arith, ints)

-- room for the maximum is room for each pulse
pub room_for : (scale : Scale) (pulse xmax : ℤ) → abs_of pulse ≤ℤ xmax → IsBelowScale scale (unsigned_abs xmax) →
    IsBelowScale scale (unsigned_abs (abs_of pulse))
room_for scale pulse xmax l h =
    let g : unsigned_abs (abs_of pulse) * 2 ^ scale_shift scale ≤ unsigned_abs xmax * 2 ^ scale_shift scale =
    mul-le-mul_right (2 ^ scale_shift scale) (magnitude_below pulse xmax l) in
    omega arith
