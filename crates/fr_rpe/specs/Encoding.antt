-- The parameters of a block e of 40 samples (GSM 06.10, sections 4.2.13 to 4.2.15).
use Rattle.std.specs.Prelude.{ℕ, ℤ, unsigned_abs, List}
use Rattle.fr_rpe.specs.Weighting.{weighted_block}
use Rattle.fr_rpe.specs.Selection.{grid_of, pulses_on_grid}
use Rattle.fr_rpe.specs.Quantisation.{maximum_of, coded_maximum, pulse_codes_of}

-- Mc: the grid position
unfoldable pub mc_of : List ℤ → ℕ
mc_of e = grid_of (weighted_block e)

-- xM: the thirteen pulses on that grid
unfoldable pub pulses_of : List ℤ → List ℤ
pulses_of e = pulses_on_grid (weighted_block e) (mc_of e)

-- xmax: their maximum
unfoldable pub xmax_of : List ℤ → ℤ
xmax_of e = maximum_of (pulses_of e)

-- xmaxc: the coded maximum
unfoldable pub xmaxc_of : List ℤ → ℕ
xmaxc_of e = coded_maximum (unsigned_abs (xmax_of e))

-- xMc: the codes of the pulses
unfoldable pub xmc_of : List ℤ → List ℕ
xmc_of e = pulse_codes_of (xmaxc_of e) (pulses_of e)
