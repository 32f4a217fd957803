-- The lengths of a frame's arrays, which their types fix.
use Rattle.std.specs.Prelude.{◌≡◌, ℕ, ◌<◌, [], length, slice_index_or}
use Rattle.trau_params.specs.declared.params.Params.{Params}

-- the arrays of the frame and the rows of pulses have their lengths
pub record HasShape (p : Params) : Type 0 where
  pub larc : length p.larc ≡ 8
  pub nc : length p.nc ≡ 4
  pub bc : length p.bc ≡ 4
  pub mc : length p.mc ≡ 4
  pub xmaxc : length p.xmaxc ≡ 4
  pub xmc : length p.xmc ≡ 4
  pub pulses : (j : ℕ) → j < 4 → length (slice_index_or p.xmc j []) ≡ 13
