-- The silence descriptor (SID) of four frames (GSM 06.12; the numbers are this project's profile).
use Rattle.std.specs.Prelude.{ℕ, ℤ, pos, ◌+ℤ◌, List, [], ◌∷◌, map, replicate, unsigned_abs}
use Rattle.std.specs.List.{range_with_len}
use Rattle.trau_num.specs.Num.{floor_shr, entry}
use Rattle.trau_params.specs.Fields.{Fields}
use Rattle.fr_lpc.specs.Ratios.{ratio_codes}
use Rattle.fr_rpe.specs.Quantisation.{coded_maximum}
use Rattle.tx_dtx.specs.Stretch.{Measures}

-- the sum of a list
abbrev pub total : List ℤ → ℤ
total [] = pos 0
total (x ∷ xs) = x +ℤ total xs

-- the mean log area ratio i of four frames, rounded down
unfoldable pub mean_ratio : List Measures → ℕ → ℤ
mean_ratio four i = floor_shr (total (map (λ m. entry m.lar i) four)) 2

-- the mean of their sixteen block maxima, rounded down
unfoldable pub mean_maximum : List Measures → ℤ
mean_maximum four = floor_shr (total (map (λ m. total m.xmax) four)) 4

-- the means, coded by the encoder's own quantisers; all else is 0
unfoldable pub sid_of : List Measures → Fields
sid_of four = record {
  larc = ratio_codes (map (mean_ratio four) (range_with_len 0 8));
  nc = replicate 4 0;
  bc = replicate 4 0;
  mc = replicate 4 0;
  xmaxc = replicate 4 (coded_maximum (unsigned_abs (mean_maximum four)));
  xmc = replicate 4 (replicate 13 0);
}
