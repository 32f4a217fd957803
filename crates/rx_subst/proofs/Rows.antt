-- Worked values of a frame with each block maximum 20, in call 7.
use Rattle.std.proofs.Common.{◌≡◌, refl, [], ◌∷◌, replicate}
use Rattle.trau_params.specs.Fields.{Fields}
use Rattle.trau_params.specs.Silence.{silent_fields}
use Rattle.trau_num.specs.Random.{state_after_draw, drawn_number}
use Rattle.rx_muting.specs.Draws.{state_after, draw_of}
use Rattle.rx_muting.specs.Muting.{lowered_maxima}
use Rattle.rx_subst.specs.Lost.{random_grids, muted_of, lost_of}

abbrev good : Fields
good = record {
  larc = 1 ∷ 2 ∷ 3 ∷ 4 ∷ 5 ∷ 6 ∷ 7 ∷ 0 ∷ [];
  nc = replicate 4 50;
  bc = replicate 4 1;
  mc = replicate 4 2;
  xmaxc = replicate 4 20;
  xmc = replicate 4 (replicate 13 5);
}

first_repeats : lost_of good 1 (draw_of 7) ≡ good
unfolding lost_of
first_repeats = refl

second : lost_of good 2 (draw_of 7) ≡ record good { mc = 3 ∷ 0 ∷ 1 ∷ 0 ∷ []; xmaxc = replicate 4 16 }
unfolding lost_of muted_of random_grids lowered_maxima draw_of drawn_number state_after state_after_draw
second = refl

sixth : (lost_of good 6 (draw_of 7)).xmaxc ≡ replicate 4 0
unfolding lost_of muted_of lowered_maxima
sixth = refl

sixteenth : (lost_of good 16 (draw_of 7)).xmaxc ≡ replicate 4 0
unfolding lost_of muted_of lowered_maxima
sixteenth = refl

seventeenth : lost_of good 17 (draw_of 7) ≡ silent_fields
unfolding lost_of
seventeenth = refl
