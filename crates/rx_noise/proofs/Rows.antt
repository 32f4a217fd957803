-- Worked values: the first draws of call 7, and the level of a fall.
use Rattle.std.proofs.Common.{◌≡◌, refl, [], ◌∷◌, take, replicate}
use Rattle.trau_params.specs.Fields.{Fields}
use Rattle.trau_params.specs.Silence.{silent_fields}
use Rattle.trau_num.specs.Random.{state_after_draw, drawn_number}
use Rattle.rx_muting.specs.Draws.{state_after, draw_of}
use Rattle.rx_muting.specs.Muting.{lowered_maxima}
use Rattle.rx_noise.specs.Noise.{noise_grids, noise_pulses, noise_at, noise_of}

abbrev descriptor : Fields
descriptor = record {
  larc = 1 ∷ 2 ∷ 3 ∷ 4 ∷ 5 ∷ 6 ∷ 7 ∷ 0 ∷ [];
  nc = replicate 4 50;
  bc = replicate 4 1;
  mc = replicate 4 2;
  xmaxc = replicate 4 20;
  xmc = replicate 4 (replicate 13 5);
}

first_grid : take 1 (noise_of descriptor 0 (draw_of 7)).mc ≡ 3 ∷ []
unfolding noise_of noise_at noise_grids draw_of drawn_number state_after state_after_draw
first_grid = refl

first_pulses : take 3 (noise_pulses (draw_of 7) 1) ≡ 1 ∷ 2 ∷ 2 ∷ []
unfolding noise_pulses draw_of drawn_number state_after state_after_draw
first_pulses = refl

fourth_level : (noise_of descriptor 1 (draw_of 7)).xmaxc ≡ replicate 4 16
unfolding noise_of noise_at lowered_maxima
fourth_level = refl

silence_at_last : noise_of descriptor 17 (draw_of 7) ≡ silent_fields
unfolding noise_of
silence_at_last = refl
