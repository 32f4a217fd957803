-- Worked rows of call 7.
use Rattle.std.proofs.Common.{◌≡◌, refl, ℕ, ◌*◌, true, false, List, [], ◌∷◌, map, replicate}
use Rattle.trau_params.specs.Fields.{Fields}
use Rattle.trau_params.specs.Silence.{silent_fields}
use Rattle.trau_num.specs.Random as random
use Rattle.rx_muting.specs.Draws.{state_after, draw_of}
use Rattle.rx_muting.specs.Muting.{lowered_maxima}
use Rattle.rx_subst.specs.Lost.{lost_of, muted_of, random_grids}
use Rattle.rx_noise.specs.Mix.{mix_of}
use Rattle.rx_noise.specs.Noise.{noise_of, noise_at}
use Rattle.rx_handler.specs.Heard.{Heard, Good, Sid, Lost}
use Rattle.rx_handler.specs.Origin.{EffectiveFields, Quiet, Speech, Made}
use Rattle.rx_handler.specs.Effective.{latest_anchor, missed_since, fall_at, approach_start_at, origin_at, draws_before, effective_at, effectives, heard_in}

-- a frame with each block maximum 20
abbrev loud : Fields
loud = record {
  larc = 1 ∷ 2 ∷ 3 ∷ 4 ∷ 5 ∷ 6 ∷ 7 ∷ 0 ∷ [];
  nc = replicate 4 50;
  bc = replicate 4 1;
  mc = replicate 4 2;
  xmaxc = replicate 4 20;
  xmc = replicate 4 (replicate 13 5);
}

abbrev maxima : EffectiveFields → List ℕ
maxima Quiet = []
maxima (Speech p) = p.xmaxc
maxima (Made p) = p.xmaxc

-- ---- one good frame, then 17 periods without one

abbrev lost_row : ℕ → Heard
lost_row = heard_in (Good loud ∷ replicate 30 (Lost false))

itself : effective_at 7 lost_row 0 ≡ Speech loud
unfolding effective_at origin_at latest_anchor draws_before
itself = refl

first_repeats : effective_at 7 lost_row 1 ≡ Made loud
unfolding effective_at origin_at latest_anchor draws_before lost_of
first_repeats = refl

second : effective_at 7 lost_row 2 ≡ Made (record loud { mc = 3 ∷ 0 ∷ 1 ∷ 0 ∷ []; xmaxc = replicate 4 16 })
unfolding effective_at origin_at latest_anchor draws_before lost_of muted_of random_grids lowered_maxima draw_of random.drawn_number state_after
    random.state_after_draw
second = refl

levels : map (λ k. maxima (effective_at 7 lost_row k)) (2 ∷ 3 ∷ 6 ∷ 16 ∷ []) ≡ replicate 4 16 ∷ replicate 4 12 ∷ replicate 4 0 ∷ replicate 4 0 ∷ []
unfolding effective_at origin_at latest_anchor draws_before lost_of muted_of lowered_maxima
levels = refl

seventeenth : effective_at 7 lost_row 17 ≡ Made silent_fields
unfolding effective_at origin_at latest_anchor draws_before lost_of
seventeenth = refl

thirtieth : effective_at 7 lost_row 30 ≡ Made silent_fields
unfolding effective_at origin_at latest_anchor draws_before lost_of
thirtieth = refl

-- ---- a silence descriptor, unusable with TAF 0, with TAF 1 twice, good speech

abbrev pause : List Heard
pause = Sid loud ∷ Lost false ∷ Lost true ∷ Lost true ∷ Good loud ∷ []

pause_levels : map maxima (effectives 7 pause) ≡ replicate 4 20 ∷ replicate 4 20 ∷ replicate 4 20 ∷ replicate 4 16 ∷ replicate 4 20 ∷ []
unfolding effective_at origin_at approach_start_at mix_of latest_anchor missed_since fall_at draws_before noise_of noise_at lowered_maxima
pause_levels = refl

pause_ends : effective_at 7 (heard_in pause) 4 ≡ Speech loud
unfolding effective_at origin_at latest_anchor draws_before
pause_ends = refl

pause_draws : draws_before (heard_in pause) 4 ≡ 4 * 56
unfolding origin_at latest_anchor missed_since fall_at draws_before
pause_draws = refl

-- ---- an invalid silence descriptor counts as lost

first_invalid : effectives 7 (Lost false ∷ []) ≡ Quiet ∷ []
unfolding effective_at origin_at latest_anchor draws_before
first_invalid = refl

later_invalid : effectives 7 (Good loud ∷ Lost false ∷ []) ≡ Speech loud ∷ Made loud ∷ []
unfolding effective_at origin_at latest_anchor draws_before lost_of
later_invalid = refl

-- ---- a new descriptor in noise is approached step by step

abbrev low : Fields
low = record loud { xmaxc = replicate 4 4 }

-- 20, then 4, then nothing
down : map maxima (effectives 7 (Sid loud ∷ Sid low ∷ replicate 8 (Lost false))) ≡
    map (replicate 4) (20 ∷ 18 ∷ 16 ∷ 14 ∷ 12 ∷ 10 ∷ 8 ∷ 6 ∷ 4 ∷ 4 ∷ [])
unfolding effective_at origin_at approach_start_at mix_of latest_anchor missed_since fall_at draws_before noise_of noise_at lowered_maxima
down = refl

-- 20, then 4, nothing, then 20 again, before the first is reached
turned : map maxima (effectives 7 (Sid loud ∷ Sid low ∷ Lost false ∷ Sid loud ∷ replicate 7 (Lost false))) ≡
    map (replicate 4) (20 ∷ 18 ∷ 16 ∷ 16 ∷ 17 ∷ 17 ∷ 18 ∷ 18 ∷ 19 ∷ 19 ∷ 20 ∷ [])
unfolding effective_at origin_at approach_start_at mix_of latest_anchor missed_since fall_at draws_before noise_of noise_at lowered_maxima
turned = refl

-- a fall that has begun: the next descriptor is there at once
fallen : map maxima (effectives 7 (Sid loud ∷ Lost true ∷ Lost true ∷ Sid low ∷ Sid loud ∷ [])) ≡ map (replicate 4) (20 ∷ 20 ∷ 16 ∷ 4 ∷ 6 ∷ [])
unfolding effective_at origin_at approach_start_at mix_of latest_anchor missed_since fall_at draws_before noise_of noise_at lowered_maxima
fallen = refl
