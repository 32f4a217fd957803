-- Block maxima, place by place.
use Rattle.std.proofs.Common.{◌≡◌, ℕ, ◌-◌, ◌*◌, get_or, length, map, List, arith}
use Rattle.std.specs.List.{range_with_len}
use Rattle.std.proofs.lemmas.List.{get_or-map, length-map}
use Rattle.std.proofs.lemmas.List.FromFn.{fill_by_all}
use Rattle.rx_muting.specs.Muting.{muting_step, lowered_maxima}

pub lowered_by_places : (steps : ℕ) (xs : List ℕ) (n : ℕ) → length xs ≡ n →
    lowered_maxima steps xs ≡ map (λ j. get_or xs j 0 - muting_step * steps) (range_with_len 0 n)
unfolding lowered_maxima
lowered_by_places steps xs n e =
    fill_by_all (λ j. get_or xs j 0 - muting_step * steps) (map (λ l. l - muting_step * steps) xs) n 0 (simp length-map e)
    (λ k h. get_or-map (λ l. l - muting_step * steps) xs k 0 0 (omega arith))
