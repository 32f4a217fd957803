-- Residuals that are kept are words.
use Rattle.std.proofs.Common.{ℕ, ℤ, ◌+◌, ◌-◌, ◌≤◌, pos, FitsSigned, w16, List, ◌++◌, length, drop, map, replicate, inl, inr, arith, refl}
use Rattle.std.specs.List.{range_with_len}
use Rattle.std.proofs.lemmas.Int.{ints}
use Rattle.std.proofs.lemmas.Bool.{cases_lt}
use Rattle.std.proofs.lemmas.List.{length-replicate, get_or_past, get_or-replicate, get_or-drop, get_or_append_left, get_or-append_right}
use Rattle.std.proofs.lemmas.List.FromFn.{length-map-range_with_len, get_or-map-range_with_len}
use Rattle.trau_num.specs.Num.{add_of, entry}
use Rattle.trau_num.proofs.Clamped.{add_word}
use Rattle.fr_long.specs.Lag.{AreSigned16}
use Rattle.fr_long.specs.Prediction.{reconstructed_of}

-- behind its end a list has zeros
past_end : (xs : List ℤ) (k : ℕ) → length xs ≤ k → FitsSigned w16 (entry xs k)
past_end xs k h = rw (get_or_past xs k (pos 0) h) (omega (arith, ints))

pub zeros-words : (n : ℕ) → AreSigned16 (replicate n (pos 0))
zeros-words n = λ k. elim (cases_lt k n) [
  | inl b ↦ rw (get_or-replicate n k (pos 0) (pos 0) b) (omega (arith, ints))
  | inr b ↦ past_end (replicate n (pos 0)) k (omega (arith, length-replicate n (pos 0)))
]

reconstructed-words : (dpp ep : List ℤ) → AreSigned16 (reconstructed_of dpp ep)
unfolding reconstructed_of
reconstructed-words dpp ep = λ k. elim (cases_lt k 40) [
  | inl b ↦ rw (get_or-map-range_with_len (λ j. add_of (entry ep j) (entry dpp j)) 0 40 k k (pos 0) b (omega arith)) (add_word (entry ep k) (entry dpp k))
  | inr b ↦
      let long = length-map-range_with_len {X = ℤ} (λ j. add_of (entry ep j) (entry dpp j)) 0 40 in
      past_end (map (λ j. add_of (entry ep j) (entry dpp j)) (range_with_len 0 40)) k (omega arith)
]

drop-words : (n : ℕ) (xs : List ℤ) → AreSigned16 xs → AreSigned16 (drop n xs)
drop-words n xs h = λ k. rw (get_or-drop n xs k (pos 0)) (h (n + k))

append-words : (xs ys : List ℤ) → AreSigned16 xs → AreSigned16 ys → AreSigned16 (xs ++ ys)
append-words xs ys h g = λ k. elim (cases_lt k (length xs)) [
  | inl b ↦ rw (get_or_append_left xs ys (pos 0) k b) (h k)
  | inr b ↦ rw (get_or-append_right xs ys (length xs) k (pos 0) refl b) (g (k - length xs))
]

-- one block more
pub updated-words : (residuals dpp ep : List ℤ) → AreSigned16 residuals → AreSigned16 (drop 40 residuals ++ reconstructed_of dpp ep)
updated-words residuals dpp ep h =
    append-words (drop 40 residuals) (reconstructed_of dpp ep) (drop-words 40 residuals h) (reconstructed-words dpp ep)
