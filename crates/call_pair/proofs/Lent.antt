-- The first octets behind a start, as they are lent.
use Rattle.std.proofs.Common.{Option, Some, MatchOption, Bor, ◌≡◌, ◌∙◌, ℕ, ◌<◌, List, length, take, drop, take-take, length-take, arith}
use Rattle.std.specs.Array.{IsFirstChunk}
use Rattle.std.proofs.lemmas.Option.{MatchOption-at_some}

-- they are those of the whole
pub lent_from : (n m s : ℕ) (ys : List ℕ) (found : Option (Bor (List ℕ))) (one : Bor (List ℕ)) → found ≡ Some one →
    MatchOption found (length (take m (drop s ys)) < n) (λ y. IsFirstChunk (take m (drop s ys)) y.now n) → one.now ≡ take n (drop s ys)
lent_from n m s ys found one e h =
    let part = MatchOption-at_some (length (take m (drop s ys)) < n) (λ y. IsFirstChunk (take m (drop s ys)) y.now n) one e h in
    part.same ∙ take-take n m (drop s ys) (omega (arith, part.enough, length-take m (drop s ys)))
