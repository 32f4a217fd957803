-- The portions of a round, found by their calls' numbers.
use Rattle.std.proofs.Common.{◌≡◌, refl, ap, ◌∙◌, ℕ, zero, suc, ◌<◌, Bool, List, [], ◌∷◌, length, arith}
use Rattle.std.specs.Prelude.{◌==◌, if◌then◌else◌, Some, unwrap_or, find}
use Rattle.std.proofs.lemmas.Bool.{eq-eqb, ne_eqb}
use Rattle.round_lines.specs.Portions.{PortionMemory}
use Rattle.round_lines.specs.Rounds.{Rising, portion_at, call_at, no_portion}
use Rattle.farm_rounds.specs.RoundHistories.{portion_of}

-- without the first portion the others rise
tail_rising : (s : PortionMemory) (portions : List PortionMemory) → Rising (s ∷ portions) → Rising portions
tail_rising s portions r = λ i j l k. r (suc i) (suc j) (omega arith) (omega arith)

-- **A call's portion is found by its number.**
pub portion_of_at : (portions : List PortionMemory) (k : ℕ) → Rising portions → k < length portions → portion_of portions (call_at portions k) ≡ portion_at portions k
portion_of_at [] k r l = absurd (omega arith)
portion_of_at (s ∷ portions) zero r l =
    ap (λ (b : Bool). unwrap_or (if b then Some s else find (λ x. x.lines.call == s.lines.call) portions) no_portion) (eq-eqb s.lines.call s.lines.call refl)
portion_of_at (s ∷ portions) (suc k) r l =
    let less = r 0 (suc k) (omega arith) (omega arith) in
    ap (λ (b : Bool). unwrap_or (if b then Some s else find (λ x. x.lines.call == call_at portions k) portions) no_portion)
    (ne_eqb s.lines.call (call_at portions k) (λ e. omega (arith, less, e)))
    ∙ portion_of_at portions k (tail_rising s portions r) (omega arith)
