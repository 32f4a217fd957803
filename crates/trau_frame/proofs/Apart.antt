-- Places that match stand apart: the zeros of the one meet a one of the other.
use Rattle.std.proofs.Common.{◌≡◌, ℕ, ◌+◌, ◌-◌, ◌*◌, ◌/◌, ◌≤◌, ◌<◌, true, sym, ap, ◌∙◌, inl, inr, arith}
use Rattle.std.proofs.lemmas.Bool.{cases_lt}
use Rattle.trau_frame.specs.Match.{is_match}
use Rattle.trau_frame.proofs.Matches.{match_zeros, match_ones}

-- **Two matches have 305 places between their starts at least.**
pub apart : (line : ℕ → ℕ) (p q : ℕ) → is_match line p ≡ true → is_match line q ≡ true → p < q → p + 305 ≤ q
apart line p q m n lt = elim (cases_lt q (p + 305)) [
  | inl near ↦
      let row : ℕ = (q - p + 15) / 16 in
      let same : q + (p + 16 * row - q) ≡ p + 16 * row = omega arith in
      absurd (let e : 0 ≡ 1 = sym (match_zeros line q n (p + 16 * row - q) (omega arith)) ∙ ap line same ∙
      match_ones line p m row (omega arith) (omega arith) in omega arith)
  | inr far ↦ far
]
