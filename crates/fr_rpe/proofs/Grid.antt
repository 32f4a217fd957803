-- A loop that writes pulse i at the place i of a grid.
use Rattle.std.proofs.Common.{◌≡◌, ℕ, ℤ, ◌+◌, ◌-◌, ◌*◌, ◌/◌, ◌%◌, ◌<◌, pos, get_or, set, length, replicate, List, ◌∙◌, arith, inl, inr, ◌&&◌}
use Rattle.std.specs.Prelude.{if◌then◌else◌, nat_lt, nat_le, ◌==◌}
use Rattle.std.proofs.lemmas.List.{length-set, get_or-set_same, get_or-set_other, get_or-replicate, length-replicate}
use Rattle.std.proofs.lemmas.Bool.{cases_eq}
use Rattle.std.proofs.lemmas.Grind.{common_steps}

-- the place k of a grid from `first` on of which the first n pulses are there
abbrev pub sparse : ℕ → ℕ → (ℕ → ℤ) → ℕ → ℤ
sparse first n f k = if nat_le first k && ((k - first) % 3 == 0 && nat_lt ((k - first) / 3) n) then f ((k - first) / 3) else pos 0

-- the first n pulses stand three apart from `first` on, and all else is 0
pub record Placed (first n : ℕ) (f : ℕ → ℤ) (xs : List ℤ) : Type 0 where
  pub count : length xs ≡ 40
  pub each : (k : ℕ) → k < 40 → get_or xs k (pos 0) ≡ sparse first n f k

-- at the place of pulse n, elsewhere, and before any pulse
same-sparse : (first n k : ℕ) (f : ℕ → ℤ) → k ≡ first + 3 * n → f n ≡ sparse first (n + 1) f k
same-sparse first n k f e = grind (arith, common_steps)

other-sparse : (first n k : ℕ) (f : ℕ → ℤ) → (k ≡ first + 3 * n → ⊥) → sparse first n f k ≡ sparse first (n + 1) f k
other-sparse first n k f e = grind (arith, common_steps)

-- one pulse more
pub place_next : (first n : ℕ) (f : ℕ → ℤ) (xs : List ℤ) (x : ℤ) → first < 4 → n < 13 → Placed first n f xs → x ≡ f n →
    Placed first (n + 1) f (set xs (first + 3 * n) x)
place_next first n f xs x a b h e =
    let count = h.count in
    record {
      count = length-set xs (first + 3 * n) x ∙ count;
      each = λ k l. elim (cases_eq k (first + 3 * n)) [
        | inl s ↦ rw s (get_or-set_same xs (first + 3 * n) x (pos 0) (omega arith)) ∙ e ∙ same-sparse first n k f s
        | inr o ↦ get_or-set_other xs (first + 3 * n) k x (pos 0) o ∙ h.each k l ∙ other-sparse first n k f o
      ];
    }

none-sparse : (first k : ℕ) (f : ℕ → ℤ) → pos 0 ≡ sparse first 0 f k
none-sparse first k f = grind (arith, common_steps)

-- no pulse is there yet
pub place_start : (first : ℕ) (f : ℕ → ℤ) → Placed first 0 f (replicate 40 (pos 0))
place_start first f = record {
  count = length-replicate 40 (pos 0);
  each = λ k l. get_or-replicate 40 k (pos 0) (pos 0) l ∙ none-sparse first k f;
}
