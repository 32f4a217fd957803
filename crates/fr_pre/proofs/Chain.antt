-- The offsets of a frame, as a loop finds them one from the other.
use Rattle.std.proofs.Common.{◌≡◌, ℕ, ◌+◌, ◌<◌, suc, zero, ℤ, pos, get_or, set, length, List, ◌∷◌, refl, arith, ◌∙◌, sym, ap, subst, below_more, add-one}
use Rattle.std.proofs.lemmas.List.{length-set, get_or-set_same, get_or-set_other}
use Rattle.fr_pre.specs.Offsets.{IsOffset, next_offset}

-- the first k are found, of which the last is `offset`
pub record Chain (before : ℤ) (so offsets : List ℤ) (offset : ℤ) (k : ℕ) : Type 0 where
  pub count : length offsets ≡ 160
  pub each : (j : ℕ) → j < k → get_or offsets j (pos 0) ≡ next_offset (get_or (before ∷ offsets) j (pos 0)) (get_or so j (pos 0))
  pub within : (j : ℕ) → j < k → IsOffset (get_or offsets j (pos 0))
  pub last : offset ≡ get_or (before ∷ offsets) k (pos 0)
  pub last_within : IsOffset offset

-- a write at place k leaves what stands before the places up to k
kept : (before : ℤ) (offsets : List ℤ) (k j : ℕ) (y : ℤ) → j < k + 1 → get_or (before ∷ set offsets k y) j (pos 0) ≡ get_or (before ∷ offsets) j (pos 0)
kept before offsets k zero y h = refl
kept before offsets k (suc j) y h = get_or-set_other offsets k j y (pos 0) (omega (arith, h))

-- one offset more
pub chain_next : (before : ℤ) (so offsets : List ℤ) (offset : ℤ) (k : ℕ) (so_k y : ℤ) → k < 160 → Chain before so offsets offset k →
    so_k ≡ get_or so k (pos 0) → y ≡ next_offset offset so_k → IsOffset y → Chain before so (set offsets k y) y (k + 1)
chain_next before so offsets offset k so_k y h run es ey o =
    let count = run.count in
    let last = run.last in
    let here : get_or (set offsets k y) k (pos 0) ≡ y = get_or-set_same offsets k y (pos 0) (omega arith) in
    record {
      count = length-set offsets k y ∙ count;
      each = below_more (λ j. get_or (set offsets k y) j (pos 0) ≡ next_offset (get_or (before ∷ set offsets k y) j (pos 0)) (get_or so j (pos 0))) k
          (λ j b. get_or-set_other offsets k j y (pos 0) (omega arith) ∙ run.each j b
          ∙ ap (λ v. next_offset v (get_or so j (pos 0))) (sym (kept before offsets k j y (omega arith))))
          (here ∙ ey ∙ rw (es, kept before offsets k k y (omega arith), ← last) refl);
      within = below_more (λ j. IsOffset (get_or (set offsets k y) j (pos 0))) k
          (λ j b. subst (λ v. IsOffset v) (sym (get_or-set_other offsets k j y (pos 0) (omega arith))) (run.within j b))
          (subst (λ v. IsOffset v) (sym here) o);
      last = rw add-one (sym here);
      last_within = o;
    }
