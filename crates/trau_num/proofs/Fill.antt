-- For crates above: a loop that fills a list of fixed size place by place makes the list of a function's values
-- (`Filled`, `fill_all`).
use Rattle.std.proofs.Common.{◌≡◌, ℕ, ◌+◌, ◌<◌, ◌≤◌, get_or, set, length, map, List, ◌∙◌, inl, inr, arith}
use Rattle.std.specs.List.{range_with_len}
use Rattle.std.proofs.lemmas.Bool.{cases_eq}
use Rattle.std.proofs.lemmas.List.{length-set, get_or-set_same, get_or-set_other}
use Rattle.std.proofs.lemmas.List.Edits.{fill_by_more}
use Rattle.std.proofs.lemmas.List.FromFn.{fill_by_all}

-- n places, of which the first i are filled; d stands for what lies past the end
pub record Filled {X : Type 0} (d : X) (f : ℕ → X) (xs : List X) (n i : ℕ) : Type 0 where
  pub count : length xs ≡ n
  pub each : (k : ℕ) → k < i → get_or xs k d ≡ f k

-- no place is filled yet
pub fill_none : {X : Type 0} (d : X) (f : ℕ → X) (xs : List X) (n : ℕ) → length xs ≡ n → Filled d f xs n 0
fill_none d f xs n e = record { count = e; each = λ k h. absurd (omega arith) }

-- the next place is filled
pub fill_next : {X : Type 0} (d : X) (f : ℕ → X) (xs : List X) (n i : ℕ) (x : X) →
    i < n → Filled d f xs n i → x ≡ f i → Filled d f (set xs i x) n (i + 1)
fill_next d f xs n i x l h e =
    let count = h.count in
    record {
      count = length-set xs i x ∙ count;
      each = rw e (fill_by_more f xs i d (omega arith) h.each);
    }

-- all places are filled
pub fill_all : {X : Type 0} (d : X) (f : ℕ → X) (xs : List X) (n i : ℕ) →
    n ≤ i → Filled d f xs n i → xs ≡ map f (range_with_len 0 n)
fill_all d f xs n i l h = fill_by_all f xs n d h.count (λ k b. let within : k < i = omega arith in h.each k within)

-- what each of the first i places meets, the next one filled meets too
pub each_next : {X : Type 0} (P : ℕ → X → Type 0) (d : X) (xs : List X) (i : ℕ) (x : X) → i < length xs → P i x →
    ((k : ℕ) → k < i → P k (get_or xs k d)) → (k : ℕ) → k < i + 1 → P k (get_or (set xs i x) k d)
each_next P d xs i x l here h k m = elim (cases_eq k i) [
  | inl e ↦ rw (e, get_or-set_same xs i x d l) here
  | inr n ↦ rw (get_or-set_other xs i k x d n) (h k (omega arith))
]
