-- Draws by their numbers, as the generator goes on.
use Rattle.std.proofs.Common.{◌≡◌, ◌≢◌, ℕ, ◌+◌, ◌*◌, ◌/◌, ◌%◌, ◌^◌, ◌<◌, List, length, map, get_or, add-one, refl, sym, ◌∙◌, subst, arith}
use Rattle.std.specs.List.{range_with_len}
use Rattle.std.proofs.lemmas.List.FromFn.{length-map-range_with_len, get_or-map-range_with_len}
use Rattle.std.proofs.lemmas.Grind.{same_number_lists}
use Rattle.farm_drill.specs.Draws.{next, draw_state, first_draw, first_loud_draw}

-- the numbers of 32 bits that wrap at each operation are those that wrap once
pub state-first : (seed call : ℕ) → (seed * 4096 % 2 ^ 32 + call) % 2 ^ 32 ≡ draw_state seed call 0
unfolding draw_state
state-first seed call = omega arith

pub wrapped-next : (x : ℕ) → (x * 1664525 % 2 ^ 32 + 1013904223) % 2 ^ 32 ≡ next x
wrapped-next x = omega arith

pub state-more : (seed call n : ℕ) → draw_state seed call (n + 1) ≡ next (draw_state seed call n)
unfolding draw_state
state-more seed call n = rw add-one refl

-- the same place, told by another number
pub state-along : (seed call m n x : ℕ) → m ≡ n → x ≡ draw_state seed call m → x ≡ draw_state seed call n
state-along seed call m n x e h = subst (λ (k : ℕ). x ≡ draw_state seed call k) e h

-- what holds these numbers place by place is their list
pub all_from : (f : ℕ → ℕ) (first count : ℕ) (xs : List ℕ) → length xs ≡ count → ((k : ℕ) → k < count → get_or xs k 0 ≡ f (first + k)) →
    xs ≡ map f (range_with_len first count)
all_from f first count xs long each =
    same_number_lists xs _ (long ∙ sym (length-map-range_with_len f first count)) (λ k below.
    let inside : k < count = omega (arith, below, long) in
    each k inside ∙ sym (get_or-map-range_with_len f first count k (first + k) 0 inside refl))

-- where the draws of the next period begin
pub next-loud : (period : ℕ) → period / 32 % 2 ≡ 1 → first_loud_draw period + 160 ≡ first_draw (period + 1)
next-loud period loud = omega (arith, loud)

pub next-quiet : (period : ℕ) → period / 32 % 2 ≢ 1 → first_loud_draw period ≡ first_draw (period + 1)
next-quiet period quiet = omega (arith, quiet)
