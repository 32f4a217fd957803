-- All yields of the search over a whole list of bits, each by the yields before it. When the search locks and when it
-- loses the lock is this project's profile.
use Rattle.std.specs.Prelude.{◌≡◌, ℕ, suc, ◌+◌, ◌<◌, ◌≤◌, Bool, true, false, if◌then◌else◌, nat_le, List, [], ◌∷◌, ◌++◌, length, reverse}
use Rattle.trau_frame.specs.Match.{bit_in, is_match, frame_at}
use Rattle.frame_sync.specs.declared.yields.Yield.{Yield}
use Rattle.frame_sync.specs.declared.yields.Yield.TheVariants.{Frame, Miss}

-- no place from `low` on and before `high` matches
abbrev pub NoMatch : (ℕ → ℕ) → ℕ → ℕ → Type 0
NoMatch line low high = (q : ℕ) → low ≤ q → q < high → is_match line q ≡ false

-- p is the first place from `low` on that matches
abbrev pub IsFirstMatch : (ℕ → ℕ) → ℕ → ℕ → Type 0
IsFirstMatch line low p = (low ≤ p) × NoMatch line low p × (is_match line p ≡ true)

-- the yield at place p: a frame if the sync bits match, else a miss
abbrev pub frame_or_miss : (ℕ → ℕ) → ℕ → Yield
frame_or_miss line p = if is_match line p then Frame p (frame_at line p) else Miss p

-- the place of a yield
abbrev pub place_of : Yield → ℕ
place_of (Frame p f) = p
place_of (Miss p) = p

-- the place after the 320 bits of the newest yield so far; the newest is first
abbrev pub end_of_yields : List Yield → ℕ
end_of_yields [] = 0
end_of_yields (y ∷ older) = place_of y + 320

-- so many misses in a row end the lock; a hunt yields a frame, so there are never more
abbrev pub misses_to_hunt : ℕ
misses_to_hunt = 3

-- how many misses in a row there are up to the newest yield, which is first
abbrev pub misses_in_row : List Yield → ℕ
misses_in_row [] = 0
misses_in_row (Frame p f ∷ older) = 0
misses_in_row (Miss p ∷ older) = suc (misses_in_row older)

-- whether the search hunts after these yields, the newest first: before any yield, and after so many misses in a row
abbrev pub hunts : List Yield → Bool
hunts [] = true
hunts (y ∷ older) = nat_le misses_to_hunt (misses_in_row (y ∷ older))

-- the next yield of the bits after these, the newest first
pub record IsNextYield (bits : List ℕ) (past : List Yield) (y : Yield) : Type 0 where
  -- when hunting, it is at the first matching place from the end of the newest yield on
  pub hunting : hunts past ≡ true → IsFirstMatch (bit_in bits) (end_of_yields past) (place_of y)
  -- when locked, it is at that end
  pub locked : hunts past ≡ false → place_of y ≡ end_of_yields past
  pub kind : y ≡ frame_or_miss (bit_in bits) (place_of y)
  -- its last bit is one of the bits
  pub within : place_of y + 320 ≤ length bits

-- these are all yields of the bits, in order: each is the next one after those before it, and there is no next one
-- after all
abbrev pub Yields : List ℕ → List Yield → Type 0
Yields bits ys =
    ((before after : List Yield) (y : Yield) → ys ≡ before ++ y ∷ after → IsNextYield bits (reverse before) y) ×
    ((y : Yield) → IsNextYield bits (reverse ys) y → ⊥)
