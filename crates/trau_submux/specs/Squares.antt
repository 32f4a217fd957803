-- Four octets as a square of pairs of bits, eight squares at a time.
use Rattle.std.specs.Prelude.{◌≡◌, ℕ, ◌+◌, ◌*◌, ◌<◌, List, slice_index_or}
use Rattle.trau_submux.specs.Pairs.{gathered}

-- The columns of eight squares. Lanes 0 to 7 of x are their first rows and lanes 8 to 15 the second ones; y has the
-- third and the fourth rows in the same way, u the first and the third columns, and w the second and the fourth ones.
pub record EightColumns (x y u w : List ℕ) : Type 0 where
  pub first : (k : ℕ) → k < 8 →
      slice_index_or u k 0 ≡ gathered 0 (slice_index_or x k 0) (slice_index_or x (8 + k) 0) (slice_index_or y k 0) (slice_index_or y (8 + k) 0)
  pub second : (k : ℕ) → k < 8 →
      slice_index_or w k 0 ≡ gathered 1 (slice_index_or x k 0) (slice_index_or x (8 + k) 0) (slice_index_or y k 0) (slice_index_or y (8 + k) 0)
  pub third : (k : ℕ) → k < 8 →
      slice_index_or u (8 + k) 0 ≡ gathered 2 (slice_index_or x k 0) (slice_index_or x (8 + k) 0) (slice_index_or y k 0) (slice_index_or y (8 + k) 0)
  pub fourth : (k : ℕ) → k < 8 →
      slice_index_or w (8 + k) 0 ≡ gathered 3 (slice_index_or x k 0) (slice_index_or x (8 + k) 0) (slice_index_or y k 0) (slice_index_or y (8 + k) 0)

-- the octet of channel j that the four octets of a slot from this place on carry
abbrev pub gathered_at : ℕ → List ℕ → ℕ → ℕ
gathered_at j slot at = gathered j (slice_index_or slot at 0) (slice_index_or slot (at + 1) 0) (slice_index_or slot (at + 2) 0) (slice_index_or slot (at + 3) 0)

-- eight octets of each channel, of 32 octets of a slot: u has those of the first and the third channel, and w of the
-- second and the fourth
pub record EightOfEach (slot : List ℕ) (at : ℕ) (u w : List ℕ) : Type 0 where
  pub first : (k : ℕ) → k < 8 → slice_index_or u k 0 ≡ gathered_at 0 slot (at + 4 * k)
  pub second : (k : ℕ) → k < 8 → slice_index_or w k 0 ≡ gathered_at 1 slot (at + 4 * k)
  pub third : (k : ℕ) → k < 8 → slice_index_or u (8 + k) 0 ≡ gathered_at 2 slot (at + 4 * k)
  pub fourth : (k : ℕ) → k < 8 → slice_index_or w (8 + k) 0 ≡ gathered_at 3 slot (at + 4 * k)
