use Rattle.std.proofs.Common.{◌≡◌, ◌+◌, ◌*◌, ℕ, List, get_or, ap, sym, ◌∙◌, arith}
use Rattle.trau_frame.proofs.Places.{synced, synced_zeros, synced_ones}
use Rattle.trau_frame.proofs.sync.sync_matches.Goals as goal

-- the bits of the frame at place 0
from_zero : (bits : List ℕ) (i : ℕ) → get_or bits (0 + i) 0 ≡ get_or bits i 0
from_zero bits i = let e : 0 + i ≡ i = omega arith in ap (λ k. get_or bits k 0) e

pub returns-then-zeros_match : goal.returns-then-zeros_match
returns-then-zeros_match c =
    let at = from_zero c.args.bits.now in (
      λ t. synced c.args.bits.now
          (λ i h. sym (at i) ∙ c.zeros_match.ensures.0 c.if-zeros_match.true i h)
          (λ row l h. sym (at (16 * row)) ∙ c.ones_match.ensures.0 t row l h),
      λ s. c.ones_match.ensures.1 (λ row l h. at (16 * row) ∙ synced_ones c.args.bits.now s row l h),
    )

pub returns-else-zeros_match : goal.returns-else-zeros_match
returns-else-zeros_match c = (
  λ t. absurd (cc),
  λ s. c.zeros_match.ensures.1 (λ i h. from_zero c.args.bits.now i ∙ synced_zeros c.args.bits.now s i h),
)
