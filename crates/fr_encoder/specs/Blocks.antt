-- The coding of a frame's four blocks (GSM 06.10, sections 4.2.11 to 4.2.18).
use Rattle.std.specs.Prelude.{ℕ, ◌*◌, ℤ, List, [], ◌∷◌, ◌++◌, take, drop, map}
use Rattle.fr_long.specs.Prediction.{prediction_of, reconstructed_of}
use Rattle.fr_long.specs.Stands.{after_zeros}
use Rattle.fr_rpe.specs.Encoding.{mc_of, xmaxc_of, xmc_of, xmax_of}
use Rattle.fr_rpe.specs.Pulses.{block_of}

-- the codes of a block, and its maximum before coding
pub record CodedBlock : Type 0 where
  pub nc : ℕ
  pub bc : ℕ
  pub mc : ℕ
  pub xmaxc : ℕ
  pub xmc : List ℕ
  pub xmax : ℤ

-- block d of 40 residuals after the earlier reconstructed ones: its codes, and its reconstructed residuals
unfoldable pub coded_block : List ℤ → List ℤ → CodedBlock × List ℤ
coded_block d earlier =
    let p = prediction_of d earlier in (
      record { nc = p.nc; bc = p.bc; mc = mc_of p.e; xmaxc = xmaxc_of p.e; xmc = xmc_of p.e; xmax = xmax_of p.e },
      reconstructed_of p.dpp (block_of (mc_of p.e) (xmaxc_of p.e) (xmc_of p.e)),
    )

-- block j of a frame's residual
abbrev pub block_at : List ℤ → ℕ → List ℤ
block_at d j = take 40 (drop (40 * j) d)

-- a block after all reconstructed residuals of the past: its codes, and all reconstructed residuals with its own
unfoldable pub block_after : List ℤ → List ℤ → CodedBlock × List ℤ
block_after past d = let coded = coded_block d (after_zeros past) in (coded.0, past ++ coded.1)

-- the four blocks of a frame in turn: their codes, and all reconstructed residuals after them
unfoldable pub four_coded_blocks : List ℤ → List ℤ → List CodedBlock × List ℤ
four_coded_blocks past d =
    let first = block_after past (block_at d 0) in
    let second = block_after first.1 (block_at d 1) in
    let third = block_after second.1 (block_at d 2) in
    let fourth = block_after third.1 (block_at d 3) in
    (first.0 ∷ second.0 ∷ third.0 ∷ fourth.0 ∷ [], fourth.1)

-- the codes of a frame's blocks, field by field
pub record BlockFields : Type 0 where
  pub nc : List ℕ
  pub bc : List ℕ
  pub mc : List ℕ
  pub xmaxc : List ℕ
  pub xmc : List (List ℕ)
  pub xmax : List ℤ

-- the fields of coded blocks
abbrev pub block_fields : List CodedBlock → BlockFields
block_fields blocks = record {
  nc = map (λ b. b.nc) blocks;
  bc = map (λ b. b.bc) blocks;
  mc = map (λ b. b.mc) blocks;
  xmaxc = map (λ b. b.xmaxc) blocks;
  xmc = map (λ b. b.xmc) blocks;
  xmax = map (λ b. b.xmax) blocks;
}
