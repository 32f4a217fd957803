-- The blocks of a frame.
use Rattle.std.proofs.Common.{◌≡◌, ℕ, ℤ, List, [], ◌∷◌, ◌++◌, drop, refl, sym}
use Rattle.fr_long.specs.Prediction.{Prediction, prediction_of, reconstructed_of}
use Rattle.fr_long.specs.Step.{updated}
use Rattle.fr_long.specs.Stands.{after_zeros, HistoryStands}
use Rattle.fr_long.proofs.Predictions.{by_history, one_update}
use Rattle.fr_rpe.specs.Encoding.{mc_of, xmaxc_of, xmc_of, xmax_of}
use Rattle.fr_rpe.specs.Pulses.{block_of}
use Rattle.fr_encoder.specs.Blocks.{CodedBlock, coded_block, block_at, block_after, four_coded_blocks}
use Rattle.fr_encoder.specs.Step.{next_block, next_blocks}

-- a block that is predicted so, and whose rest has these codes
coded : (d earlier : List ℤ) (p : Prediction) (mc xmaxc : ℕ) (xmc : List ℕ) (xmax : ℤ) (ep : List ℤ) →
    p ≡ prediction_of d earlier → mc ≡ mc_of p.e → xmaxc ≡ xmaxc_of p.e → xmc ≡ xmc_of p.e → xmax ≡ xmax_of p.e →
    ep ≡ block_of (mc_of p.e) (xmaxc_of p.e) (xmc_of p.e) →
    coded_block d earlier ≡ (record { nc = p.nc; bc = p.bc; mc = mc; xmaxc = xmaxc; xmc = xmc; xmax = xmax }, reconstructed_of p.dpp ep)
unfolding coded_block
coded d earlier p mc xmaxc xmc xmax ep h em ea ec ex ep' = rw (sym h, sym ep', sym em, sym ea, sym ec, sym ex) refl

-- and what it leaves
pub one_step : (d residuals next : List ℤ) (p : Prediction) (mc xmaxc : ℕ) (xmc : List ℕ) (xmax : ℤ) (ep : List ℤ) →
    p ≡ prediction_of d residuals → mc ≡ mc_of p.e → xmaxc ≡ xmaxc_of p.e → xmc ≡ xmc_of p.e → xmax ≡ xmax_of p.e →
    ep ≡ block_of (mc_of p.e) (xmaxc_of p.e) (xmc_of p.e) → next ≡ updated residuals p.dpp ep →
    next_block residuals d ≡ (record { nc = p.nc; bc = p.bc; mc = mc; xmaxc = xmaxc; xmc = xmc; xmax = xmax }, next)
unfolding next_block updated
one_step d residuals next p mc xmaxc xmc xmax ep h em ea ec ex ep' next' =
    let this = coded d residuals p mc xmaxc xmc xmax ep h em ea ec ex ep' in
    rw (this, next') refl

-- the same after all reconstructed residuals of a past
pub one_history : (d past next : List ℤ) (p : Prediction) (mc xmaxc : ℕ) (xmc : List ℕ) (xmax : ℤ) (ep : List ℤ) →
    p ≡ prediction_of d (after_zeros past) → mc ≡ mc_of p.e → xmaxc ≡ xmaxc_of p.e → xmc ≡ xmc_of p.e → xmax ≡ xmax_of p.e →
    ep ≡ block_of (mc_of p.e) (xmaxc_of p.e) (xmc_of p.e) → HistoryStands (past ++ reconstructed_of p.dpp ep) next →
    HistoryStands (block_after past d).1 next × (record { nc = p.nc; bc = p.bc; mc = mc; xmaxc = xmaxc; xmc = xmc; xmax = xmax } ≡ (block_after past d).0)
unfolding block_after
one_history d past next p mc xmaxc xmc xmax ep h em ea ec ex ep' stands =
    let this = coded d (after_zeros past) p mc xmaxc xmc xmax ep h em ea ec ex ep' in
    rw this (stands, refl)

-- the steps of four blocks are the step of the frame
pub four_steps : (s d0 d1 d2 d3 m0 m1 m2 m3 m4 : List ℤ) (a b c d : CodedBlock) →
    d0 ≡ block_at s 0 → d1 ≡ block_at s 1 → d2 ≡ block_at s 2 → d3 ≡ block_at s 3 →
    next_block m0 d0 ≡ (a, m1) → next_block m1 d1 ≡ (b, m2) → next_block m2 d2 ≡ (c, m3) → next_block m3 d3 ≡ (d, m4) →
    next_blocks m0 s ≡ (a ∷ b ∷ c ∷ d ∷ [], m4)
unfolding next_blocks
four_steps s d0 d1 d2 d3 m0 m1 m2 m3 m4 a b c d e0 e1 e2 e3 first second third fourth =
    rw (sym e0, sym e1, sym e2, sym e3, first, second, third, fourth) refl

-- one block coded after a past
abbrev pub IsCoded : List ℤ → List ℤ → CodedBlock → List ℤ → Type 0
IsCoded before d a after = (past : List ℤ) → HistoryStands past before →
    HistoryStands (block_after past d).1 after × (a ≡ (block_after past d).0)

-- and their histories that of the frame
pub four_histories : (s d0 d1 d2 d3 m0 m1 m2 m3 m4 : List ℤ) (a b c d : CodedBlock) →
    d0 ≡ block_at s 0 → d1 ≡ block_at s 1 → d2 ≡ block_at s 2 → d3 ≡ block_at s 3 →
    IsCoded m0 d0 a m1 → IsCoded m1 d1 b m2 → IsCoded m2 d2 c m3 → IsCoded m3 d3 d m4 →
    (past : List ℤ) → HistoryStands past m0 →
    HistoryStands (four_coded_blocks past s).1 m4 × (a ∷ b ∷ c ∷ d ∷ [] ≡ (four_coded_blocks past s).0)
unfolding four_coded_blocks
four_histories s d0 d1 d2 d3 m0 m1 m2 m3 m4 a b c d e0 e1 e2 e3 first second third fourth past stands =
    let one = first past stands in
    let two = second (block_after past d0).1 one.0 in
    let three = third (block_after (block_after past d0).1 d1).1 two.0 in
    let four = fourth (block_after (block_after (block_after past d0).1 d1).1 d2).1 three.0 in
    rw (sym e0, sym e1, sym e2, sym e3, one.1, two.1, three.1, four.1) (four.0, refl)

-- ---- the functions from block to block

-- what is kept after a block
updated_is : (residuals dpp ep : List ℤ) → drop 40 residuals ++ reconstructed_of dpp ep ≡ updated residuals dpp ep
unfolding updated
updated_is residuals dpp ep = refl

-- a block from residuals that stand for a past
block-stands : (d residuals : List ℤ) → IsCoded residuals d (next_block residuals d).0 (next_block residuals d).1
unfolding next_block coded_block
block-stands d residuals = λ past h.
    let p = prediction_of d residuals in
    let ep = block_of (mc_of p.e) (xmaxc_of p.e) (xmc_of p.e) in
    one_history d past (drop 40 residuals ++ reconstructed_of p.dpp ep) p _ _ _ _ ep (by_history past residuals d h) refl refl refl refl refl
    (one_update past residuals p.dpp ep (drop 40 residuals ++ reconstructed_of p.dpp ep) h (updated_is residuals p.dpp ep))

-- the four blocks
pub blocks-stand : (s residuals past : List ℤ) → HistoryStands past residuals →
    HistoryStands (four_coded_blocks past s).1 (next_blocks residuals s).1 × ((next_blocks residuals s).0 ≡ (four_coded_blocks past s).0)
unfolding next_blocks
blocks-stand s residuals past h =
    let m1 = (next_block residuals (block_at s 0)).1 in
    let m2 = (next_block m1 (block_at s 1)).1 in
    let m3 = (next_block m2 (block_at s 2)).1 in
    four_histories s _ _ _ _ residuals m1 m2 m3 _ _ _ _ _ refl refl refl refl
    (block-stands (block_at s 0) residuals) (block-stands (block_at s 1) m1) (block-stands (block_at s 2) m2) (block-stands (block_at s 3) m3) past h
