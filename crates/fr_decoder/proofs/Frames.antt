-- For crates above: the decoder's memory stands for all frames since its reset (`home-stands`, `frame-stands`); a
-- frame has 160 samples (`length-samples_of`).
-- The four blocks of a frame.
use Rattle.std.proofs.Common.{◌≡◌, ℕ, ◌+◌, suc, ℤ, pos, List, [], ◌∷◌, ◌++◌, length, map, take, refl, sym, ◌∙◌}
use Rattle.std.proofs.Common.{ap, subst, arith, length-append}
use Rattle.std.proofs.lemmas.List.{take_all, length-map}
use Rattle.trau_params.specs.Fields.{Fields}
use Rattle.fr_long.specs.Memory.{LtpMemory}
use Rattle.fr_long.specs.Stands.{Stands}
use Rattle.fr_long.specs.Step.{synthesised}
use Rattle.trau_num.specs.Num.{add_of, mult_r_of}
use Rattle.fr_long.specs.Synthesis as long
use Rattle.fr_long.proofs.Histories.{synthesised-Stands, length-residual_after}
use Rattle.fr_short.specs.Memory as short
use Rattle.fr_short.specs.Ratios.{decoded_ratios}
use Rattle.fr_short.specs.Reflection.{coefficients_at}
use Rattle.fr_short.specs.Stands.{SynthesisStands}
use Rattle.fr_short.specs.Synthesis.{ResidualFrame, residual_frame, synthesis_of, newest_ratios, filtered_samples, sections_after, synthesis_lattice}
use Rattle.fr_short.specs.Step.{synthesised_frame}
use Rattle.fr_decoder.specs.Decoded.{blocks_of, residual_frames, last_msr, samples_of, all_samples}
use Rattle.fr_short.specs.Deemphasis.{deemphasised, last_of}
use Rattle.fr_decoder.specs.Truncation.{truncated}
use Rattle.fr_decoder.specs.Stands as decoder
use Rattle.fr_decoder.specs.Memory.{home_memory, DecoderMemory}
use Rattle.fr_decoder.specs.Step.{decoded_frame, decoded_in_turn, synthesised_blocks}
use Rattle.fr_long.specs.Synthesis.{LtpBlock, residual_of}
use Rattle.fr_decoder.specs.Blocks.{ltp_block, one_block, two_blocks, three_blocks, four_blocks, frame_residual}

-- a frame into which four blocks were put, one behind the other
pub four_put : (f1 f2 f3 f4 a b c d : List ℤ) → length f4 ≡ 160 → take 40 f1 ≡ a → take 80 f2 ≡ take 40 f1 ++ b → take 120 f3 ≡ take 80 f2 ++ c →
    take 160 f4 ≡ take 120 f3 ++ d → f4 ≡ a ++ b ++ c ++ d
four_put f1 f2 f3 f4 a b c d long first second third fourth =
    sym (take_all 160 f4 (omega arith)) ∙ fourth ∙ ap (λ l. l ++ d) (third ∙ ap (λ l. l ++ c) (second ∙ ap (λ l. l ++ b) first))

-- the steps of four blocks are the step of the frame
pub four_steps : (f : Fields) (m0 m1 m2 m3 m4 : LtpMemory) (a b c d : List ℤ) →
    synthesised m0 (ltp_block f 0) ≡ (a, m1) → synthesised m1 (ltp_block f 1) ≡ (b, m2) → synthesised m2 (ltp_block f 2) ≡ (c, m3) →
    synthesised m3 (ltp_block f 3) ≡ (d, m4) →
    synthesised_blocks m0 f ≡ (a ++ b ++ c ++ d, m4)
unfolding synthesised_blocks
four_steps f m0 m1 m2 m3 m4 a b c d first second third fourth = rw (first, second, third, fourth) refl

-- and their histories that of the frame
pub four_histories : (f : Fields) (m0 m1 m2 m3 m4 : LtpMemory) (a b c d : List ℤ) →
    ((past : List LtpBlock) → Stands past m0 → Stands (ltp_block f 0 ∷ past) m1 × (a ≡ residual_of (ltp_block f 0) past)) →
    ((past : List LtpBlock) → Stands past m1 → Stands (ltp_block f 1 ∷ past) m2 × (b ≡ residual_of (ltp_block f 1) past)) →
    ((past : List LtpBlock) → Stands past m2 → Stands (ltp_block f 2 ∷ past) m3 × (c ≡ residual_of (ltp_block f 2) past)) →
    ((past : List LtpBlock) → Stands past m3 → Stands (ltp_block f 3 ∷ past) m4 × (d ≡ residual_of (ltp_block f 3) past)) →
    (past : List LtpBlock) → Stands past m0 → Stands (four_blocks f past) m4 × (a ++ b ++ c ++ d ≡ frame_residual f past)
unfolding frame_residual
four_histories f m0 m1 m2 m3 m4 a b c d first second third fourth past stands =
    let one = first past stands in
    let two = second (one_block f past) one.0 in
    let three = third (two_blocks f past) two.0 in
    let four = fourth (three_blocks f past) three.0 in
    (four.0, rw (one.1, two.1, three.1, four.1) refl)

-- ---- the functions from frame to frame

-- the four blocks from a memory that stands for a past
blocks-stand : (f : Fields) (past : List LtpBlock) (m : LtpMemory) → Stands past m →
    Stands (four_blocks f past) (synthesised_blocks m f).1 × ((synthesised_blocks m f).0 ≡ frame_residual f past)
unfolding synthesised_blocks
blocks-stand f past m h =
    let m1 = (synthesised m (ltp_block f 0)).1 in
    let m2 = (synthesised m1 (ltp_block f 1)).1 in
    let m3 = (synthesised m2 (ltp_block f 2)).1 in
    four_histories f m m1 m2 m3 _ _ _ _ _ (λ ps s. synthesised-Stands ps (ltp_block f 0) m s) (λ ps s. synthesised-Stands ps (ltp_block f 1) m1 s)
    (λ ps s. synthesised-Stands ps (ltp_block f 2) m2 s) (λ ps s. synthesised-Stands ps (ltp_block f 3) m3 s) past h

-- the same of short-term synthesis
lattice-stands : (codes : List ℕ) (residual : List ℤ) (past : List ResidualFrame) (m : short.ShortMemory) → SynthesisStands past m →
    SynthesisStands (residual_frame codes residual ∷ past) (synthesised_frame m codes residual).1
    × ((synthesised_frame m codes residual).0 ≡ (synthesis_of (residual_frame codes residual ∷ past)).0)
unfolding synthesised_frame newest_ratios synthesis_of
lattice-stands codes residual past m h =
    let both : filtered_samples (coefficients_at m.ratios (decoded_ratios codes)) 0 m.sections residual ≡ synthesis_of (residual_frame codes residual ∷ past) =
    ap (λ r. filtered_samples (coefficients_at r (decoded_ratios codes)) 0 m.sections residual) h.ratios
    ∙ ap (λ v. filtered_samples (coefficients_at (newest_ratios past) (decoded_ratios codes)) 0 v residual) h.sections in
    (record { ratios = refl; sections = ap (λ x. x.1) both }, ap (λ x. x.0) both)

-- at home no frame was decoded
pub home-stands : decoder.Stands [] home_memory
unfolding blocks_of residual_frames last_msr long.lag_in_force long.residuals_of newest_ratios synthesis_of
home-stands = record { long_term = record { lag = refl; residuals = refl }; short_term = record { ratios = refl; sections = refl }; msr = refl }

-- one frame more, of any past
pub frame-stands : (f : Fields) (past : List Fields) (m : DecoderMemory) → decoder.Stands past m →
    decoder.Stands (f ∷ past) (decoded_frame m f).1 × ((decoded_frame m f).0 ≡ samples_of f past)
unfolding decoded_frame blocks_of residual_frames last_msr samples_of
frame-stands f past m h =
    let blocks = synthesised_blocks m.long_term f in
    let one = blocks-stand f (blocks_of past) m.long_term h.long_term in
    let two = lattice-stands f.larc blocks.0 (residual_frames past) m.short_term h.short_term in
    let frames : residual_frame f.larc blocks.0 ∷ residual_frames past ≡ residual_frames (f ∷ past) =
    ap (λ r. residual_frame f.larc r ∷ residual_frames past) one.1 in
    let samples : (synthesised_frame m.short_term f.larc blocks.0).0 ≡ (synthesis_of (residual_frames (f ∷ past))).0 = two.1 ∙
    ap (λ fs. (synthesis_of fs).0) frames in
    let msr : deemphasised m.msr (synthesised_frame m.short_term f.larc blocks.0).0 ≡ deemphasised (last_msr past)
    (synthesis_of (residual_frames (f ∷ past))).0 =
    ap (λ b. deemphasised b (synthesised_frame m.short_term f.larc blocks.0).0) h.msr ∙ ap (deemphasised (last_msr past)) samples in (
      record {
        long_term = one.0;
        short_term = subst (λ fs. SynthesisStands fs (synthesised_frame m.short_term f.larc blocks.0).1) frames two.0;
        msr = ap (λ b. last_of b (deemphasised m.msr (synthesised_frame m.short_term f.larc blocks.0).0)) h.msr ∙ ap (last_of (last_msr past)) msr;
      },
      ap (map truncated) msr,
    )

-- frames one after another
pub in_turn : (past : List Fields) → decoder.Stands past (decoded_in_turn past).1 × ((decoded_in_turn past).0 ≡ all_samples past)
unfolding decoded_in_turn all_samples
in_turn [] = (home-stands, refl)
in_turn (f ∷ past) =
    let memory = (decoded_in_turn past).1 in
    let before = in_turn past in
    let newest = frame-stands f past memory before.0 in
    (newest.0, ap (λ xs. xs ++ (decoded_frame memory f).0) before.1 ∙ ap (λ xs. all_samples past ++ xs) newest.1)

-- ---- how many samples there are

length-deemphasised : (xs : List ℤ) (before : ℤ) → length (deemphasised before xs) ≡ length xs
length-deemphasised [] before = refl
length-deemphasised (x ∷ xs) before = ap suc (length-deemphasised xs (add_of x (mult_r_of (pos 28180) before)))

length-filtered : (rs : ℕ → List ℤ) (k : ℕ) (vs ds : List ℤ) → length (filtered_samples rs k vs ds).0 ≡ length ds
unfolding filtered_samples
length-filtered rs k vs [] = refl
length-filtered rs k vs (d ∷ ds) = ap suc (length-filtered rs (k + 1) (sections_after (synthesis_lattice (rs k) vs d)) ds)

length-residual_of : (b : LtpBlock) (past : List LtpBlock) → length (residual_of b past) ≡ 40
unfolding residual_of
length-residual_of b past = length-residual_after (long.residuals_of past) (long.lag_in_force (b ∷ past)) b.bc b.erp

length-frame_residual : (f : Fields) (past : List LtpBlock) → length (frame_residual f past) ≡ 160
unfolding frame_residual
length-frame_residual f past =
    let a = length-residual_of (ltp_block f 0) past in
    let b = length-residual_of (ltp_block f 1) (one_block f past) in
    let c = length-residual_of (ltp_block f 2) (two_blocks f past) in
    let d = length-residual_of (ltp_block f 3) (three_blocks f past) in
    omega (arith, length-append {A = ℤ})

pub length-samples_of : (f : Fields) (past : List Fields) → length (samples_of f past) ≡ 160
unfolding samples_of residual_frames synthesis_of
length-samples_of f past =
    length-map (deemphasised (last_msr past) (synthesis_of (residual_frames (f ∷ past))).0) truncated ∙ length-deemphasised _ (last_msr past)
    ∙ length-filtered _ 0 _ (frame_residual f (blocks_of past)) ∙ length-frame_residual f (blocks_of past)
