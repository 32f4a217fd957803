-- For crates above: the encoder's memory stands for all frames since its reset (`home-stands`, `frame-stands`).
-- One frame, by the memory before it and by all frames of the past.
use Rattle.std.proofs.Common.{◌≡◌, ℕ, ℤ, List, [], ◌∷◌, ◌++◌, refl, ap, subst, ◌∙◌}
use Rattle.fr_pre.specs.Memory as pre
use Rattle.fr_pre.specs.Stands as preprocessing
use Rattle.fr_pre.specs.History.{newest_preprocessed, samples_of_frames}
use Rattle.fr_pre.specs.Step.{preprocessed_frame}
use Rattle.fr_pre.proofs.Run.{history}
use Rattle.fr_lpc.specs.Scaling.{peak_of, samples_after}
use Rattle.fr_lpc.specs.Ratios.{ratio_codes, ratios_of_frame}
use Rattle.fr_short.specs.Memory as short
use Rattle.fr_short.specs.Ratios.{decoded_ratios}
use Rattle.fr_short.specs.Reflection.{coefficients_at}
use Rattle.fr_short.specs.Analysis.{SampleFrame, sample_frame, analysed_samples, newest_sample_ratios, analysis_of}
use Rattle.fr_short.specs.Step.{analysed_frame}
use Rattle.fr_short.specs.Stands.{AnalysisStands}
use Rattle.fr_long.specs.Stands.{HistoryStands}
use Rattle.fr_encoder.specs.Blocks.{BlockFields, block_fields, four_coded_blocks}
use Rattle.fr_encoder.specs.Encoded.{Encoded, sample_frames, analysed_residual, reconstructed, encoding_of, all_encodings}
use Rattle.fr_encoder.specs.Memory.{EncoderMemory, home_memory}
use Rattle.fr_encoder.specs.Step.{next_blocks, encoded_frame, encoded_in_turn}
use Rattle.fr_encoder.specs.Stands.{Stands}
use Rattle.fr_encoder.proofs.Coding.{blocks-stand}

-- what is told of the fields, the ratios before they were coded, the blocks' maxima and the peak
abbrev pub told : List ℕ → List ℤ → BlockFields → ℤ → Encoded
told larc lar blocks peak = record {
  fields = record { larc = larc; nc = blocks.nc; bc = blocks.bc; mc = blocks.mc; xmaxc = blocks.xmaxc; xmc = blocks.xmc };
  lar = lar;
  xmax = blocks.xmax;
  peak = peak;
}

-- a frame by its stages
pub one_step : (memory : EncoderMemory) (x s lost residual : List ℤ) (pre' : pre.PreMemory) (short' : short.ShortMemory) (long' : List ℤ)
    (larc : List ℕ) (lar : List ℤ) (blocks : BlockFields) (peak : ℤ) →
    preprocessed_frame memory.preprocessing x ≡ (s, pre') → peak ≡ peak_of s → lost ≡ samples_after s → lar ≡ ratios_of_frame s →
    larc ≡ ratio_codes (ratios_of_frame s) → residual ≡ (analysed_frame memory.short_term larc lost).0 →
    short' ≡ (analysed_frame memory.short_term larc lost).1 → blocks ≡ block_fields (next_blocks memory.long_term residual).0 →
    long' ≡ (next_blocks memory.long_term residual).1 →
    encoded_frame memory x ≡ (told larc lar blocks peak, record { preprocessing = pre'; short_term = short'; long_term = long' })
unfolding encoded_frame
one_step memory x s lost residual pre' short' long' larc lar blocks peak first epeak elost elar elarc eresidual eshort eblocks elong =
    rw (first, eblocks, elong, eshort, eresidual, elarc, elar, elost, epeak) refl

-- what the frame gives to short-term analysis
one_frame : (x s lost : List ℤ) (past : List (List ℤ)) (larc : List ℕ) → s ≡ newest_preprocessed x past → lost ≡ samples_after s →
    larc ≡ ratio_codes (ratios_of_frame s) → sample_frame larc lost ∷ sample_frames past ≡ sample_frames (x ∷ past)
unfolding sample_frames
one_frame x s lost past larc es elost elarc = rw (elarc, elost, es) refl

-- the same after the frames of any past
pub one_history : (x s lost residual : List ℤ) (past : List (List ℤ)) (pre' : pre.PreMemory) (short' : short.ShortMemory)
    (long' : List ℤ) (larc : List ℕ) (lar : List ℤ) (blocks : BlockFields) (peak : ℤ) →
    preprocessing.Stands (x ∷ past) pre' × (s ≡ newest_preprocessed x past) →
    peak ≡ peak_of s → lost ≡ samples_after s → lar ≡ ratios_of_frame s → larc ≡ ratio_codes (ratios_of_frame s) →
    AnalysisStands (sample_frame larc lost ∷ sample_frames past) short' ×
    (residual ≡ (analysis_of (sample_frame larc lost ∷ sample_frames past)).0) →
    HistoryStands (four_coded_blocks (reconstructed past) residual).1 long' × (blocks ≡ block_fields (four_coded_blocks (reconstructed past) residual).0) →
    Stands (x ∷ past) (record { preprocessing = pre'; short_term = short'; long_term = long' }) ×
    (told larc lar blocks peak ≡ encoding_of x past)
unfolding reconstructed encoding_of
one_history x s lost residual past pre' short' long' larc lar blocks peak first epeak elost elar elarc second third =
    let frames = one_frame x s lost past larc first.1 elost elarc in
    let same : residual ≡ analysed_residual x past = second.1 ∙ ap (λ f. (analysis_of f).0) frames in
    let long : HistoryStands (four_coded_blocks (reconstructed past) (analysed_residual x past)).1 long' =
    subst (λ r. HistoryStands (four_coded_blocks (reconstructed past) r).1 long') same third.0 in (
      record {
        preprocessing = first.0;
        short_term = subst (λ f. AnalysisStands f short') frames second.0;
        long_term = long;
      },
      rw (third.1, same, elarc, elar, epeak, first.1) refl,
    )

-- ---- the function from frame to frame

-- short-term analysis from a memory that stands for a past
analysis-stands : (codes : List ℕ) (samples : List ℤ) (past : List SampleFrame) (m : short.ShortMemory) → AnalysisStands past m →
    AnalysisStands (sample_frame codes samples ∷ past) (analysed_frame m codes samples).1
    × ((analysed_frame m codes samples).0 ≡ (analysis_of (sample_frame codes samples ∷ past)).0)
unfolding analysed_frame newest_sample_ratios analysis_of
analysis-stands codes samples past m h =
    let both : analysed_samples (coefficients_at m.ratios (decoded_ratios codes)) 0 m.sections samples ≡ analysis_of (sample_frame codes samples ∷ past) =
    ap (λ r. analysed_samples (coefficients_at r (decoded_ratios codes)) 0 m.sections samples) h.ratios
    ∙ ap (λ v. analysed_samples (coefficients_at (newest_sample_ratios past) (decoded_ratios codes)) 0 v samples) h.sections in
    (record { ratios = refl; sections = ap (λ x. x.1) both }, ap (λ x. x.0) both)

-- at home no frame was encoded
pub home-stands : Stands [] home_memory
unfolding sample_frames reconstructed preprocessed_frame samples_of_frames newest_sample_ratios analysis_of
home-stands = record {
  preprocessing = record { after = refl };
  short_term = record { ratios = refl; sections = refl };
  long_term = record { residuals_are = refl };
}

-- one frame more, of any past
pub frame-stands : (x : List ℤ) (past : List (List ℤ)) (m : EncoderMemory) → Stands past m →
    Stands (x ∷ past) (encoded_frame m x).1 × ((encoded_frame m x).0 ≡ encoding_of x past)
unfolding encoded_frame
frame-stands x past m h =
    let first = preprocessed_frame m.preprocessing x in
    let lost = samples_after first.0 in
    let larc = ratio_codes (ratios_of_frame first.0) in
    let short' = analysed_frame m.short_term larc lost in
    let blocks = next_blocks m.long_term short'.0 in
    let third = blocks-stand short'.0 m.long_term (reconstructed past) h.long_term in
    one_history x first.0 lost short'.0 past first.1 short'.1 blocks.1 larc (ratios_of_frame first.0) (block_fields blocks.0) (peak_of first.0)
    (history m.preprocessing first.1 x first.0 refl past h.preprocessing) refl refl refl refl
    (analysis-stands larc lost (sample_frames past) m.short_term h.short_term) (third.0, ap block_fields third.1)

-- frames one after another
pub in_turn : (past : List (List ℤ)) → Stands past (encoded_in_turn past).1 × ((encoded_in_turn past).0 ≡ all_encodings past)
unfolding encoded_in_turn all_encodings
in_turn [] = (home-stands, refl)
in_turn (x ∷ past) =
    let memory = (encoded_in_turn past).1 in
    let before = in_turn past in
    let newest = frame-stands x past memory before.0 in
    (newest.0, ap (λ es. es ++ (encoded_frame memory x).0 ∷ []) before.1 ∙ ap (λ e. all_encodings past ++ e ∷ []) newest.1)
