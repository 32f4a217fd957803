-- The encoded list: the encodings of all frames of samples from the home state (GSM 06.10, section 4.2). A history has
-- the newest frame first.
use Rattle.std.specs.Prelude.{ℤ, List, [], ◌∷◌, ◌++◌, reverse}
use Rattle.trau_params.specs.Fields.{Fields, fields_of}
use Rattle.trau_params.specs.declared.params.Params.{Params}
use Rattle.trau_params.specs.declared.trace.Trace.{Trace}
use Rattle.fr_pre.specs.History.{newest_preprocessed}
use Rattle.fr_lpc.specs.Scaling.{peak_of, samples_after}
use Rattle.fr_lpc.specs.Ratios.{ratio_codes, ratios_of_frame}
use Rattle.fr_short.specs.Analysis.{SampleFrame, sample_frame, analysis_of}
use Rattle.fr_encoder.specs.Blocks.{BlockFields, block_fields, four_coded_blocks}

-- the encoding of a frame: its fields, the log area ratios and the blocks' maxima before coding, and the peak of its
-- preprocessed samples
pub record Encoded : Type 0 where
  pub fields : Fields
  pub lar : List ℤ
  pub xmax : List ℤ
  pub peak : ℤ

-- the same, from the encoder's result
abbrev pub encoded_of : Params → Trace → ℤ → Encoded
encoded_of params trace peak = record { fields = fields_of params; lar = trace.lar; xmax = trace.xmax; peak = peak }

-- the encoding of preprocessed samples s and of the blocks of their residual
abbrev pub encoding : List ℤ → BlockFields → Encoded
encoding s blocks =
    let lar = ratios_of_frame s in
    record {
      fields = record { larc = ratio_codes lar; nc = blocks.nc; bc = blocks.bc; mc = blocks.mc; xmaxc = blocks.xmaxc; xmc = blocks.xmc };
      lar = lar;
      xmax = blocks.xmax;
      peak = peak_of s;
    }

-- the input of short-term analysis from preprocessed samples s: the codes of their ratios, and s shifted down and up
-- again, as linear prediction leaves it
abbrev pub analysed : List ℤ → SampleFrame
analysed s = sample_frame (ratio_codes (ratios_of_frame s)) (samples_after s)

-- the input of short-term analysis from each frame
unfoldable pub sample_frames : List (List ℤ) → List SampleFrame
sample_frames [] = []
sample_frames (x ∷ past) = analysed (newest_preprocessed x past) ∷ sample_frames past

-- the 160 residuals of a frame after the frames of the past
abbrev pub analysed_residual : List ℤ → List (List ℤ) → List ℤ
analysed_residual x past = (analysis_of (sample_frames (x ∷ past))).0

-- all reconstructed residuals, the oldest first
unfoldable pub reconstructed : List (List ℤ) → List ℤ
reconstructed [] = []
reconstructed (x ∷ past) = (four_coded_blocks (reconstructed past) (analysed_residual x past)).1

-- the encoding of a frame after the frames of the past
unfoldable pub encoding_of : List ℤ → List (List ℤ) → Encoded
encoding_of x past =
    encoding (newest_preprocessed x past) (block_fields (four_coded_blocks (reconstructed past) (analysed_residual x past)).0)

-- all encodings, the oldest first
unfoldable pub all_encodings : List (List ℤ) → List Encoded
all_encodings [] = []
all_encodings (x ∷ past) = all_encodings past ++ encoding_of x past ∷ []

-- the encoded list of frames, the oldest first
abbrev pub encoded : List (List ℤ) → List Encoded
encoded frames = all_encodings (reverse frames)
