-- The frames that are coded have their 260 bits.
use Rattle.std.proofs.Common.{◌≡◌, refl, ◌∙◌, ℕ, ◌+◌, ◌*◌, ◌<◌, ◌≤◌, zero, suc, ℤ, Option, Some, None, List, [], ◌∷◌, length, map, replicate, arith}
use Rattle.std.proofs.Common.{length-append}
use Rattle.std.specs.Prelude.{slice_index_or}
use Rattle.std.specs.List.{range_with_len, flat_map}
use Rattle.std.proofs.lemmas.Bool.{cond_both}
use Rattle.trau_params.specs.Fields.{Fields}
use Rattle.trau_params.specs.FieldBits.{low_bits, field_bits}
use Rattle.trau_params.specs.Widths.{larc_widths, block_widths}
use Rattle.trau_params.specs.Bits260.{bits260, values_in}
use Rattle.trau_params.proofs.Fronts.{length-low_bits}
use Rattle.fr_pre.specs.History.{newest_preprocessed}
use Rattle.fr_lpc.specs.Ratios.{ratio_codes, ratios_of_frame}
use Rattle.fr_rpe.specs.Encoding.{xmc_of}
use Rattle.fr_rpe.specs.Quantisation.{pulse_codes_of}
use Rattle.fr_encoder.specs.Blocks.{CodedBlock, coded_block, block_at, block_after, four_coded_blocks}
use Rattle.fr_encoder.specs.Encoded.{encoding_of, reconstructed, analysed_residual}
use Rattle.tx_dtx.specs.Stretch.{Measures, Coded, is_active}
use Rattle.tx_dtx.specs.SilenceDescriptor.{mean_ratio, sid_of}
use Rattle.tx_dtx.specs.Sent.{SidPlace, is_sid_place, newest_four, sid_used, before_pause, itself, silence, sent_early, sent_of}

-- the eight ratios are there, and the thirteen pulses of each block
pub record HasShape (f : Fields) : Type 0 where
  pub larc : length f.larc ≡ 8
  pub pulses : (j : ℕ) → j < 4 → length (slice_index_or f.xmc j []) ≡ 13

total : List ℕ → ℕ
total [] = 0
total (w ∷ ws) = w + total ws

length-field_bits : (ws vs : List ℕ) → length vs ≡ length ws → length (field_bits ws vs) ≡ total ws
unfolding total
length-field_bits [] vs same = refl
length-field_bits (w ∷ ws) [] same = absurd (omega (arith, same))
length-field_bits (w ∷ ws) (v ∷ vs) same =
    let one = length-low_bits w v in
    let rest = length-field_bits ws vs (omega (arith, same)) in
    length-append (low_bits w v) (field_bits ws vs) ∙ (λ i. one i + rest i)

length-blocks : (block : ℕ → List ℕ) (first n : ℕ) → ((k : ℕ) → first ≤ k → k < first + n → length (block k) ≡ 56) →
    length (flat_map block (range_with_len first n)) ≡ 56 * n
length-blocks block first zero each = refl
length-blocks block first (suc n) each =
    let one = each first (omega arith) (omega arith) in
    let rest = length-blocks block (first + 1) n (λ k above below. each k (omega (arith, above)) (omega (arith, below))) in
    let both : length (flat_map block (range_with_len first (suc n))) ≡ 56 + 56 * n =
    length-append (block first) (flat_map block (range_with_len (first + 1) n)) ∙ (λ i. one i + rest i) in
    omega (arith, both)

-- parameters of this shape are 260 bits
pub length-bits260 : (f : Fields) → HasShape f → length (bits260 f) ≡ 260
unfolding bits260 total
length-bits260 f shape =
    let ratios : length (field_bits larc_widths f.larc) ≡ 36 = length-field_bits larc_widths f.larc shape.larc in
    let blocks : length (flat_map (λ j. field_bits block_widths (values_in f j)) (range_with_len 0 4)) ≡ 224 =
    length-blocks (λ j. field_bits block_widths (values_in f j)) 0 4
    (λ k above below. length-field_bits block_widths (values_in f k) (let thirteen = shape.pulses k below in omega (arith, thirteen))) in
    length-append (field_bits larc_widths f.larc) (flat_map (λ j. field_bits block_widths (values_in f j)) (range_with_len 0 4)) ∙ (λ i. ratios i + blocks i)

-- ---- the encoder's frames

length-ratio_codes : (lar : List ℤ) → length (ratio_codes lar) ≡ 8
unfolding ratio_codes
length-ratio_codes lar = refl

length-xmc_of : (e : List ℤ) → length (xmc_of e) ≡ 13
unfolding xmc_of pulse_codes_of
length-xmc_of e = refl

pulses-block : (past d : List ℤ) → length (block_after past d).0.xmc ≡ 13
unfolding block_after coded_block
pulses-block past d = length-xmc_of _

pulses-four : (a b c d : CodedBlock) → length a.xmc ≡ 13 → length b.xmc ≡ 13 → length c.xmc ≡ 13 → length d.xmc ≡ 13 →
    (j : ℕ) → j < 4 → length (slice_index_or (map (λ b. b.xmc) (a ∷ b ∷ c ∷ d ∷ [])) j []) ≡ 13
pulses-four a b c d one two three four zero below = one
pulses-four a b c d one two three four (suc zero) below = two
pulses-four a b c d one two three four (suc (suc zero)) below = three
pulses-four a b c d one two three four (suc (suc (suc zero))) below = four
pulses-four a b c d one two three four (suc (suc (suc (suc j)))) below = absurd (omega (arith, below))

pulses-blocks : (past d : List ℤ) (j : ℕ) → j < 4 → length (slice_index_or (map (λ b. b.xmc) (four_coded_blocks past d).0) j []) ≡ 13
unfolding four_coded_blocks
pulses-blocks past d =
    let first = block_after past (block_at d 0) in
    let second = block_after first.1 (block_at d 1) in
    let third = block_after second.1 (block_at d 2) in
    let fourth = block_after third.1 (block_at d 3) in
    pulses-four first.0 second.0 third.0 fourth.0 (pulses-block past (block_at d 0)) (pulses-block first.1 (block_at d 1))
    (pulses-block second.1 (block_at d 2)) (pulses-block third.1 (block_at d 3))

-- an encoding has this shape
pub shape-encoding : (x : List ℤ) (past : List (List ℤ)) → HasShape (encoding_of x past).fields
unfolding encoding_of
shape-encoding x past = record {
  larc = length-ratio_codes (ratios_of_frame (newest_preprocessed x past));
  pulses = pulses-blocks (reconstructed past) (analysed_residual x past);
}

-- ---- what is sent of them

shape-sid : (four : List Measures) → HasShape (sid_of four)
unfolding sid_of
shape-sid four = record { larc = length-ratio_codes (map (mean_ratio four) (range_with_len 0 8)); pulses = rows }
  where
    rows : (j : ℕ) → j < 4 → length (slice_index_or {A = List ℕ} (replicate 4 (replicate {A = ℕ} 13 0)) j []) ≡ 13
    rows zero below = refl
    rows (suc zero) below = refl
    rows (suc (suc zero)) below = refl
    rows (suc (suc (suc zero))) below = refl
    rows (suc (suc (suc (suc j)))) below = absurd (omega (arith, below))

shape-early : (f : Coded) (place : Option SidPlace) → HasShape f.fields → HasShape (sent_early f place).fields
shape-early f None shape = shape
shape-early f (Some place) shape = shape-sid place.four

-- **And so has what is sent.**
pub shape-sent : (f : Coded) (past : List Coded) → HasShape f.fields → HasShape (sent_of f past).fields
unfolding sent_of
shape-sent f past shape =
    cond_both (is_active f) (itself f.fields) _ (λ s. HasShape s.fields) (λ y. shape)
    (λ n. cond_both (is_sid_place (f ∷ past)) (silence (newest_four (f ∷ past))) (sent_early f (sid_used (before_pause past))) (λ s. HasShape s.fields)
    (λ y. shape-sid _) (λ m. shape-early f (sid_used (before_pause past)) shape))
