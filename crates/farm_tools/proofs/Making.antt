-- What the tools make of one more block.
use Rattle.std.proofs.Common.{◌≡◌, ℕ, ℤ, List, [], ◌∷◌, ◌++◌, map, reverse, refl, sym, ◌∙◌, ap, subst, true}
use Rattle.std.specs.List.{flat_map}
use Rattle.std.proofs.lemmas.Grind.{flat_map-append}
use Rattle.std.proofs.lemmas.List.{append-nil, map-append, reverse-append}
use Rattle.trau_bits.specs.Bits.{bits_of, octets_of}
use Rattle.trau_frame.specs.declared.frames.DownFrame.TheVariants.{Speech}
use Rattle.trau_frame.specs.DownFrame.{down_bits}
use Rattle.trau_frame.specs.Frame.{data_of}
use Rattle.trau_params.specs.Fields.{Fields, fields_in}
use Rattle.trau_alaw.specs.Alaw.{alaw}
use Rattle.trau_alaw.specs.Companding.{middle, octet_of}
use Rattle.trau_alaw.specs.declared.Law.TheVariants as law
use Rattle.trau_alaw.specs.Period.{compressed, expanded}
use Rattle.fr_decoder.specs.Decoded.{all_samples, samples_of}
use Rattle.fr_decoder.specs.Stands as decoder
use Rattle.fr_decoder.specs.Memory.{DecoderMemory}
use Rattle.trau_params.specs.Bits260.{bits260_of}
use Rattle.trau_params.specs.declared.params.Params.{Params}
use Rattle.trau_params.specs.declared.trace.Trace.{Trace}
use Rattle.fr_encoder.specs.Encoded.{all_encodings, encoded_of, encoding_of}
use Rattle.fr_encoder.specs.Stands as encoder
use Rattle.fr_encoder.specs.Memory.{EncoderMemory}
use Rattle.farm_tools.specs.Machines.{decode_machine, encode_machine, relay_machine}
use Rattle.farm_tools.specs.Made.{relayed_fields, block_samples, frame_of_encoded, relayed_frame}

-- the newest of what each block gives is that of the last
reversed_more : {X : Type 0} (f : List ℕ → X) (blocks : List (List ℕ)) (block : List ℕ) →
    reverse (map f (blocks ++ block ∷ [])) ≡ f block ∷ reverse (map f blocks)
reversed_more f blocks block = ap reverse (map-append f blocks (block ∷ [])) ∙ reverse-append (map f blocks) (f block ∷ [])

-- a frame more
one_frame : {X : Type 0} (f : X → List ℕ) (xs : List X) (x : X) → flat_map f (xs ++ x ∷ []) ≡ flat_map f xs ++ f x
one_frame f xs x = flat_map-append f xs (x ∷ []) ∙ ap (λ l. flat_map f xs ++ l) (append-nil (f x))

-- the downlink frame of a good block's data bits
frame_of-data : (block d : List ℕ) → d ≡ data_of (bits_of block) → octets_of (down_bits (Speech d true)) ≡ relayed_frame block
unfolding relayed_frame
frame_of-data block d is = ap (λ bits. octets_of (down_bits (Speech bits true))) is

block_fields-data : (block d : List ℕ) → d ≡ data_of (bits_of block) → fields_in d ≡ relayed_fields block
unfolding relayed_fields
block_fields-data block d is = ap fields_in is

-- nothing of no blocks
pub decode_nothing : (j : ℕ) → decode_machine.made j [] [] ≡ []
unfolding all_samples
decode_nothing j = refl

pub encode_nothing : (j : ℕ) → encode_machine.made j [] [] ≡ []
unfolding all_encodings
encode_nothing j = refl

-- the frame with the data bits of one more block is what is relayed of it
pub relay_more : (blocks : List (List ℕ)) (block d octets : List ℕ) → d ≡ data_of (bits_of block) → octets ≡ octets_of (down_bits (Speech d true)) →
    relay_machine.made 0 (blocks ++ block ∷ []) [] ≡ relay_machine.made 0 blocks [] ++ octets
relay_more blocks block d octets carried is = one_frame relayed_frame blocks block
    ∙ ap (λ l. flat_map relayed_frame blocks ++ l) (sym (is ∙ frame_of-data block d carried))

module _ (before after : DecoderMemory) (block d octets : List ℕ) (carried : d ≡ data_of (bits_of block))
    (history : (past : List Fields) → decoder.Stands past before →
    decoder.Stands (fields_in d ∷ past) after × (octets ≡ map (octet_of alaw) (samples_of (fields_in d) past))) where
  -- a decoder makes the A-law of one more frame's samples
  pub decode_more : (blocks : List (List ℕ)) → decoder.Stands (reverse (map relayed_fields blocks)) before →
      decode_machine.made 0 (blocks ++ block ∷ []) [] ≡ decode_machine.made 0 blocks [] ++ octets
  unfolding all_samples
  decode_more blocks stands =
      let past = reverse (map relayed_fields blocks) in
      ap (λ l. map (octet_of alaw) (all_samples l)) (reversed_more relayed_fields blocks block)
      ∙ map-append (octet_of alaw) (all_samples past) (samples_of (relayed_fields block) past)
      ∙ ap (λ l. decode_machine.made 0 blocks [] ++ l)
      (ap (λ f. map (octet_of alaw) (samples_of f past)) (sym (block_fields-data block d carried)) ∙ sym (history past stands).1)

  -- and stands for one more
  pub decoder_more : (blocks : List (List ℕ)) → decoder.Stands (reverse (map relayed_fields blocks)) before →
      decoder.Stands (reverse (map relayed_fields (blocks ++ block ∷ []))) after
  decoder_more blocks stands =
      let past = reverse (map relayed_fields blocks) in
      subst (λ l. decoder.Stands l after) (ap (λ f. f ∷ past) (block_fields-data block d carried) ∙ sym (reversed_more relayed_fields blocks block))
      (history past stands).0

-- the A-law of samples
pub compressed-alaw : (x : List ℤ) → compressed law.A x ≡ map (octet_of alaw) x
unfolding compressed
compressed-alaw x = refl

-- the samples of a block that was copied
pub expanded-block : (period block : List ℕ) → period ≡ block → expanded law.A period ≡ block_samples block
unfolding expanded block_samples
expanded-block period block same = ap (map (λ octet. middle (alaw octet))) same

-- the downlink frame of an encoded frame, from its bits
pub coded_frame-bits : (p : Params) (t : Trace) (peak : ℤ) (d : List ℕ) → d ≡ bits260_of p →
    octets_of (down_bits (Speech d true)) ≡ frame_of_encoded (encoded_of p t peak)
unfolding frame_of_encoded bits260_of
coded_frame-bits p t peak d e = ap (λ bits. octets_of (down_bits (Speech bits true))) e

module _ (before after : EncoderMemory) (block octets : List ℕ)
    (history : (past : List (List ℤ)) → encoder.Stands past before →
    encoder.Stands (block_samples block ∷ past) after × (octets ≡ frame_of_encoded (encoding_of (block_samples block) past))) where
  -- an encoder makes one more downlink frame
  pub encode_more : (blocks : List (List ℕ)) → encoder.Stands (reverse (map block_samples blocks)) before →
      encode_machine.made 0 (blocks ++ block ∷ []) [] ≡ encode_machine.made 0 blocks [] ++ octets
  unfolding all_encodings
  encode_more blocks stands =
      let past = reverse (map block_samples blocks) in
      ap (λ l. flat_map frame_of_encoded (all_encodings l)) (reversed_more block_samples blocks block)
      ∙ one_frame frame_of_encoded (all_encodings past) (encoding_of (block_samples block) past)
      ∙ ap (λ l. encode_machine.made 0 blocks [] ++ l) (sym (history past stands).1)

  -- and stands for one more
  pub encoder_more : (blocks : List (List ℕ)) → encoder.Stands (reverse (map block_samples blocks)) before →
      encoder.Stands (reverse (map block_samples (blocks ++ block ∷ []))) after
  encoder_more blocks stands =
      subst (λ l. encoder.Stands l after) (sym (reversed_more block_samples blocks block)) (history (reverse (map block_samples blocks)) stands).0
