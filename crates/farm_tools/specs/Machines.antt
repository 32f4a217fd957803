-- The tools as block machines, and what they keep from block to block (this project's profile).
use Rattle.std.specs.Prelude.{◌≡◌, ℕ, List, [], ◌++◌, length, codes, decimal, flat_map, map, reverse}
use Rattle.trau_alaw.specs.Alaw.{alaw}
use Rattle.trau_alaw.specs.Companding.{octet_of}
use Rattle.trau_bits.specs.Bits.{bits_of}
use Rattle.trau_frame.specs.Relay.{IsGoodSpeech}
use Rattle.trau_io.specs.declared.line.Side.TheVariants.{Up, Pcm, Down, Out}
use Rattle.fr_decoder.specs.Decoded.{decoded}
use Rattle.fr_decoder.specs.Stands as decoder
use Rattle.fr_encoder.specs.Encoded.{encoded}
use Rattle.fr_encoder.specs.Stands as encoder
use Rattle.block_lines.specs.Machines.{Machine}
use Rattle.farm_tools.specs.declared.decoding.Decoding.{Decoding}
use Rattle.farm_tools.specs.declared.encoding.Encoding.{Encoding}
use Rattle.farm_tools.specs.declared.tool.Tool.{Tool}
use Rattle.farm_tools.specs.declared.tool.Tool.TheVariants.{Relay, Decode, Encode}
use Rattle.farm_tools.specs.Made.{block_samples, frame_of_encoded, relayed_fields, relayed_frame}

-- the tool's word
abbrev pub name_of : Tool → List ℕ
name_of Relay = codes "relay"
name_of Decode = codes "decode"
name_of Encode = codes "encode"

-- the last line of text: how many frames were taken, or how many blocks preceded the one that is refused
abbrev pub taken_text : List ℕ → ℕ → List ℕ
taken_text word n = word ++ (codes " frames " ++ (decimal n ++ codes "\n"))

abbrev pub refusal_text : List ℕ → ℕ → List ℕ
refusal_text word n = word ++ (codes " refused " ++ (decimal n ++ codes "\n"))

-- `relay` takes the blocks of an uplink that are good speech frames, and nothing may be left after them; it makes their
-- downlink frames
abbrev pub relay_machine : Machine
relay_machine = record {
  shape = record { octets = 40; from = Up; lines = 1; to = Down };
  takes = λ block. IsGoodSpeech (bits_of block);
  may_be_left = λ rest. rest ≡ [];
  made = λ j blocks rest. flat_map relayed_frame blocks;
  printed = λ blocks rest. [];
  done_text = λ blocks rest. taken_text (name_of Relay) (length blocks);
  refused_text = λ n. refusal_text (name_of Relay) n;
}

-- `decode` takes the same blocks; it makes the A-law of the decoded list of all frames
abbrev pub decode_machine : Machine
decode_machine = record {
  shape = record { octets = 40; from = Up; lines = 1; to = Out };
  takes = λ block. IsGoodSpeech (bits_of block);
  may_be_left = λ rest. rest ≡ [];
  made = λ j blocks rest. map (octet_of alaw) (decoded (map relayed_fields blocks));
  printed = λ blocks rest. [];
  done_text = λ blocks rest. taken_text (name_of Decode) (length blocks);
  refused_text = λ n. refusal_text (name_of Decode) n;
}

-- `encode` takes every block of a Pcm line, and less than a block may be left; it makes the downlink frames of the
-- encoded list of all blocks
abbrev pub encode_machine : Machine
encode_machine = record {
  shape = record { octets = 160; from = Pcm; lines = 1; to = Down };
  takes = λ block. Unit {0};
  may_be_left = λ rest. Unit {0};
  made = λ j blocks rest. flat_map frame_of_encoded (encoded (map block_samples blocks));
  printed = λ blocks rest. [];
  done_text = λ blocks rest. codes "encode frames " ++ (decimal (length blocks) ++ (codes " left " ++ (decimal (length rest) ++ codes "\n")));
  refused_text = λ n. [];
}

abbrev pub machine_of : Tool → Machine
machine_of Relay = relay_machine
machine_of Decode = decode_machine
machine_of Encode = encode_machine

-- the decoder and the encoder after these blocks
abbrev pub DecodingStands : Decoding → List (List ℕ) → Type 0
DecodingStands d blocks = decoder.Stands (reverse (map relayed_fields blocks)) d.decoder

abbrev pub EncodingStands : Encoding → List (List ℕ) → Type 0
EncodingStands e blocks = encoder.Stands (reverse (map block_samples blocks)) e.encoder
