-- What the tools make of one block.
use Rattle.std.specs.Prelude.{ℕ, ℤ, true, List, map}
use Rattle.trau_bits.specs.Bits.{bits_of, octets_of}
use Rattle.trau_frame.specs.declared.frames.DownFrame.TheVariants.{Speech}
use Rattle.trau_frame.specs.DownFrame.{down_bits}
use Rattle.trau_frame.specs.Frame.{data_of}
use Rattle.trau_frame.specs.Relay.{relayed_bits}
use Rattle.trau_params.specs.Bits260.{bits260}
use Rattle.trau_params.specs.Fields.{Fields, fields_in}
use Rattle.trau_alaw.specs.Alaw.{alaw}
use Rattle.trau_alaw.specs.Companding.{middle}
use Rattle.fr_encoder.specs.Encoded.{Encoded}

-- the downlink frame of an uplink block: the same data bits, with SP 1
unfoldable pub relayed_frame : List ℕ → List ℕ
relayed_frame block = octets_of (relayed_bits (bits_of block))

-- the fields of the parameters that an uplink block's data bits carry
unfoldable pub relayed_fields : List ℕ → Fields
relayed_fields block = fields_in (data_of (bits_of block))

-- the samples that the A-law octets of a block stand for
unfoldable pub block_samples : List ℕ → List ℤ
block_samples block = map (λ octet. middle (alaw octet)) block

-- the downlink frame of an encoded frame: its 260 bits, with SP 1
unfoldable pub frame_of_encoded : Encoded → List ℕ
frame_of_encoded e = octets_of (down_bits (Speech (bits260 e.fields) true))
