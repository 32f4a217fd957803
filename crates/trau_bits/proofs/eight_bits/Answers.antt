use Rattle.std.proofs.Common.{ℕ, ◌*◌, ◌/◌, ◌%◌, List, bit_and, w64, slice_index, ap, ◌∙◌, arith}
use Rattle.std.specs.Int.{to_le_bytes}
use Rattle.trau_bits.proofs.Products.{eight_of}
use Rattle.trau_bits.proofs.eight_bits.Goals as goal

pub returns : goal.returns
returns c = λ j h. ap (λ (l : List ℕ). slice_index l j) c.to_le_bytes.ensures
    ∙ ap (λ (word : ℕ). slice_index (to_le_bytes w64 (bit_and (word * 9241421688590303745 % 18446744073709551616 / 128) 72340172838076673)) j) c.from.ensures
    ∙ eight_of c.args.octet j (omega arith) h
