use Rattle.std.proofs.Common.{◌≡◌, ◌++◌, ◌≤◌, length, sym, ap, subst, ◌∙◌, append_assoc, arith, rules}
use Rattle.std.specs.List.{range_with_len, flat_map}
use Rattle.std.proofs.lemmas.List.{take_all}
use Rattle.trau_params.specs.Widths.{larc_widths, block_widths}
use Rattle.trau_bits.specs.Bits.{AreBits}
use Rattle.trau_params.specs.FieldBits.{field_bits}
use Rattle.trau_params.specs.Block.{bits_of_block}
use Rattle.trau_params.specs.Bits260.{bits260, bits260_of}
use Rattle.trau_params.proofs.AreBits.{AreBits-bits260_of}
use Rattle.trau_params.proofs.BlockBits.{block_bits}
use Rattle.trau_params.proofs.Fronts.{flat_map-range-more}
use Rattle.trau_params.proofs.params.Params.to_bits.Goals as goal

pub loop-j-preserved : goal.loop-j-preserved
loop-j-preserved c =
    let front = field_bits larc_widths c.args.self.now.larc in
    record {
      long = search rules;
      place = omega arith;
      bits = c.put-at.ensures.bits ∙
          ap (λ xs. xs ++ bits_of_block c.block.result) c.loop-j.invariant.bits ∙
          append_assoc (field_bits larc_widths c.args.self.now.larc)
          (flat_map (block_bits c.args.self.now) (range_with_len 0 c.loop-j.j)) (bits_of_block c.block.result) ∙
          ap (λ xs. field_bits larc_widths c.args.self.now.larc ++ xs)
          (ap (λ vs. flat_map (block_bits c.args.self.now) (range_with_len 0 c.loop-j.j) ++ field_bits block_widths vs) c.block.ensures ∙
          sym (flat_map-range-more (block_bits c.args.self.now) 0 c.loop-j.j c.loop-j.j (omega arith)));
    }

pub returns-clause-value : goal.returns-clause-value
unfolding bits260 bits260_of
returns-clause-value c =
    let long = c.loop-j.invariant.long in
    let all : c.loop-j.j ≡ 4 = omega arith in
    let end : length c.loop-j.bits ≤ c.loop-j.at = omega arith in
    sym (take_all c.loop-j.at c.loop-j.bits end) ∙ c.loop-j.invariant.bits ∙
    ap (λ j. field_bits larc_widths c.args.self.now.larc ++ flat_map (block_bits c.args.self.now) (range_with_len 0 j)) all

pub returns-clause-bits : goal.returns-clause-bits
returns-clause-bits c = subst AreBits (sym (returns-clause-value c)) (AreBits-bits260_of c.args.self.now)
