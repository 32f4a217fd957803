use Rattle.std.proofs.Common.{◌≡◌, ◌+◌, ◌*◌, ◌++◌, take, length}
use Rattle.std.specs.List.{range_with_len, flat_map}
use Rattle.trau_params.specs.Widths.{larc_widths}
use Rattle.trau_params.specs.FieldBits.{field_bits}
use Rattle.trau_params.proofs.BlockBits.{block_bits}
use Rattle.trau_params.proofs.params.Params.to_bits.Given as goal

-- LARc and the first j blocks stand
abbrev pub invariant-loop-j : goal.invariant-loop-j
invariant-loop-j l = record {
  long : length l.bits ≡ 260;
  place : l.at ≡ 36 + 56 * l.j;
  bits : take l.at l.bits ≡ field_bits larc_widths l.self.larc ++ flat_map (block_bits l.self) (range_with_len 0 l.j);
}
