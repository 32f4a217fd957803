use Rattle.std.proofs.Common.{◌≡◌, ℕ, ◌<◌, [], length, get_or, sym, ap, ◌∙◌, zero, suc, arith, rules}
use Rattle.trau_params.specs.declared.params.Params.{Params}
use Rattle.trau_params.specs.declared.block.Block.{Block}
use Rattle.trau_params.specs.Block.{values_of}
use Rattle.trau_params.specs.Bits260.{block_values}
use Rattle.trau_params.proofs.laws.has_shape.Goals as goal

row_is_long : (p : Params) (b : Block) (j : ℕ) → values_of b ≡ block_values p j → length b.xmc ≡ 13 → length (get_or p.xmc j []) ≡ 13
row_is_long p b j e n = let same : b.xmc ≡ get_or p.xmc j [] = cc in ap length (sym same) ∙ n

by_rows : (p : Params) → length (get_or p.xmc 0 []) ≡ 13 → length (get_or p.xmc 1 []) ≡ 13 →
    length (get_or p.xmc 2 []) ≡ 13 → length (get_or p.xmc 3 []) ≡ 13 →
    (j : ℕ) → j < 4 → length (get_or p.xmc j []) ≡ 13
by_rows p a b c d zero l = a
by_rows p a b c d (suc zero) l = b
by_rows p a b c d (suc (suc zero)) l = c
by_rows p a b c d (suc (suc (suc zero))) l = d
by_rows p a b c d (suc (suc (suc (suc j)))) l = absurd (omega arith)

pub returns : goal.returns
returns c = record {
  larc = search rules;
  nc = search rules;
  bc = search rules;
  mc = search rules;
  xmaxc = search rules;
  xmc = search rules;
  pulses = by_rows c.args.p
      (row_is_long c.args.p c.block-first.result 0 c.block-first.ensures (search rules))
      (row_is_long c.args.p c.block-second.result 1 c.block-second.ensures (search rules))
      (row_is_long c.args.p c.block-third.result 2 c.block-third.ensures (search rules))
      (row_is_long c.args.p c.block-fourth.result 3 c.block-fourth.ensures (search rules));
}
