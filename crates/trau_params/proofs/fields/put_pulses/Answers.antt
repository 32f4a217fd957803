use Rattle.std.proofs.Common.{◌≡◌, ◌++◌, length, take, get_or, ap, ◌∙◌, arith, rules}
use Rattle.trau_params.specs.Widths.{xmc_width}
use Rattle.trau_params.specs.FieldBits.{low_bits}
use Rattle.trau_params.proofs.Fronts.{pulses-more}
use Rattle.trau_params.proofs.fields.put_pulses.Goals as goal

pub loop-i-preserved : goal.loop-i-preserved
loop-i-preserved c =
    let long : length c.args.xmc.now ≡ 13 = search rules in
    record {
      long = search rules;
      place = omega arith;
      bits = c.put-next.ensures.bits ∙
          ap (λ xs. xs ++ low_bits xmc_width (get_or c.args.xmc.now c.loop-i.i 0)) c.loop-i.invariant.bits ∙
          pulses-more (take c.args.at c.args.bits.now) c.args.xmc.now c.loop-i.i (omega arith) (omega arith);
    }
