use Rattle.std.proofs.Common.{◌≡◌, ◌++◌, length, get_or, sym, ap, ◌∙◌, arith, rules}
use Rattle.trau_params.specs.Widths.{larc_widths}
use Rattle.trau_params.specs.FieldBits.{low_bits}
use Rattle.trau_params.proofs.Fronts.{sum-more, field_bits-more}
use Rattle.trau_params.proofs.fields.put_larc.Goals as goal

pub loop-i-preserved : goal.loop-i-preserved
loop-i-preserved c =
    let long : length c.args.larc.now ≡ 8 = search rules in
    record {
      long = search rules;
      place = c.put-at.ensures.next ∙ sum-more larc_widths c.loop-i.i c.loop-i.at (omega arith) c.loop-i.invariant.place;
      bits = c.put-at.ensures.bits ∙
          ap (λ xs. xs ++ low_bits (get_or larc_widths c.loop-i.i 0) (get_or c.args.larc.now c.loop-i.i 0)) c.loop-i.invariant.bits ∙
          sym (field_bits-more larc_widths c.args.larc.now c.loop-i.i (omega arith) (omega arith));
    }
