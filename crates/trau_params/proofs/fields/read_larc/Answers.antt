use Rattle.std.proofs.Common.{◌^◌, ◌++◌, get_or, sym, ap, ◌∙◌, arith, rules}
use Rattle.trau_params.specs.Widths.{larc_widths}
use Rattle.trau_params.specs.FieldBits.{low_bits}
use Rattle.trau_params.proofs.Fronts.{sum-more, fit_next, field_bits-set}
use Rattle.trau_params.proofs.fields.read_larc.Goals as goal

pub loop-i-preserved : goal.loop-i-preserved
loop-i-preserved c =
    let long = c.loop-i.invariant.long in
    record {
      long = search rules;
      fit = fit_next (λ k. 2 ^ get_or larc_widths k 0) c.loop-i.larc c.loop-i.i c.read.result (omega arith)
          c.loop-i.invariant.fit c.read.ensures.fits;
      place = sum-more larc_widths c.loop-i.i c.loop-i.at (omega arith) c.loop-i.invariant.place;
      bits = c.read.ensures.bits ∙
          ap (λ xs. xs ++ low_bits (get_or larc_widths c.loop-i.i 0) c.read.result) c.loop-i.invariant.bits ∙
          sym (field_bits-set larc_widths c.loop-i.larc c.loop-i.i c.read.result (omega arith) (omega arith));
    }
