use Rattle.std.proofs.Common.{◌≡◌, ◌+◌, ◌*◌, ◌^◌, ◌<◌, ◌≤◌, ◌++◌, take, ap, ◌∙◌, arith, rules}
use Rattle.std.proofs.lemmas.List.Elements.{All-from_get_or}
use Rattle.trau_params.specs.Widths.{xmc_width}
use Rattle.trau_params.specs.FieldBits.{low_bits}
use Rattle.trau_params.proofs.Fronts.{fit_next, pulses-set}
use Rattle.trau_params.proofs.fields.read_pulses.Goals as goal

pub loop-i-preserved : goal.loop-i-preserved
loop-i-preserved c =
    let long = c.loop-i.invariant.long in
    let e : c.args.at + 3 * (c.loop-i.i + 1) ≡ c.args.at + 3 * c.loop-i.i + 3 = omega arith in
    record {
      long = search rules;
      fit = fit_next (λ k. 2 ^ xmc_width) c.loop-i.xmc c.loop-i.i c.read.result (omega arith)
          c.loop-i.invariant.fit c.read.ensures.fits;
      bits = ap (λ k. take k c.args.bits.now) e ∙ c.read.ensures.bits ∙
          ap (λ xs. xs ++ low_bits xmc_width c.read.result) c.loop-i.invariant.bits ∙
          pulses-set (take c.args.at c.args.bits.now) c.loop-i.xmc c.loop-i.i c.read.result (omega arith) (omega arith);
    }

pub returns-clause-fit : goal.returns-clause-fit
returns-clause-fit c =
    let long = c.loop-i.invariant.long in
    let stop : 13 ≤ c.loop-i.i = omega arith in
    All-from_get_or (λ v. v < 8) c.loop-i.xmc 0 (λ k h. c.loop-i.invariant.fit k (omega arith))
