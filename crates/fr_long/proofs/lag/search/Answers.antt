use Rattle.std.proofs.Common.{◌-◌, FitsSigned, w32, refl, inr, arith, rules}
use Rattle.std.proofs.lemmas.Int.{ints}
use Rattle.fr_long.proofs.lag.search.Goals as goal

pub returns-else-top-gt0-clause-lag : goal.returns-else-top-gt0-clause-lag
returns-else-top-gt0-clause-lag c =
    let fits : FitsSigned w32 c.greatest-top.result = search rules in
    record {
      at_least = omega arith;
      at_most = omega arith;
      chosen = inr (
        refl,
        λ other low high.
            let here = c.correlations-correlations.ensures.value other low high in
            let top = c.greatest-top.ensures.bound (other - 40) (omega arith) in
            omega (arith, ints),
      );
    }
