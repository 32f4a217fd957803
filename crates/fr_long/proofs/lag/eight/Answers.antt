use Rattle.std.proofs.Common.{pos, sym, subst, FitsSigned, w32}
use Rattle.std.specs.Simd.Lanes.{chunk, Each1}
use Rattle.std.proofs.lemmas.Simd.{Each1-chunk, Each1-from_get_or}
use Rattle.trau_lanes.proofs.Eight.{lanes_kept}
use Rattle.fr_long.proofs.lag.eight.Goals as goal

pub returns-clause-value : goal.returns-clause-value
returns-clause-value c =
    lanes_kept w32 (chunk c.args.at 8 c.args.correlations.now)
    (Each1-chunk (FitsSigned w32) c.args.at 8 c.args.correlations.now
    (Each1-from_get_or (FitsSigned w32) c.args.correlations.now (pos 0) (λ k b. c.requires.longs k)))

pub returns-clause-longs : goal.returns-clause-longs
returns-clause-longs c =
    subst (Each1 (FitsSigned w32)) (sym (returns-clause-value c))
    (Each1-chunk (FitsSigned w32) c.args.at 8 c.args.correlations.now
    (Each1-from_get_or (FitsSigned w32) c.args.correlations.now (pos 0) (λ k b. c.requires.longs k)))
