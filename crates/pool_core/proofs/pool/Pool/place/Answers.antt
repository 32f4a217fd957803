use Rattle.std.proofs.Common.{◌∙◌, ◌<◌, sym, ap, List, ℕ, length, subst, arith}
use Rattle.std.proofs.lemmas.List.{get_or_default}
use Rattle.pool_core.specs.Machine.{PoolState, pool_start, place}
use Rattle.pool_core.proofs.Whole.{place_is, after_lens}
use Rattle.pool_core.proofs.pool.Pool.place.Goals as goal

pub returns-clause-runs : goal.returns-clause-runs
returns-clause-runs c = λ workers lens steps some e.
    let i = c.self.inside in
    let h = subst (λ (s : PoolState). c.args.job < length s.lens) (sym c.self.view_is) c.requires in
    let l = subst (λ (ys : List ℕ). c.args.job < length ys) (after_lens (pool_start workers lens) steps)
    (subst (λ (s : PoolState). c.args.job < length s.lens) e c.requires) in
    c.index.ensures ∙ get_or_default i.places.items c.args.job c.index.result.now 0 (omega (arith, h, c.self.invariant.0.state.placed))
    ∙ ap (λ (s : PoolState). place s c.args.job) (c.self.view_is ∙ e) ∙ place_is workers lens steps c.args.job some l
