use Rattle.std.proofs.Common.{rules, ◌≡◌, subst, nat_eq}
use Rattle.pool_core.specs.Machine.{PoolState, all_done, IsState}
use Rattle.pool_core.proofs.Done.{done_result}
use Rattle.pool_core.proofs.pool.Pool.all_done.Goals as goal

pub returns-clause-each : goal.returns-clause-each
returns-clause-each c =
    let i = subst (λ (s : PoolState). IsState s) c.self.view_is c.self.invariant.0.state in
    let e : nat_eq c.len.result c.len-2.result ≡ all_done c.args.self.now = search rules in
    done_result c.args.self.now _ i e
