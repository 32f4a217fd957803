use Rattle.std.proofs.Common.{◌+◌, ℕ, List, length, ap, ◌∙◌, sym, subst, get_or}
use Rattle.pool_run.specs.declared.member.Member.{Member}
use Rattle.pool_run.specs.Member.{IsPassFor}
use Rattle.pool_run.specs.Joins.{IsShared}
use Rattle.pool_run.specs.Pool.{passes_of, all_given, all_obtained}
use Rattle.pool_run.proofs.joins.join_last.Goals as goal

pub returns-in_default : goal.returns-in_default
returns-in_default g c =
    let finish = g.W.Work.finish in
    let none = c.in_default.ensures.none in record {
      shared = subst (λ (ms : List (Member g.row.W.Denot)). IsShared finish c.args.thieves.now ms 0 0) (sym none.1) c.requires.shared;
      given = λ h. ap (all_given finish h) none.1;
      obtained = λ h. ap (all_obtained h) none.1;
      mine = ap (λ (ms : List (Member g.row.W.Denot)). length (passes_of ms c.args.j)) none.1 ∙ none.0;
      others = λ i ne. ap (λ (ms : List (Member g.row.W.Denot)). passes_of ms i) none.1;
    }

pub join_at-requires-clause-shared : goal.join_at-requires-clause-shared
join_at-requires-clause-shared g c =
    subst (λ (n : ℕ). IsShared g.W.Work.finish c.args.thieves.now c.take_last.new.members (n + 1) n) (sym c.row_len-k.ensures) c.in-Some.ensures.some.shared

pub join_at-requires-clause-pass : goal.join_at-requires-clause-pass
join_at-requires-clause-pass g c =
    λ t. subst (λ (n : ℕ). IsPassFor (get_or c.args.thieves.now n t) c.in-Some.pass) (sym c.row_len-k.ensures) (c.in-Some.ensures.some.is_for t)

pub returns : goal.returns
returns g c =
    let taken = c.in-Some.ensures.some in
    let joined = c.join_at.ensures in record {
      shared = joined.shared;
      given = λ h. joined.given h ∙ taken.given h;
      obtained = λ h. joined.obtained h ∙ taken.obtained h;
      mine = ap (λ ps. length ps + 1) (joined.passes c.args.j) ∙ taken.mine;
      others = λ i ne. joined.passes i ∙ taken.others i ne;
    }
