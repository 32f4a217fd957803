use Rattle.pool_run.proofs.Joining.{audited_owner}
use Rattle.pool_run.proofs.joins.audit_at.Goals as goal

pub returns : goal.returns
returns g c =
    audited_owner g.W.Work.finish c.args.members.now c.args.k c.index-members-k.result c.audit.new.owner c.requires.there c.audit.ensures.same
    c.audit.ensures.view c.requires.owners c.audit.ensures.covered
