use Rattle.std.proofs.Common.{◌≡◌, ◌<◌, ◌≤◌, ◌∙◌, ℕ, sym, refl, subst, ⊎_elim, get_or, arith}
use Rattle.std.proofs.lemmas.Bool.{cases_lt}
use Rattle.crossbeam_deque.specs.Handles.{worker_view}
use Rattle.pool_run.specs.declared.member.Member.{Member}
use Rattle.pool_run.specs.Deque.{IsCovered}
use Rattle.pool_run.proofs.joins.audit_all.Goals as goal

pub loop-k-init : goal.loop-k-init
loop-k-init g c = record {
  owners = c.requires;
  given = λ h. refl;
  obtained = λ h. refl;
  covered = λ i m h. absurd (omega (arith, h));
}

pub loop-k-preserved : goal.loop-k-preserved
loop-k-preserved g c =
    let old = c.loop-k.invariant in
    let k = c.loop-k.k in
    let ms = c.audit_at.new.members in record {
      owners = c.audit_at.ensures.owners;
      given = λ h. c.audit_at.ensures.given h ∙ old.given h;
      obtained = λ h. c.audit_at.ensures.obtained h ∙ old.obtained h;
      covered = λ i m h. ⊎_elim
          (λ (lt : i < k). subst (λ (x : Member g.row.W.Denot). IsCovered (worker_view x.own))
          (sym (c.audit_at.ensures.others i m (λ e. absurd (omega (arith, e))))) (old.covered i m lt))
          (λ (le : k ≤ i). let e : k ≡ i = omega arith in subst (λ (j : ℕ). IsCovered (worker_view (get_or ms j m).own)) e (c.audit_at.ensures.mine m))
          (cases_lt i k);
    }

pub returns-clause-settled : goal.returns-clause-settled
returns-clause-settled g c = λ k m h. let own = c.loop-k.invariant.owners k m h in record {
  owner = own.0;
  ended = own.1;
  covered = c.loop-k.invariant.covered k m (omega arith);
}
