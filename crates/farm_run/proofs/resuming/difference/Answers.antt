use Rattle.std.proofs.Common.{sym, ap, ◌∙◌, subst, List}
use Rattle.std.specs.Prelude.{is_some, IfSome}
use Rattle.farm_checkpoint.specs.declared.mark.MarkCall.{MarkCall}
use Rattle.farm_checkpoint.specs.Marks.{NumbersRise}
use Rattle.farm_checkpoint.specs.Differences.{IsLeastDifference}
use Rattle.farm_run.proofs.Marked.Calls.{numbers_rise}
use Rattle.farm_run.proofs.resuming.difference.Goals as goal

pub differs-requires-clause-others_rise : goal.differs-requires-clause-others_rise
differs-requires-clause-others_rise c =
    subst NumbersRise (sym (c.deref.ensures.value ∙ c.in_ok-calls.ensures.calls))
    (numbers_rise c.args.marked.now c.in_ok-calls.ensures.live c.in_ok-calls.ensures.rising c.requires.stage)

pub returns : goal.returns
returns c =
    let entries = c.deref.ensures.value ∙ c.in_ok-calls.ensures.calls in
    record {
      none = λ e. c.differs.ensures.none.0 (ap is_some e) ∙ entries;
      some = λ call e. subst (λ (xs : List MarkCall). IsLeastDifference c.args.mark.now.calls xs call) entries
          (subst (λ x. IfSome x (λ n. IsLeastDifference c.args.mark.now.calls c.deref.result.now n)) e c.differs.ensures.some);
      live = c.in_ok-calls.ensures.live;
      rising = c.in_ok-calls.ensures.rising;
    }
