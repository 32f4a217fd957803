use Rattle.std.proofs.Common.{◌∙◌, ap, arith, map}
use Rattle.std.specs.Global.{Box}
use Rattle.pool_run.proofs.Orders.{answers}
use Rattle.pool_run.proofs.Weights.{weigh_all, weigh-permutation}
use Rattle.pool_run.proofs.answer.in_order.Goals as goal

pub strip-requires-clause-room : goal.strip-requires-clause-room
strip-requires-clause-room g c =
    omega (
      arith,
      c.requires.room,
      weigh_all c.args.finished.items,
      weigh_all c.by_number.result.items,
      weigh-permutation (λ _. 1) c.args.finished.items c.by_number.result.items c.by_number.ensures.same,
      c.args.finished.ok.0,
      c.by_number.result.ok.0,
    )

pub returns : goal.returns
returns g c = λ es numbered same.
    ap (map (λ (b : Box g.row.W.Denot). b.value)) c.strip.ensures
    ∙ answers g.W.Work.finish g.row.W.coded _ _ es c.requires.ended c.by_number.ensures.same c.by_number.ensures.order numbered same
