use Rattle.std.proofs.Common.{refl, arith}
use Rattle.trau_orders.proofs.Going.{pass, limited, stops_at, none_bad}
use Rattle.trau_orders.proofs.reason.first_fault.Goals as goal

pub stamp_of_line-requires : goal.stamp_of_line-requires
stamp_of_line-requires c = limited c.args.text.now c.loop-line.rest.now c.loop-line.before c.loop-line.least c.loop-line.invariant.gone

pub returns-in-Err-clause-some : goal.returns-in-Err-clause-some
returns-in-Err-clause-some c =
    stops_at c.args.text.now c.loop-line.rest.now c.in-Some.line.now c.in-Some.after.now c.loop-line.before c.loop-line.least _ _
    c.loop-line.invariant.gone c.in-Some.ensures.some c.in-Err.ensures.fault

pub loop-line-preserved : goal.loop-line-preserved
loop-line-preserved c = record {
  gone = pass c.args.text.now c.loop-line.rest.now c.in-Some.line.now c.in-Some.after.now c.loop-line.before c.loop-line.least c.in-Ok.stamp
      c.loop-line.invariant.gone c.in-Some.ensures.some c.in-Ok.ensures.ok;
  fits = omega (arith, c.loop-line.invariant.fits, c.in-Some.ensures.shorter);
}

pub returns-clause-none : goal.returns-clause-none
returns-clause-none c = λ none. none_bad c.args.text.now c.loop-line.rest.now c.loop-line.before c.loop-line.least c.loop-line.invariant.gone
    (c.in_default.ensures.none refl)
