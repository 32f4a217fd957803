use Rattle.std.proofs.Common.{◌≡◌, ℕ, ◌-◌, subst, arith}
use Rattle.live_run.specs.Posts.{SawAll}
use Rattle.live_run.proofs.Resting.{posted_still, saw_more}
use Rattle.live_run.proofs.rest.work_rest.Goals as goal

pub loop-k-init : goal.loop-k-init
loop-k-init g c = record { farm = c.requires.farm; posted = λ n i h. h; saw = λ j s h. absurd (omega arith) }

pub returns-in_err-work_to-clause-posted : goal.returns-in_err-work_to-clause-posted
returns-in_err-work_to-clause-posted g c = λ n i h.
    let d = c.args.shared.now.drill in
    posted_still d.seed d.calls d.callers n i c.loop-k.k c.loop-k.caller c.work_to.new.caller c.work_to.ensures.stays (c.loop-k.invariant.posted n i h)

pub returns-clause-saw : goal.returns-clause-saw
returns-clause-saw g c =
    let d = c.args.shared.now.drill in
    let all : c.loop-k.k ≡ d.calls = omega (arith, c.loop-k-test.false, c.loop-k.auto.k-end) in
    subst (λ (n : ℕ). SawAll d.callers (d.periods - 1) n c.loop-k.caller) all c.loop-k.invariant.saw

pub loop-k-preserved : goal.loop-k-preserved
loop-k-preserved g c = let d = c.args.shared.now.drill in record {
  farm = c.work_to.ensures.farm;
  posted = λ n i h. posted_still d.seed d.calls d.callers n i c.loop-k.k c.loop-k.caller c.work_to.new.caller c.work_to.ensures.stays
      (c.loop-k.invariant.posted n i h);
  saw = saw_more d.callers (d.periods - 1) c.loop-k.k c.loop-k.caller c.work_to.new.caller c.work_to.ensures.stays c.loop-k.invariant.saw
      c.in_ok-work_to.ensures.found;
}
