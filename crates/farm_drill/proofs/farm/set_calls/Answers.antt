use Rattle.std.proofs.Common.{◌≡◌, ℕ, ◌+◌, ◌-◌, subst, arith}
use Rattle.farm_drill.specs.Lines.{AreDrilled}
use Rattle.farm_drill.proofs.farm.set_calls.Goals as goal

pub loop-earlier-preserved : goal.loop-earlier-preserved
loop-earlier-preserved c = λ first.
    let same : c.loop-earlier.earlier ≡ c.loop-earlier.earlier + 1 - 1 = omega arith in
    c.in_ok-set_call.ensures (subst (λ (n : ℕ). AreDrilled c.args.seed n c.args.periods c.loop-earlier.trunk) same (c.loop-earlier.invariant first))

pub returns : goal.returns
returns c = λ first.
    let all : c.loop-earlier.earlier ≡ c.args.calls = omega (arith, c.loop-earlier.auto.earlier-end, c.loop-earlier-test.false) in
    subst (λ (n : ℕ). AreDrilled c.args.seed n c.args.periods c.loop-earlier.trunk) all (c.loop-earlier.invariant first)
