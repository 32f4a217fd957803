use Rattle.std.proofs.Common.{◌≡◌, ◌+◌, ◌++◌, ◌∷◌, [], length, refl, arith}
use Rattle.std.proofs.lemmas.Grind.{common_steps}
use Rattle.farm_checkpoint.proofs.Reading.{push_call, shorter, stuck}
use Rattle.farm_checkpoint.proofs.read.read_calls.Goals as goal

pub loop-call-smaller : goal.loop-call-smaller
loop-call-smaller c = shorter c.in-Some.call c.loop-call.rest.now c.in-Some.after.now c.in-Some.ensures.some.3

pub loop-call-preserved : goal.loop-call-preserved
loop-call-preserved c =
    let pushed : c.push.new.self.items ≡ c.loop-call.calls.items ++ c.in-Some.call ∷ [] = grind (arith, common_steps, c.push.ensures.items) in
    let read = c.in-Some.ensures.some in
    let rest = c.loop-call.rest.now in
    let after = c.in-Some.after.now in
    rw pushed (push_call c.args.period c.args.text.now c.loop-call.calls.items rest after c.loop-call.last c.in-Some.call c.loop-call.invariant
    read.0 read.1 read.2 read.3 (shorter c.in-Some.call rest after read.3))

pub returns-clause-bad : goal.returns-clause-bad
returns-clause-bad c = λ n is.
    let same : c.len.result + 2 ≡ n = cc in
    let number : n ≡ length c.loop-call.calls.items + 2 = omega (arith, same, c.len.ensures) in
    stuck c.args.period c.args.text.now c.loop-call.calls.items c.loop-call.rest.now c.loop-call.last n c.loop-call.invariant
    (c.in_default.ensures.none refl) (c.in-None.ensures.none refl) number
