use Rattle.std.proofs.Common.{◌<◌, replicate, arith}
use Rattle.std.proofs.lemmas.List.Elements.{All-set, All-replicate}
use Rattle.call_tests.proofs.down_framer_tests.period.Goals as goal

pub loop-start-init : goal.loop-start-init
loop-start-init c =
    let room = c.put.ensures.within.room in
    (c.put.ensures.within, omega arith, All-set (λ b. b < 2) (replicate 320 0) 0 1 (omega arith) (All-replicate (λ b. b < 2) 320 0 (omega arith)))
