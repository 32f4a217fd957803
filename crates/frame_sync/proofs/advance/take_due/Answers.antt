use Rattle.std.proofs.Common.{◌+◌, ◌-◌, ap, ◌∙◌, arith}
use Rattle.frame_sync.specs.declared.yields.Ending.TheVariants.{Missed}
use Rattle.frame_sync.specs.Step.{ends_in_two}
use Rattle.frame_sync.proofs.Searched.{searched-frame, searched-miss}
use Rattle.frame_sync.proofs.advance.take_due.Goals as goal

pub returns-then-sync_matches-clause-value : goal.returns-then-sync_matches-clause-value
returns-then-sync_matches-clause-value c =
    ap (ends_in_two c.args.base c.args.window.now) c.framed.ensures ∙
    searched-frame c.args.window.now c.frame_from.result.now c.args.base c.args.next c.args.misses (c.args.next + 320 - c.args.base) (omega arith)
    c.frame_from.ensures.value (c.sync_matches.ensures.0 c.if-sync_matches.true)

pub returns-else-sync_matches-clause-value : goal.returns-else-sync_matches-clause-value
returns-else-sync_matches-clause-value c =
    ap (λ mode. ends_in_two c.args.base c.args.window.now (Missed c.args.next, mode)) c.after_miss.ensures ∙
    searched-miss c.args.window.now c.frame_from.result.now c.args.base c.args.next c.args.misses (c.args.next + 320 - c.args.base) (omega arith)
    c.frame_from.ensures.value (λ s. let t = c.sync_matches.ensures.1 s in absurd (cc))
