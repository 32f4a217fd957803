use Rattle.std.proofs.Common.{◌≡◌, ◌+◌, ◌-◌, max, ap, ◌∙◌, arith}
use Rattle.frame_sync.proofs.Searched.{searched-found, searched-none}
use Rattle.frame_sync.specs.Step.{ends_in_two}
use Rattle.frame_sync.proofs.advance.hunt.Goals as goal

pub returns-in-Some-clause-value : goal.returns-in-Some-clause-value
returns-in-Some-clause-value c =
    let first : c.max-first.result ≡ max c.args.low (c.args.base - 319) = c.max-first.ensures ∙ ap (max c.args.low) c.saturating_sub.ensures in
    let found = c.in-Some.ensures.found in
    ap (ends_in_two c.args.base c.args.window.now) c.framed.ensures ∙
    searched-found c.args.window.now c.args.base c.args.low c.max-first.result c.in-Some.o (c.args.base + c.in-Some.o - 320) first c.requires.near
    found.0 found.1 found.2 found.3 (omega arith)

pub returns-in-None-clause-value : goal.returns-in-None-clause-value
returns-in-None-clause-value c =
    let first : c.max-first.result ≡ max c.args.low (c.args.base - 319) = c.max-first.ensures ∙ ap (max c.args.low) c.saturating_sub.ensures in
    searched-none c.args.window.now c.args.base c.args.low c.max-first.result first c.requires.near c.in-None.ensures.none
