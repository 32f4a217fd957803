use Rattle.std.proofs.Common.{◌+◌, ◌-◌, ◌≤◌, arith}
use Rattle.frame_sync.proofs.Scan.{Counted, counted_none, counted_next, unmatched_none, unmatched_few, unmatched_ones, matched, none_before}
use Rattle.frame_sync.proofs.hunt.find_match.Goals as goal
use Rattle.frame_sync.proofs.hunt.find_match.Goals.{else-zeros-ge16-via-then-zeros-ge16+else-ones_match, else-zeros-ge16-via-else-zeros-ge16}

pub loop-end-init : goal.loop-end-init
loop-end-init c = record {
  counted = counted_none c.args.window.now c.args.first;
  unmatched = unmatched_none c.args.window.now c.args.first;
}

pub loop-end-preserved : goal.loop-end-preserved
loop-end-preserved c =
    let counted : Counted c.args.window.now c.args.first (c.loop-end.end + 1) c.zeros_after-zeros.result =
    counted_next c.args.window.now c.args.first c.loop-end.end c.loop-end.zeros c.zeros_after-zeros.result c.loop-end.invariant.counted
    c.zeros_after-zeros.ensures in
    let within = counted.within in
    record {
      counted = counted;
      unmatched = elim c.else-zeros-ge16.branch [
        | else-zeros-ge16-via-then-zeros-ge16+else-ones_match w ↦
            let many : 16 ≤ c.zeros_after-zeros.result = w.if-zeros-ge16.true in
            unmatched_ones c.args.window.now c.args.first c.loop-end.end (omega arith)
            (λ ones. let t = w.ones_match.ensures.1 ones in absurd (cc)) c.loop-end.invariant.unmatched
        | else-zeros-ge16-via-else-zeros-ge16 w ↦
            unmatched_few c.args.window.now c.args.first c.loop-end.end c.zeros_after-zeros.result counted w.if-zeros-ge16.false
            c.loop-end.invariant.unmatched
      ];
    }

pub returns-then-ones_match-clause-found : goal.returns-then-ones_match-clause-found
returns-then-ones_match-clause-found c =
    let counted : Counted c.args.window.now c.args.first (c.loop-end.end + 1) c.zeros_after-zeros.result =
    counted_next c.args.window.now c.args.first c.loop-end.end c.loop-end.zeros c.zeros_after-zeros.result c.loop-end.invariant.counted
    c.zeros_after-zeros.ensures in
    let within = counted.within in
    let many : 16 ≤ c.zeros_after-zeros.result = c.if-zeros-ge16.true in (
      omega arith,
      omega arith,
      none_before c.args.window.now c.args.first c.loop-end.end (c.loop-end.end - 15) c.loop-end.invariant.unmatched (omega arith),
      matched c.args.window.now c.args.first c.loop-end.end c.zeros_after-zeros.result counted many
          (c.ones_match.ensures.0 c.if-ones_match.true),
    )

pub returns-clause-none : goal.returns-clause-none
returns-clause-none c = none_before c.args.window.now c.args.first c.loop-end.end 321 c.loop-end.invariant.unmatched (omega arith)
