use Rattle.std.proofs.Common.{sym, ap, ◌∙◌, map, arith}
use Rattle.std.specs.Vec.{vec_len, vec_capacity}
use Rattle.round_lines.specs.Memory.{line_name}
use Rattle.round_lines.proofs.Failing.{named_more, none_more}
use Rattle.round_lines.proofs.call_lines.CallLines.list_failed.Goals as goal
use Rattle.round_lines.proofs.call_lines.CallLines.list_failed.Goals.{then-fails, else-fails}

pub loop-side-preserved : goal.loop-side-preserved
loop-side-preserved c =
    let i = c.loop-side.invariant in
    let lines = c.loop-side.failed.items in
    elim c.if-fails.branch [
      | then-fails w ↦ record {
        listed = ap (λ v. map line_name v.items) w.failed-is ∙ ap (map line_name) w.push_reserved.ensures.items
            ∙ named_more c.args.self.now c.loop-side.side-index _ lines c.loop-side-test.true i.listed w.line.result (sym c.fails.ensures ∙ w.if-fails.true)
            w.line.ensures.call w.line.ensures.side;
        few = omega (arith, ap vec_len w.failed-is, w.push_reserved.ensures.len, i.few);
        room = ap vec_capacity w.failed-is ∙ w.push_reserved.ensures.capacity ∙ i.room;
      }
      | else-fails w ↦ record {
        listed = ap (λ v. map line_name v.items) w.failed-is ∙ none_more c.args.self.now c.loop-side.side-index _ lines c.loop-side-test.true i.listed
            (sym c.fails.ensures ∙ w.if-fails.false);
        few = omega (arith, ap vec_len w.failed-is, i.few);
        room = ap vec_capacity w.failed-is ∙ i.room;
      }
    ]
