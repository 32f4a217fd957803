use Rattle.std.proofs.Common.{List, ℕ, string_bytes, subst, refl}
use Rattle.std.proofs.lemmas.Result.{IfOk-weaker}
use Rattle.trau_orders.specs.Text.{text_lines, IsFirstBad}
use Rattle.drill_run.proofs.Rooms.{ample_drilled}
use Rattle.drill_run.proofs.Telling.{calls_numbered, drilling_of, is_drilled}
use Rattle.drill_run.proofs.whole.run_drill.Goals as goal

pub orders_of-requires-clause-good : goal.orders_of-requires-clause-good
orders_of-requires-clause-good g c = λ n bad.
    c.one_answer.ensures.good (text_lines c.in_ok-lines.text.items) _ n c.in_ok-lines.ensures.orders
    (subst (λ (t : List ℕ). IsFirstBad (text_lines t) n) c.deref.ensures.value bad)

pub new-trunk-requires : goal.new-trunk-requires
new-trunk-requires g c = ample_drilled c.args.seed c.args.calls c.args.pace.now.periods c.in_ok-lines.lines c.requires.calls c.in_ok-lines.ensures.lines

pub text_of-requires : goal.text_of-requires
text_of-requires g c =
    let drilling = drilling_of c.args.seed c.args.calls c.args.pace.now.periods c.new-trunk.result c.run.new.trunk c.in_ok-lines.lines c.in_ok-orders.orders
    c.args.pace.now c.in_ok-report.report
    c.in_ok-lines.text.items c.deref.result.now c.one_answer.ensures.orders c.requires.calls c.new-trunk.ensures c.in_ok-lines.ensures.lines
    c.in_ok-lines.ensures.orders
    c.in_ok-lines.ensures.within c.deref.ensures.value c.in_ok-orders.ensures c.lines_have_rooms.ensures c.in_ok-report.ensures.runs refl in
    calls_numbered _ _ _ _ _ _ _ _ drilling

pub returns : goal.returns
returns g c =
    let drilling = drilling_of c.args.seed c.args.calls c.args.pace.now.periods c.new-trunk.result c.run.new.trunk c.in_ok-lines.lines c.in_ok-orders.orders
    c.args.pace.now c.in_ok-report.report
    c.in_ok-lines.text.items c.deref.result.now c.one_answer.ensures.orders c.requires.calls c.new-trunk.ensures c.in_ok-lines.ensures.lines
    c.in_ok-lines.ensures.orders
    c.in_ok-lines.ensures.within c.deref.ensures.value c.in_ok-orders.ensures c.lines_have_rooms.ensures c.in_ok-report.ensures.runs refl in
    IfOk-weaker c.text_of.result _ _
    (λ text is. is_drilled _ _ _ _ _ _ _ _ drilling (string_bytes text) _ _ refl refl is) c.text_of.ensures
