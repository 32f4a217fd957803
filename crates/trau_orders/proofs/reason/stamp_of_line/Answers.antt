use Rattle.std.proofs.lemmas.Result.{err_from_is_err_and}
use Rattle.trau_orders.proofs.Wrong.{wrong_stamp, wrong_verb, has_verb, wrong_call, has_call, wrong_argument, wrong_end, whole_line}
use Rattle.trau_orders.proofs.reason.stamp_of_line.Goals as goal

pub returns-in_err-stamp-clause-fault : goal.returns-in_err-stamp-clause-fault
returns-in_err-stamp-clause-fault c =
    let p = err_from_is_err_and c.from_residual.result c.from_residual.ensures.1 in
    let f = c.in_err-stamp.ensures.fault in
    rw (p.1, p.2, f.0) (wrong_stamp c.args.least c.args.line.now c.of-places.result _ c.requires c.of-places.ensures f.1)

pub returns-in_err-verb-clause-fault : goal.returns-in_err-verb-clause-fault
returns-in_err-verb-clause-fault c =
    let p = err_from_is_err_and c.from_residual-in_err-verb.result c.from_residual-in_err-verb.ensures.1 in
    let s = c.in_ok-stamp.ensures.ok in
    let f = c.in_err-verb.ensures.fault in
    rw (p.1, p.2, f.0)
    (wrong_verb c.args.least c.args.line.now c.of-places.result c.stamp.new.self c.in_ok-stamp.stamp _ c.of-places.ensures s.0 s.1 s.2 f.1)

pub returns-in_err-expect-clause-fault : goal.returns-in_err-expect-clause-fault
returns-in_err-expect-clause-fault c =
    let p = err_from_is_err_and c.from_residual-in_err-expect.result c.from_residual-in_err-expect.ensures.1 in
    let s = c.in_ok-stamp.ensures.ok in
    let f = c.in_err-expect.ensures.fault in
    let n = c.in_ok-stamp.stamp in
    let v = c.in_ok-verb.verb in
    let has = has_verb c.args.least c.args.line.now c.of-places.result c.stamp.new.self c.verb.new.self n v c.of-places.ensures s.0 s.1 s.2 c.in_ok-verb.ensures.ok in
    rw (p.1, p.2, f.0) (wrong_call c.args.least c.args.line.now n v c.verb.new.self _ has f.1)

pub returns-in_err-expect-2-clause-fault : goal.returns-in_err-expect-2-clause-fault
returns-in_err-expect-2-clause-fault c =
    let p = err_from_is_err_and c.from_residual-in_err-expect-2.result c.from_residual-in_err-expect-2.ensures.1 in
    let s = c.in_ok-stamp.ensures.ok in
    let f = c.in_err-expect-2.ensures.fault in
    let n = c.in_ok-stamp.stamp in
    let v = c.in_ok-verb.verb in
    let has = has_verb c.args.least c.args.line.now c.of-places.result c.stamp.new.self c.verb.new.self n v c.of-places.ensures s.0 s.1 s.2 c.in_ok-verb.ensures.ok in
    let called = has_call c.args.least c.args.line.now n v c.verb.new.self c.expect.new.self has c.in_ok-expect.ensures.ok in
    rw (p.1, p.2, f.0) (wrong_argument c.args.least c.args.line.now n v c.expect.new.self _ c.argument.result c.argument.ensures called f.1)

pub returns-in_err-expect-3-clause-fault : goal.returns-in_err-expect-3-clause-fault
returns-in_err-expect-3-clause-fault c =
    let p = err_from_is_err_and c.from_residual-in_err-expect-3.result c.from_residual-in_err-expect-3.ensures.1 in
    let s = c.in_ok-stamp.ensures.ok in
    let f = c.in_err-expect-3.ensures.fault in
    let n = c.in_ok-stamp.stamp in
    let v = c.in_ok-verb.verb in
    let has = has_verb c.args.least c.args.line.now c.of-places.result c.stamp.new.self c.verb.new.self n v c.of-places.ensures s.0 s.1 s.2 c.in_ok-verb.ensures.ok in
    let called = has_call c.args.least c.args.line.now n v c.verb.new.self c.expect.new.self has c.in_ok-expect.ensures.ok in
    rw (p.1, p.2, f.0)
    (wrong_end c.args.least c.args.line.now n v c.expect.new.self c.expect-2.new.self _ c.argument.result c.argument.ensures called c.in_ok-expect-2.ensures.ok f.1)

pub returns-clause-ok : goal.returns-clause-ok
returns-clause-ok c =
    let s = c.in_ok-stamp.ensures.ok in
    let n = c.in_ok-stamp.stamp in
    let v = c.in_ok-verb.verb in
    let has = has_verb c.args.least c.args.line.now c.of-places.result c.stamp.new.self c.verb.new.self n v c.of-places.ensures s.0 s.1 s.2 c.in_ok-verb.ensures.ok in
    let called = has_call c.args.least c.args.line.now n v c.verb.new.self c.expect.new.self has c.in_ok-expect.ensures.ok in
    whole_line c.args.least c.args.line.now n v c.expect.new.self c.expect-2.new.self c.expect-3.new.self c.argument.result c.argument.ensures called
    c.in_ok-expect-2.ensures.ok c.in_ok-expect-3.ensures.ok
