use Rattle.std.proofs.Common.{◌≡◌, refl, ap, subst, Err}
use Rattle.std.proofs.lemmas.Result.{err_from_is_err_and, IfOk-from_err}
use Rattle.farm_checkpoint.specs.Text.{IsFirstBad}
use Rattle.farm_checkpoint.specs.declared.fault.MarkFault.TheVariants.{Line}
use Rattle.farm_checkpoint.proofs.Fronts.{one_mark, not_good_and_bad, one_first}
use Rattle.farm_checkpoint.proofs.Reading.{bad_call, bad_first, read_whole}
use Rattle.farm_checkpoint.proofs.read.read_mark.Goals as goal

pub returns-in_default-clause-bad : goal.returns-in_default-clause-bad
returns-in_default-clause-bad c = λ n is.
    let same : 1 ≡ n = cc in
    subst (IsFirstBad c.args.text.now) same (bad_first c.args.text.now (c.in_default.ensures.none refl))

pub returns-in_err-calls-clause-bad : goal.returns-in_err-calls-clause-bad
returns-in_err-calls-clause-bad c = λ n is.
    let told = err_from_is_err_and c.from_residual.result c.from_residual.ensures.1 in
    let from = told.2 in
    let made = told.1 in
    let fault : c.in_err-calls.field-0.0 ≡ Line n = cc in
    let first = c.in-Some.ensures.some in
    bad_call c.in-Some.period n c.args.text.now c.in-Some.rest.now first.0 first.1 first.2 (c.in_err-calls.ensures.bad n (ap Err fault))

pub returns-clause-ok : goal.returns-clause-ok
returns-clause-ok c =
    let first = c.in-Some.ensures.some in
    read_whole c.args.text.now c.in-Some.rest.now c.in_ok-calls.orders.now c.in-Some.period c.in_ok-calls.calls.items _ first.0 first.1 first.2
    c.in_ok-calls.ensures.ok refl

pub returns-in_default-clause-known : goal.returns-in_default-clause-known
returns-in_default-clause-known c = λ mark octets read. (tt, λ n is. not_good_and_bad c.args.text.now mark octets n read (returns-in_default-clause-bad c n is))

pub returns-in_default-clause-first : goal.returns-in_default-clause-first
returns-in_default-clause-first c = λ n first. (tt, λ m is. one_first c.args.text.now m n (returns-in_default-clause-bad c m is) first)

pub returns-in_err-calls-clause-known : goal.returns-in_err-calls-clause-known
returns-in_err-calls-clause-known c = λ mark octets read.
    (IfOk-from_err _ _ c.from_residual.ensures.0, λ n is. not_good_and_bad c.args.text.now mark octets n read (returns-in_err-calls-clause-bad c n is))

pub returns-in_err-calls-clause-first : goal.returns-in_err-calls-clause-first
returns-in_err-calls-clause-first c = λ n first.
    (IfOk-from_err _ _ c.from_residual.ensures.0, λ m is. one_first c.args.text.now m n (returns-in_err-calls-clause-bad c m is) first)

pub returns-clause-known : goal.returns-clause-known
returns-clause-known c = λ mark octets read. (one_mark c.args.text.now _ mark _ octets (returns-clause-ok c) read, λ n is. cc)

pub returns-clause-first : goal.returns-clause-first
returns-clause-first c = λ n first. (not_good_and_bad c.args.text.now _ _ n (returns-clause-ok c) first, λ m is. cc)
