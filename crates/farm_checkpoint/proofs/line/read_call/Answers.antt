use Rattle.std.proofs.Common.{refl, arith}
use Rattle.farm_checkpoint.proofs.Fields.{call_field, from_field, out_field, down_field, after_call, after_from, after_out, line_read}
use Rattle.farm_checkpoint.proofs.line.read_call.Goals as goal

pub returns-in_err-call-clause-none : goal.returns-in_err-call-clause-none
returns-in_err-call-clause-none c = λ none call rest is_open sums above line.
    c.in_err-call.ensures.none refl call.call _ (call_field call _ _ c.args.text.now rest (omega (arith, above)) is_open.number.1 line)

pub returns-in_err-from-clause-none : goal.returns-in_err-from-clause-none
returns-in_err-from-clause-none c = λ none call rest is_open sums above line.
    let one = after_call call _ c.in_ok-call.call c.args.text.now c.in_ok-call.rest.now rest is_open.number.1 line c.in_ok-call.ensures.some in
    c.in_err-from.ensures.none refl call.from _ (from_field call _ c.in_ok-call.rest.now rest (omega (arith, is_open.opened)) one)

pub returns-in_err-out-clause-none : goal.returns-in_err-out-clause-none
returns-in_err-out-clause-none c = λ none call rest is_open sums above line.
    let one = after_call call _ c.in_ok-call.call c.args.text.now c.in_ok-call.rest.now rest is_open.number.1 line c.in_ok-call.ensures.some in
    let two = after_from call _ c.in_ok-from.from c.in_ok-call.rest.now c.in_ok-from.rest.now rest (omega (arith, c.ranges.period.fits))
    (omega (arith, is_open.opened)) one c.in_ok-from.ensures.some in
    c.in_err-out.ensures.none refl call.out _ (out_field call c.in_ok-from.rest.now rest sums.0 two)

pub returns-in_err-down-clause-none : goal.returns-in_err-down-clause-none
returns-in_err-down-clause-none c = λ none call rest is_open sums above line.
    let one = after_call call _ c.in_ok-call.call c.args.text.now c.in_ok-call.rest.now rest is_open.number.1 line c.in_ok-call.ensures.some in
    let two = after_from call _ c.in_ok-from.from c.in_ok-call.rest.now c.in_ok-from.rest.now rest (omega (arith, c.ranges.period.fits))
    (omega (arith, is_open.opened)) one c.in_ok-from.ensures.some in
    let three = after_out call c.in_ok-out.out c.in_ok-from.rest.now c.in_ok-out.rest.now rest sums.0 two c.in_ok-out.ensures.some in
    c.in_err-down.ensures.none refl call.down rest (down_field call c.in_ok-out.rest.now rest sums.1 three)

pub returns-clause-some : goal.returns-clause-some
returns-clause-some c =
    let first = c.in_ok-call.ensures.some in
    let second = c.in_ok-from.ensures.some in
    let third = c.in_ok-out.ensures.some in
    let fourth = c.in_ok-down.ensures.some in (
      record { number = (omega (arith, first.at_least), omega (arith, first.at_most)); opened = omega (arith, second.at_most, c.requires.period) },
      (third.at_most, fourth.at_most),
      omega (arith, first.at_least),
      line_read _ _ _ _ _ _ _ _ _ first second third fourth,
    )
