use Rattle.std.proofs.Common.{refl}
use Rattle.std.proofs.lemmas.Option.{IfSome_then}
use Rattle.trau_orders.proofs.Words.{not_alone, two_words, more_words, third_whole, third_word}
use Rattle.trau_orders.proofs.line.what_of.Goals as goal

pub returns-in_err-verb-clause-none : goal.returns-in_err-verb-clause-none
returns-in_err-verb-clause-none c = λ none. not_alone c.args.words.now (c.in_err-verb.ensures.none refl)

pub returns-in-None-clause-some : goal.returns-in-None-clause-some
returns-in-None-clause-some c =
    let two = two_words c.args.words.now c.in_ok-verb.verb.now c.in_ok-verb.rest.now c.in_ok-verb.ensures.some (c.in-None.ensures.none refl) in rw two
    c.of_two.ensures.some

pub returns-in-None-clause-none : goal.returns-in-None-clause-none
returns-in-None-clause-none c =
    let two = two_words c.args.words.now c.in_ok-verb.verb.now c.in_ok-verb.rest.now c.in_ok-verb.ensures.some (c.in-None.ensures.none refl) in rw two
    c.of_two.ensures.none

pub returns-in-Some-clause-some : goal.returns-in-Some-clause-some
returns-in-Some-clause-some c =
    let verb = c.in_ok-verb.verb.now in
    let three = more_words c.args.words.now verb c.in_ok-verb.rest.now c.in-Some.call.now c.in-Some.more.now c.in_ok-verb.ensures.some c.in-Some.ensures.some in
    rw three (IfSome_then c.of_three.result c.of_three.ensures.some (λ what are. third_whole verb c.in-Some.call.now c.in-Some.more.now what are))

pub returns-in-Some-clause-none : goal.returns-in-Some-clause-none
returns-in-Some-clause-none c =
    let verb = c.in_ok-verb.verb.now in
    let three = more_words c.args.words.now verb c.in_ok-verb.rest.now c.in-Some.call.now c.in-Some.more.now c.in_ok-verb.ensures.some c.in-Some.ensures.some in
    rw three (λ none what are. c.of_three.ensures.none none what (third_word verb c.in-Some.call.now c.in-Some.more.now what are))
