use Rattle.std.proofs.Common.{refl}
use Rattle.trau_orders.proofs.Words.{refused_one, refused_stamp, refused_words, is_line}
use Rattle.trau_orders.proofs.line.order_of.Goals as goal

pub returns-in_err-stamp-clause-none : goal.returns-in_err-stamp-clause-none
returns-in_err-stamp-clause-none c = λ none. refused_one c.args.line.now (c.in_err-stamp.ensures.none refl)

pub returns-in_err-stamp-2-clause-none : goal.returns-in_err-stamp-2-clause-none
returns-in_err-stamp-2-clause-none c = λ none.
    refused_stamp c.args.line.now c.in_ok-stamp.stamp.now c.in_ok-stamp.words.now c.in_ok-stamp.ensures.some (c.in_err-stamp-2.ensures.none refl)

pub returns-in_err-what-clause-none : goal.returns-in_err-what-clause-none
returns-in_err-what-clause-none c = λ none.
    refused_words c.args.line.now c.in_ok-stamp.stamp.now c.in_ok-stamp.words.now c.in_ok-stamp.ensures.some (c.in_err-what.ensures.none refl)

pub returns-clause-some : goal.returns-clause-some
returns-clause-some c =
    is_line c.args.line.now c.in_ok-stamp.stamp.now c.in_ok-stamp.words.now _ c.in_ok-stamp.ensures.some c.in_ok-stamp-2.ensures.some c.in_ok-what.ensures.some
