use Rattle.std.proofs.Common.{◌≡◌, Option, Some, None, false, refl, sym, ◌∙◌, subst, arith}
use Rattle.std.specs.Prelude.{pos, is_some, IsNone}
use Rattle.std.proofs.lemmas.Int.{ints}
use Rattle.trau_orders.specs.Reasons.{Admits}
use Rattle.trau_orders.proofs.expected.Expected.admits_word.Goals as goal

is_none : {X : Type 0} (r : Option X) → is_some r ≡ false → IsNone r
is_none None e = refl
is_none (Some x) e = cc

pub returns-in-Level-clause-no : goal.returns-in-Level-clause-no
returns-in-Level-clause-no c = λ no admitted.
    let level = subst (λ e. Admits e (Some c.args.word.now)) c.in-Level.is admitted in
    c.level_of.ensures.none (is_none c.level_of.result (sym c.is_some-in-Level.ensures ∙ no)) (pos level.0) (omega (arith, ints)) (omega (arith, ints, level.1))
    (let e = level.2 in cc)
