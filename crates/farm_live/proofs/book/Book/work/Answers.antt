use Rattle.std.proofs.Common.{◌≡◌, List, [], ◌∷◌, ◌++◌, length, sym, ap, ◌∙◌, subst, length-append, arith, rules}
use Rattle.call_leg.specs.Settings.{new_settings}
use Rattle.call_leg.specs.Memory.{periods_of_leg}
use Rattle.call_leg.specs.Stands.{Stands}
use Rattle.farm_live.specs.declared.post.Entry.{Entry}
use Rattle.farm_live.specs.Step.{WorksOn}
use Rattle.farm_live.specs.Book.{who_at, IsLegal, periods_after}
use Rattle.farm_live.proofs.Books.{leg_one_more}
use Rattle.farm_live.proofs.book.Book.work.Goals as goal

pub invariant_of-self-2 : goal.invariant_of-self-2
invariant_of-self-2 c =
    let es = c.self.inside.history.items in
    let call = c.self.inside.of.call in
    let e = c.period-entry.result in
    let inv = c.self.invariant in
    let leg = c.period-entry.new.leg in
    let boxed : c.deref_mut.result.now ≡ c.self.inside.leg.value = c.deref_mut.ensures.value in
    let more = leg_one_more call es e c.self.inside.leg.value leg inv.0 c.period-entry.ensures.sized inv.1
    (subst (λ l. WorksOn l e leg) boxed c.period-entry.ensures.worked) in
    let items : c.push_reserved.new.self.items ≡ es ++ e ∷ [] = c.push_reserved.ensures.items ∙ ap (λ l. l ++ e ∷ []) c.in_ok-reserve.ensures.items in
    let long : periods_of_leg leg ≡ length (es ++ e ∷ []) =
    omega (arith, c.period-entry.ensures.periods, ap periods_of_leg boxed, inv.2, length-append es (e ∷ [])) in
    let rest = inv.3 in (
      subst (λ (l : List Entry). IsLegal call l) (sym items) more.0,
      subst (λ (l : List Entry). Stands (who_at call) (periods_after [] l) new_settings leg) (sym items) more.1,
      long ∙ ap length (sym items),
      rest ∙ sym (ap (λ b. b.capacity) c.pop_front.ensures.items),
      inv.4,
      omega (arith, ap (λ b. b.capacity) c.pop_front.ensures.items, inv.5),
    )

pub returns-clause-legal : goal.returns-clause-legal
returns-clause-legal c = (invariant_of-self-2 c).0

pub returns-in_err-reserve-clause-answer : goal.returns-in_err-reserve-clause-answer
returns-in_err-reserve-clause-answer c = search rules
