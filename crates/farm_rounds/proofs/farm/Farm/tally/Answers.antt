use Rattle.std.proofs.Common.{◌≡◌, ◌<◌, ◌∙◌, ap, sym, subst, List, ℕ, length, arith}
use Rattle.std.specs.Prelude.{is_some}
use Rattle.std.specs.Option.{option_map}
use Rattle.std.specs.Global.{Box}
use Rattle.std.proofs.lemmas.Bool.{false≢true}
use Rattle.call_leg.specs.Stands.{Stands}
use Rattle.call_pair.specs.Phases.{leg_in}
use Rattle.farm_rounds.specs.declared.open.OpenCall.{OpenCall}
use Rattle.farm_rounds.specs.Memory.{FarmMemory}
use Rattle.farm_rounds.specs.Numbers.{is_among}
use Rattle.farm_rounds.specs.Calls.{call_in}
use Rattle.farm_rounds.specs.Opens.{opens_in, calls_of, kept_of}
use Rattle.farm_rounds.specs.Opened.{open_at}
use Rattle.farm_rounds.proofs.Places.Boxes.{at_read, opens_long}
use Rattle.farm_rounds.proofs.Orders.Acts.{among_open}
use Rattle.farm_rounds.proofs.Places.Placed.{listed_long, call_at, leg_found}
use Rattle.farm_rounds.proofs.Places.Rising.{place_found, place_free, not_there}
use Rattle.farm_rounds.proofs.farm.Farm.tally.Goals as goal

pub returns-in-Ok-clause-live : goal.returns-in-Ok-clause-live
returns-in-Ok-clause-live c x who ts now e s =
    let i = c.self.invariant.0 in
    let live = c.self.inside.calls.live.items in
    let bs = c.self.inside.calls.open.items in
    let at = c.in-Ok.at in
    let call = c.args.call in
    let r = place_found live c.deref.result.now call c.binary_search.result c.deref.ensures.value i.rising c.binary_search.ensures.position at c.in-Ok.is in
    let within : at < length bs = omega (arith, r.0, listed_long live (opens_in bs) i.listed, opens_long bs) in
    let own : c.deref-in-Ok.result.now ≡ open_at bs at = c.deref-in-Ok.ensures ∙ ap (λ (b : Box OpenCall). b.value) c.index.ensures
    ∙ at_read bs at c.index.result.now within in
    let leg = leg_found (calls_of bs) call (kept_of (open_at bs at)) x (call_at live bs at call i.listed i.rising r.0 r.1)
    (ap (λ (f : FarmMemory). call_in f.calls call) c.self.view_is ∙ e) in
    c.tally.ensures who ts now (subst (Stands who ts now) (leg ∙ sym (ap (λ (o : OpenCall). leg_in o.job) own)) s)

pub returns-in-Ok-clause-ended : goal.returns-in-Ok-clause-ended
returns-in-Ok-clause-ended c e =
    let i = c.self.invariant.0 in
    let live = c.self.inside.calls.live.items in
    let bs = c.self.inside.calls.open.items in
    let at = c.in-Ok.at in
    let call = c.args.call in
    let r = place_found live c.deref.result.now call c.binary_search.result c.deref.ensures.value i.rising c.binary_search.ensures.position at c.in-Ok.is in
    let some = ap (λ o. is_some (option_map (λ k. k.call) o)) (call_at live bs at call i.listed i.rising r.0 r.1) in
    let none = ap is_some (ap (λ (f : FarmMemory). call_in f.calls call) c.self.view_is ∙ e) in
    absurd (false≢true (sym none ∙ some))

pub returns-in-Err-clause-live : goal.returns-in-Err-clause-live
returns-in-Err-clause-live c x who ts now e s =
    let i = c.self.invariant.0 in
    let live = c.self.inside.calls.live.items in
    let call = c.args.call in
    let r = place_free live c.deref.result.now call c.binary_search.result c.deref.ensures.value i.rising c.binary_search.ensures.position _ c.in-Err.is in
    let some = ap (λ (ns : List ℕ). is_among ns call) i.listed ∙ among_open (opens_in c.self.inside.calls.open.items) call
    ∙ ap is_some (ap (λ (f : FarmMemory). call_in f.calls call) c.self.view_is ∙ e) in
    absurd (false≢true (sym (not_there live call _ r.1 r.2) ∙ some))
