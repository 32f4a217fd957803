use Rattle.std.proofs.Common.{◌≡◌, ◌∙◌, Some, option_map, refl, sym, ap, rules, ℕ, List, Bor}
use Rattle.trau_orders.specs.Places.{places_left}
use Rattle.trau_orders.specs.Reasons.{places_of}
use Rattle.trau_orders.proofs.Words.{first_word, only_word}
use Rattle.trau_orders.proofs.places.Places.next.Goals as goal

pub returns-in-None : goal.returns-in-None
returns-in-None c =
    let e : c.self.inside.rest ≡ Some c.in_ok-rest.rest = search rules in
    sym c.self.view_is ∙ ap (λ r. places_left (option_map (λ (w : Bor (List ℕ)). w.now) r)) e ∙ ap places_of (only_word c.in_ok-rest.rest.now (c.in-None.ensures.none refl))

pub returns-in-Some : goal.returns-in-Some
returns-in-Some c =
    let e : c.self.inside.rest ≡ Some c.in_ok-rest.rest = search rules in
    sym c.self.view_is ∙ ap (λ r. places_left (option_map (λ (w : Bor (List ℕ)). w.now) r)) e
    ∙ ap places_of (first_word c.in_ok-rest.rest.now c.in-Some.word.now c.in-Some.after.now c.in-Some.ensures.some)
