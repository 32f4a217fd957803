use Rattle.std.proofs.Common.{◌∙◌, refl, sym}
use Rattle.std.proofs.lemmas.Bool.{false≢true}
use Rattle.farm_rounds.proofs.Places.Rising.{place_found, place_free, not_there}
use Rattle.farm_rounds.proofs.live.index_of.Goals as goal

pub returns-in-Ok-clause-within : goal.returns-in-Ok-clause-within
returns-in-Ok-clause-within c =
    (place_found c.args.numbers.now c.args.numbers.now c.args.number c.binary_search.result refl c.requires.rising c.binary_search.ensures.position
    c.in-Ok.index c.in-Ok.is).0

pub returns-in-Ok-clause-number : goal.returns-in-Ok-clause-number
returns-in-Ok-clause-number c =
    (place_found c.args.numbers.now c.args.numbers.now c.args.number c.binary_search.result refl c.requires.rising c.binary_search.ensures.position
    c.in-Ok.index c.in-Ok.is).1

pub returns-in-Err : goal.returns-in-Err
returns-in-Err c = absurd (
    let s =
    place_free c.args.numbers.now c.args.numbers.now c.args.number c.binary_search.result refl c.requires.rising c.binary_search.ensures.position _
    c.in-Err.is in
    false≢true (sym (not_there c.args.numbers.now c.args.number _ s.1 s.2) ∙ c.requires.present))
