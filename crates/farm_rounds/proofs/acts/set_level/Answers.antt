use Rattle.std.proofs.Common.{rules, FitsSigned, w16}
use Rattle.std.proofs.lemmas.Int.{to_z-of_z}
use Rattle.farm_rounds.specs.Opens.{opens_in}
use Rattle.farm_rounds.proofs.Orders.Acts.{listed_open, listed_within}
use Rattle.farm_rounds.proofs.Orders.Set.{open_listed, level_set}
use Rattle.farm_rounds.proofs.acts.set_level.Goals as goal

pub index_of-requires-clause-present : goal.index_of-requires-clause-present
index_of-requires-clause-present c = listed_open c.args.live.now (opens_in c.args.calls.now) c.args.call c.requires.sound.1.listed c.requires.fits.0

pub bounds-calls-index_of : goal.bounds-calls-index_of
bounds-calls-index_of c =
    listed_within c.args.calls.now c.args.live.now c.index_of.result
    (open_listed c.requires.sound.0 c.args.live.now (opens_in c.args.calls.now) c.requires.sound.1) c.index_of.ensures.within

pub returns : goal.returns
returns c =
    let fits : FitsSigned w16 c.args.level = search rules in
    let job = simp to_z-of_z at c.set_level.ensures in
    let set = level_set c.requires.sound.0 c.args.live.now c.args.calls.now c.index_of.result c.args.call c.index-calls-index_of.result c.deref_mut.result.now
    c.set_level.new.self c.requires.sound.1 c.index_of.ensures.within c.index_of.ensures.number c.deref_mut.ensures.value c.args.level c.requires.fits job in
    record { applied = set.applied; sound = set.sound }
