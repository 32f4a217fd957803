use Rattle.std.proofs.Common.{◌∙◌, sym}
use Rattle.switchboard.specs.declared.act.Act.TheVariants as act
use Rattle.farm_rounds.specs.Acts.{Applied}
use Rattle.farm_rounds.specs.Opens.{opens_in, calls_of}
use Rattle.farm_rounds.proofs.Orders.Acts.{listed_open, listed_from, bridged_applied}
use Rattle.farm_rounds.proofs.Orders.Partners.{sound_after}
use Rattle.farm_rounds.proofs.acts.bridge.Goals as goal

pub start_bridge-requires-clause-there : goal.start_bridge-requires-clause-there
start_bridge-requires-clause-there c =
    listed_open c.args.live.now (opens_in c.args.calls.now) c.args.a c.requires.sound.1.listed c.requires.fits.0.1.0

pub start_bridge-requires-2-clause-listed : goal.start_bridge-requires-2-clause-listed
start_bridge-requires-2-clause-listed c =
    let s = c.requires.sound.1 in
    listed_from c.requires.sound.0 c.args.live.now (opens_in c.start_bridge.new.calls) (s.listed ∙ sym c.start_bridge.ensures.numbers) s.rising
    (c.start_bridge.ensures.each c.requires.sound.0 s.each)

pub start_bridge-requires-2-clause-there : goal.start_bridge-requires-2-clause-there
start_bridge-requires-2-clause-there c =
    listed_open c.args.live.now (opens_in c.args.calls.now) c.args.b c.requires.sound.1.listed c.requires.fits.0.1.1

applied : (c : goal.After-calls-2-1) →
    Applied (act.Bridged c.args.a c.args.b) (calls_of c.args.calls.now) (calls_of c.start_bridge-2.new.calls)
applied c =
    let fits = c.requires.fits.0 in
    bridged_applied c.args.a c.args.b (opens_in c.args.calls.now) (opens_in c.start_bridge.new.calls) (opens_in c.start_bridge-2.new.calls)
    fits.0 fits.1.0 fits.1.1 c.start_bridge.ensures c.start_bridge-2.ensures

pub returns-clause-applied : goal.returns-clause-applied
returns-clause-applied c = applied c

pub returns-clause-sound : goal.returns-clause-sound
returns-clause-sound c most s =
    sound_after most c.args.live.now (act.Bridged c.args.a c.args.b) (opens_in c.args.calls.now) (opens_in c.start_bridge-2.new.calls)
    c.requires.fits s (applied c) (c.start_bridge-2.ensures.numbers ∙ c.start_bridge.ensures.numbers)
    (c.start_bridge-2.ensures.each most (c.start_bridge.ensures.each most s.each))
