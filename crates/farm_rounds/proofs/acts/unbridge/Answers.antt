use Rattle.std.proofs.Common.{◌∙◌, ap, sym}
use Rattle.std.specs.Prelude.{is_some}
use Rattle.switchboard.specs.declared.act.Act.TheVariants as act
use Rattle.farm_rounds.specs.Acts.{Applied}
use Rattle.farm_rounds.specs.Opens.{opens_in, calls_of}
use Rattle.farm_rounds.proofs.Orders.Acts.{listed_open, listed_from, unbridged_applied}
use Rattle.farm_rounds.proofs.Orders.Partners.{partner_open, still_paired, sound_after}
use Rattle.farm_rounds.proofs.acts.unbridge.Goals as goal

pub end_bridge-requires-clause-there : goal.end_bridge-requires-clause-there
end_bridge-requires-clause-there c =
    listed_open c.args.live.now (opens_in c.args.calls.now) c.args.a c.requires.sound.1.listed
    (partner_open (calls_of c.args.calls.now) c.args.a c.args.b c.requires.fits.0)

pub end_bridge-requires-clause-partner : goal.end_bridge-requires-clause-partner
end_bridge-requires-clause-partner c = ap is_some c.requires.fits.0

pub end_bridge-requires-2-clause-listed : goal.end_bridge-requires-2-clause-listed
end_bridge-requires-2-clause-listed c =
    let s = c.requires.sound.1 in
    listed_from c.requires.sound.0 c.args.live.now (opens_in c.end_bridge.new.calls) (s.listed ∙ sym c.end_bridge.ensures.numbers) s.rising
    (c.end_bridge.ensures.each c.requires.sound.0 s.each)

pub end_bridge-requires-2-clause-there : goal.end_bridge-requires-2-clause-there
end_bridge-requires-2-clause-there c =
    let back = c.requires.sound.1.both c.args.a c.args.b c.requires.fits.0 in
    listed_open c.args.live.now (opens_in c.args.calls.now) c.args.b c.requires.sound.1.listed
    (partner_open (calls_of c.args.calls.now) c.args.b c.args.a back.0)

pub end_bridge-requires-2-clause-partner : goal.end_bridge-requires-2-clause-partner
end_bridge-requires-2-clause-partner c =
    let pair = c.requires.fits.0 in
    still_paired c.args.a c.args.b (opens_in c.args.calls.now) (opens_in c.end_bridge.new.calls) pair
    (c.requires.sound.1.both c.args.a c.args.b pair) c.end_bridge.ensures

applied : (c : goal.After-calls-2-1) →
    Applied (act.Unbridged c.args.a c.args.b) (calls_of c.args.calls.now) (calls_of c.end_bridge-2.new.calls)
applied c =
    let ks = calls_of c.args.calls.now in
    let pair = c.requires.fits.0 in
    let back = c.requires.sound.1.both c.args.a c.args.b pair in
    unbridged_applied c.args.a c.args.b (opens_in c.args.calls.now) (opens_in c.end_bridge.new.calls) (opens_in c.end_bridge-2.new.calls) back.1
    (partner_open ks c.args.a c.args.b pair) (partner_open ks c.args.b c.args.a back.0) c.end_bridge.ensures c.end_bridge-2.ensures

pub returns-clause-applied : goal.returns-clause-applied
returns-clause-applied c = applied c

pub returns-clause-sound : goal.returns-clause-sound
returns-clause-sound c most s =
    sound_after most c.args.live.now (act.Unbridged c.args.a c.args.b) (opens_in c.args.calls.now) (opens_in c.end_bridge-2.new.calls)
    c.requires.fits s (applied c) (c.end_bridge-2.ensures.numbers ∙ c.end_bridge.ensures.numbers)
    (c.end_bridge-2.ensures.each most (c.end_bridge.ensures.each most s.each))
