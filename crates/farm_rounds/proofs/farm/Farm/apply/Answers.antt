use Rattle.std.proofs.Common.{◌≡◌, ◌∙◌, sym, subst, ℕ, Option}
use Rattle.std.proofs.lemmas.List.{with_items_is}
use Rattle.std.proofs.lemmas.Result.{on_ok_weaker}
use Rattle.std.specs.Vec.{with_items}
use Rattle.switchboard.specs.declared.act.Act.{Act}
use Rattle.switchboard.specs.declared.act.Act.TheVariants as act
use Rattle.farm_rounds.specs.Memory.{FarmMemory, tally_in}
use Rattle.farm_rounds.specs.Acts.{ActFits, Applied}
use Rattle.farm_rounds.specs.Failed.{NoneListed}
use Rattle.farm_rounds.specs.Histories.{whose, tallies_after}
use Rattle.farm_rounds.specs.Opens.{AreMutual, calls_of}
use Rattle.farm_rounds.proofs.Orders.Changed.{changed}
use Rattle.farm_rounds.proofs.Orders.Histories.{stands_after, tallied}
use Rattle.farm_rounds.proofs.farm.Farm.apply.Goals as goal

pub open-requires-clause-fresh : goal.open-requires-clause-fresh
open-requires-clause-fresh c = subst (λ (a : Act). NoneListed a c.args.self.now.failed) c.in-Opened.is c.requires.fresh

applied_opened : (c : goal.After-open) → Applied (act.Opened c.in-Opened.call c.in-Opened.law) c.args.self.now.calls c.open.new.self.calls →
    Applied c.args.act.now c.args.self.now.calls c.open.new.self.calls
applied_opened c p = subst (λ (a : Act). Applied a c.args.self.now.calls c.open.new.self.calls) (sym c.in-Opened.is) p

pub returns-in-Opened-clause-calls : goal.returns-in-Opened-clause-calls
returns-in-Opened-clause-calls c = on_ok_weaker c.open.result (λ p. (applied_opened c p).calls) c.open.ensures.applied

pub returns-in-Opened-clause-partners : goal.returns-in-Opened-clause-partners
returns-in-Opened-clause-partners c = on_ok_weaker c.open.result (λ p. (applied_opened c p).partners) c.open.ensures.applied

pub returns-in-Opened-clause-history : goal.returns-in-Opened-clause-history
returns-in-Opened-clause-history c =
    on_ok_weaker c.open.result
    (λ p h w s. stands_after h c.args.self.now.calls c.open.ensures.before s c.args.act.now c.open.new.self.calls c.requires.fits w (applied_opened c p))
    c.open.ensures.applied

applied_closed : (c : goal.After-close) → Applied c.args.act.now c.args.self.now.calls c.close.new.self.calls
applied_closed c =
    let fits = subst (λ (a : Act). ActFits c.args.self.now.calls a) c.in-Closed.is c.requires.fits in
    subst (λ (a : Act). Applied a c.args.self.now.calls c.close.new.self.calls) (sym c.in-Closed.is)
    (subst (λ (p : Option ℕ). Applied (act.Closed c.in-Closed.call p) c.args.self.now.calls c.close.new.self.calls) fits.0.1 c.close.ensures.applied)

pub returns-in-Closed-clause-calls : goal.returns-in-Closed-clause-calls
returns-in-Closed-clause-calls c = (applied_closed c).calls

pub returns-in-Closed-clause-partners : goal.returns-in-Closed-clause-partners
returns-in-Closed-clause-partners c = (applied_closed c).partners

pub returns-in-Closed-clause-history : goal.returns-in-Closed-clause-history
returns-in-Closed-clause-history c h w s =
    stands_after h c.args.self.now.calls c.close.ensures.before s c.args.act.now c.close.new.self.calls c.requires.fits w (applied_closed c)

pub returns-in-Closed-clause-tallies : goal.returns-in-Closed-clause-tallies
returns-in-Closed-clause-tallies c h s d =
    let fits = subst (λ (a : Act). ActFits c.args.self.now.calls a) c.in-Closed.is c.requires.fits in
    subst (λ (a : Act). tally_in c.close.new.self.tallies d ≡ tallies_after a h (tally_in c.args.self.now.tallies) d) (sym c.in-Closed.is)
    (tallied h c.args.self.now.calls c.in-Closed.call c.in-Closed.partner (tally_in c.args.self.now.tallies)
    (tally_in c.close.new.self.tallies) s fits.0.0 c.close.ensures.tallies
    (λ m y e st. c.close.ensures.tally m (whose c.in-Closed.call y) y.periods y.now e st) d)

pub invariant_of-self : goal.invariant_of-self
invariant_of-self c =
    let after = changed (act.Bridged c.in-Bridged.a c.in-Bridged.b) c.deref.ensures.value c.deref_mut.ensures.value
    (with_items_is c.self.inside.calls.open c.bridge.new.calls (c.bridge.auto.calls ∙ c.deref_mut.ensures.len)) tt c.self.invariant.0 c.self.invariant.2
    c.bridge.ensures.sound c.bridge.ensures.applied in
    (after.sound, c.self.invariant.1, after.failed)

pub invariant_of-self-in-Unbridged : goal.invariant_of-self-in-Unbridged
invariant_of-self-in-Unbridged c =
    let after = changed (act.Unbridged c.in-Unbridged.a c.in-Unbridged.b) c.deref-in-Unbridged.ensures.value c.deref_mut-in-Unbridged.ensures.value
    (with_items_is c.self-in-Unbridged.inside.calls.open c.unbridge.new.calls (c.unbridge.auto.calls ∙ c.deref_mut-in-Unbridged.ensures.len)) tt c.self-in-Unbridged.invariant.0 c.self-in-Unbridged.invariant.2
    c.unbridge.ensures.sound c.unbridge.ensures.applied in
    (after.sound, c.self-in-Unbridged.invariant.1, after.failed)

pub invariant_of-self-in-LevelSet : goal.invariant_of-self-in-LevelSet
invariant_of-self-in-LevelSet c =
    let after = changed (act.LevelSet c.in-LevelSet.call _) c.deref-in-LevelSet.ensures.value c.deref_mut-in-LevelSet.ensures.value
    (with_items_is c.self-in-LevelSet.inside.calls.open c.set_level.new.calls (c.set_level.auto.calls ∙ c.deref_mut-in-LevelSet.ensures.len)) tt c.self-in-LevelSet.invariant.0 c.self-in-LevelSet.invariant.2
    c.set_level.ensures.sound c.set_level.ensures.applied in
    (after.sound, c.self-in-LevelSet.invariant.1, after.failed)

pub invariant_of-self-in-DtxSet : goal.invariant_of-self-in-DtxSet
invariant_of-self-in-DtxSet c =
    let after = changed (act.DtxSet c.in-DtxSet.call c.in-DtxSet.mode) c.deref-in-DtxSet.ensures.value c.deref_mut-in-DtxSet.ensures.value
    (with_items_is c.self-in-DtxSet.inside.calls.open c.set_dtx.new.calls (c.set_dtx.auto.calls ∙ c.deref_mut-in-DtxSet.ensures.len)) tt c.self-in-DtxSet.invariant.0 c.self-in-DtxSet.invariant.2
    c.set_dtx.ensures.sound c.set_dtx.ensures.applied in
    (after.sound, c.self-in-DtxSet.invariant.1, after.failed)

pub returns-in-Bridged-clause-history : goal.returns-in-Bridged-clause-history
returns-in-Bridged-clause-history c h w s =
    let after = changed (act.Bridged c.in-Bridged.a c.in-Bridged.b) c.deref.ensures.value c.deref_mut.ensures.value
    (with_items_is c.self.inside.calls.open c.bridge.new.calls (c.bridge.auto.calls ∙ c.deref_mut.ensures.len)) tt c.self.invariant.0 c.self.invariant.2
    c.bridge.ensures.sound c.bridge.ensures.applied in
    let both = subst (λ (f : FarmMemory). AreMutual f.calls) c.self.view_is c.self.invariant.0.both in
    let now = calls_of (with_items c.self.inside.calls.open c.bridge.new.calls).items in
    stands_after h c.args.self.now.calls both s c.args.act.now now c.requires.fits w
    (subst (λ (x : Act). Applied x c.args.self.now.calls now) (sym c.in-Bridged.is)
    (subst (λ (f : FarmMemory). Applied (act.Bridged c.in-Bridged.a c.in-Bridged.b) f.calls now) c.self.view_is after.applied))

pub returns-in-Unbridged-clause-history : goal.returns-in-Unbridged-clause-history
returns-in-Unbridged-clause-history c h w s =
    let after = changed (act.Unbridged c.in-Unbridged.a c.in-Unbridged.b) c.deref-in-Unbridged.ensures.value c.deref_mut-in-Unbridged.ensures.value
    (with_items_is c.self-in-Unbridged.inside.calls.open c.unbridge.new.calls (c.unbridge.auto.calls ∙ c.deref_mut-in-Unbridged.ensures.len)) tt c.self-in-Unbridged.invariant.0 c.self-in-Unbridged.invariant.2
    c.unbridge.ensures.sound c.unbridge.ensures.applied in
    let both = subst (λ (f : FarmMemory). AreMutual f.calls) c.self-in-Unbridged.view_is c.self-in-Unbridged.invariant.0.both in
    let now = calls_of (with_items c.self-in-Unbridged.inside.calls.open c.unbridge.new.calls).items in
    stands_after h c.args.self.now.calls both s c.args.act.now now c.requires.fits w
    (subst (λ (x : Act). Applied x c.args.self.now.calls now) (sym c.in-Unbridged.is)
    (subst (λ (f : FarmMemory). Applied (act.Unbridged c.in-Unbridged.a c.in-Unbridged.b) f.calls now) c.self-in-Unbridged.view_is after.applied))
