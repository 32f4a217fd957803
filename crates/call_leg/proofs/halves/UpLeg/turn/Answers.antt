use Rattle.std.proofs.Common.{sym, subst, ap, ◌∙◌, ◌+◌, ℕ, List, ◌∷◌, arith}
use Rattle.rx_handler.specs.State.{effective_fields}
use Rattle.call_leg.specs.Uplink.{sighting_of}
use Rattle.call_leg.specs.Settings.{settings_later, period_with}
use Rattle.call_leg.specs.Halves.{UpMemory, Note, up_turned, UpStands}
use Rattle.call_leg.specs.contracts.halves.UpLeg.{the_view}
use Rattle.call_leg.proofs.HalfLaws.{turn-stands, turn-note, turn-plays}
use Rattle.call_leg.proofs.HalfSteps.{turn-step}
use Rattle.call_leg.proofs.halves.UpLeg.turn.Goals as goal

pub count-requires : goal.count-requires
count-requires c =
    let was = ap (λ (u : UpMemory). u.search.periods) c.self.view_is in
    omega (arith, c.self.invariant.1, c.requires, was)

pub invariant_of-self : goal.invariant_of-self
invariant_of-self c =
    let was = ap (λ (u : UpMemory). u.search.periods) c.self.view_is in (
      omega (arith, c.feed-yielded.ensures.counted, c.requires, was),
      omega (arith, c.feed-yielded.ensures.counted, c.count.ensures.once, c.self.invariant.1),
    )

pub returns-clause-periods : goal.returns-clause-periods
returns-clause-periods c = c.feed-yielded.ensures.counted ∙ ap (λ (u : UpMemory). u.search.periods + 1) c.self.view_is

pub returns-clause-step : goal.returns-clause-step
returns-clause-step c =
    ap (λ u. up_turned u c.args.up.now) (sym c.self.view_is) ∙
    turn-step (the_view c.self.inside) c.args.up.now c.feed-yielded.result c.feed-yielded.new.self (sighting_of c.read-found.result)
    (effective_fields c.hear-eff.result) c.hear-eff.new.rx c.play.new.octets c.play.new.decoder c.count.new.counts c.asked.result c.dtx_told.result
    c.feed-yielded.ensures.step c.read-found.ensures c.hear-eff.ensures c.play.ensures c.count.ensures.value c.asked.ensures.value c.dtx_told.ensures

pub returns-clause-history : goal.returns-clause-history
returns-clause-history c = λ pcm handed who ts now h b.
    subst (UpStands who (period_with now c.args.up.now pcm handed ∷ ts) (settings_later now))
    (ap (λ (r : Note × List ℕ × UpMemory). r.2) (returns-clause-step c))
    (turn-stands who ts now c.args.up.now pcm handed c.args.self.now c.told-up b h)

pub returns-clause-note : goal.returns-clause-note
returns-clause-note c = λ who ts now h. sym (ap (λ (r : Note × List ℕ × UpMemory). r.0) (returns-clause-step c))
    ∙ turn-note who ts now c.args.up.now c.args.self.now c.told-up h

pub returns-clause-out : goal.returns-clause-out
returns-clause-out c = λ pcm handed who ts now h b.
    sym (ap (λ (r : Note × List ℕ × UpMemory). r.1) (returns-clause-step c)) ∙ turn-plays who ts now c.args.up.now pcm handed c.args.self.now c.told-up b h

pub returns-clause-bridged : goal.returns-clause-bridged
returns-clause-bridged c = ap (λ (u : UpMemory). u.bridged) c.self.view_is
