use Rattle.std.proofs.Common.{◌≡◌, ◌<◌, ◌+◌, length, refl, sym, ap, ◌∙◌, subst, List, arith}
use Rattle.std.specs.Global.{Box}
use Rattle.std.proofs.lemmas.List.{length-set}
use Rattle.call_pair.specs.Phases.{periods_left, turn_down}
use Rattle.farm_rounds.specs.declared.open.OpenCall.{OpenCall}
use Rattle.farm_rounds.specs.Opens.{opens_in, with_job}
use Rattle.farm_rounds.specs.Opened.{met_beside, open_at}
use Rattle.farm_rounds.proofs.Places.Boxes.{changed_next, changed_all, at_read, at_set, at_other}
use Rattle.farm_rounds.proofs.Work.Meeting.{AreMet, next_present, next_meets, next_heard, next_alone, met_alone}
use Rattle.farm_rounds.proofs.calls.meet_all.Goals as goal
use Rattle.farm_rounds.proofs.calls.meet_all.Goals.{in-Some, in-None}

pub index_of-requires-clause-present : goal.index_of-requires-clause-present
index_of-requires-clause-present c =
    let now = c.loop-at.calls in
    let k = c.loop-at.at in
    let l : k < length now = omega (arith, c.loop-at-test.true, c.loop-at.invariant.long) in
    let own : c.deref.result.now ≡ open_at now k = c.deref.ensures ∙ at_read now k _ l in
    (next_present c.args.calls.now now c.args.live.now k c.in-Some.partner c.requires.paired c.loop-at.invariant l
    (ap (λ (o : OpenCall). o.partner) (sym own) ∙ c.in-Some.is)).0

pub meet-requires : goal.meet-requires
meet-requires c =
    let now = c.loop-at.calls in
    let k = c.loop-at.at in
    let l : k < length now = omega (arith, c.loop-at-test.true, c.loop-at.invariant.long) in
    let own : c.deref.result.now ≡ open_at now k = c.deref.ensures ∙ at_read now k _ l in
    let can = next_meets c.args.calls.now now c.args.live.now k c.index_of.result c.in-Some.partner c.requires.paired c.requires.told c.loop-at.invariant l
    (ap (λ (o : OpenCall). o.partner) (sym own) ∙ c.in-Some.is) c.index_of.ensures.within c.index_of.ensures.number in
    record { at = l; from = can.from; apart = can.apart; first = can.first; finished = can.finished; told = can.told; none = can.none }

pub begin_second_phase-requires-clause-first : goal.begin_second_phase-requires-clause-first
begin_second_phase-requires-clause-first c =
    let now = c.loop-at.calls in
    let k = c.loop-at.at in
    let l : k < length now = omega (arith, c.loop-at-test.true, c.loop-at.invariant.long) in
    let own : c.deref.result.now ≡ open_at now k = c.deref.ensures ∙ at_read now k _ l in
    let here : c.deref_mut.result.now ≡ open_at now k = c.deref_mut.ensures.value ∙ at_read now k _ l in
    ap (λ (o : OpenCall). o.job.phase) here
    ∙ (next_alone c.args.calls.now now k c.requires.told c.loop-at.invariant l (ap (λ (o : OpenCall). o.partner) (sym own) ∙ c.in-None.is)).0

pub begin_second_phase-requires-clause-finished : goal.begin_second_phase-requires-clause-finished
begin_second_phase-requires-clause-finished c =
    let now = c.loop-at.calls in
    let k = c.loop-at.at in
    let l : k < length now = omega (arith, c.loop-at-test.true, c.loop-at.invariant.long) in
    let own : c.deref.result.now ≡ open_at now k = c.deref.ensures ∙ at_read now k _ l in
    let here : c.deref_mut.result.now ≡ open_at now k = c.deref_mut.ensures.value ∙ at_read now k _ l in
    ap (λ (o : OpenCall). periods_left o.job) here
    ∙ (next_alone c.args.calls.now now k c.requires.told c.loop-at.invariant l (ap (λ (o : OpenCall). o.partner) (sym own) ∙ c.in-None.is)).1

pub begin_second_phase-requires-clause-alone : goal.begin_second_phase-requires-clause-alone
begin_second_phase-requires-clause-alone c =
    let now = c.loop-at.calls in
    let k = c.loop-at.at in
    let l : k < length now = omega (arith, c.loop-at-test.true, c.loop-at.invariant.long) in
    let own : c.deref.result.now ≡ open_at now k = c.deref.ensures ∙ at_read now k _ l in
    let here : c.deref_mut.result.now ≡ open_at now k = c.deref_mut.ensures.value ∙ at_read now k _ l in
    ap (λ (o : OpenCall). o.job.bridge_end) here
    ∙ (next_alone c.args.calls.now now k c.requires.told c.loop-at.invariant l (ap (λ (o : OpenCall). o.partner) (sym own) ∙ c.in-None.is)).2

pub loop-at-preserved : goal.loop-at-preserved
loop-at-preserved c =
    let before = c.args.calls.now in
    let now = c.loop-at.calls in
    let k = c.loop-at.at in
    let inv = c.loop-at.invariant in
    let l : k < length now = omega (arith, c.loop-at-test.true, inv.long) in
    let own : c.deref.result.now ≡ open_at now k = c.deref.ensures ∙ at_read now k _ l in
    let partner = ap (λ (o : OpenCall). o.partner) (sym own) in
    elim c.match-deref.branch [
      | in-Some w ↦
          let met : AreMet before w.meet.new.calls (k + 1) =
          changed_next (λ i o. met_beside (opens_in before) o o.partner) before now w.meet.new.calls k inv
          (next_heard before now c.args.live.now k w.index_of.result w.in-Some.partner _ c.requires.paired inv (partner ∙ w.in-Some.is)
          w.index_of.ensures.within w.index_of.ensures.number w.meet.ensures.heard)
          w.meet.ensures.others w.meet.ensures.length in
          subst (λ (bs : List (Box OpenCall)). AreMet before bs (k + 1)) (sym w.calls-is) met
      | in-None w ↦
          let here : w.deref_mut.result.now ≡ open_at now k = w.deref_mut.ensures.value ∙ at_read now k _ l in
          let down = w.begin_second_phase.ensures ∙ ap (λ (o : OpenCall). with_job o (turn_down o.job)) here
          ∙ sym (met_alone (opens_in before) (open_at now k) (open_at now k).partner (partner ∙ w.in-None.is)) in
          subst (λ (bs : List (Box OpenCall)). AreMet before bs (k + 1)) (sym w.calls-is)
          (changed_next (λ i o. met_beside (opens_in before) o o.partner) before now _ k inv (at_set now k _ l ∙ down) (λ j ne. at_other now k j _ ne)
          (length-set now k _))
    ]

pub returns : goal.returns
returns c =
    let before = c.args.calls.now in
    changed_all (λ k o. met_beside (opens_in before) o o.partner) (λ o. met_beside (opens_in before) o o.partner) before c.loop-at.calls c.loop-at.at
    c.loop-at.invariant (omega (arith, c.loop-at-test.false)) (λ k l. refl)
