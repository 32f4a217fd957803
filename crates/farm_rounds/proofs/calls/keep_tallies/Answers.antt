use Rattle.std.proofs.Common.{◌≡◌, ◌<◌, sym, ap, ◌∙◌, subst, List, length, arith}
use Rattle.std.specs.Global.{Box}
use Rattle.std.proofs.lemmas.List.{length-set, get_or-set_other}
use Rattle.std.proofs.lemmas.Grind.{get_or-set_at}
use Rattle.std.proofs.lemmas.List.Elements.{All-get_or}
use Rattle.call_leg.specs.Stands.{Stands}
use Rattle.call_pair.specs.Phases.{leg_in}
use Rattle.farm_rounds.specs.declared.open.OpenCall.{OpenCall}
use Rattle.farm_rounds.specs.declared.tally.Tally.{Tally}
use Rattle.farm_rounds.specs.Memory.{no_tally, tally_in}
use Rattle.farm_rounds.specs.Opens.{opens_in, goes_on_open}
use Rattle.farm_rounds.specs.Opened.{no_open, open_at}
use Rattle.farm_rounds.proofs.Places.Boxes.{at_read, opens_long}
use Rattle.farm_rounds.proofs.Drain.Tallies.{tally_more, tally_on, tally_ended}
use Rattle.farm_rounds.proofs.calls.keep_tallies.Goals as goal
use Rattle.farm_rounds.proofs.calls.keep_tallies.Goals.{then-not-goes_on, else-not-goes_on}

pub loop-call-preserved : goal.loop-call-preserved
loop-call-preserved c =
    let calls = c.args.calls.now in
    let k = c.loop-call.call-index in
    let l = c.loop-call-test.true in
    let inv = c.loop-call.invariant in
    let before = c.args.tallies.now in
    let was = c.loop-call.tallies in
    let now = c.if-not-goes_on.tallies in
    let o = open_at calls k in
    let item : c.call-item.result.value ≡ o = ap (λ (b : Box OpenCall). b.value) c.call-item.is ∙ at_read calls k c.call-item.result l in
    let goes : c.goes_on.result ≡ goes_on_open o = c.goes_on.ensures ∙ ap goes_on_open (c.deref.ensures ∙ item) in
    elim c.if-not-goes_on.branch [
      | then-not-goes_on w ↦
          let at : w.call.result ≡ o.job.io.call = w.call.ensures.value ∙ ap (λ (x : OpenCall). x.lines.call) (w.deref-then-not-goes_on-2.ensures ∙ item)
          ∙ All-get_or (λ x. x.lines.call ≡ x.job.io.call) (opens_in calls) k no_open (omega (arith, l, opens_long calls)) c.requires.places in
          let within : w.call.result < length was = omega (arith, w.call.ensures.number.1, inv.number) in
          record {
            kept = λ n. tally_more calls k n c.call-item.result (tally_in before n) (tally_in was n) (tally_in now n) c.requires.rising l (inv.kept n)
                (λ ne. ap (λ (ts : List Tally). tally_in ts n) w.tallies-is
                ∙ get_or-set_other was w.call.result n w.tally.result no_tally (λ e. ne (sym (e ∙ at))))
                (λ e same. tally_ended o (tally_in before n) (tally_in now n) (sym goes ∙ w.if-not-goes_on.true) (λ who ts set stands.
                ap (λ (ts : List Tally). tally_in ts n) w.tallies-is
                ∙ get_or-set_at was w.call.result n w.tally.result no_tally (sym (at ∙ e)) within
                ∙ w.tally.ensures who ts set
                (subst (λ (x : OpenCall). Stands who ts set (leg_in x.job)) (sym (w.deref-then-not-goes_on.ensures ∙ item)) stands)));
            number = ap length w.tallies-is ∙ length-set was w.call.result w.tally.result ∙ inv.number;
          }
      | else-not-goes_on w ↦ record {
        kept = λ n. tally_more calls k n c.call-item.result (tally_in before n) (tally_in was n) (tally_in now n) c.requires.rising l (inv.kept n)
            (λ ne. ap (λ (ts : List Tally). tally_in ts n) w.tallies-is)
            (λ e same. tally_on o (tally_in before n) (tally_in now n) (sym goes ∙ w.if-not-goes_on.false)
            (ap (λ (ts : List Tally). tally_in ts n) w.tallies-is ∙ same));
        number = ap length w.tallies-is ∙ inv.number;
      }
    ]
