use Rattle.std.proofs.Common.{◌≡◌, ◌<◌, ◌≤◌, length, refl, sym, ap, ◌∙◌, subst, Some, None, Option, ℕ, arith}
use Rattle.std.proofs.lemmas.List.{length-set}
use Rattle.std.proofs.lemmas.List.Elements.{All-get_or}
use Rattle.farm_rounds.specs.declared.open.OpenCall.{OpenCall}
use Rattle.farm_rounds.specs.Opens.{opens_in, open_begun}
use Rattle.farm_rounds.specs.Opened.{ArePaired, IsReady, standing_of_open, standings, end_beside, end_with, no_open, open_at}
use Rattle.farm_rounds.proofs.Places.Boxes.{changed_next, changed_all, at_read, at_set, at_other, opens_long, standings_set}
use Rattle.farm_rounds.proofs.calls.begin_all.Goals as goal

pub bridge_end-end-requires-clause-paired : goal.bridge_end-end-requires-clause-paired
bridge_end-end-requires-clause-paired c = subst (ArePaired c.args.live.now) (sym c.loop-at.invariant.same) c.requires.paired

-- a bridge ends within the places that were planned for it
end_fits : (o : OpenCall) (ss : _) (n : ℕ) → IsReady o → n ≡ end_beside ss o → n ≤ o.lines.periods → n ≤ o.job.bridge_end
end_fits o ss n ready e within = by o.partner refl
  where
    by : (p : Option ℕ) → o.partner ≡ p → n ≤ o.job.bridge_end
    by None q = let zero : n ≡ 0 = e ∙ ap (end_with ss _) q in omega (arith, zero)
    by (Some d) q = omega (arith, within, ready.bridge d q)

pub begin-requires : goal.begin-requires
begin-requires c =
    let now = c.loop-at.calls in
    let k = c.loop-at.at in
    let inv = c.loop-at.invariant in
    let l : k < length now = omega (arith, c.loop-at-test.true, inv.changed.long) in
    let own : c.deref_mut.result.now ≡ open_at now k = c.deref_mut.ensures.value ∙ at_read now k _ l in
    let same : open_at now k ≡ open_at c.args.calls.now k = inv.changed.left k (omega arith) in
    let ready : IsReady (open_at now k) = subst IsReady (sym same)
    (All-get_or IsReady (opens_in c.args.calls.now) k no_open (omega (arith, c.loop-at-test.true, opens_long c.args.calls.now)) c.requires.ready) in
    record {
      first = ap (λ (o : OpenCall). o.job.phase) own ∙ ready.first;
      none = ap (λ (o : OpenCall). o.job.io.done) own ∙ ready.none;
      given = subst (λ (o : OpenCall). o.job.io.given ≡ o.lines.periods) (sym own) ready.given;
      end = subst (λ (o : OpenCall). c.bridge_end-end.result ≤ o.job.bridge_end) (sym own)
          (end_fits (open_at now k) (standings now) _ ready c.bridge_end-end.ensures.end c.bridge_end-end.ensures.within);
    }

pub loop-at-preserved : goal.loop-at-preserved
loop-at-preserved c =
    let now = c.loop-at.calls in
    let k = c.loop-at.at in
    let inv = c.loop-at.invariant in
    let ss = standings c.args.calls.now in
    let l : k < length now = omega (arith, c.loop-at-test.true, inv.changed.long) in
    let own : c.deref_mut.result.now ≡ open_at now k = c.deref_mut.ensures.value ∙ at_read now k _ l in
    let end : c.bridge_end-end.result ≡ end_beside ss (open_at now k) = c.bridge_end-end.ensures.end ∙ ap (λ ts. end_beside ts (open_at now k)) inv.same in
    let begun = c.begin.ensures ∙ ap (λ n. open_begun n c.deref_mut.result.now) end ∙ ap (open_begun (end_beside ss (open_at now k))) own in
    record {
      changed = changed_next (λ i o. open_begun (end_beside ss o) o) c.args.calls.now now _ k inv.changed (at_set now k _ l ∙ begun)
          (λ j ne. at_other now k j _ ne) (length-set now k _);
      same = standings_set now k _ l (ap standing_of_open begun) ∙ inv.same;
    }

pub returns : goal.returns
returns c =
    let ss = standings c.args.calls.now in
    changed_all (λ k o. open_begun (end_beside ss o) o) (λ o. open_begun (end_beside ss o) o) c.args.calls.now c.loop-at.calls c.loop-at.at
    c.loop-at.invariant.changed (omega (arith, c.loop-at-test.false)) (λ k l. refl)
