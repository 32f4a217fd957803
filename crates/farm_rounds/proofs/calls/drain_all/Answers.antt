use Rattle.std.proofs.Common.{◌≡◌, refl, ◌<◌, ◌+◌, sym, ap, ◌∙◌, subst, List, length, arith}
use Rattle.std.proofs.lemmas.List.{length-set}
use Rattle.std.proofs.lemmas.List.Elements.{All-get_or}
use Rattle.round_lines.specs.Portions.{PortionMemory, Drains}
use Rattle.round_lines.specs.Rounds.{Each, KeepsBut, IsOutgoing, portion_at}
use Rattle.round_lines.proofs.Each.{SameFrom, each_more, keeps_more, same_from_more}
use Rattle.farm_rounds.specs.Opens.{opens_in, portions_of, portion_of_open, same_call}
use Rattle.farm_rounds.specs.Opened.{HasBuffers, no_open, open_at}
use Rattle.farm_rounds.proofs.Places.Boxes.{at_read, at_other, portion_read, portions_set, portions_long, opens_long}
use Rattle.farm_rounds.proofs.Drain.Kept.{drained_same, same_calls_set}
use Rattle.farm_rounds.proofs.calls.drain_all.Goals as goal

pub drain-requires : goal.drain-requires
drain-requires g c =
    let now = c.loop-call.calls in
    let i = c.loop-call.call-index in
    let inv = c.loop-call.invariant in
    let l : i < length now = omega (arith, c.loop-call-test.true, inv.long) in
    let own : c.deref_mut.result.now ≡ open_at c.args.calls.now i = c.deref_mut.ensures.value ∙ at_read now i _ l ∙ inv.left i (omega arith) in
    subst HasBuffers (sym own)
    (All-get_or HasBuffers (opens_in c.args.calls.now) i no_open (omega (arith, c.loop-call-test.true, opens_long c.args.calls.now)) c.requires.fits)

pub loop-call-init : goal.loop-call-init
loop-call-init g c = record {
  drains = λ k l. absurd (omega arith);
  others = λ d side h. refl;
  same = (refl, λ k l. refl);
  kept = refl;
  left = λ k l. refl;
  long = refl;
}

pub loop-call-preserved : goal.loop-call-preserved
loop-call-preserved g c =
    let now = c.loop-call.calls in
    let i = c.loop-call.call-index in
    let inv = c.loop-call.invariant in
    let ss = portions_of c.args.calls.now in
    let ts = portions_of now in
    let a = g.T.Trunk.lines c.args.trunk.now in
    let b = g.T.Trunk.lines c.loop-call.trunk in
    let d = g.T.Trunk.lines c.drain.new.trunk in
    let l : i < length now = omega (arith, c.loop-call-test.true, inv.long) in
    let own : c.deref_mut.result.now ≡ open_at now i = c.deref_mut.ensures.value ∙ at_read now i _ l in
    let is : portion_of_open c.deref_mut.result.now ≡ portion_at ts i = ap portion_of_open own ∙ portion_read now i l in
    let inside : i < length ss = omega (arith, c.loop-call-test.true, portions_long c.args.calls.now) in
    let t = portion_of_open c.drain.new.self in
    let stays = subst (λ (s : PortionMemory). KeepsBut IsOutgoing b d s.lines.call) is c.drain.ensures.others in
    let new = subst (λ (s : PortionMemory). Drains (b s.lines.call) (d s.lines.call) s t) is c.drain.ensures.drains in
    let set = sym (portions_set now i _) in
    let kept = drained_same _ _ _ _ c.drain.ensures.drains c.drain.ensures.job c.drain.ensures.partner in
    record {
      drains = subst (λ (us : List PortionMemory). Each Drains a d ss us (i + 1)) set
          (each_more IsOutgoing Drains a b d ss ts i t c.requires.rising inv.same inside inv.drains inv.others new stays);
      others = keeps_more IsOutgoing a b d ss ts i inv.same inv.others stays;
      same = subst (λ (us : List PortionMemory). SameFrom ss us (i + 1)) set (same_from_more ss ts i t inv.same);
      kept = same_calls_set now i _ l (kept ∙ ap same_call own) ∙ inv.kept;
      left = λ k more. at_other now i k _ (λ e. absurd (omega (arith, more, e))) ∙ inv.left k (omega (arith, more));
      long = length-set now i _ ∙ inv.long;
    }
