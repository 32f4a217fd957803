use Rattle.std.proofs.Common.{◌≡◌, refl, ◌<◌, ◌+◌, sym, ap, ◌∙◌, subst, List, length, arith}
use Rattle.std.proofs.lemmas.List.{length-set}
use Rattle.std.proofs.lemmas.List.Elements.{All-get_or}
use Rattle.round_lines.specs.Portions.{PortionMemory, Fills}
use Rattle.round_lines.specs.Rounds.{Each, KeepsBut, IsIncoming, portion_at}
use Rattle.round_lines.proofs.Each.{SameFrom, each_more, keeps_more, same_from_more, still_rising}
use Rattle.farm_rounds.specs.Opens.{opens_in, portions_of, portion_of_open, same_portion}
use Rattle.farm_rounds.specs.Opened.{HasBuffers, no_open, open_at}
use Rattle.farm_rounds.proofs.Places.Boxes.{at_read, at_other, portion_read, portions_set, portions_long, opens_long, sames_set}
use Rattle.farm_rounds.proofs.calls.fill_all.Goals as goal

pub fill-requires : goal.fill-requires
fill-requires g c =
    let now = c.loop-call.calls in
    let i = c.loop-call.call-index in
    let inv = c.loop-call.invariant in
    let l : i < length now = omega (arith, c.loop-call-test.true, inv.long) in
    let own : c.deref_mut.result.now ≡ open_at c.args.calls.now i = c.deref_mut.ensures.value ∙ at_read now i _ l ∙ inv.left i (omega arith) in
    subst HasBuffers (sym own)
    (All-get_or HasBuffers (opens_in c.args.calls.now) i no_open (omega (arith, c.loop-call-test.true, opens_long c.args.calls.now)) c.requires.fits)

pub loop-call-init : goal.loop-call-init
loop-call-init g c = record {
  fills = λ k l. absurd (omega arith);
  others = λ d side h. refl;
  same = (refl, λ k l. refl);
  kept = refl;
  left = λ k l. refl;
  long = refl;
}

pub loop-call-preserved : goal.loop-call-preserved
loop-call-preserved g c =
    let now = c.loop-call.calls in
    let i = c.loop-call.call-index in
    let inv = c.loop-call.invariant in
    let ss = portions_of c.args.calls.now in
    let ts = portions_of now in
    let a = g.T.Trunk.lines c.args.trunk.now in
    let b = g.T.Trunk.lines c.loop-call.trunk in
    let d = g.T.Trunk.lines c.fill.new.trunk in
    let l : i < length now = omega (arith, c.loop-call-test.true, inv.long) in
    let own : c.deref_mut.result.now ≡ open_at now i = c.deref_mut.ensures.value ∙ at_read now i _ l in
    let is : portion_of_open c.deref_mut.result.now ≡ portion_at ts i = ap portion_of_open own ∙ portion_read now i l in
    let inside : i < length ss = omega (arith, c.loop-call-test.true, portions_long c.args.calls.now) in
    let t = portion_of_open c.fill.new.self in
    let stays = subst (λ (s : PortionMemory). KeepsBut IsIncoming b d s.lines.call) is c.fill.ensures.others in
    let new = subst (λ (s : PortionMemory). Fills (b s.lines.call) (d s.lines.call) s t) is c.fill.ensures.fills in
    let set = sym (portions_set now i _) in
    record {
      fills = subst (λ (us : List PortionMemory). Each Fills a d ss us (i + 1)) set
          (each_more IsIncoming Fills a b d ss ts i t c.requires.rising inv.same inside inv.fills inv.others new stays);
      others = keeps_more IsIncoming a b d ss ts i inv.same inv.others stays;
      same = subst (λ (us : List PortionMemory). SameFrom ss us (i + 1)) set (same_from_more ss ts i t inv.same);
      kept = sames_set now i _ l (c.fill.ensures.kept ∙ ap same_portion own) ∙ inv.kept;
      left = λ k more. at_other now i k _ (λ e. absurd (omega (arith, more, e))) ∙ inv.left k (omega (arith, more));
      long = length-set now i _ ∙ inv.long;
    }

pub returns-clause-rising : goal.returns-clause-rising
returns-clause-rising g c =
    let inv = c.loop-call.invariant in
    still_rising (portions_of c.args.calls.now) (portions_of c.loop-call.calls) c.requires.rising inv.same.0
    (λ k less. ap (λ (s : PortionMemory). s.lines.call) (inv.fills k (omega (arith, less, portions_long c.args.calls.now, c.loop-call-test.false))).kept)
