use Rattle.std.proofs.Common.{◌≡◌, ◌<◌, sym, ap, ◌∙◌, subst, List, length, get_or, arith}
use Rattle.std.specs.Global.{Box}
use Rattle.std.proofs.lemmas.List.Elements.{All-get_or, All-weaker}
use Rattle.round_lines.specs.Portions.{PortionMemory}
use Rattle.round_lines.specs.Rounds.{Rising, portion_at}
use Rattle.farm_rounds.specs.declared.open.OpenCall.{OpenCall}
use Rattle.farm_rounds.specs.Numbers.{IsRising}
use Rattle.farm_rounds.specs.Opens.{opens_in, portions_of, portion_of_open}
use Rattle.farm_rounds.specs.Opened.{HasBuffers, no_open, open_at}
use Rattle.farm_rounds.specs.Sums.{AddsPortion, sum_in}
use Rattle.farm_rounds.specs.Working.{WorkedMemory, IsWorkedCall}
use Rattle.farm_rounds.proofs.Places.Boxes.{at_read, opens_long, portion_read, portions_long}
use Rattle.farm_rounds.proofs.Work.Portions.{portions_rising}
use Rattle.farm_rounds.proofs.Drain.Sums.{added_more}
use Rattle.farm_rounds.proofs.worked.Worked.add.Goals as goal

pub add_call-requires : goal.add_call-requires
add_call-requires c =
    let calls = c.self.inside.calls.open.items in
    let n = c.loop-call.call-index in
    let here = c.deref-call-items.ensures.value in
    let l : n < length calls = subst (λ (bs : List (Box OpenCall)). n < length bs) here c.loop-call-test.true in
    let own : c.deref.result.now ≡ open_at calls n = c.deref.ensures ∙ ap (λ (b : Box OpenCall). b.value) c.call-item.is
    ∙ ap (λ (bs : List (Box OpenCall)). (get_or bs n c.call-item.result).value) here ∙ at_read calls n c.call-item.result l in
    let sound = All-get_or (IsWorkedCall c.self.inside.calls.ended) (opens_in calls) n no_open (omega (arith, l, opens_long calls)) c.self.invariant.0.each in
    subst HasBuffers (sym own) sound.fits

pub loop-call-preserved : goal.loop-call-preserved
loop-call-preserved c =
    let calls = c.self.inside.calls.open.items in
    let n = c.loop-call.call-index in
    let portions = c.args.self.now.portions in
    let round = c.self.invariant.0 in
    let here = c.deref-call-items.ensures.value in
    let l : n < length calls = subst (λ (bs : List (Box OpenCall)). n < length bs) here c.loop-call-test.true in
    let own : c.deref.result.now ≡ open_at calls n = c.deref.ensures ∙ ap (λ (b : Box OpenCall). b.value) c.call-item.is
    ∙ ap (λ (bs : List (Box OpenCall)). (get_or bs n c.call-item.result).value) here ∙ at_read calls n c.call-item.result l in
    let are : portions_of calls ≡ portions = ap (λ (r : WorkedMemory). r.portions) c.self.view_is in
    let rising : Rising portions = subst Rising are (portions_rising (opens_in calls) (subst IsRising round.listed round.rising)
    (All-weaker (IsWorkedCall c.self.inside.calls.ended) (λ o. o.lines.call ≡ o.job.io.call) (λ o w. w.lines) (opens_in calls) round.each)) in
    let within : n < length portions = subst (λ (ss : List PortionMemory). n < length ss) are (omega (arith, l, portions_long calls)) in
    let portion : portion_of_open c.deref.result.now ≡ portion_at portions n = ap portion_of_open own ∙ portion_read calls n l ∙ ap (λ (ss : List PortionMemory). portion_at ss n) are in
    let new = subst (λ (s : PortionMemory). AddsPortion s (sum_in c.loop-call.sums) (sum_in c.add_call.new.self)) portion c.add_call.ensures in
    added_more n portions (sum_in c.args.sums.now) (sum_in c.loop-call.sums) (sum_in c.add_call.new.self) rising within c.loop-call.invariant new
