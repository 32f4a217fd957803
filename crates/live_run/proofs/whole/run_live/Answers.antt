use Rattle.std.proofs.Common.{◌≡◌, ◌<◌, ◌-◌, ℕ, List, set, get_or, length, reverse, string_bytes, sym, ap, ◌∙◌, subst, arith}
use Rattle.std.proofs.Math.ListN.{length-set}
use Rattle.std.specs.List.{range_with_len, flat_map}
use Rattle.farm_live.specs.declared.live.Closed.{Closed}
use Rattle.farm_live.specs.Live.{AreCallers}
use Rattle.farm_live.specs.Closing.{AreClosed}
use Rattle.live_run.specs.Posts.{SawAll}
use Rattle.live_run.specs.Text.{closed_line, live_line, last_line}
use Rattle.live_run.proofs.Callers.{new_posted, first_still, all_seated, at_first, ending, text_is}
use Rattle.live_run.proofs.Lines.{lines_are}
use Rattle.live_run.proofs.whole.run_live.Goals as goal

pub post_by_all-requires-clause-callers : goal.post_by_all-requires-clause-callers
post_by_all-requires-clause-callers g c κs within =
    let d = c.args.drill.now in
    let live = c.in_ok-live.live in
    let callers = c.in_ok-live.callers.items in
    let made = c.in_ok-live.ensures in
    new_posted d live.inbox live.slots.items callers c.requires.some_calls made.calls.0
    (subst (λ (n : ℕ). AreCallers n d.callers live.slots.items callers) (sym made.calls.1) made.callers)

pub work_rest-requires-clause-size : goal.work_rest-requires-clause-size
work_rest-requires-clause-size g c = c.requires

pub work_rest-requires-clause-calls : goal.work_rest-requires-clause-calls
work_rest-requires-clause-calls g c = c.in_ok-live.ensures.calls.0

pub close-closed-requires-clause-some : goal.close-closed-requires-clause-some
close-closed-requires-clause-some g c =
    omega (arith, length-set c.in_ok-callers.callers.items 0 c.work_rest.new.caller, c.in_ok-callers.ensures.count, c.requires.some_callers)

pub close-closed-requires-clause-farm : goal.close-closed-requires-clause-farm
close-closed-requires-clause-farm g c =
    let d = c.args.drill.now in
    let live = c.in_ok-live.live in
    let callers = c.in_ok-callers.callers.items in
    let first = c.work_rest.new.caller in
    all_seated d live.inbox live.slots.items d.periods (set callers 0 first)
    (first_still d live.inbox live.slots.items d.periods callers c.index_mut.result.now first c.requires.some_callers
    c.index_mut.ensures.value c.in_ok-callers.ensures
    c.work_rest.ensures.farm (c.work_rest.ensures.posted d.periods))

pub returns : goal.returns
returns g c =
    let d = c.args.drill.now in
    let live = c.in_ok-live.live in
    let slots = live.slots.items in
    let callers = c.in_ok-callers.callers.items in
    let first = c.work_rest.new.caller in
    let all = set callers 0 first in
    let closed = c.close-closed.result.items in
    let count : length slots ≡ d.calls = c.in_ok-live.ensures.calls.0 in
    let have = first_still d live.inbox slots d.periods callers c.index_mut.result.now first c.requires.some_callers
    c.index_mut.ensures.value c.in_ok-callers.ensures
    c.work_rest.ensures.farm (c.work_rest.ensures.posted d.periods) in
    let some : 0 < length callers = omega (arith, c.in_ok-callers.ensures.count, c.requires.some_callers) in
    let saw : SawAll d.callers (d.periods - 1) d.calls (get_or all 0 first) =
    subst (SawAll d.callers (d.periods - 1) d.calls) (sym (at_first callers first some)) c.in_ok-work_rest.ensures.saw in
    let lines = lines_are (record { out = c.legal_histories_are_whole_calls.ensures.out; down = c.legal_histories_are_whole_calls.ensures.down })
    d.seed d.calls d.callers d.periods all first closed
    (λ k h. ending d live.inbox slots d.periods all first k c.requires.some_callers c.requires.callers c.requires.some_periods count have
    saw h)
    (subst (λ (n : ℕ). AreClosed n (reverse all) closed) count c.close-closed.ensures) in
    text_is string_bytes c.text_of.result (flat_map closed_line c.as_slice.result.now) (flat_map (live_line d.seed d.periods) (range_with_len 1 d.calls))
    (last_line d.periods d.calls)
    (ap (λ (xs : List Closed). flat_map closed_line xs) c.as_slice.ensures.value ∙ lines) c.text_of.ensures
