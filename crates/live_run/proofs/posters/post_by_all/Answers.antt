use Rattle.std.proofs.Common.{◌≡◌, length, ap, ◌∙◌, arith}
use Rattle.std.specs.Prelude.{vec_items}
use Rattle.std.proofs.lemmas.List.{length-map}
use Rattle.live_run.specs.Posters.{poster_of}
use Rattle.live_run.proofs.Callers.{all_ready, posters_back}
use Rattle.live_run.proofs.posters.post_by_all.Goals as goal

pub run_posters-requires-clause-some : goal.run_posters-requires-clause-some
run_posters-requires-clause-some g c κs within =
    omega (
      arith,
      ap length (c.as_mut_slice.ensures.value ∙ c.in_ok-posters.ensures),
      length-map c.args.callers.items poster_of,
      c.requires.callers.count,
      c.requires.size.some_callers,
    )

pub run_posters-requires-clause-calls : goal.run_posters-requires-clause-calls
run_posters-requires-clause-calls g c κs within = c.requires.calls

pub run_posters-requires-clause-ready : goal.run_posters-requires-clause-ready
run_posters-requires-clause-ready g c κs within =
    let d = c.args.shared.now.drill in
    all_ready d c.args.shared.now.live.now.inbox c.args.shared.now.live.now.slots.items c.args.callers.items c.in_ok-posters.posters.items
    c.as_mut_slice.result.now c.in_ok-posters.ensures c.as_mut_slice.ensures.value c.requires.callers

pub returns : goal.returns
returns g c =
    let d = c.args.shared.now.drill in
    let lent = c.as_mut_slice.result.now in
    let count : length lent ≡ d.callers = omega
    (arith, ap length (c.as_mut_slice.ensures.value ∙ c.in_ok-posters.ensures), length-map c.args.callers.items poster_of, c.requires.callers.count) in
    let ready = all_ready d c.args.shared.now.live.now.inbox c.args.shared.now.live.now.slots.items c.args.callers.items c.in_ok-posters.posters.items lent
    c.in_ok-posters.ensures c.as_mut_slice.ensures.value c.requires.callers in
    posters_back d c.args.shared.now.live.now.inbox c.args.shared.now.live.now.slots.items vec_items c.callers_of.result lent
    c.run_posters.new.posters c.in_ok-posters.posters.items c.in_ok-posters.posters.len
    (omega (arith, c.in_ok-posters.posters.ok.0)) c.as_mut_slice.ensures.value c.run_posters.auto.posters count ready c.run_posters.ensures
    c.callers_of.ensures.callers c.callers_of.ensures.done
