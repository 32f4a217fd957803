use Rattle.std.proofs.Common.{◌≡◌, sym, ap, ◌∙◌, subst, ℕ, List, length, arith}
use Rattle.std.specs.Prelude.{map}
use Rattle.std.specs.List.{All}
use Rattle.std.specs.Global.{Box}
use Rattle.round_lines.specs.Rounds.{EndsWithin}
use Rattle.farm_rounds.specs.declared.open.OpenCall.{OpenCall}
use Rattle.farm_rounds.specs.Opens.{opens_in, calls_of, portions_of, portion_of_open}
use Rattle.farm_rounds.specs.Opened.{standing_of_open, standings, ArePaired, IsReady, OctetsFit, IsTold}
use Rattle.farm_rounds.specs.Working.{RoundMemory, IsWorkedRound}
use Rattle.farm_rounds.specs.Failed.{AreFailedBefore}
use Rattle.farm_rounds.proofs.Plan.{live_long}
use Rattle.farm_rounds.proofs.Places.Boxes.{opens_long}
use Rattle.farm_rounds.proofs.Work.Halves.{all_told, all_done, paired, ready, told_standings, told_ready}
use Rattle.farm_rounds.proofs.Work.Histories.{ends_within, worked_round}
use Rattle.farm_rounds.proofs.Work.Outcome.{first_run, second_run, told_long, done_long, number_after, places_after, calls_after, rising_after, partners_after}
use Rattle.farm_rounds.proofs.Work.Outcome.{legs_after, buffers_after, stands_after, octets_after}
use Rattle.farm_rounds.proofs.Failed.Known.{known_done}
use Rattle.farm_rounds.proofs.round.Round.work.Given as given
use Rattle.farm_rounds.proofs.round.Round.work.Goals as goal

pub begin_all-requires-clause-paired : goal.begin_all-requires-clause-paired
begin_all-requires-clause-paired g c =
    let i = c.self.inside.calls in
    subst (λ (bs : List (Box OpenCall)). ArePaired c.deref.result.now (standings bs)) (sym c.deref_mut.ensures.value)
    (subst (λ (ns : List ℕ). ArePaired ns (standings i.open.items)) (sym c.deref.ensures.value)
    (paired c.self.inside.start i.ended i.live.items (opens_in i.open.items) c.self.invariant.0))

pub begin_all-requires-clause-ready : goal.begin_all-requires-clause-ready
begin_all-requires-clause-ready g c =
    let i = c.self.inside.calls in
    subst (λ (bs : List (Box OpenCall)). All IsReady (opens_in bs)) (sym c.deref_mut.ensures.value)
    (ready c.self.inside.start i.ended i.live.items (opens_in i.open.items) c.self.invariant.0)

pub meet_all-requires-clause-paired : goal.meet_all-requires-clause-paired
meet_all-requires-clause-paired g c =
    let i = c.self.inside.calls in
    let told : opens_in c.run_pool-halfway.result.items ≡ all_told (opens_in i.open.items) =
    first_run i.open.len i.open.items c.deref_mut.result.now c.begin_all.new.calls c.run_pool-halfway.result.items (omega (arith, i.open.ok.0))
    c.deref_mut.ensures.value c.begin_all.ensures c.run_pool-halfway.ensures in
    let was = told_standings c.self.inside.start i.ended i.live.items (opens_in i.open.items) c.self.invariant.0 in
    subst (λ (ns : List ℕ). ArePaired ns (standings c.deref_mut-2.result.now)) (sym c.deref-2.ensures.value)
    (subst (λ ss. ArePaired i.live.items ss) (sym (ap standings c.deref_mut-2.ensures.value ∙ ap (map standing_of_open) told ∙ was))
    (paired c.self.inside.start i.ended i.live.items (opens_in i.open.items) c.self.invariant.0))

pub meet_all-requires-clause-told : goal.meet_all-requires-clause-told
meet_all-requires-clause-told g c =
    let i = c.self.inside.calls in
    let told : opens_in c.run_pool-halfway.result.items ≡ all_told (opens_in i.open.items) =
    first_run i.open.len i.open.items c.deref_mut.result.now c.begin_all.new.calls c.run_pool-halfway.result.items (omega (arith, i.open.ok.0))
    c.deref_mut.ensures.value c.begin_all.ensures c.run_pool-halfway.ensures in
    subst (λ (os : List OpenCall). All (IsTold os) os) (sym (ap opens_in c.deref_mut-2.ensures.value ∙ told))
    (told_ready c.self.inside.start i.ended i.live.items (opens_in i.open.items) c.self.invariant.0)

pub run_pool-halfway-requires-clause-room : goal.run_pool-halfway-requires-clause-room
run_pool-halfway-requires-clause-room g c κs within =
    let i = c.self.inside.calls in
    omega (
      arith,
      i.open.ok.0,
      opens_long i.open.items,
      live_long c.self.inside.start i.live.items (opens_in i.open.items) c.self.invariant.0.opened,
      c.self.invariant.3,
    )

pub run_pool-open-requires-clause-room : goal.run_pool-open-requires-clause-room
run_pool-open-requires-clause-room g c κs within =
    let i = c.self.inside.calls in
    let told : opens_in c.run_pool-halfway.result.items ≡ all_told (opens_in i.open.items) =
    first_run i.open.len i.open.items c.deref_mut.result.now c.begin_all.new.calls c.run_pool-halfway.result.items (omega (arith, i.open.ok.0))
    c.deref_mut.ensures.value c.begin_all.ensures c.run_pool-halfway.ensures in
    omega (
      arith,
      c.run_pool-halfway.result.ok.0,
      told_long i.open.items c.run_pool-halfway.result.items told,
      opens_long i.open.items,
      live_long c.self.inside.start i.live.items (opens_in i.open.items) c.self.invariant.0.opened,
      c.self.invariant.4,
    )

pub list_ends-requires-clause-within : goal.list_ends-requires-clause-within
list_ends-requires-clause-within g c =
    let i = c.self.inside.calls in
    let told : opens_in c.run_pool-halfway.result.items ≡ all_told (opens_in i.open.items) =
    first_run i.open.len i.open.items c.deref_mut.result.now c.begin_all.new.calls c.run_pool-halfway.result.items (omega (arith, i.open.ok.0))
    c.deref_mut.ensures.value c.begin_all.ensures c.run_pool-halfway.ensures in
    let done : opens_in c.run_pool-open.result.items ≡ all_done (opens_in i.open.items) =
    second_run c.run_pool-halfway.result.len (opens_in i.open.items) c.run_pool-halfway.result.items c.deref_mut-2.result.now c.meet_all.new.calls
    c.run_pool-open.result.items (omega (arith, c.run_pool-halfway.result.ok.0)) c.deref_mut-2.ensures.value told c.meet_all.ensures c.run_pool-open.ensures in
    subst (λ (bs : List (Box OpenCall)). EndsWithin c.self.inside.start (portions_of bs)) (sym c.deref-3.ensures.value)
    (subst (λ (os : List OpenCall). EndsWithin c.self.inside.start (map portion_of_open os)) (sym done)
    (ends_within c.self.inside.start i.ended i.live.items (opens_in i.open.items) c.self.invariant.0))

pub list_ends-requires-clause-room : goal.list_ends-requires-clause-room
list_ends-requires-clause-room g c =
    let i = c.self.inside.calls in
    let told : opens_in c.run_pool-halfway.result.items ≡ all_told (opens_in i.open.items) =
    first_run i.open.len i.open.items c.deref_mut.result.now c.begin_all.new.calls c.run_pool-halfway.result.items (omega (arith, i.open.ok.0))
    c.deref_mut.ensures.value c.begin_all.ensures c.run_pool-halfway.ensures in
    let done : opens_in c.run_pool-open.result.items ≡ all_done (opens_in i.open.items) =
    second_run c.run_pool-halfway.result.len (opens_in i.open.items) c.run_pool-halfway.result.items c.deref_mut-2.result.now c.meet_all.new.calls
    c.run_pool-open.result.items (omega (arith, c.run_pool-halfway.result.ok.0)) c.deref_mut-2.ensures.value told c.meet_all.ensures c.run_pool-open.ensures in
    omega (
      arith,
      c.self.inside.ends.ok.0,
      ap length c.self.invariant.1,
      c.self.invariant.2,
      ap length c.deref-3.ensures.value,
      done_long i.open.items c.run_pool-open.result.items done,
      opens_long i.open.items,
      live_long c.self.inside.start i.live.items (opens_in i.open.items) c.self.invariant.0.opened,
    )

-- the calls after both phases
done : (g : given.Over) (c : goal.After-list_ends g) → opens_in c.run_pool-open.result.items ≡ all_done (opens_in c.self.inside.calls.open.items)
done g c =
    let i = c.self.inside.calls in
    let told : opens_in c.run_pool-halfway.result.items ≡ all_told (opens_in i.open.items) =
    first_run i.open.len i.open.items c.deref_mut.result.now c.begin_all.new.calls c.run_pool-halfway.result.items (omega (arith, i.open.ok.0))
    c.deref_mut.ensures.value c.begin_all.ensures c.run_pool-halfway.ensures in
    second_run c.run_pool-halfway.result.len (opens_in i.open.items) c.run_pool-halfway.result.items c.deref_mut-2.result.now c.meet_all.new.calls
    c.run_pool-open.result.items (omega (arith, c.run_pool-halfway.result.ok.0)) c.deref_mut-2.ensures.value told c.meet_all.ensures c.run_pool-open.ensures

sound : (g : given.Over) (c : goal.After-list_ends g) → All OctetsFit (opens_in c.run_pool-open.result.items)
sound g c = subst (λ (bs : List (Box OpenCall)). All OctetsFit (opens_in bs)) c.deref-3.ensures.value c.list_ends.ensures.sound

pub invariant_of-result : goal.invariant_of-result
invariant_of-result g c =
    let i = c.self.inside.calls in (
      subst (λ (os : List OpenCall). IsWorkedRound i.ended i.live.items os) (sym (done g c))
          (worked_round c.self.inside.start i.ended i.live.items (opens_in i.open.items) c.self.invariant.0
          (subst (λ (os : List OpenCall). All OctetsFit os) (done g c) (sound g c))),
      c.self.invariant.5,
      c.self.invariant.6,
      subst (λ (os : List OpenCall). AreFailedBefore i.failed.items os) (sym (done g c))
          (known_done i.failed.items (opens_in i.open.items) c.self.invariant.7),
    )

pub returns-clause-farm : goal.returns-clause-farm
returns-clause-farm g c = ap (λ (r : RoundMemory). record r.farm { calls = calls_of c.run_pool-open.result.items }) c.self.view_is

pub returns-clause-number : goal.returns-clause-number
returns-clause-number g c =
    let i = c.self.inside.calls in
    number_after c.self.inside.start i.ended i.live.items i.open.items c.run_pool-open.result.items c.self.invariant.0 (done g c) c.args.self
    (sym (ap (λ (r : RoundMemory). r.farm.calls) c.self.view_is)) (sym (ap (λ (r : RoundMemory). r.portions) c.self.view_is))

pub returns-clause-places : goal.returns-clause-places
returns-clause-places g c =
    let i = c.self.inside.calls in
    places_after c.self.inside.start i.ended i.live.items i.open.items c.run_pool-open.result.items c.self.invariant.0 (done g c) c.args.self
    (sym (ap (λ (r : RoundMemory). r.farm.calls) c.self.view_is)) (sym (ap (λ (r : RoundMemory). r.portions) c.self.view_is))

pub returns-clause-calls : goal.returns-clause-calls
returns-clause-calls g c =
    let i = c.self.inside.calls in
    calls_after c.self.inside.start i.ended i.live.items i.open.items c.run_pool-open.result.items c.self.invariant.0 (done g c) c.args.self
    (sym (ap (λ (r : RoundMemory). r.farm.calls) c.self.view_is)) (sym (ap (λ (r : RoundMemory). r.portions) c.self.view_is))

pub returns-clause-rising : goal.returns-clause-rising
returns-clause-rising g c =
    let i = c.self.inside.calls in
    rising_after c.self.inside.start i.ended i.live.items i.open.items c.run_pool-open.result.items c.self.invariant.0 (done g c) c.args.self
    (sym (ap (λ (r : RoundMemory). r.farm.calls) c.self.view_is)) (sym (ap (λ (r : RoundMemory). r.portions) c.self.view_is))

pub returns-clause-partners : goal.returns-clause-partners
returns-clause-partners g c =
    let i = c.self.inside.calls in
    partners_after c.self.inside.start i.ended i.live.items i.open.items c.run_pool-open.result.items c.self.invariant.0 (done g c) c.args.self
    (sym (ap (λ (r : RoundMemory). r.farm.calls) c.self.view_is)) (sym (ap (λ (r : RoundMemory). r.portions) c.self.view_is))

pub returns-clause-legs : goal.returns-clause-legs
returns-clause-legs g c =
    let i = c.self.inside.calls in
    legs_after c.self.inside.start i.ended i.live.items i.open.items c.run_pool-open.result.items c.self.invariant.0 (done g c) c.args.self
    (sym (ap (λ (r : RoundMemory). r.farm.calls) c.self.view_is)) (sym (ap (λ (r : RoundMemory). r.portions) c.self.view_is))

pub returns-clause-buffers : goal.returns-clause-buffers
returns-clause-buffers g c =
    let i = c.self.inside.calls in
    buffers_after c.self.inside.start i.ended i.live.items i.open.items c.run_pool-open.result.items c.self.invariant.0 (done g c) c.args.self
    (sym (ap (λ (r : RoundMemory). r.farm.calls) c.self.view_is)) (sym (ap (λ (r : RoundMemory). r.portions) c.self.view_is))

pub returns-clause-stands : goal.returns-clause-stands
returns-clause-stands g c =
    let i = c.self.inside.calls in
    stands_after c.self.inside.start i.ended i.live.items i.open.items c.run_pool-open.result.items c.self.invariant.0 (done g c) c.args.self
    (sym (ap (λ (r : RoundMemory). r.farm.calls) c.self.view_is)) (sym (ap (λ (r : RoundMemory). r.portions) c.self.view_is)) (sound g c)

pub returns-clause-octets : goal.returns-clause-octets
returns-clause-octets g c =
    let i = c.self.inside.calls in
    octets_after c.self.inside.start i.ended i.live.items i.open.items c.run_pool-open.result.items c.self.invariant.0 (done g c) c.args.self
    (sym (ap (λ (r : RoundMemory). r.farm.calls) c.self.view_is)) (sym (ap (λ (r : RoundMemory). r.portions) c.self.view_is)) (sound g c)
