use Rattle.std.proofs.Common.{rules, ◌≡◌, sym, ap, ◌∙◌, subst, ℕ, List, ◌++◌, length, map, take, drop, arith}
use Rattle.std.specs.Prelude.{flat_map}
use Rattle.std.specs.Global.{Box}
use Rattle.std.specs.List.{All}
use Rattle.std.proofs.lemmas.List.{length-map}
use Rattle.std.specs.List.Sorted.{IsNonDecreasingBy}
use Rattle.std.proofs.lemmas.List.Sorted.{IsNonDecreasingBy-from_sort_by_key}
use Rattle.trau_io.specs.declared.line.Line.{Line}
use Rattle.trau_io.specs.Indices.{index_of_line}
use Rattle.round_lines.specs.Memory.{line_name, failed_in_round}
use Rattle.round_lines.specs.Portions.{PortionMemory}
use Rattle.farm_rounds.specs.declared.open.OpenCall.{OpenCall}
use Rattle.farm_rounds.specs.declared.tally.Tally.{Tally}
use Rattle.farm_rounds.specs.Numbers.{IsRising}
use Rattle.farm_rounds.specs.Memory.{FarmMemory, tally_in}
use Rattle.farm_rounds.specs.Opens.{opens_in, portions_of, calls_of}
use Rattle.farm_rounds.specs.Opened.{TallyKept}
use Rattle.farm_rounds.specs.Working.{WorkedMemory, GainsFailed}
use Rattle.farm_rounds.proofs.Places.Boxes.{opens_long}
use Rattle.farm_rounds.specs.RoundHistories.{KnowFailed, IsPassed}
use Rattle.farm_rounds.proofs.Drain.Farm.{own, passed, knowing, still_left}
use Rattle.farm_rounds.proofs.Places.Written.{back}
use Rattle.farm_rounds.proofs.Failed.Gained.{gained_once, failed_passed}
use Rattle.farm_rounds.proofs.worked.Worked.pass.Goals as goal

-- each call is listed
long : (c : goal.After-list_failed-arg-1) → length c.self.inside.calls.live.items ≡ length c.self.inside.calls.open.items
long c =
    let boxes = c.self.inside.calls.open.items in
    ap length c.self.invariant.0.listed ∙ length-map (opens_in boxes) (λ (o : OpenCall). o.job.io.call) ∙ opens_long boxes

pub list_failed-requires : goal.list_failed-requires
list_failed-requires c = record { room = omega (arith, c.self.invariant.2, ap length c.deref.ensures.value, long c) }

pub keep_tallies-requires-clause-rising : goal.keep_tallies-requires-clause-rising
keep_tallies-requires-clause-rising c =
    subst (λ (bs : List (Box OpenCall)). IsRising (map (λ (o : OpenCall). o.job.io.call) (opens_in bs))) (sym c.deref-2.ensures.value)
    (subst IsRising c.self.invariant.0.listed c.self.invariant.0.rising)

pub keep_tallies-requires-clause-places : goal.keep_tallies-requires-clause-places
keep_tallies-requires-clause-places c =
    subst (λ (bs : List (Box OpenCall)). All (λ (o : OpenCall). o.lines.call ≡ o.job.io.call) (opens_in bs)) (sym c.deref-2.ensures.value)
    (own _ _ _ c.self.invariant.0)

pub keep_tallies-requires-clause-number : goal.keep_tallies-requires-clause-number
keep_tallies-requires-clause-number c = ap length c.deref_mut.ensures.value ∙ c.self.invariant.1

pub keep_open-requires : goal.keep_open-requires
keep_open-requires c =
    let boxes = c.self.inside.calls.open.items in
    let each = ap length c.self.invariant.0.listed ∙ length-map (opens_in boxes) (λ (o : OpenCall). o.job.io.call) ∙ opens_long boxes in
    record { room = omega (arith, each) }

-- the tallies, as they are given on
tallies_back : (c : goal.After-drop-self-inside) →
    take c.self.inside.calls.tallies.len (c.keep_tallies.new.tallies ++ drop (length c.keep_tallies.new.tallies) c.self.inside.calls.tallies.items)
    ≡ c.keep_tallies.new.tallies
tallies_back c =
    let here = ap length c.deref_mut.ensures.value in
    back c.self.inside.calls.tallies.len c.keep_tallies.new.tallies c.self.inside.calls.tallies.items (omega (arith, c.deref_mut.ensures.len, here))
    (c.keep_tallies.ensures.number ∙ sym c.self.invariant.1)

-- the farm after the round, with these tallies
abbrev farm_with : goal.After-drop-self-inside → List Tally → FarmMemory
farm_with c keeps = record {
  calls = calls_of c.keep_open.new.calls.items;
  live = c.keep_open.new.live.items;
  tallies = keeps;
  failed = c.sort_unstable_by_key.new.self.items;
  ended = c.self.inside.calls.ended;
}

whole : (c : goal.After-drop-self-inside) → IsPassed c.args.self (farm_with c c.keep_tallies.new.tallies)
whole c =
    let i = c.self.inside.calls in
    let keeps = c.keep_tallies.new.tallies in
    let first =
    subst (λ (bs : List (Box OpenCall)). (d : ℕ) → TallyKept (opens_in bs) d (tally_in c.deref_mut.result.now d) (tally_in keeps d))
    c.deref-2.ensures.value c.keep_tallies.ensures.kept in
    let kept =
    subst (λ (ts : List Tally). (d : ℕ) → TallyKept (opens_in i.open.items) d (tally_in ts d) (tally_in keeps d)) c.deref_mut.ensures.value first in
    subst (λ (r : WorkedMemory). IsPassed r (farm_with c keeps)) c.self.view_is
    (passed i.ended i.live.items (opens_in i.open.items) i.tallies.items keeps i.failed.items c.sort_unstable_by_key.new.self.items
    c.self.inside.ends.items c.keep_open.new.live.items (opens_in c.keep_open.new.calls.items) c.self.invariant.0 c.keep_open.ensures.live
    c.keep_open.ensures.calls kept)

-- the lines that are listed after the round
sorted : (c : goal.After-drop-self-inside) → IsNonDecreasingBy (λ (l : Line). index_of_line l.call l.side) c.sort_unstable_by_key.new.self.items
sorted c =
    IsNonDecreasingBy-from_sort_by_key (λ (l : Line). index_of_line l.call l.side) _ c.sort_unstable_by_key.ensures.sorted (λ a r q k. search rules)

gains : (c : goal.After-drop-self-inside) →
    GainsFailed c.self.inside.calls.failed.items c.sort_unstable_by_key.new.self.items (portions_of c.self.inside.calls.open.items)
gains c =
    let i = c.self.inside.calls in
    let named =
    c.list_failed.ensures
    ∙ ap (λ (bs : List (Box OpenCall)). map line_name i.failed.items ++ flat_map (λ (s : PortionMemory). failed_in_round s.lines) (portions_of bs))
    c.deref.ensures.value in
    record {
      lines = c.list_failed.new.failed.items;
      told = named;
      same = c.sort_unstable_by_key.ensures.permutation;
      order = gained_once i.ended i.live.items (opens_in i.open.items) c.self.invariant.0 i.failed.items c.self.invariant.3
          c.list_failed.new.failed.items c.sort_unstable_by_key.new.self.items named c.sort_unstable_by_key.ensures.permutation (sorted c);
    }

pub invariant_of-result : goal.invariant_of-result
invariant_of-result c =
    let i = c.self.inside.calls in (
      still_left i.ended i.live.items (opens_in i.open.items) c.keep_open.new.live.items (opens_in c.keep_open.new.calls.items) c.self.invariant.0
          c.keep_open.ensures.live c.keep_open.ensures.calls,
      ap length (tallies_back c) ∙ c.keep_tallies.ensures.number,
      failed_passed i.ended i.live.items (opens_in i.open.items) i.failed.items c.sort_unstable_by_key.new.self.items c.keep_open.new.live.items
          (opens_in c.keep_open.new.calls.items) c.self.invariant.0 c.self.invariant.3 (gains c) c.keep_open.ensures.live c.keep_open.ensures.calls,
    )

pub returns-clause-gains : goal.returns-clause-gains
returns-clause-gains c =
    let i = c.self.inside.calls in
    subst (λ (r : WorkedMemory).
    GainsFailed r.farm.failed c.sort_unstable_by_key.new.self.items r.portions × KnowFailed r.portions (calls_of c.keep_open.new.calls.items)) c.self.view_is (
      gains c,
      knowing i.ended i.live.items (opens_in i.open.items) c.keep_open.new.live.items (opens_in c.keep_open.new.calls.items) c.self.invariant.0
          c.keep_open.ensures.live c.keep_open.ensures.calls,
    )

pub returns-clause-passed : goal.returns-clause-passed
returns-clause-passed c = subst (λ (ts : List Tally). IsPassed c.args.self (farm_with c ts)) (sym (tallies_back c)) (whole c)
