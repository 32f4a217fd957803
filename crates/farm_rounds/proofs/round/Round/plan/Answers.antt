use Rattle.std.proofs.Common.{◌≡◌, ◌+◌, ◌<◌, ◌≤◌, refl, sym, ap, ◌∙◌, subst, ℕ, List, ◌++◌, length, take, drop, arith}
use Rattle.std.specs.Prelude.{map, slice_index}
use Rattle.std.proofs.lemmas.List.{length-map}
use Rattle.std.proofs.lemmas.Result.{IfOk-from_err}
use Rattle.trau_io.specs.declared.line.Line.{Line}
use Rattle.round_lines.specs.Rounds.{portion_at}
use Rattle.farm_rounds.specs.declared.open.OpenCall.{OpenCall}
use Rattle.farm_rounds.specs.Calls.{Kept, call_in}
use Rattle.farm_rounds.specs.Memory.{FarmMemory}
use Rattle.farm_rounds.specs.Opens.{opens_in, calls_of, open_planned, kept_of, portion_of_open}
use Rattle.farm_rounds.specs.RoundHistories.{portion_for}
use Rattle.farm_rounds.specs.Working.{IsRound}
use Rattle.farm_rounds.specs.Failed.{AreFailed, AreFailedBefore}
use Rattle.farm_rounds.proofs.Places.Boxes.{opens_long}
use Rattle.farm_rounds.proofs.Places.Written.{back}
use Rattle.farm_rounds.proofs.Places.Placed.{listed_long}
use Rattle.farm_rounds.specs.Numbers.{IsRising}
use Rattle.farm_rounds.proofs.Plan.{few_live, kept_all, planned, planned_portion, rising_kept}
use Rattle.farm_rounds.proofs.Failed.Known.{known_planned}
use Rattle.farm_rounds.proofs.round.Round.plan.Goals as goal

pub take_memory-requires-clause-calls : goal.take_memory-requires-clause-calls
take_memory-requires-clause-calls c =
    let i = c.farm.inside.calls in
    let few = few_live i.ended i.live.items (opens_in i.open.items) c.farm.invariant.0 in
    omega (arith, few, c.len.ensures, i.live.ok.0)

-- the calls of the round
opens : (c : goal.In_ok-ends) →
    opens_in (take c.farm.inside.calls.open.len (c.plan_all.new.calls ++ drop (length c.plan_all.new.calls) c.farm.inside.calls.open.items))
    ≡ map (open_planned c.args.periods) (opens_in c.farm.inside.calls.open.items)
opens c =
    let i = c.farm.inside.calls in
    let new = c.plan_all.new.calls in
    let is = c.in_ok-plan_all.ensures.planned ∙ ap (λ bs. map (open_planned c.args.periods) (opens_in bs)) c.deref_mut.ensures.value in
    let number : length new ≡ length i.open.items =
    sym (opens_long new) ∙ ap length is ∙ length-map (opens_in i.open.items) (open_planned c.args.periods) ∙ opens_long i.open.items in
    ap opens_in (back i.open.len new i.open.items (omega (arith, c.deref_mut.ensures.len, ap length c.deref_mut.ensures.value)) number) ∙ is

pub invariant_of-result : goal.invariant_of-result
invariant_of-result c =
    let i = c.farm.inside.calls in
    let ended = ap (λ (f : FarmMemory). f.ended) c.farm.view_is in
    let later : i.ended ≤ c.args.start = omega (arith, ended, c.requires.later) in (
      subst (λ (os : List OpenCall). IsRound c.args.start (c.args.start + c.args.periods) i.live.items os) (sym (opens c))
          (planned i.ended c.args.start c.args.periods i.live.items (opens_in i.open.items) later c.requires.last c.farm.invariant.0),
      c.in_ok-ends.ensures.none,
      omega (arith, c.in_ok-ends.ensures.ends, c.len.ensures, i.live.ok.0),
      omega (arith, c.in_ok-ends.ensures.first, c.len.ensures, i.live.ok.0),
      omega (arith, c.in_ok-ends.ensures.second, c.len.ensures, i.live.ok.0),
      c.farm.invariant.1,
      omega (arith, c.in_ok-ends.ensures.failed, c.len.ensures, i.live.ok.0),
      subst (λ (ls : List Line). AreFailedBefore ls
          (opens_in (take i.open.len (c.plan_all.new.calls ++ drop (length c.plan_all.new.calls) i.open.items)))) (sym c.take_memory.ensures.kept)
          (subst (λ (os : List OpenCall). AreFailedBefore i.failed.items os) (sym (opens c))
          (known_planned i.ended c.args.periods i.live.items (opens_in i.open.items) i.failed.items c.farm.invariant.0 c.farm.invariant.2)),
    )

pub returns-clause-start : goal.returns-clause-start
returns-clause-start c = refl

pub returns-clause-farm : goal.returns-clause-farm
returns-clause-farm c =
    let i = c.farm.inside.calls in
    let end = c.args.start + c.args.periods in
    let seen : List Kept → List Line → FarmMemory = λ ks ls. record { calls = ks; live = i.live.items; tallies = i.tallies.items; failed = ls; ended = end } in
    ap (λ (os : List OpenCall). seen (map kept_of os) c.take_memory.new.failed.items) (opens c)
    ∙ ap (λ (ks : List Kept). seen ks c.take_memory.new.failed.items) (kept_all c.args.periods (opens_in i.open.items))
    ∙ ap (seen (calls_of i.open.items)) c.take_memory.ensures.kept
    ∙ ap (λ (f : FarmMemory). record f { ended = end }) c.farm.view_is

pub returns-clause-number : goal.returns-clause-number
returns-clause-number c =
    let i = c.farm.inside.calls in
    let was = opens_in i.open.items in
    ap (λ (os : List OpenCall). length (map portion_of_open os)) (opens c) ∙ length-map (map (open_planned c.args.periods) was) portion_of_open
    ∙ length-map was (open_planned c.args.periods) ∙ sym (listed_long i.live.items was c.farm.invariant.0.listed)
    ∙ ap (λ (f : FarmMemory). length f.live) c.farm.view_is

pub returns-clause-portions : goal.returns-clause-portions
returns-clause-portions c =
    let i = c.farm.inside.calls in
    subst (λ (f : FarmMemory). (k : ℕ) → k < length f.live →
    portion_at (map portion_of_open (opens_in (take i.open.len (c.plan_all.new.calls ++ drop (length c.plan_all.new.calls) i.open.items)))) k
    ≡ portion_for c.args.periods (slice_index f.live k) (call_in f.calls (slice_index f.live k))) c.farm.view_is
    (λ k l. ap (λ (os : List OpenCall). portion_at (map portion_of_open os) k) (opens c)
    ∙ planned_portion i.ended c.args.periods i.live.items (opens_in i.open.items) k c.farm.invariant.0 l)

pub returns-clause-order : goal.returns-clause-order
returns-clause-order c =
    let i = c.farm.inside.calls in
    subst (λ (os : List OpenCall). IsRising (map (λ k. k.call.number) (map kept_of os))) (sym (opens c))
    (rising_kept c.args.periods i.ended i.live.items (opens_in i.open.items) c.farm.invariant.0)

pub returns-clause-known : goal.returns-clause-known
returns-clause-known c = subst (λ (f : FarmMemory). AreFailed f.failed f.calls) c.farm.view_is c.farm.invariant.2

pub returns-in_err-plan_all : goal.returns-in_err-plan_all
returns-in_err-plan_all c =
    let no = c.from_residual.ensures.0 in
    record {
      start = IfOk-from_err _ _ no;
      farm = IfOk-from_err _ _ no;
      number = IfOk-from_err _ _ no;
      portions = IfOk-from_err _ _ no;
      order = IfOk-from_err _ _ no;
      known = IfOk-from_err _ _ no;
    }

pub returns-in_err-ends : goal.returns-in_err-ends
returns-in_err-ends c =
    let no = c.from_residual-in_err-ends.ensures.0 in
    record {
      start = IfOk-from_err _ _ no;
      farm = IfOk-from_err _ _ no;
      number = IfOk-from_err _ _ no;
      portions = IfOk-from_err _ _ no;
      order = IfOk-from_err _ _ no;
      known = IfOk-from_err _ _ no;
    }
