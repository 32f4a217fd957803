use Rattle.std.proofs.Common.{rules, ◌≡◌, refl, sym, ap, ◌∙◌, subst, ℕ, ◌+◌, ◌<◌, ◌≤◌, Option, None, Some, length, slice_index, arith}
use Rattle.round_lines.specs.Portions.{PortionMemory}
use Rattle.farm_rounds.specs.Calls.{Call, call_in}
use Rattle.farm_rounds.specs.Memory.{FarmMemory}
use Rattle.farm_rounds.specs.RoundHistories.{portion_for}
use Rattle.farm_rounds.specs.Rounds.{IsUnread}
use Rattle.std.specs.List.{filter_map}
use Rattle.round_lines.specs.Rounds.{portion_at, portion_end}
use Rattle.trau_io.specs.declared.line.Side.{Side}
use Rattle.trau_io.specs.Lines.{LineState}
use Rattle.switchboard.specs.State.{State, orders_of}
use Rattle.run_spec.specs.Run.{Run}
use Rattle.farm_rounds.specs.Working.{RoundMemory, GainsFailed}
use Rattle.farm_run.proofs.Rounds.Taken.{IsRound}
use Rattle.farm_run.proofs.Rounds.Outcome.{EndsRound}
use Rattle.farm_run.specs.Clock.{IsAtClock}
use Rattle.farm_run.specs.Outgoing.{is_held}
use Rattle.farm_run.specs.Stages.{OpenedBefore}
use Rattle.farm_run.proofs.Lines.Cutting.{on_err}
use Rattle.farm_run.specs.Standing.{Standing, standing, StandingGoesOn, HasFlags}
use Rattle.farm_run.proofs.Noted.Knowing.{known_round}
use Rattle.farm_run.proofs.Listed.Round.{listed_back}
use Rattle.farm_run.proofs.Listed.Behind.{knows_after, goes_after, unused_after, meets_run}
use Rattle.farm_run.proofs.Told.Boards.{told_done, told_left, told_orders}
use Rattle.farm_run.proofs.Worked.Making.{IsMade, made_failed, made_octets, made_open, made_partners, made_stands, made_tallies}
use Rattle.farm_run.proofs.Worked.Facts as parts
use Rattle.farm_run.proofs.Worked.Round.{FilledRound, WorkedRound, MeetsRun}
use Rattle.farm_run.proofs.Worked.Facts.{outgoing_between}
use Rattle.farm_run.proofs.Listed.Counts.{fell_round, tells_round}
use Rattle.farm_run.proofs.Lines.Sides.{sides_more, sides_filled}
use Rattle.farm_run.proofs.Worked.Clock.{tells_open, tells_apart, tells_late, clock_after}
use Rattle.farm_run.proofs.Worked.Lines.{clock_is}
use Rattle.farm_run.proofs.Worked.Board.{ends_are, told_is}
use Rattle.farm_run.proofs.Worked.Written.{written_after}
use Rattle.farm_run.proofs.Worked.Short.{short_after, short_more, read_after}
use Rattle.farm_run.proofs.Worked.Sums.{sums_after}
use Rattle.farm_run.proofs.Worked.Tallies.{tallies_after}
use Rattle.std.proofs.lemmas.Result.{IfOk-from_err}
use Rattle.farm_run.proofs.clock.work_round.Goals as goal
use Rattle.farm_run.proofs.clock.work_round.Given.{Over}

-- the round up to its work
front : (g : Over) (c : goal.After-ends g) →
    FilledRound c.args.stage.clock c.args.periods c.args.stage.farm
    (g.T.Trunk.lines c.args.trunk.now) (g.T.Trunk.lines c.fill.new.trunk)
    c.in_ok-round.round.portions c.fill.new.self.portions c.work-worked.result.portions c.ends.result.now
front g c =
    let plan = c.in_ok-round.ensures in
    let fill = c.fill.ensures in
    let work = c.work-worked.ensures in
    record {
      live = c.requires.live;
      number = plan.number;
      portions = plan.portions;
      fills = fill.fills;
      filled_number = fill.number;
      worked_number = work.number;
      worked_rising = work.rising;
      places = work.places;
      told = c.ends.ensures ∙ work.ends ∙ ap (λ (t : ℕ). filter_map (portion_end t) c.work-worked.result.portions)
          (ap (λ (p : RoundMemory). p.start) fill.kept ∙ plan.start);
    }

-- a portion that was planned has nothing of its incoming lines
unread : (periods c : ℕ) (call : Option Call) → IsUnread (portion_for periods c call).lines
unread periods c None = (refl, refl)
unread periods c (Some call) = (refl, refl)

pub fill-requires : goal.fill-requires
fill-requires g c =
    let plan = c.in_ok-round.ensures in
    let portions = c.in_ok-round.round.portions in
    let live = c.args.stage.farm.live in
    let calls = c.args.stage.farm.calls in
    let once : (k : ℕ) → k < length portions → IsUnread (portion_at portions k).lines = λ k within.
    subst (λ (s : PortionMemory). IsUnread s.lines) (sym (plan.portions k (subst (λ (n : ℕ). k < n) plan.number within)))
    (unread c.args.periods (slice_index live k) (call_in calls (slice_index live k))) in
    search rules

pub tell_ends-requires-clause-open : goal.tell_ends-requires-clause-open
tell_ends-requires-clause-open g c = tells_open _ _ c.args.stage.board _ _ _ _ _ _ _ (front g c) c.requires.stage.clock

pub tell_ends-requires-clause-apart : goal.tell_ends-requires-clause-apart
tell_ends-requires-clause-apart g c = tells_apart _ _ c.args.stage.board _ _ _ _ _ _ _ (front g c) c.requires.stage.clock

pub tell_ends-requires-clause-late : goal.tell_ends-requires-clause-late
tell_ends-requires-clause-late g c = tells_late _ _ c.args.stage.board _ _ _ _ _ _ _ (front g c) c.requires.stage.clock

-- the whole round
round : (g : Over) (c : goal.After-settle-farm g) → WorkedRound c.args.stage.clock c.args.periods c.args.stage.farm c.settle-farm.result
    (g.T.Trunk.lines c.args.trunk.now) (g.T.Trunk.lines c.settle-farm.new.trunk) c.ends.result.now
round g c =
    let plan = c.in_ok-round.ensures in
    let fill = c.fill.ensures in
    let work = c.work-worked.ensures in
    let settle = c.settle-farm.ensures in
    let settled = settle.settled in
    let made : IsMade c.args.stage.farm c.settle-farm.result c.in_ok-round.round c.fill.new.self c.work-worked.result = record {
      kept = fill.kept;
      farm_planned = plan.farm ∙ ap (λ (n : ℕ). record c.args.stage.farm { ended = n }) (sym (ap (λ (f : FarmMemory). f.ended) plan.farm));
      farm_worked = work.farm;
      partners_worked = work.partners;
      stands = work.stands;
      octets = work.octets;
      passed = settle.passed;
    } in
    record {
      planned_portions = c.in_ok-round.round.portions;
      filled_portions = c.fill.new.self.portions;
      worked_portions = c.work-worked.result.portions;
      drained_portions = settled.portions;
      between = g.T.Trunk.lines c.fill.new.trunk;
      live = c.requires.live;
      number = plan.number;
      portions = plan.portions;
      fills = fill.fills;
      filled_others = fill.others;
      filled_number = fill.number;
      rising = fill.rising;
      worked_number = work.number;
      worked_rising = work.rising;
      places = work.places;
      told = c.ends.ensures ∙ work.ends ∙ ap (λ (t : ℕ). filter_map (portion_end t) c.work-worked.result.portions)
          (ap (λ (p : RoundMemory). p.start) fill.kept ∙ plan.start);
      drains = settled.settles;
      held = is_held c.args.stage.outgoing;
      writes = settled.written;
      back = settled.back;
      drained_others = settled.others;
      drained_number = settled.number;
      known = plan.known;
      gains = subst (λ before. GainsFailed before c.settle-farm.result.failed settled.portions)
          (made_failed _ _ _ _ _ made) settled.gains;
      is_open = made_open _ _ _ _ _ made;
      partners = made_partners _ _ _ _ _ made;
      octets = made_octets _ _ _ _ _ made;
      stands = made_stands _ _ _ _ _ made;
      tallies = made_tallies _ _ _ _ _ made;
    }

pub returns-clause-clock : goal.returns-clause-clock
returns-clause-clock g c = refl

pub returns-clause-left : goal.returns-clause-left
returns-clause-left g c = ap (λ (s : State). s.left) c.tell_ends.ensures.told ∙ told_left c.args.stage.board c.ends.result.now

-- where the run goes on, the round is one of it
in_run : (g : Over) (c : goal.After-settle-farm g) (r : Run) (first : _) (last : Standing) →
    c.args.stage.clock + c.args.periods ≤ r.periods →
    IsAtClock r c.args.stage.clock c.args.stage.board c.args.stage.farm.calls last first (g.T.Trunk.lines c.args.trunk.now) →
    IsRound r c.args.stage.clock c.args.periods c.args.stage.board.done c.args.stage.board.left
in_run g c r first last l at = record { so_far = at.follows.so_far; some = c.requires.some; within = l; clear = c.requires.clear }

-- the round is that of a run that goes on from behind it
meets : (g : Over) (c : goal.After-settle-farm g) (r : Run) (last : Standing) → HasFlags r last →
    StandingGoesOn (standing c.tell_ends.new.board c.settle-farm.result.failed (g.T.Trunk.lines c.settle-farm.new.trunk)) last →
    MeetsRun r c.args.periods (round g c).filled_portions
    (standing c.tell_ends.new.board c.settle-farm.result.failed
    (g.T.Trunk.lines c.settle-farm.new.trunk)) last
meets g c r last flags on =
    let told = c.tell_ends.ensures in
    meets_run _ _ c.args.stage.board _ _ _ _ _ (round g c) c.requires.stage.clock c.requires.stage.knows c.tell_ends.new.board told.told
    told.open r last flags on

-- what it tells and keeps of the calls that end in it
ends : (g : Over) (c : goal.After-settle-farm g) (r : Run) (first : _) (last : Standing) →
    HasFlags r last → c.args.stage.clock + c.args.periods ≤ r.periods →
    StandingGoesOn (standing c.tell_ends.new.board c.settle-farm.result.failed (g.T.Trunk.lines c.settle-farm.new.trunk)) last →
    IsAtClock r c.args.stage.clock c.args.stage.board c.args.stage.farm.calls last first (g.T.Trunk.lines c.args.trunk.now) →
    EndsRound r c.args.stage.clock c.args.periods c.args.stage.board c.tell_ends.new.board
    c.args.stage.farm.tallies c.settle-farm.result.tallies
ends g c r first last flags l on at =
    let told = c.tell_ends.ensures in
    let w = round g c in
    let h = in_run g c r first last l at in
    let m = c.requires.stage.clock.matches in
    let met = meets g c r last flags on in
    let b' = c.tell_ends.new.board in
    record {
      ends = c.ends.result.now;
      board = told.told;
      each = ends_are r _ _ c.args.stage.board _ _ first _ _ _ w h m b' last at met told.told told.open;
      apart = tells_apart _ _ c.args.stage.board _ _ _ _ _ _ _ (parts.front _ _ _ _ _ _ _ w) c.requires.stage.clock;
      told = told_is r _ _ c.args.stage.board _ _ first _ _ _ w h m b' last at met told.told told.open;
      tallies = tallies_after r _ _ c.args.stage.board _ _ first _ _ _ w h m b' last at met;
    }

pub returns-clause-reaches : goal.returns-clause-reaches
unfolding round
returns-clause-reaches g c =
    let told = c.tell_ends.ensures in
    let b = c.args.stage.board in
    let b' = c.tell_ends.new.board in
    let w = round g c in
    let m = c.requires.stage.clock.matches in
    let a = c.requires.stage.clock in
    let knows = c.requires.stage.knows in
    let t = c.args.stage.clock in
    let n = c.args.periods in
    let done : b'.done ≡ b.done = ap (λ (s : State). s.done) told.told ∙ told_done b c.ends.result.now in
    record {
      later = omega arith;
      stage = record {
        clock = clock_after _ _ b _ _ _ _ _ w a b' c.bridges_join_two.ensures c.requires.clear told.told told.open told.partner;
        bridges = omega (arith, ap length done, c.requires.stage.bridges);
        ended = omega (
          arith,
          c.settle-farm.ensures.passed.ended,
          ap (λ (f : FarmMemory). f.ended) c.work-worked.ensures.farm,
          ap (λ (p : RoundMemory). p.farm.ended) c.fill.ensures.kept,
          ap (λ (f : FarmMemory). f.ended) c.in_ok-round.ensures.farm,
        );
        knows = knows_after _ _ b _ _ _ _ _ w a knows b' told.told told.open;
        few = (let kept = ap length (ap (λ (s : State). orders_of s) told.told ∙ told_orders b c.ends.result.now) in omega (arith, kept, c.requires.stage.few));
      };
      kept = ap (λ (s : State). orders_of s) told.told ∙ told_orders b c.ends.result.now;
      way = c.settle-farm.ensures.same;
      openings = λ z l openings. subst (OpenedBefore z) (sym done) openings;
      fell = fell_round _ _ _ _ _ _ _ w;
      failed = λ first later failed. tells_round _ _ _ _ _ _ _ w first later failed;
      sides = sides_more _ _ _ (sides_filled _ _ c.in_ok-round.round.portions c.fill.new.self.portions _ c.fill.ensures.fills c.fill.ensures.others)
          c.settle-farm.ensures.sides;
      goes = goes_after _ _ b _ _ _ _ _ w a knows b' told.told told.open;
      back = λ held. record {
        lines = λ d side o. ap (λ (lines : ℕ → Side → LineState). lines d side) (w.back held).0 ∙ outgoing_between _ _ _ _ _ _ _ w d side o;
        listed = λ d side o. listed_back _ _ _ _ _ _ _ w held d side o;
      };
      unused = unused_after _ _ b _ _ _ _ _ w a knows b' told.told told.open;
      run = λ r first last flags l on at. clock_is r _ _ b _ _ first _ _ _ w (in_run g c r first last l at) m b' last at
          (meets g c r last flags on) told.told told.open;
      known = λ r first last flags l on at known.
          known_round r t n b b' c.args.stage.notes c.args.stage.farm.tallies c.settle-farm.result.tallies
          (in_run g c r first last l at) (ends g c r first last flags l on at) known;
      wrote = λ held from before r first last flags l on at wrote.
          written_after r _ _ b _ _ first _ _ _ w (in_run g c r first last l at) m b' last at
          (meets g c r last flags on) held from before wrote;
      sums = λ summed r first last flags l on at sums.
          sums_after r _ _ b _ _ first _ _ _ w (in_run g c r first last l at) m b' last at (meets g c r last flags on) _ _
          (c.settle-farm.ensures.adds summed) sums;
      short = λ r first last flags l on at short.
          short_more r c.args.pace.now.batch t (t + n) c.args.stage.farm.failed c.settle-farm.result.failed (omega arith) (omega (arith, c.requires.few))
          (short_after r _ _ b _ _ first _ _ _ w (in_run g c r first last l at) m b' last at (meets g c r last flags on)) short;
      read_past = λ r first last flags l on at read.
          read_after r _ _ b _ _ first _ _ _ w (in_run g c r first last l at) m b' last at (meets g c r last flags on) c.args.pace.now.batch
          (omega (arith, c.requires.few)) read;
    }

pub returns-in_err-round : goal.returns-in_err-round
returns-in_err-round g c =
    let no = c.from_residual.ensures.0 in
    record {
      clock = IfOk-from_err _ _ no;
      ended = IfOk-from_err _ _ no;
      left = IfOk-from_err _ _ no;
      reaches = IfOk-from_err _ _ no;
      cut = on_err _ refl;
    }
