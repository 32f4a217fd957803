-- A part of a run: the orders of the clock, and behind them a round, or none where no call is open.
use Rattle.std.proofs.Common.{◌≡◌, refl, sym, ap, ◌∙◌, subst, ℕ, ◌<◌, ◌≤◌, false, List, arith}
use Rattle.std.specs.Prelude.{is_some, IfSome, Result, Ok, Err, IfOk}
use Rattle.trau_io.specs.declared.line.Line.{Line}
use Rattle.trau_io.specs.declared.line.Side.{Side}
use Rattle.trau_io.specs.Lines.{LineState}
use Rattle.switchboard.specs.Calls.{is_open, gone_at}
use Rattle.switchboard.specs.State.{State, first_stamp}
use Rattle.farm_rounds.specs.Calls.{call_in}
use Rattle.farm_rounds.specs.Memory.{FarmMemory}
use Rattle.run_spec.specs.Run.{Run, whole_in}
use Rattle.farm_run.specs.declared.stage.Stage.{Stage}
use Rattle.farm_run.specs.declared.notes.SentBefore.{SentBefore}
use Rattle.farm_run.specs.Orders.{OrdersDone}
use Rattle.farm_run.specs.Runs.{TellsFailed, FailedBy, is_listed}
use Rattle.farm_run.specs.Stages.{IsStage, NoneUsedAgain, Reaches}
use Rattle.farm_run.specs.Standing.{Standing, standing}
use Rattle.farm_run.specs.Clock.{IsAtClock, WrittenFrom}
use Rattle.farm_run.proofs.Worked.Short.{short_later}
use Rattle.farm_run.proofs.Clocks.First.{fell_none}
use Rattle.farm_run.proofs.Clocks.Idle.{clock_on, goes_on, written_on, read_on, none_alive}
use Rattle.farm_run.proofs.Noted.Knowing.{known_idle}
use Rattle.farm_run.proofs.Clocks.Meeting.{stays, ordered}
use Rattle.farm_run.proofs.Noted.Truly.{truly_same}
use Rattle.farm_run.proofs.Lines.Sides.{sides_none}
use Rattle.farm_run.proofs.Listed.Counts.{unused_none}
use Rattle.farm_run.proofs.Clocks.Summing.{sums_on}

-- from two facts of a result
pub ok_both : {T E : Type 0} (P Q R : T → Type 0) (o : Result T E) → ((x : T) → P x → Q x → R x) → IfOk o P → IfOk o Q → IfOk o R
ok_both P Q R (Ok x) h p q = h x p q
ok_both P Q R (Err e) h p q = tt

module _ (s : Stage) (b : State) (farm : FarmMemory) (ns : List SentBefore) (stage : IsStage s)
    (o : OrdersDone s.clock s.board s.farm s.notes b farm ns) where
  -- **What holds at a clock holds behind its orders.**
  pub stage_behind : IsStage (record s { board = b; farm = farm; notes = ns })
  stage_behind =
      let ready = o.ready in
      record {
        clock = ready.clock;
        bridges = ready.bridges;
        ended = (let e = stage.ended in let same = o.ended in omega (arith, e, same));
        knows = ready.knows;
        few = ready.few;
      }

  -- **They come in front of what comes next.**
  pub orders_more : (batch : ℕ) (u : Stage) (before now : ℕ → Side → LineState) → s.clock < u.clock →
      Reaches batch (record s { board = b; farm = farm; notes = ns }) u before now → Reaches batch s u before now
  orders_more batch u before now less h = record {
    later = omega (arith, less);
    stage = h.stage;
    kept = h.kept ∙ o.board.kept;
    way = h.way;
    openings = λ n l openings. h.openings n l (o.board.openings n (omega (arith, less, l)) openings);
    fell = h.fell;
    failed = λ first fell failed. h.failed first fell (subst (λ (ls : List Line). TellsFailed first before ls) (sym o.failed) failed);
    sides = h.sides;
    goes = ordered s.board b s.farm.failed farm.failed before (standing u.board u.farm.failed now) o.board.over o.failed h.goes;
    back = λ held. let k = h.back held in record {
      lines = k.lines;
      listed = λ c side i. k.listed c side i ∙ ap (λ (ls : List Line). is_listed ls c side) o.failed;
    };
    unused = subst (λ (ls : List Line). NoneUsedAgain (is_listed ls) (is_listed u.farm.failed) before now) o.failed h.unused;
    run = λ r first last flags within on at. h.run r first last flags within on (here r first last within at);
    known = λ r first last flags within on at known.
        h.known r first last flags within on (here r first last within at) (record {
          truly = truly_same r s.board b o.board.told known.truly;
          noted = o.noted r (under r within) at.follows known.noted;
        });
    wrote = λ held from l r first last flags within on at wrote.
        h.wrote held from l r first last flags within on (here r first last within at)
        (subst (λ (ls : List Line). WrittenFrom r from s.clock (is_listed ls) first before) (sym o.failed) wrote);
    sums = λ summed r first last flags within on at sums. h.sums summed r first last flags within on (here r first last within at) sums;
    short = λ r first last flags within on at short. h.short r first last flags within on (here r first last within at)
        (subst (λ (ls : List Line). FailedBy r batch s.clock (is_listed ls)) (sym o.failed) short);
    read_past = λ r first last flags within on at read. h.read_past r first last flags within on (here r first last within at) read;
  }
    where
      under : (r : Run) → u.clock ≤ r.periods → s.clock < r.periods
      under r within = omega (arith, less, within)

      here : (r : Run) (first : ℕ → Side → LineState) (last : Standing) → u.clock ≤ r.periods →
          IsAtClock r s.clock s.board s.farm.calls last first before →
          IsAtClock r s.clock b farm.calls last first before
      here r first last within at = record { follows = o.follows r (under r within) at.follows; lines = at.lines }

-- **Where no call is open, the clock goes on up to the next order.**
pub idle_reaches : (batch : ℕ) (s : Stage) (u : ℕ) (lines : ℕ → Side → LineState) → IsStage s →
    s.clock ≤ u → IfSome (first_stamp s.board.left) (λ m. u ≤ m) →
    ((c : ℕ) → is_some (call_in s.farm.calls c) ≡ false) →
    Reaches batch s (record s { clock = u }) lines lines
idle_reaches batch s u lines stage later clear none = record {
  later = later;
  stage = record {
    clock = clock_on s.clock u s.board s.farm.calls stage.clock later clear;
    bridges = stage.bridges;
    ended = (let e = stage.ended in omega (arith, e, later));
    knows = stage.knows;
    few = stage.few;
  };
  kept = refl;
  way = record { held = refl; summed = refl };
  openings = λ n l openings. openings;
  fell = fell_none lines;
  failed = λ first fell failed. failed;
  sides = sides_none lines;
  goes = stays (standing s.board s.farm.failed lines);
  back = λ held. record { lines = λ c side o. refl; listed = λ c side o. refl };
  unused = unused_none (is_listed s.farm.failed) lines;
  run = λ r first last flags within on at. goes_on r s.clock u s.board s.farm.calls last first lines at later within clear (shut r first last at);
  known = λ r first last flags within on at known. known_idle r s.clock u s.board s.farm.tallies s.notes later (shut r first last at) known;
  wrote = λ held from l r first last flags within on at wrote. written_on r s.clock u s.board s.farm.calls last first lines at later within clear
      (shut r first last at) from (is_listed s.farm.failed) wrote;
  sums = λ summed r first last flags within on at sums. sums_on r s.clock u s.board s.farm.calls last first lines at later within clear
      (shut r first last at) _ sums;
  short = λ r first last flags within on at short. short_later r batch s.clock u (is_listed s.farm.failed) later short;
  read_past = λ r first last flags within on at read. read_on r s.clock u s.board s.farm.calls last first lines at later within clear
      (shut r first last at) batch last.listed read;
}
  where
    shut : (r : Run) (first : ℕ → Side → LineState) (last : Standing) →
        IsAtClock r s.clock s.board s.farm.calls last first lines → (c : ℕ) →
        is_open (gone_at (whole_in r) s.clock s.board.done) s.board.done c ≡ false
    shut r first last at = none_alive r s.clock s.board s.farm.calls stage.clock at.follows.tells none
