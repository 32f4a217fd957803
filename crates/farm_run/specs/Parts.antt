-- The parts of a run: from its start to a period, from there to its end, and from a mark on (this project's profile).
-- `before` are the lines before a part, `now` those after it.
use Rattle.std.specs.Prelude.{◌≡◌, ◌⊎◌, ◌≤◌, ℕ, max, true, is_some, Option, Some, None, List, length, map}
use Rattle.trau_io.specs.declared.line.Side.{Side}
use Rattle.trau_io.specs.Lines.{LineState}
use Rattle.trau_orders.specs.declared.order.Order.{Order}
use Rattle.farm_checkpoint.specs.Marks.{MarkView}
use Rattle.farm_checkpoint.specs.Differences.{IsLeastDifference}
use Rattle.farm_report.specs.View.{ReportView}
use Rattle.farm_rounds.specs.Calls.{call_in}
use Rattle.farm_rounds.specs.Numbers.{IsRising, is_among}
use Rattle.run_spec.specs.Run.{Run}
use Rattle.run_spec.specs.Facts.{report_of}
use Rattle.farm_run.specs.declared.outgoing.Outgoing.{Outgoing}
use Rattle.farm_run.specs.declared.pace.Pace.{Pace}
use Rattle.farm_run.specs.declared.resuming.Resumed.{Resumed}
use Rattle.farm_run.specs.declared.stage.Stage.{Stage}
use Rattle.farm_run.specs.Marking.{entry_of}
use Rattle.farm_run.specs.Noted.{IsAtEnd}
use Rattle.farm_run.specs.Outgoing.{is_held, is_summed, sum_to}
use Rattle.farm_run.specs.Resuming.{Resumes, IsResumeCutShort}
use Rattle.farm_run.specs.Saving.{SavedView}
use Rattle.farm_run.specs.Stages.{IsFirstStage, Reaches}

-- ---- from its start

-- The run of these orders has come to the clock `until`.
pub record ComesTo (orders : List Order) (outgoing : Outgoing) (batch until : ℕ)
    (before now : ℕ → Side → LineState) (u : Stage) : Type 0 where
  pub first : Stage
  pub is_first : IsFirstStage orders outgoing first
  pub clock : u.clock ≡ until
  pub reaches : Reaches batch first u before now

-- it has come to some clock, at most `until`
pub record ComesWithin (orders : List Order) (outgoing : Outgoing) (batch until : ℕ)
    (before now : ℕ → Side → LineState) : Type 0 where
  pub first : Stage
  pub is_first : IsFirstStage orders outgoing first
  pub after : (after : Stage) × (after.clock ≤ until) × Reaches batch first after before now

-- it ran out of memory before the clock `until`, maybe before it began
abbrev pub StopsShort : List Order → Outgoing → ℕ → ℕ →
    (ℕ → Side → LineState) → (ℕ → Side → LineState) → Type 0
StopsShort orders outgoing batch until before now =
    (now ≡ before) ⊎ ComesWithin orders outgoing batch until before now

-- ---- to its end

-- A run of `count` orders went on from the stage s to its end at `periods`, and was reported.
pub record RunsToEnd (batch : ℕ) (s : Stage) (count periods : ℕ) (before now : ℕ → Side → LineState)
    (report : ReportView) : Type 0 where
  pub last : Stage
  pub clock : last.clock ≡ periods
  pub reaches : Reaches batch s last before now
  pub failed : report.failed ≡ last.farm.failed
  pub reports : (r : Run) (t : ℕ) →
      IsAtEnd r t last.board last.farm.calls last.farm.tallies last.notes → r.periods ≡ periods →
      length r.orders ≡ count → report ≡ report_of r report.failed

-- what is kept of a run that is marked at its last stage
pub record IsKeptOf (last : Stage) (clock : ℕ) (saved : SavedView) : Type 0 where
  pub failed : saved.failed ≡ last.farm.failed
  pub period : saved.mark.period ≡ clock
  pub calls : saved.mark.calls ≡ map (entry_of last) last.farm.live
  -- its entries are those of the open calls, in rising order of their numbers
  pub live : (c : ℕ) → is_among last.farm.live c ≡ is_some (call_in last.farm.calls c)
  pub rising : IsRising last.farm.live

-- ---- from a mark on

-- How a mark differs from a run that has come to its period: by the least call number whose entries differ, or not at
-- all.
pub record Compares (mark : MarkView) (u : Stage) (found : Option ℕ) : Type 0 where
  pub none : found ≡ None → mark.calls ≡ map (entry_of u) u.farm.live
  pub some : (call : ℕ) → found ≡ Some call →
      IsLeastDifference mark.calls (map (entry_of u) u.farm.live) call
  -- the run's entries are those of the open calls, in rising order of their numbers
  pub live : (c : ℕ) → is_among u.farm.live c ≡ is_some (call_in u.farm.calls c)
  pub rising : IsRising u.farm.live

-- The run of these orders has come to the stage u. All octets that it gave were summed and held back. `first` are the
-- lines before it.
pub record HeldTo (orders : List Order) (batch : ℕ) (first now : ℕ → Side → LineState)
    (u : Stage) : Type 0 where
  pub outgoing : Outgoing
  pub held : is_held outgoing ≡ true
  pub summed : is_summed outgoing ≡ true
  pub none : (c : ℕ) (s : Side) → sum_to outgoing c s ≡ 0
  pub start : Stage
  pub is_first : IsFirstStage orders outgoing start
  pub reaches : Reaches batch start u first now

-- a run that has come to the mark's period so is resumed there
abbrev pub ResumesOn : Pace → MarkView → ℕ → Stage →
    (ℕ → Side → LineState) → (ℕ → Side → LineState) → Resumed → Type 0
ResumesOn pace mark count marked before now resumed =
    (orders : List Order) (first : ℕ → Side → LineState) →
    HeldTo orders pace.batch first before marked → count ≡ length orders →
    Resumes orders pace mark first now resumed

-- a run that has come to the mark's period so runs out of memory from there on
abbrev pub StopsOn : Pace → MarkView → Stage →
    (ℕ → Side → LineState) → (ℕ → Side → LineState) → Type 0
StopsOn pace mark marked before now =
    (orders : List Order) (first : ℕ → Side → LineState) →
    HeldTo orders pace.batch first before marked →
    IsResumeCutShort orders pace.batch (max mark.period pace.periods) mark first now
