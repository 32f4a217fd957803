use Rattle.std.specs.Prelude.{◌++◌}
use Rattle.call_records.proofs.Lines.{have-ups, ups-before}
use Rattle.call_records.proofs.Runs.{writes}
use Rattle.call_records.proofs.laws.runs_write_what_was_recorded.Goals as goal

pub returns-clause-runs : goal.returns-clause-runs
returns-clause-runs c = λ number past call was r h. writes (record {
  out_of_periods = c.a_call_by_its_periods.ensures.out;
  down_of_periods = c.a_call_by_its_periods.ensures.down;
  whole = c.calls_are_whole.ensures.whole;
  periods = c.calls_are_whole.ensures.periods;
  out_is = c.records_are_lines.ensures.out;
  down_is = c.records_are_lines.ensures.down;
}) r number past call was h

pub returns-clause-partners : goal.returns-clause-partners
returns-clause-partners c = λ r number later past call was e.
    ups-before r number later past (have-ups (later ++ past) was.stands.heard was.stands.records) e
