use Rattle.std.proofs.lemmas.Result.{IfOk-from_err}
use Rattle.farm_rounds.proofs.round.take_memory.Goals as goal

pub returns-in_err-reserve : goal.returns-in_err-reserve
returns-in_err-reserve c =
    let no = c.from_residual.ensures.0 in
    record {
      kept = c.in_err-reserve.ensures.items;
      failed = IfOk-from_err _ _ no;
      none = IfOk-from_err _ _ no;
      ends = IfOk-from_err _ _ no;
      first = IfOk-from_err _ _ no;
      second = IfOk-from_err _ _ no;
    }

pub returns-in_err-ends : goal.returns-in_err-ends
returns-in_err-ends c =
    let no = c.from_residual-in_err-ends.ensures.0 in
    record {
      kept = c.in_ok-reserve.ensures.items;
      failed = IfOk-from_err _ _ no;
      none = IfOk-from_err _ _ no;
      ends = IfOk-from_err _ _ no;
      first = IfOk-from_err _ _ no;
      second = IfOk-from_err _ _ no;
    }

pub returns-in_err-first : goal.returns-in_err-first
returns-in_err-first c =
    let no = c.from_residual-in_err-first.ensures.0 in
    record {
      kept = c.in_ok-reserve.ensures.items;
      failed = IfOk-from_err _ _ no;
      none = IfOk-from_err _ _ no;
      ends = IfOk-from_err _ _ no;
      first = IfOk-from_err _ _ no;
      second = IfOk-from_err _ _ no;
    }

pub returns-in_err-second : goal.returns-in_err-second
returns-in_err-second c =
    let no = c.from_residual-in_err-second.ensures.0 in
    record {
      kept = c.in_ok-reserve.ensures.items;
      failed = IfOk-from_err _ _ no;
      none = IfOk-from_err _ _ no;
      ends = IfOk-from_err _ _ no;
      first = IfOk-from_err _ _ no;
      second = IfOk-from_err _ _ no;
    }

pub returns-clause-kept : goal.returns-clause-kept
returns-clause-kept c = c.in_ok-reserve.ensures.items

pub returns-clause-none : goal.returns-clause-none
returns-clause-none c = c.in_ok-ends.ensures.items

pub returns-clause-ends : goal.returns-clause-ends
returns-clause-ends c = c.in_ok-ends.ensures.capacity

pub returns-clause-first : goal.returns-clause-first
returns-clause-first c = c.in_ok-first.ensures

pub returns-clause-second : goal.returns-clause-second
returns-clause-second c = c.in_ok-second.ensures
