use Rattle.std.proofs.Common.{◌*◌}
use Rattle.trau_frame.proofs.ReadRows.{IsRead}
use Rattle.trau_frame.proofs.rows.data.Given as goal

abbrev pub invariant-loop-row : goal.invariant-loop-row
invariant-loop-row l = IsRead l.bits l.d (15 * l.row)
