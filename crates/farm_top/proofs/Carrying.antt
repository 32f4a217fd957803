-- A command ends with the status of its end.
use Rattle.std.proofs.Common.{◌≡◌, ℕ, sym, subst}
use Rattle.trau_io.specs.declared.line.Side.{Side}
use Rattle.trau_io.specs.Lines.{LineState}
use Rattle.trau_io.specs.Desks.{DeskState}
use Rattle.block_lines.specs.declared.end.ToolEnd.{ToolEnd}
use Rattle.block_lines.specs.Command.{Causes, CommandRuns, Leaves, status_of}
use Rattle.block_lines.specs.Machines.{Machine}
use Rattle.farm_top.specs.Lines.{CommandEnds}

pub ends_with : (M : Machine) (before now : ℕ → Side → LineState) (desk desk' : DeskState) (call : ℕ) (end : ToolEnd) (status : ℕ) → status ≡ status_of end →
    CommandRuns M before now desk desk' call end → Causes M before now desk desk' call (status_of end) → Leaves M before now desk desk' call (status_of end) →
    CommandEnds M before now desk desk' call status
ends_with M before now desk desk' call end status is runs causes clean = record {
  end = end;
  status_is = is;
  runs = runs;
  causes = subst (Causes M before now desk desk' call) (sym is) causes;
  clean = subst (Leaves M before now desk desk' call) (sym is) clean;
}
