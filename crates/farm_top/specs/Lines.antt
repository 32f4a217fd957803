-- The commands on lines but `follow` (this project's profile).
use Rattle.std.specs.Prelude.{◌≡◌, ℕ}
use Rattle.trau_io.specs.declared.line.Side.{Side}
use Rattle.trau_io.specs.Lines.{LineState}
use Rattle.trau_io.specs.Desks.{DeskState}
use Rattle.block_lines.specs.declared.end.ToolEnd.{ToolEnd}
use Rattle.block_lines.specs.Command.{Causes, CommandRuns, Leaves, status_of}
use Rattle.block_lines.specs.Machines.{Machine}
use Rattle.trau_submux.specs.Tools.{CleanMerge, MergeCauses, MergeRun}

-- A whole command by a block machine: what it did, whatever fails, why its status is what it is, and what it leaves if
-- nothing fails.
pub record CommandEnds (M : Machine) (before now : ℕ → Side → LineState) (desk desk' : DeskState) (call status : ℕ) : Type 0 where
  pub end : ToolEnd
  pub status_is : status ≡ status_of end
  pub runs : CommandRuns M before now desk desk' call end
  pub causes : Causes M before now desk desk' call status
  pub clean : Leaves M before now desk desk' call status

-- a whole `merge`, likewise
pub record MergeEnds (before now : ℕ → Side → LineState) (desk desk' : DeskState) (call status : ℕ) : Type 0 where
  pub end : ToolEnd
  pub status_is : status ≡ status_of end
  pub runs : MergeRun before now desk desk' call end
  pub causes : MergeCauses before now desk desk' call status
  pub clean : CleanMerge before now desk desk' call status
