-- The command `follow`, the base station's end (this project's profile).
use Rattle.std.specs.Prelude.{◌≡◌, ℕ}
use Rattle.trau_io.specs.declared.line.Side.{Side}
use Rattle.trau_io.specs.Lines.{LineState}
use Rattle.trau_io.specs.Desks.{DeskState}
use Rattle.block_lines.specs.declared.end.ToolEnd.{ToolEnd}
use Rattle.block_lines.specs.Command.{status_of}
use Rattle.ccu_end.specs.Tool.{CleanFollow, FollowCauses, FollowRun}

-- A whole command `follow`: what it did, whatever fails, why its status is what it is, and what it leaves if nothing
-- fails.
pub record FollowEnds (before now : ℕ → Side → LineState) (desk desk' : DeskState) (call want status : ℕ) : Type 0 where
  pub end : ToolEnd
  pub status_is : status ≡ status_of end
  pub runs : FollowRun before now desk desk' call want end
  pub causes : FollowCauses before now desk desk' call status
  pub clean : CleanFollow before now desk desk' call want status
