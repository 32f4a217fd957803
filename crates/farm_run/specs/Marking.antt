-- The entries of a mark (this project's profile).
use Rattle.std.specs.Prelude.{ℕ}
use Rattle.trau_io.specs.declared.line.Side.TheVariants.{Down, Out}
use Rattle.switchboard.specs.Ends.{start_of}
use Rattle.farm_checkpoint.specs.declared.mark.MarkCall.{MarkCall}
use Rattle.farm_run.specs.declared.stage.Stage.{Stage}
use Rattle.farm_run.specs.Outgoing.{sum_to}

-- what a mark says of a call: its number, its first period, and the sums of its outgoing lines so far
abbrev pub entry_of : Stage → ℕ → MarkCall
entry_of s c = record {
  call = c;
  from = start_of s.board.done c;
  out = sum_to s.outgoing c Out;
  down = sum_to s.outgoing c Down;
}
