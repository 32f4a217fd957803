-- What a run leaves on the outgoing lines of its calls, by the definition of each call as a whole (this project's
-- profile).
use Rattle.std.specs.Prelude.{ℕ, ◌*◌, Bool, drop}
use Rattle.trau_bits.specs.Bits.{octets_of}
use Rattle.trau_io.specs.declared.line.Side.{Side}
use Rattle.trau_io.specs.declared.line.Side.TheVariants.{Down, Out}
use Rattle.trau_io.specs.Lines.{LineState}
use Rattle.call_spec.specs.Out.{out}
use Rattle.call_spec.specs.Down.{down}
use Rattle.run_spec.specs.Run.{Run, IsOpened, worked_to}
use Rattle.run_calls_spec.specs.Whole.{whole_call}
use Rattle.run_calls_spec.specs.Handed.{GoesOut, HandsOver}
use Rattle.farm_run.specs.Runs.{HasWritten}

-- The headline: the octets written on a call's outgoing lines are those that the definition of the call as a whole
-- gives. They depend on the call's own incoming lines and orders and, only between a bridge's reported start and end,
-- on its partner's uplink. There each good speech frame's 260 bits go out unchanged, in order and once. A line that
-- failed has gained a proper prefix of its octets.
pub record Headline (r : Run) (fails : ℕ → Side → Bool) (before now : ℕ → Side → LineState) : Type 0 where
  pub out_line : (c : ℕ) → IsOpened r c → HasWritten (fails c Out) (before c Out) (now c Out) (out (whole_call r c))
  pub down_line : (c : ℕ) → IsOpened r c → HasWritten (fails c Down) (before c Down) (now c Down) (octets_of (down (whole_call r c)))
  pub hands_over : HandsOver r
  pub goes_out : GoesOut r

-- The same, if the octets of the periods before `from` were held back.
pub record HeadlineFrom (r : Run) (from : ℕ) (fails : ℕ → Side → Bool) (before now : ℕ → Side → LineState) : Type 0 where
  pub out_line : (c : ℕ) → IsOpened r c → HasWritten (fails c Out) (before c Out) (now c Out) (drop (160 * worked_to r from c) (out (whole_call r c)))
  pub down_line : (c : ℕ) → IsOpened r c →
      HasWritten (fails c Down) (before c Down) (now c Down) (drop (40 * worked_to r from c) (octets_of (down (whole_call r c))))
  pub hands_over : HandsOver r
  pub goes_out : GoesOut r
