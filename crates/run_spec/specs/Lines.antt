-- The outgoing lines of a run's calls. They depend on a call's own lines and orders and, within the spans of its
-- bridges, on its partner's uplink (this project's profile).
use Rattle.std.specs.Prelude.{ℕ, List}
use Rattle.trau_bits.specs.Bits.{octets_of}
use Rattle.call_leg.specs.Who.{Who}
use Rattle.call_leg.specs.Periods.{CallPeriod}
pub use Rattle.call_leg.specs.Out.{out_line}
use Rattle.call_leg.specs.Down.{down_line}
use Rattle.run_spec.specs.Run.{Run, who_in, periods_in}

-- the octets of its Down line
abbrev pub down_octets : Who → List CallPeriod → List ℕ
down_octets who ts = octets_of (down_line who ts)

-- what a run writes on the outgoing lines of a call
abbrev pub out_of_call : Run → ℕ → List ℕ
out_of_call r c = out_line (who_in r c) (periods_in r c)

abbrev pub down_of_call : Run → ℕ → List ℕ
down_of_call r c = down_octets (who_in r c) (periods_in r c)
