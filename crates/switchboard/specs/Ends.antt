-- The ends of calls, and the spans of bridges.
use Rattle.std.specs.Prelude.{ℕ, ◌+◌, ◌-◌, ◌*◌, ◌/◌, min, Bool, if◌then◌else◌, nat_lt, nat_le, Option, Some, None, unwrap_or, option_map, List, map}
use Rattle.std.specs.List.{filter_map}
use Rattle.trau_io.specs.declared.line.Side.TheVariants.{Up, Pcm}
use Rattle.trau_io.specs.declared.ends.Cause.{Cause}
use Rattle.trau_io.specs.declared.ends.Cause.TheVariants.{Closed, End, Fault, Limit}
use Rattle.trau_io.specs.declared.ends.CallEnd.{CallEnd}
use Rattle.switchboard.specs.declared.act.Span.{Span}
use Rattle.switchboard.specs.declared.table.Bridge.{Bridge}
use Rattle.switchboard.specs.Calls.{Done, opened_at, closed_at}
use Rattle.switchboard.specs.Bridges.{bridges}

-- the number of octets that each of a call's incoming lines gave, and whether it failed
pub record Given : Type 0 where
  pub up : ℕ
  pub pcm : ℕ
  pub up_failed : Bool
  pub pcm_failed : Bool

-- the number of whole periods that both lines gave
abbrev pub whole_of : Given → ℕ
whole_of g = min (g.up / 40) (g.pcm / 160)

-- Why the lines end a call after n whole periods. The line is Up if it lacks the next period, else Pcm. The cause is a
-- fault if that line failed; else it is the line's end, with its remaining octets.
abbrev pub lack_of : ℕ → Given → Cause
lack_of n g =
    if nat_lt g.up (40 * (n + 1)) then (if g.up_failed then Fault Up else End Up (g.up - 40 * n))
    else if g.pcm_failed then Fault Pcm else End Pcm (g.pcm - 160 * n)

-- The end of a call that was opened at s. If an order closed it, it ends there. If not, it ends at the first period
-- that a line lacks, at the latest at the run's P periods.
abbrev pub end_of : (ℕ → Given) → ℕ → List Done → ℕ → ℕ → CallEnd
end_of given P ds c s = elim (closed_at c ds) [
  | Some t ↦ record { call = c; at = t; cause = Closed }
  | None ↦ if nat_le P (s + whole_of (given c)) then record { call = c; at = P; cause = Limit }
      else record {
        call = c;
        at = s + whole_of (given c);
        cause = lack_of (whole_of (given c)) (given c);
      }
]

-- the period at which a call begins
abbrev pub start_of : List Done → ℕ → ℕ
start_of ds c = unwrap_or (opened_at c ds) 0

-- a call's end in the whole run
abbrev pub whole_end : (ℕ → Given) → ℕ → List Done → ℕ → CallEnd
whole_end given P ds c = end_of given P ds c (start_of ds c)

-- the first period after a call
abbrev pub ends_at : (ℕ → Given) → ℕ → List Done → ℕ → ℕ
ends_at given P ds c = let end = end_of given P ds c (start_of ds c) in end.at

-- A bridge's span ends where an order ended it or where one of its calls ends, whichever is first.
abbrev pub span_of : (ℕ → Given) → ℕ → List Done → Bridge → Span
span_of given P ds x =
    let ends = min (ends_at given P ds x.a) (ends_at given P ds x.b) in
    record { a = x.a; b = x.b; from = x.from; to = min (unwrap_or x.ended ends) ends }

-- the spans of all bridges, in the order in which the bridges were accepted
abbrev pub spans_of : (ℕ → Given) → ℕ → List Done → List Span
spans_of given P ds = map (span_of given P ds) (bridges ds)

-- ---- while a run goes on: `told` are the ends that were reported so far

-- the lesser of those that exist
abbrev pub least : Option ℕ → Option ℕ → Option ℕ
least None y = y
least (Some a) None = Some a
least (Some a) (Some b) = Some (min a b)

abbrev pub span_to : Bridge → ℕ → Span
span_to x t = record { a = x.a; b = x.b; from = x.from; to = t }

-- the first period after a bridge, if an order ended it or the end of one of its calls was reported
abbrev pub end_now : (ℕ → Option ℕ) → Bridge → Option ℕ
end_now told x = least x.ended (least (told x.a) (told x.b))

-- the spans of the bridges that have ended, in the order in which the bridges were accepted
abbrev pub spans_now : (ℕ → Option ℕ) → List Done → List Span
spans_now told ds = filter_map (λ x. option_map (span_to x) (end_now told x)) (bridges ds)
