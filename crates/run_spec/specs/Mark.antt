-- The mark of a run, and a run in two parts (this project's profile).
use Rattle.std.specs.Prelude.{◌≡◌, ℕ, ◌*◌, Bool, true, false, List, ◌++◌, map, filter, drop}
use Rattle.trau_io.specs.declared.ends.Cause.{Cause}
use Rattle.trau_io.specs.declared.ends.Cause.TheVariants.{Limit}
use Rattle.farm_checkpoint.specs.declared.mark.MarkCall.{MarkCall}
use Rattle.farm_checkpoint.specs.Marks.{MarkView}
use Rattle.farm_report.specs.Sums.{sum_of}
use Rattle.run_spec.specs.Run.{Run, start_in, IsOpened, cause_in, worked_to}
use Rattle.run_spec.specs.Lines.{out_of_call, down_of_call}
use Rattle.run_spec.specs.Facts.{calls_in}

-- whether only the run's end cut a call off
abbrev pub is_limit : Cause → Bool
is_limit Limit = true
is_limit _ = false

-- what a mark says of a call: its number, its opening, and the sums modulo 2^32 of all octets of its outgoing lines
abbrev pub mark_call : Run → ℕ → MarkCall
mark_call r c = record { call = c; from = start_in r c; out = sum_of (out_of_call r c); down = sum_of (down_of_call r c) }

-- the calls that only the run's end cuts off, in call-number order
abbrev pub marked_calls : Run → List MarkCall
marked_calls r = map (mark_call r) (filter (λ c. is_limit (cause_in r c)) (calls_in r))

-- the mark of a run at its end
abbrev pub mark_of : Run → MarkView
mark_of r = record { period = r.periods; calls = marked_calls r }

-- the same run, up to another number of periods
abbrev pub cut_at : ℕ → Run → Run
cut_at p r = record r { periods = p }

-- What a run writes on the lines of a call is what it writes up to period p, followed by the octets of the later
-- periods.
pub record Joins (r : Run) (p : ℕ) : Type 0 where
  -- a call that the run up to p opens is opened in the whole run
  pub opened : (c : ℕ) → IsOpened (cut_at p r) c → IsOpened r c
  pub out : (c : ℕ) → IsOpened (cut_at p r) c → out_of_call r c ≡ out_of_call (cut_at p r) c ++ drop (160 * worked_to r p c) (out_of_call r c)
  pub down : (c : ℕ) → IsOpened (cut_at p r) c → down_of_call r c ≡ down_of_call (cut_at p r) c ++ drop (40 * worked_to r p c) (down_of_call r c)
  -- a call that an order from p on opens has no period before it
  pub later : (c : ℕ) → IsOpened r c → (IsOpened (cut_at p r) c → ⊥) → worked_to r p c ≡ 0
