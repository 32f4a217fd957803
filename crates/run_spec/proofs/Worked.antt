-- Worked cases of a run.
use Rattle.std.proofs.Common.{◌≡◌, refl, ℕ, ◌*◌, true, false, [], ◌∷◌, map, replicate}
use Rattle.std.specs.Prelude.{Ok, pos, ◌==◌, if◌then◌else◌, is_some, filter}
use Rattle.trau_io.specs.declared.line.Side.TheVariants.{Up}
use Rattle.trau_io.specs.declared.ends.Cause.TheVariants.{End}
use Rattle.trau_bits.specs.Bits.{octets_of}
use Rattle.trau_orders.specs.declared.order.Order.{Order}
use Rattle.trau_orders.specs.declared.order.What.{What}
use Rattle.trau_alaw.specs.declared.Law.TheVariants.{A}
use Rattle.trau_orders.specs.declared.order.What.TheVariants.{OpenCall, CloseCall, Bridge, Unbridge, Level}
use Rattle.switchboard.specs.declared.act.Act.TheVariants as act
use Rattle.call_leg.specs.Counted.{no_counts}
use Rattle.run_spec.specs.Run.{Incoming, Run, spans_in, period_of, periods_to, cause_in, worked_to}
use Rattle.run_spec.specs.Lines.{out_of_call, down_of_call}
use Rattle.run_spec.specs.Facts.{calls_in, call_line, report_of}
use Rattle.run_spec.specs.Mark.{is_limit, cut_at}

abbrev at : ℕ → What → Order
at t w = record { stamp = t; what = w }

-- lines of n whole periods
abbrev lines : ℕ → Incoming
lines n = record { up = replicate (40 * n) 255; pcm = replicate (160 * n) 213; up_failed = false; pcm_failed = false }

-- one call with empty lines ends where it begins, and writes nothing
abbrev nothing : Run
nothing = record { lines = λ c. lines 0; orders = at 0 (OpenCall 1 A) ∷ []; periods = 10 }

nothing_ends : call_line nothing 1 ≡ record { end = record { call = 1; at = 0; cause = End Up 0 }; from = 0; counts = no_counts }
nothing_ends = refl

nothing_written : (out_of_call nothing 1 ≡ []) × (down_of_call nothing 1 ≡ []) × (spans_in nothing ≡ [])
unfolding octets_of
nothing_written = (refl, refl, refl)

nothing_reported : report_of nothing [] ≡ record {
  replies = record { order = 1; result = Ok (act.Opened 1 A) } ∷ [];
  spans = [];
  calls = record { end = record { call = 1; at = 0; cause = End Up 0 }; from = 0; counts = no_counts } ∷ [];
  failed = [];
  left = 0;
}
nothing_reported = refl

-- three calls of 2, 9 and 9 periods: a bridge that ends with its shorter call, one that an order ends, and an empty one
abbrev three : Run
three = record {
  lines = λ c. if c == 1 then lines 2 else lines 9;
  orders =
      at 0 (OpenCall 1 A) ∷ at 0 (OpenCall 2 A) ∷ at 0 (OpenCall 3 A) ∷ at 0 (Bridge 1 2) ∷ at 3 (Bridge 2 3) ∷ at 3 (Level 3 (pos 5)) ∷ at 5 (Unbridge 3) ∷
      at 6 (Bridge 3 2) ∷ at 6 (Unbridge 2) ∷ at 7 (CloseCall 2) ∷ at 9 (OpenCall 4 A) ∷ [];
  periods = 8;
}

three_spans : spans_in three
    ≡ record { a = 1; b = 2; from = 0; to = 2 } ∷ record { a = 2; b = 3; from = 3; to = 5 } ∷ record { a = 3; b = 2; from = 6; to = 6 } ∷ []
three_spans = refl

-- in which periods a call lies in a bridge, where one starts, and what is set: the newest first
three_marks : (map (λ t. is_some t.handed) (periods_to three 2 7) ≡ false ∷ false ∷ true ∷ true ∷ false ∷ true ∷ true ∷ [])
    × (map (λ t. t.starts) (periods_to three 2 7) ≡ true ∷ false ∷ false ∷ true ∷ false ∷ false ∷ true ∷ [])
    × (map (λ t. t.level) (periods_to three 3 4) ≡ pos 5 ∷ pos 256 ∷ pos 256 ∷ pos 256 ∷ [])
unfolding period_of
three_marks = (refl, refl, refl)

three_calls : calls_in three ≡ 1 ∷ 2 ∷ 3 ∷ []
three_calls = refl

-- Call 1 ends by its lines and call 2 is closed in period 7: so only call 3 is cut off by the run's end, and by an end
-- at period 5 both. Of call 1 two periods lie before period 5, of call 3 five.
three_marked : (filter (λ c. is_limit (cause_in three c)) (calls_in three) ≡ 3 ∷ [])
    × (filter (λ c. is_limit (cause_in (cut_at 5 three) c)) (calls_in (cut_at 5 three)) ≡ 2 ∷ 3 ∷ [])
    × (worked_to three 5 1 ≡ 2) × (worked_to three 5 3 ≡ 5) × (worked_to three 8 3 ≡ 8)
three_marked = (refl, refl, refl, refl, refl)
