-- A drill as a run, and its text (this project's profile).
use Rattle.std.specs.Prelude.{◌≡◌, ◌≤◌, ℕ, false, List, [], ◌++◌}
use Rattle.std.specs.List.{flat_map}
use Rattle.trau_io.specs.declared.line.Side.{Side}
use Rattle.trau_io.specs.Lines.{LineState}
use Rattle.trau_io.specs.Memory.{state_of}
use Rattle.trau_orders.specs.Lists.{AreOrders}
use Rattle.farm_drill.specs.Lines.{up_line, pcm_line, line_of_call}
use Rattle.farm_drill.specs.Orders.{drilled_orders}
use Rattle.run_spec.specs.Run.{Run}
use Rattle.run_spec.specs.Lines.{out_of_call, down_of_call}
use Rattle.run_spec.specs.Facts.{report_of, calls_in}
use Rattle.farm_report.specs.Lines.{report_text}
use Rattle.farm_report.specs.Sums.{sum_line}
use Rattle.farm_run.specs.Runs.{Leaves, none_fails}

-- the run of a drill: its orders over its lines, up to its last period; no line fails
abbrev pub drilled_run : ℕ → ℕ → ℕ → Run
drilled_run seed calls periods = record {
  lines = λ c. record { up = up_line seed c periods; pcm = pcm_line seed c periods; up_failed = false; pcm_failed = false };
  orders = drilled_orders calls periods;
  periods = periods;
}

-- The text of a run in which no line fails: the report, followed by a line for each call, in call-number order, with
-- the sums of what the run gives its outgoing lines.
unfoldable pub text_with_sums : Run → List ℕ
text_with_sums r = report_text (report_of r []) ++ flat_map (λ c. sum_line c (out_of_call r c) (down_of_call r c)) (calls_in r)

-- This is the text of a drill. Lines with the drill's contents exist on which its run leaves what it gives, and none of
-- them fails. That the drill processed these very lines isn't said.
pub record IsDrilled (seed calls periods : ℕ) (text : List ℕ) : Type 0 where
  pub before : ℕ → Side → LineState
  pub now : ℕ → Side → LineState
  pub lines : (c : ℕ) (s : Side) → 1 ≤ c → c ≤ calls → before c s ≡ state_of (line_of_call seed c periods s)
  pub ordered : AreOrders (drilled_orders calls periods)
  pub leaves : Leaves (drilled_run seed calls periods) none_fails before now
  pub calm : (c : ℕ) (s : Side) → 1 ≤ c → c ≤ calls → (now c s).faults ≡ 0
  pub spelled : text ≡ text_with_sums (drilled_run seed calls periods)
