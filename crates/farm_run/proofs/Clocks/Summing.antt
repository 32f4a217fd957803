-- The sums of a run's outgoing lines before its first round, and where its clock goes on with no call open.
use Rattle.std.proofs.Common.{◌≡◌, sym, ap, ◌∙◌, ℕ, ◌≤◌, false, List}
use Rattle.std.specs.Prelude.{IfSome}
use Rattle.trau_io.specs.declared.line.Side.{Side}
use Rattle.trau_io.specs.declared.line.Side.TheVariants.{Down, Out}
use Rattle.trau_io.specs.Lines.{LineState}
use Rattle.switchboard.specs.Calls.{is_open, gone_at}
use Rattle.switchboard.specs.State.{State, first_stamp}
use Rattle.farm_report.specs.Sums.{sum_of}
use Rattle.farm_rounds.specs.Calls.{Kept}
use Rattle.run_spec.specs.Run.{Run, whole_in, periods_to, who_in}
use Rattle.run_spec.specs.Lines.{out_line, down_octets}
use Rattle.farm_run.specs.Stages.{SumsAt}
use Rattle.farm_run.specs.Standing.{Standing}
use Rattle.farm_run.specs.Clock.{IsAtClock}
use Rattle.farm_run.proofs.Clocks.First.{none_worked, no_octets}
use Rattle.farm_run.proofs.Clocks.Idle.{idle}

-- **Before the first round each sum is that of no octets.**
pub sums_first : (r : Run) (sums : ℕ → Side → ℕ) → ((c : ℕ) (s : Side) → sums c s ≡ 0) → SumsAt r 0 sums
sums_first r sums none = record {
  out = λ c i. none c Out ∙ sym (ap (λ (k : ℕ). sum_of (out_line (who_in r c) (periods_to r c k))) (none_worked r c));
  down = λ c i. none c Down ∙ sym (ap (λ (k : ℕ). sum_of (down_octets (who_in r c) (periods_to r c k))) (none_worked r c) ∙ ap sum_of (no_octets (who_in r c)));
}

-- **Where no call is open the sums stay those of the run.**
pub sums_on : (r : Run) (t u : ℕ) (b : State) (calls : List Kept) (last : Standing) (first now : ℕ → Side → LineState) →
    IsAtClock r t b calls last first now → t ≤ u → u ≤ r.periods →
    IfSome (first_stamp b.left) (λ s. u ≤ s) →
    ((c : ℕ) → is_open (gone_at (whole_in r) t b.done) b.done c ≡ false) →
    (sums : ℕ → Side → ℕ) →
    SumsAt r t sums → SumsAt r u sums
sums_on r t u b calls last first now at l w n shut sums was = record {
  out = λ c i. was.out c i ∙ ap (λ (k : ℕ). sum_of (out_line (who_in r c) (periods_to r c k))) (sym (idle r t u b calls last first now at l w n shut c i));
  down = λ c i. was.down c i ∙ ap (λ (k : ℕ). sum_of (down_octets (who_in r c) (periods_to r c k)))
      (sym (idle r t u b calls last first now at l w n shut c i));
}
