-- For crates above: if no line has a new fault, no line is listed (`none_listed`).
-- A run at its end: what it leaves on the lines.
use Rattle.std.proofs.Common.{◌≡◌, refl, sym, ap, ◌∙◌, subst, ℕ, ◌-◌, ◌*◌, Bool, true, false, Some, List, [], ◌∷◌, length, drop, inr, append-nil}
use Rattle.trau_io.specs.declared.line.Line.{Line}
use Rattle.trau_io.specs.declared.line.Side.{Side}
use Rattle.trau_io.specs.declared.line.Side.TheVariants.{Up, Pcm, Down, Out}
use Rattle.trau_io.specs.Lines.{LineState}
use Rattle.switchboard.specs.Ends.{start_of}
use Rattle.switchboard.specs.State.{State}
use Rattle.farm_rounds.specs.Calls.{Kept}
use Rattle.run_spec.specs.Run.{Run, done_in, periods_to, periods_in, end_in, who_in, IsOpened, cause_in, worked_to}
use Rattle.run_spec.specs.Lines.{out_line, down_octets}
use Rattle.farm_run.specs.Runs.{TellsFailed, NoneRose, HasWritten, IsCutOff, IsReadTo, is_listed, Leaves}
use Rattle.farm_run.specs.Resuming.{LeavesFrom}
use Rattle.farm_run.specs.Standing.{standing, IsToCome, never_given}
use Rattle.farm_run.proofs.Listed.Tests.{listed_head}
use Rattle.farm_run.specs.Clock.{WrittenFrom, IsAtClock}
use Rattle.run_spec.proofs.Parts.LongerLines.{length-periods_to}
use Rattle.farm_run.proofs.Clocks.Reach.{worked_all}
use Rattle.farm_run.proofs.Clocks.First.{none_worked}

-- a line that didn't fail holds the rest of its octets
pub rest_of : (fails : Bool) (now end : LineState) (k : ℕ) (line : List ℕ) → fails ≡ false →
    IsToCome now k line (never_given fails end) → IsReadTo now k line
rest_of false now end k line e h = h ∙ ap Some (append-nil (drop k line))
rest_of true now end k line e h = cc

-- **From period 0 on is all that was written.**
pub all_out : (r : Run) (t c : ℕ) (listed : ℕ → Side → Bool) (first now : ℕ → Side → LineState) →
    WrittenFrom r 0 t listed first now → IsOpened r c →
    HasWritten (listed c Out) (first c Out) (now c Out) (out_line (who_in r c) (periods_to r c (worked_to r t c)))
all_out r t c listed first now wrote i =
    subst (λ (k : ℕ). HasWritten (listed c Out) (first c Out) (now c Out) (drop (160 * k) (out_line (who_in r c) (periods_to r c (worked_to r t c)))))
    (none_worked r c) (wrote.out c i)

pub all_down : (r : Run) (t c : ℕ) (listed : ℕ → Side → Bool) (first now : ℕ → Side → LineState) →
    WrittenFrom r 0 t listed first now → IsOpened r c →
    HasWritten (listed c Down) (first c Down) (now c Down) (down_octets (who_in r c) (periods_to r c (worked_to r t c)))
all_down r t c listed first now wrote i =
    subst (λ (k : ℕ). HasWritten (listed c Down) (first c Down) (now c Down) (drop (40 * k) (down_octets (who_in r c) (periods_to r c (worked_to r t c)))))
    (none_worked r c) (wrote.down c i)

module _ (r : Run) (b : State) (calls : List Kept) (failed : List Line) (first now : ℕ → Side → LineState)
    (at : IsAtClock r r.periods b calls (standing b failed now) first now) where
  -- **At the run's end all periods of its calls lie before the clock.**
  pub all : (c : ℕ) → worked_to r r.periods c ≡ end_in r c - start_of (done_in r) c
  all c = worked_all r r.periods b.done b.left c at.follows.so_far

  -- they are all of its periods
  long : (c : ℕ) → worked_to r r.periods c ≡ length (periods_in r c)
  long c = all c ∙ sym (length-periods_to r c (end_in r c - start_of (done_in r) c))

  -- **Of a line that didn't end its call exactly the octets of the call's periods were read.**
  pub up_rest : (c : ℕ) → IsOpened r c → is_listed failed c Up ≡ false → IsCutOff (cause_in r c) →
      IsReadTo (now c Up) (40 * length (periods_in r c)) (r.lines c).up
  up_rest c i f q = rest_of (is_listed failed c Up) (now c Up) (now c Up) (40 * worked_to r r.periods c) (r.lines c).up f (at.lines.up_read c i (inr q))
      ∙ ap (λ (k : ℕ). Some (drop (40 * k) (r.lines c).up)) (long c)

  pub pcm_rest : (c : ℕ) → IsOpened r c → is_listed failed c Pcm ≡ false → IsCutOff (cause_in r c) →
      IsReadTo (now c Pcm) (160 * length (periods_in r c)) (r.lines c).pcm
  pcm_rest c i f q = rest_of (is_listed failed c Pcm) (now c Pcm) (now c Pcm) (160 * worked_to r r.periods c) (r.lines c).pcm f (at.lines.pcm_read c i (inr q))
      ∙ ap (λ (k : ℕ). Some (drop (160 * k) (r.lines c).pcm)) (long c)

  -- **It has left on the lines what it gives.**
  pub leaves_all : WrittenFrom r 0 r.periods (is_listed failed) first now → Leaves r (is_listed failed) first now
  leaves_all wrote = record {
    out = λ c i. subst (λ (k : ℕ). HasWritten (is_listed failed c Out) (first c Out) (now c Out) (out_line (who_in r c) (periods_to r c k))) (all c)
        (all_out r r.periods c (is_listed failed) first now wrote i);
    down = λ c i. subst (λ (k : ℕ). HasWritten (is_listed failed c Down) (first c Down) (now c Down) (down_octets (who_in r c) (periods_to r c k))) (all c)
        (all_down r r.periods c (is_listed failed) first now wrote i);
    up_read = up_rest;
    pcm_read = pcm_rest;
    others = at.lines.others;
  }

  -- **Where what lies before a period is held back, the octets from there on.**
  pub leaves_from : (from : ℕ) → WrittenFrom r from r.periods (is_listed failed) first now → LeavesFrom r from (is_listed failed) first now
  leaves_from from wrote = record {
    out = λ c i. subst (λ (k : ℕ). HasWritten (is_listed failed c Out) (first c Out) (now c Out)
        (drop (160 * worked_to r from c) (out_line (who_in r c) (periods_to r c k)))) (all c) (wrote.out c i);
    down = λ c i. subst (λ (k : ℕ). HasWritten (is_listed failed c Down) (first c Down) (now c Down)
        (drop (40 * worked_to r from c) (down_octets (who_in r c) (periods_to r c k)))) (all c) (wrote.down c i);
    up_read = up_rest;
    pcm_read = pcm_rest;
    others = at.lines.others;
  }

-- **Where no count rose, no line is listed.**
pub none_listed : (first now : ℕ → Side → LineState) (lines : List Line) → TellsFailed first now lines → NoneRose first now → lines ≡ []
none_listed first now [] h n = refl
none_listed first now (x ∷ lines) h n = absurd (n x.call x.side (h.failures.rose x.call x.side (listed_head x lines)))
