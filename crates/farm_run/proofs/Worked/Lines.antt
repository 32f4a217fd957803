-- A round leaves the lines as the run has them behind it, and so all that stands at a clock.
use Rattle.std.proofs.Common.{◌≡◌, sym, ap, ◌∙◌, subst, ℕ, ◌+◌, ◌-◌, ◌*◌, ◌≤◌, Bool, true, false, not, ◌&&◌, Option, Some, List, ◌++◌, drop, inl, inr, arith}
use Rattle.std.proofs.Common.{mul-add}
use Rattle.std.specs.Prelude.{min, nat_lt}
use Rattle.std.proofs.lemmas.Bool.{cases_Bool, cases_lt, lt-ltb}
use Rattle.trau_io.specs.declared.ends.CallEnd.{CallEnd}
use Rattle.trau_io.specs.declared.ends.Cause.{Cause}
use Rattle.trau_io.specs.declared.line.Side.{Side}
use Rattle.trau_io.specs.declared.line.Side.TheVariants.{Up, Pcm}
use Rattle.trau_io.specs.Lines.{LineState}
use Rattle.switchboard.specs.Calls.{Done, is_open, gone_at}
use Rattle.switchboard.specs.Ends.{lack_of, end_of, start_of}
use Rattle.switchboard.specs.State.{State}
use Rattle.switchboard.specs.Open.{open_now}
use Rattle.switchboard.specs.Runs.{TellsEnds}
use Rattle.farm_rounds.specs.Calls.{partner_in}
use Rattle.farm_rounds.specs.Memory.{FarmMemory}
use Rattle.farm_rounds.specs.Histories.{CallHistory}
use Rattle.farm_rounds.specs.Working.{goes_on_call}
use Rattle.farm_rounds.specs.RoundHistories.{worked_histories, those_that}
use Rattle.run_spec.specs.Run.{Run, given_in, whole_in, done_in, end_in, IsOpened, cause_in, worked_to}
use Rattle.run_spec.specs.Now.{IsSoFar}
use Rattle.run_spec.proofs.Periods.SoFar.{standing_now}
use Rattle.farm_run.proofs.Rounds.Taken.{IsRound, places_in, ends_within}
use Rattle.farm_run.specs.Runs.{IsCutOff, IsReadWhole}
use Rattle.farm_run.specs.Match.{Matches, histories_at}
use Rattle.farm_run.specs.Standing.{Standing, standing, IsToCome, never_given}
use Rattle.farm_run.specs.Clock.{LinesAt, IsAtClock}
use Rattle.farm_run.proofs.Rounds.Open.{open_at}
use Rattle.farm_run.proofs.Ordered.Following.{stand_same}
use Rattle.farm_run.proofs.Rounds.Ends.{end_within, start_kept, not_by_lines}
use Rattle.farm_run.proofs.Told.Boards.{told_done, told_left, round_over}
use Rattle.farm_run.proofs.Clocks.Reach.{end_after, worked_then}
use Rattle.farm_run.proofs.Worked.Round.{WorkedRound, MeetsRun}
use Rattle.farm_run.proofs.Worked.Calls.{OpenPortion, open_portion, opened_is}
use Rattle.farm_run.proofs.Worked.Board as worked_board
use Rattle.farm_run.proofs.Worked.Written as worked_written
use Rattle.farm_run.specs.Ending.{told_after, is_told}

-- the cause of an end
abbrev cause_of : CallEnd → Cause
cause_of e = e.cause

module _ (r : Run) (t n : ℕ) (b : State) (farm after : FarmMemory) (first before now : ℕ → Side → LineState) (ends : List CallEnd)
    (w : WorkedRound t n farm after before now ends) (h : IsRound r t n b.done b.left)
    (m : Matches b farm.calls) (b' : State) (last : Standing)
    (at : IsAtClock r t b farm.calls last first before)
    (meets : MeetsRun r n w.filled_portions (standing b' after.failed now) last) (told : b' ≡ told_after b ends)
    (open_then : (c : ℕ) → open_now b' c ≡ (open_now b c && not (is_told c ends))) where
  -- whether a call is open at the clock
  abbrev pub alive : ℕ → Bool
  alive = is_open (gone_at (whole_in r) t b.done) b.done

  -- what is known of its portion
  abbrev pub Portion : ℕ → Type 0
  Portion c = OpenPortion r t n b farm after first before now ends w h m b' last at meets c

  abbrev pub portion : (c : ℕ) → alive c ≡ true → Portion c
  portion c o = open_portion r t n b farm after first before now ends w h m b' last at meets c o

  -- what each call has had before the round
  abbrev hs : ℕ → Option CallHistory
  hs = histories_at r b.done t

  -- what each call has had at the round's end, those that end in it too
  abbrev worked_at_end : ℕ → Option CallHistory
  worked_at_end = worked_histories w.filled_portions (partner_in farm.calls) hs

  -- a call that isn't open has no period in the round, and its lines stay
  idle : (c : ℕ) → IsOpened r c → alive c ≡ false → worked_to r (t + n) c ≡ worked_to r t c
  idle = worked_written.idle r t n b farm after first before now ends w h m b' last at meets

  kept : (c : ℕ) → alive c ≡ false → (s : Side) → now c s ≡ before c s
  kept = worked_written.kept r t n b farm after first before now ends w h m b' last at meets

  -- the board and the farm behind it
  tells_after : TellsEnds (whole_in r) (t + n) b'
  tells_after = worked_board.tells_after r t n b farm after first before now ends w h m b' last at meets told open_then

  histories_after : (c : ℕ) → those_that (goes_on_call w.worked_portions) worked_at_end c ≡ histories_at r b.done (t + n) c
  histories_after = worked_board.histories_after r t n b farm after first before now ends w h m b' last at meets told open_then

  -- a call whose incoming lines are read whole has all periods of the round
  reads_all : (c : ℕ) → alive c ≡ true → IsReadWhole r (t + n) c → places_in r b.done t n c ≡ n
  reads_all c o (inl l) = by (end_in r c) (places_in r b.done t n c) l (end_after r t n b.done b.left c h o)
    where
      by : (e k : ℕ) → t + n ≤ e → min (t + n) e ≡ t + k → k ≡ n
      by e k l q = omega arith
  reads_all c o (inr q) = elim (cases_lt (places_in r b.done t n c) n) [
    | inl l ↦
        let ends : ends_within r b.done t n c ≡ true = ap (λ (x : Bool). x && nat_lt (places_in r b.done t n c) n) o ∙ lt-ltb (places_in r b.done t n c) n l in
        let cause : cause_in r c ≡ lack_of (whole_in r c) (given_in r c) =
        ap (λ (s : ℕ). cause_of (end_of (given_in r) r.periods (done_in r) c s)) (start_kept r t n b.done b.left c h o)
        ∙ ap cause_of (end_within r t n b.done b.left c h ends) in
        absurd (not_by_lines (whole_in r c) (given_in r c) (subst IsCutOff cause q))
    | inr l ↦ most n (start_of b.done c + whole_in r c - t) l
  ]
    where
      most : (n m : ℕ) → n ≤ min n m → min n m ≡ n
      most n m l = omega arith

  -- so many octets of such a call's line lie before the round's end
  read_to : (c m : ℕ) → alive c ≡ true → IsReadWhole r (t + n) c → m * worked_to r (t + n) c ≡ m * (t - start_of b.done c) + m * n
  read_to c m o q =
      let begun = (open_at r t b.done c (standing_now r t b.done b.left h.so_far) o).begun in
      ap (λ (k : ℕ). m * k) (worked_then r t n b.done b.left c h o ∙ ap (λ (k : ℕ). t + k - start_of b.done c) (reads_all c o q)
      ∙ sum (start_of b.done c) begun) ∙ spread (t - start_of b.done c)
    where
      sum : (s : ℕ) → s ≤ t → t + n - s ≡ t - s + n
      sum s l = omega arith

      spread : (k : ℕ) → m * (k + n) ≡ m * k + m * n
      spread k = mul-add m k n

  -- **The lines after the round.**
  pub lines_after : LinesAt r (t + n) last first now
  lines_after = record { up_read = up_read; pcm_read = pcm_read; others = others }
    where
      earlier : (c : ℕ) → IsReadWhole r (t + n) c → IsReadWhole r t c
      earlier c (inl l) = inl (omega arith)
      earlier c (inr q) = inr q

      up_read : (c : ℕ) → IsOpened r c → IsReadWhole r (t + n) c → IsToCome (now c Up) (40 * worked_to r (t + n) c) (r.lines c).up
          (never_given (last.listed c Up) (last.lines c Up))
      up_read c i q = elim (cases_Bool (alive c)) [
        | inl o ↦ (portion c o).up_left ∙ ap (λ (k : ℕ). Some (drop k (r.lines c).up ++ never_given (last.listed c Up) (last.lines c Up))) (sym (read_to c 40 o q))
        | inr o ↦ ap (λ (l : LineState). l.to_come) (kept c o Up) ∙ at.lines.up_read c i (earlier c q)
            ∙ ap (λ (k : ℕ). Some (drop (40 * k) (r.lines c).up ++ never_given (last.listed c Up) (last.lines c Up))) (sym (idle c i o))
      ]

      pcm_read : (c : ℕ) → IsOpened r c → IsReadWhole r (t + n) c → IsToCome (now c Pcm) (160 * worked_to r (t + n) c) (r.lines c).pcm
          (never_given (last.listed c Pcm) (last.lines c Pcm))
      pcm_read c i q = elim (cases_Bool (alive c)) [
        | inl o ↦ (portion c o).pcm_left ∙ ap (λ (k : ℕ). Some (drop k (r.lines c).pcm ++ never_given (last.listed c Pcm) (last.lines c Pcm)))
            (sym (read_to c 160 o q))
        | inr o ↦ ap (λ (l : LineState). l.to_come) (kept c o Pcm) ∙ at.lines.pcm_read c i (earlier c q)
            ∙ ap (λ (k : ℕ). Some (drop (160 * k) (r.lines c).pcm ++ never_given (last.listed c Pcm) (last.lines c Pcm))) (sym (idle c i o))
      ]

      others : (c : ℕ) (s : Side) → (IsOpened r c → ⊥) → now c s ≡ first c s
      others c s none = elim (cases_Bool (alive c)) [
        | inl o ↦ absurd (none (opened_is r t n b farm after first before now ends w h m b' last at meets c o))
        | inr o ↦ kept c o s ∙ at.lines.others c s none
      ]

  -- **Board, farm and lines are those of the run behind the round.**
  pub clock_is : IsAtClock r (t + n) b' after.calls last first now
  clock_is =
      let done : b'.done ≡ b.done = ap (λ (s : State). s.done) told ∙ told_done b ends in
      let left : b'.left ≡ b.left = ap (λ (s : State). s.left) told ∙ told_left b ends in
      record {
        follows = record {
          so_far = subst (λ (ds : List Done). IsSoFar r (t + n) ds b'.left) (sym done)
              (subst (IsSoFar r (t + n) b.done) (sym left) (round_over r t n b.done b.left h));
          tells = tells_after;
          stands = stand_same (those_that (goes_on_call w.worked_portions) worked_at_end) (histories_at r b'.done (t + n)) after.calls
              (λ c. histories_after c ∙ ap (λ (ds : List Done). histories_at r ds (t + n) c) (sym done)) (w.stands hs at.follows.stands);
        };
        lines = lines_after;
      }
