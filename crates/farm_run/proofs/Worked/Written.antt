-- What goes out in a round is what the run's lines gain.
use Rattle.std.proofs.Common.{◌≡◌, refl, sym, ap, ◌∙◌, subst, ℕ, ◌+◌, ◌-◌, ◌*◌, ◌≤◌, Bool, true, false, Option, Some, List, ◌++◌, length, take}
use Rattle.std.proofs.Common.{drop, inl, inr, arith}
use Rattle.std.specs.Prelude.{min, is_some}
use Rattle.std.proofs.lemmas.Bool.{cases_Bool}
use Rattle.std.proofs.lemmas.List.{drop-append-le}
use Rattle.trau_io.specs.declared.ends.CallEnd.{CallEnd}
use Rattle.trau_io.specs.declared.line.Side.{Side}
use Rattle.trau_io.specs.declared.line.Side.TheVariants.{Down, Out}
use Rattle.trau_io.specs.Lines.{LineState}
use Rattle.round_lines.specs.Transfer.{has_failed}
use Rattle.round_lines.specs.Portions as portions
use Rattle.round_lines.specs.Portions.{down_given}
use Rattle.round_lines.specs.Rounds.{portion_at, call_at}
use Rattle.switchboard.specs.Calls.{is_open, gone_at}
use Rattle.switchboard.specs.Ends.{start_of}
use Rattle.switchboard.specs.State.{State}
use Rattle.trau_alaw.specs.declared.Law.{Law}
use Rattle.call_leg.specs.Periods.{CallPeriod}
use Rattle.call_pair.specs.History.{io_after}
use Rattle.call_pair.specs.Memory.{IoMemory}
use Rattle.farm_rounds.specs.Calls.{call_in, partner_in}
use Rattle.farm_rounds.specs.Memory.{FarmMemory}
use Rattle.farm_rounds.specs.Histories.{CallHistory, whose}
use Rattle.farm_rounds.specs.Opens.{portion_with}
use Rattle.farm_rounds.specs.Rounds.{io_of}
use Rattle.farm_rounds.specs.RoundHistories.{worked_histories}
use Rattle.run_spec.specs.Run.{Run, whole_in, done_in, periods_to, end_in, who_in, IsOpened, worked_to}
use Rattle.run_spec.specs.Lines.{out_line, down_octets}
use Rattle.run_spec.proofs.Periods.SoFar.{standing_now}
use Rattle.farm_run.proofs.Rounds.Taken.{IsRound, places_in}
use Rattle.farm_run.specs.Runs.{HasWritten, is_listed}
use Rattle.farm_run.specs.Match.{Matches, histories_at}
use Rattle.farm_run.specs.Standing.{Standing, standing}
use Rattle.farm_run.specs.Clock.{WrittenFrom, IsAtClock}
use Rattle.farm_run.proofs.Rounds.Open.{open_at}
use Rattle.farm_run.proofs.Rounds.Finished.{out_written, down_written}
use Rattle.farm_run.proofs.Clocks.Reach.{worked_now, worked_then, worked_idle}
use Rattle.farm_run.proofs.Worked.Round.{WorkedRound, MeetsRun}
use Rattle.farm_run.proofs.Worked.Facts.{lines_kept, writes_at, down_between, out_between}
use Rattle.farm_run.proofs.Lines.Gaining.{gains}
use Rattle.call_leg.proofs.LineLaws.{length-out_line}
use Rattle.run_spec.proofs.Parts.LongerLines.{length-down_octets, length-periods_to}
use Rattle.farm_run.proofs.Listed.Round.{listed_kept, was_down, was_out, stands_down, stands_out}
use Rattle.farm_run.proofs.Worked.Calls.{OpenPortion, open_portion, open_is, opened_is}
use Rattle.farm_run.proofs.Worked.Past.{IsPast, worked_past}

module _ (r : Run) (t n : ℕ) (b : State) (farm after : FarmMemory) (first before now : ℕ → Side → LineState) (ends : List CallEnd)
    (w : WorkedRound t n farm after before now ends) (h : IsRound r t n b.done b.left)
    (m : Matches b farm.calls) (b' : State) (last : Standing)
    (at : IsAtClock r t b farm.calls last first before)
    (meets : MeetsRun r n w.filled_portions (standing b' after.failed now) last) where
  -- whether a call is open at the clock
  abbrev pub alive : ℕ → Bool
  alive = is_open (gone_at (whole_in r) t b.done) b.done

  -- what is known of its portion
  abbrev pub Portion : ℕ → Type 0
  Portion c = OpenPortion r t n b farm after first before now ends w h m b' last at meets c

  abbrev pub portion : (c : ℕ) → alive c ≡ true → Portion c
  portion c o = open_portion r t n b farm after first before now ends w h m b' last at meets c o

  -- what each call has had before the round
  abbrev hs : ℕ → Option CallHistory
  hs = histories_at r b.done t

  -- what each call has had at the round's end, those that end in it too
  abbrev worked_at_end : ℕ → Option CallHistory
  worked_at_end = worked_histories w.filled_portions (partner_in farm.calls) hs

  -- what is known of the latter
  abbrev Past : ℕ → CallHistory → Type 0
  Past c x = IsPast r t n b farm after first before now ends w h m b' last at meets c x

  abbrev past : (c : ℕ) → alive c ≡ true → (x : CallHistory) × (worked_at_end c ≡ Some x) × Past c x
  past c o = worked_past r t n b farm after first before now ends w h m b' last at meets c o

  -- a call that isn't open for the run isn't so for the farm
  shut : (c : ℕ) → alive c ≡ false → is_some (call_in farm.calls c) ≡ false
  shut c o = open_is r t n b farm after first before now ends w h m b' last at meets c ∙ o

  -- a call that isn't open has no period in the round
  pub idle : (c : ℕ) → IsOpened r c → alive c ≡ false → worked_to r (t + n) c ≡ worked_to r t c
  idle c i o =
      let within = h.within in
      worked_idle r t (t + n) b.done b.left c h.so_far (omega arith) (omega arith) h.clear o i

  -- the lines of a call that isn't open stay
  pub kept : (c : ℕ) → alive c ≡ false → (s : Side) → now c s ≡ before c s
  kept c o s = lines_kept t n farm after before now ends w c (shut c o) s

  -- what a call's job left in its portion
  abbrev left_io : (c : ℕ) → alive c ≡ true → IoMemory
  left_io c o = let s = portion c o in let x =
      portion_at w.filled_portions s.k in io_after (who_in r c) (places_in r b.done t n c) (periods_to r c (t + places_in r b.done t n c - start_of b.done c)) (io_of x)

  -- the portion behind the work has that
  portion_left : (c : ℕ) (o : alive c ≡ true) →
      let s = portion c o in portion_at w.worked_portions s.k
      ≡ portion_with (portion_at w.filled_portions s.k).lines (left_io c o)
  portion_left c o =
      let s = portion c o in
      let p = past c o in
      let l = s.within in
      let x = portion_at w.filled_portions s.k in
      w.octets hs at.follows.stands s.k p.0 (omega (arith, l, w.filled_number, w.number)) (ap worked_at_end s.number ∙ p.1)
      ∙ ap (λ (k : ℕ). portion_with x.lines (io_after (whose (call_at w.filled_portions s.k) p.0) k p.0.periods (io_of x))) s.whole
      ∙ ap (λ (ts : List CallPeriod). portion_with x.lines (io_after (whose (call_at w.filled_portions s.k) p.0) (places_in r b.done t n c) ts (io_of x))) p.2.periods
      ∙ ap (λ (d : ℕ). portion_with x.lines (io_after (whose d p.0) (places_in r b.done t n c)
      (periods_to r c (t + places_in r b.done t n c - start_of b.done c)) (io_of x))) s.number
      ∙ ap (λ (l : Law). portion_with x.lines (io_after (record { number = c; law = l }) (places_in r b.done t n c)
      (periods_to r c (t + places_in r b.done t n c - start_of b.done c)) (io_of x))) p.2.law

  -- **What a line is to have gained grows by what goes out of the call's portion.**
  pub grown_out : (c : ℕ) (o : alive c ≡ true) → let s = portion c o in
      out_line (who_in r c) (periods_to r c (worked_to r (t + n) c)) ≡ out_line (who_in r c) (periods_to r c (worked_to r t c))
      ++ portions.out_given (portion_at w.worked_portions s.k)
  grown_out c o =
      let s = portion c o in
      let k = places_in r b.done t n c in
      let x = portion_at w.filled_portions s.k in
      let begun = (open_at r t b.done c (standing_now r t b.done b.left h.so_far) o).begun in
      ap (λ (k : ℕ). out_line (who_in r c) (periods_to r c k)) (worked_then r t n b.done b.left c h o)
      ∙ out_written r t k b.done c (io_of x) (left_io c o) begun refl
      ∙ ap (λ (xs : List ℕ). out_line (who_in r c) (periods_to r c (t - start_of b.done c)) ++ xs)
      (sym (ap portions.out_given (portion_left c o) ∙ ap (λ (k : ℕ). take (160 * k) (left_io c o).out) s.whole))
      ∙ sym (ap (λ (k : ℕ). out_line (who_in r c) (periods_to r c k) ++ portions.out_given (portion_at w.worked_portions s.k)) (worked_now r t n b.done b.left c h o))

  -- what the Down line is to have gained grows by what goes out of the call's portion
  pub grown_down : (c : ℕ) (o : alive c ≡ true) → let s = portion c o in
      down_octets (who_in r c) (periods_to r c (worked_to r (t + n) c))
      ≡ down_octets (who_in r c) (periods_to r c (worked_to r t c)) ++ portions.down_given (portion_at w.worked_portions s.k)
  grown_down c o =
      let s = portion c o in
      let k = places_in r b.done t n c in
      let x = portion_at w.filled_portions s.k in
      let begun = (open_at r t b.done c (standing_now r t b.done b.left h.so_far) o).begun in
      ap (λ (k : ℕ). down_octets (who_in r c) (periods_to r c k)) (worked_then r t n b.done b.left c h o)
      ∙ down_written r t k b.done c (io_of x) (left_io c o) begun refl
      ∙ ap (λ (xs : List ℕ). down_octets (who_in r c) (periods_to r c (t - start_of b.done c)) ++ xs)
      (sym (ap portions.down_given (portion_left c o) ∙ ap (λ (k : ℕ). take (40 * k) (left_io c o).down) s.whole))
      ∙ sym (ap (λ (k : ℕ). down_octets (who_in r c) (periods_to r c k) ++ portions.down_given (portion_at w.worked_portions s.k)) (worked_now r t n b.done b.left c h o))

  -- ---- what is written, from a period on

  -- no fewer periods lie before a later clock
  sooner : (from c : ℕ) → from ≤ t → worked_to r from c ≤ worked_to r t c
  sooner from c l = by (end_in r c) (start_of (done_in r) c)
    where
      by : (e s : ℕ) → min from e - s ≤ min t e - s
      by e s = omega arith

  -- **A line gains that, or a proper prefix of it.**
  wrote_out : w.held ≡ false → (from : ℕ) → from ≤ t →
      WrittenFrom r from t (is_listed farm.failed) first before → (c : ℕ) → alive c ≡ true →
      HasWritten (is_listed after.failed c Out) (first c Out) (now c Out)
      (drop (160 * worked_to r from c) (out_line (who_in r c) (periods_to r c (worked_to r (t + n) c))))
  wrote_out written from l wrote c o =
      let s = portion c o in
      let k = 160 * worked_to r from c in
      let old = out_line (who_in r c) (periods_to r c (worked_to r t c)) in
      let front = drop k old in
      let fits : k ≤ length old =
      omega (arith, length-out_line (who_in r c) (periods_to r c (worked_to r t c)), length-periods_to r c (worked_to r t c), sooner from c l) in
      let was = wrote.out c (opened_is r t n b farm after first before now ends w h m b' last at meets c o) in
      subst (λ (x : Bool). HasWritten x (first c Out) (now c Out) (drop k (out_line (who_in r c) (periods_to r c (worked_to r (t + n) c)))))
      (stands_out t n farm after before now ends w s.k c s.within s.here)
      (subst (HasWritten (has_failed (portion_at w.drained_portions s.k).lines.out) (first c Out) (now c Out))
      (sym (ap (drop k) (grown_out c o) ∙ drop-append-le k old (portions.out_given (portion_at w.worked_portions s.k)) fits))
      (gains (first c Out) (w.between c Out) (now c Out) (portion_at w.worked_portions s.k).lines.out (portion_at w.drained_portions s.k).lines.out front
      (portions.out_given (portion_at w.worked_portions s.k)) (writes_at t n farm after before now ends w s.k c s.within s.here written).out
      (subst (λ (x : Bool). HasWritten x (first c Out) (w.between c Out) front)
      (sym (was_out t n farm after before now ends w s.k c s.within s.here))
      (subst (λ (l : LineState). HasWritten (is_listed farm.failed c Out) (first c Out) l front) (sym (out_between t n farm after before now ends w c)) was))))

  -- the Down line gains that, or a proper prefix of it
  wrote_down : w.held ≡ false → (from : ℕ) → from ≤ t →
      WrittenFrom r from t (is_listed farm.failed) first before → (c : ℕ) → alive c ≡ true →
      HasWritten (is_listed after.failed c Down) (first c Down) (now c Down)
      (drop (40 * worked_to r from c) (down_octets (who_in r c) (periods_to r c (worked_to r (t + n) c))))
  wrote_down written from l wrote c o =
      let s = portion c o in
      let k = 40 * worked_to r from c in
      let old = down_octets (who_in r c) (periods_to r c (worked_to r t c)) in
      let front = drop k old in
      let fits : k ≤ length old =
      omega (arith, length-down_octets (who_in r c) (periods_to r c (worked_to r t c)), length-periods_to r c (worked_to r t c), sooner from c l) in
      let was = wrote.down c (opened_is r t n b farm after first before now ends w h m b' last at meets c o) in
      subst (λ (x : Bool). HasWritten x (first c Down) (now c Down) (drop k (down_octets (who_in r c) (periods_to r c (worked_to r (t + n) c)))))
      (stands_down t n farm after before now ends w s.k c s.within s.here)
      (subst (HasWritten (has_failed (portion_at w.drained_portions s.k).lines.down) (first c Down) (now c Down))
      (sym (ap (drop k) (grown_down c o) ∙ drop-append-le k old (portions.down_given (portion_at w.worked_portions s.k)) fits))
      (gains (first c Down) (w.between c Down) (now c Down) (portion_at w.worked_portions s.k).lines.down (portion_at w.drained_portions s.k).lines.down front
      (portions.down_given (portion_at w.worked_portions s.k)) (writes_at t n farm after before now ends w s.k c s.within s.here written).down
      (subst (λ (x : Bool). HasWritten x (first c Down) (w.between c Down) front)
      (sym (was_down t n farm after before now ends w s.k c s.within s.here))
      (subst (λ (l : LineState). HasWritten (is_listed farm.failed c Down) (first c Down) l front)
      (sym (down_between t n farm after before now ends w c)) was))))

  -- **What is written after the round.**
  pub written_after : w.held ≡ false → (from : ℕ) → from ≤ t → WrittenFrom r from t (is_listed farm.failed) first before →
      WrittenFrom r from (t + n) (is_listed after.failed) first now
  written_after written from l wrote = record { out = out; down = down }
    where
      still : (c : ℕ) (s : Side) → alive c ≡ false → is_listed after.failed c s ≡ is_listed farm.failed c s
      still c s o = listed_kept t n farm after before now ends w c s (shut c o)

      out : (c : ℕ) → IsOpened r c → HasWritten (is_listed after.failed c Out) (first c Out) (now c Out)
          (drop (160 * worked_to r from c) (out_line (who_in r c) (periods_to r c (worked_to r (t + n) c))))
      out c i = elim (cases_Bool (alive c)) [
        | inl o ↦ wrote_out written from l wrote c o
        | inr o ↦ subst (λ (k : ℕ). HasWritten (is_listed after.failed c Out) (first c Out) (now c Out)
            (drop (160 * worked_to r from c) (out_line (who_in r c) (periods_to r c k)))) (sym (idle c i o))
            (subst (λ (l : LineState). HasWritten (is_listed after.failed c Out) (first c Out) l
            (drop (160 * worked_to r from c) (out_line (who_in r c) (periods_to r c (worked_to r t c))))) (sym (kept c o Out))
            (subst (λ (x : Bool). HasWritten x (first c Out) (before c Out)
            (drop (160 * worked_to r from c) (out_line (who_in r c) (periods_to r c (worked_to r t c))))) (sym (still c Out o)) (wrote.out c i)))
      ]

      down : (c : ℕ) → IsOpened r c → HasWritten (is_listed after.failed c Down) (first c Down) (now c Down)
          (drop (40 * worked_to r from c) (down_octets (who_in r c) (periods_to r c (worked_to r (t + n) c))))
      down c i = elim (cases_Bool (alive c)) [
        | inl o ↦ wrote_down written from l wrote c o
        | inr o ↦ subst (λ (k : ℕ). HasWritten (is_listed after.failed c Down) (first c Down) (now c Down)
            (drop (40 * worked_to r from c) (down_octets (who_in r c) (periods_to r c k)))) (sym (idle c i o))
            (subst (λ (l : LineState). HasWritten (is_listed after.failed c Down) (first c Down) l
            (drop (40 * worked_to r from c) (down_octets (who_in r c) (periods_to r c (worked_to r t c))))) (sym (kept c o Down))
            (subst (λ (x : Bool). HasWritten x (first c Down) (before c Down)
            (drop (40 * worked_to r from c) (down_octets (who_in r c) (periods_to r c (worked_to r t c))))) (sym (still c Down o)) (wrote.down c i)))
      ]
