-- A round leaves the board and the farm as the run has them behind it.
use Rattle.std.proofs.Common.{◌≡◌, refl, sym, ap, ◌∙◌, subst, ℕ, ◌+◌, ◌-◌, Bool, true, false, not, ◌&&◌, ◌||◌, Option, Some, None, List}
use Rattle.std.specs.Prelude.{◌==◌, if◌then◌else◌, is_some, option_map}
use Rattle.std.specs.List.{AllByRecursion}
use Rattle.std.proofs.lemmas.Bool.{eqb-true}
use Rattle.trau_io.specs.declared.ends.CallEnd.{CallEnd}
use Rattle.trau_io.specs.declared.line.Side.{Side}
use Rattle.trau_io.specs.Lines.{LineState}
use Rattle.switchboard.specs.Calls.{opened_at, closed_at, is_open, gone_at}
use Rattle.switchboard.specs.Ends.{end_of, start_of}
use Rattle.switchboard.specs.State.{State, gone_in}
use Rattle.switchboard.specs.Open.{open_now}
use Rattle.switchboard.specs.Runs.{TellsEnds}
use Rattle.trau_alaw.specs.declared.Law.{Law}
use Rattle.call_leg.specs.Periods.{CallPeriod}
use Rattle.call_leg.specs.Settings.{Settings}
use Rattle.farm_rounds.specs.Calls.{partner_in}
use Rattle.farm_rounds.specs.Memory.{FarmMemory}
use Rattle.farm_rounds.specs.Histories.{CallHistory}
use Rattle.farm_rounds.specs.Working.{goes_on_call}
use Rattle.farm_rounds.specs.RoundHistories.{history_with, worked_histories, those_that}
use Rattle.run_spec.specs.Run.{Run, given_in, whole_in, done_in, periods_to, law_in}
use Rattle.run_spec.specs.Now.{settings_now}
use Rattle.farm_run.proofs.Rounds.Taken.{IsRound, places_in, ends_within}
use Rattle.farm_run.specs.Match.{Matches, past_if, histories_at}
use Rattle.farm_run.specs.Standing.{Standing, standing}
use Rattle.farm_run.specs.Clock.{IsAtClock}
use Rattle.farm_run.proofs.Rounds.Open.{open_after, shut_after}
use Rattle.farm_run.proofs.Rounds.Ends.{end_within}
use Rattle.farm_run.proofs.Told.Boards.{told_done, gone_round}
use Rattle.farm_run.proofs.Told.Portions.{each_end, told_portions}
use Rattle.farm_run.proofs.Worked.Round.{WorkedRound, MeetsRun}
use Rattle.farm_run.proofs.Worked.Calls.{all_portions, all_have_portions, ends_filled, goes_on_is}
use Rattle.farm_run.proofs.Worked.Past.{IsPast, worked_past}
use Rattle.farm_run.specs.Ending.{told_after, is_told}

-- the call of an end
abbrev call_is : CallEnd → ℕ
call_is e = e.call

module _ (r : Run) (t n : ℕ) (b : State) (farm after : FarmMemory) (first before now : ℕ → Side → LineState) (ends : List CallEnd)
    (w : WorkedRound t n farm after before now ends) (h : IsRound r t n b.done b.left)
    (m : Matches b farm.calls) (b' : State) (last : Standing)
    (at : IsAtClock r t b farm.calls last first before)
    (meets : MeetsRun r n w.filled_portions (standing b' after.failed now) last) (told : b' ≡ told_after b ends)
    (open_then : (c : ℕ) → open_now b' c ≡ (open_now b c && not (is_told c ends))) where
  -- whether a call is open at the clock
  abbrev pub alive : ℕ → Bool
  alive = is_open (gone_at (whole_in r) t b.done) b.done

  -- what each call has had before the round
  abbrev hs : ℕ → Option CallHistory
  hs = histories_at r b.done t

  -- what each call has had at the round's end, those that end in it too
  abbrev worked_at_end : ℕ → Option CallHistory
  worked_at_end = worked_histories w.filled_portions (partner_in farm.calls) hs

  -- what is known of the latter
  abbrev Past : ℕ → CallHistory → Type 0
  Past c x = IsPast r t n b farm after first before now ends w h m b' last at meets c x

  abbrev past : (c : ℕ) → alive c ≡ true → (x : CallHistory) × (worked_at_end c ≡ Some x) × Past c x
  past c o = worked_past r t n b farm after first before now ends w h m b' last at meets c o

  -- a call goes on where its lines give all periods of the round
  goes : (c : ℕ) → alive c ≡ true → goes_on_call w.worked_portions c ≡ (places_in r b.done t n c == n)
  goes c o = goes_on_is r t n b farm after first before now ends w h m b' last at meets c o

  -- ---- the board and the farm

  -- **The ends that are told are those of exactly the calls that end within the round.**
  pub told_is : (c : ℕ) → is_told c ends ≡ ends_within r b.done t n c
  told_is c =
      ap (is_told c) (ends_filled r t n b farm after first before now ends w h m b' last at meets)
      ∙ told_portions r t n b.done b.left w.filled_portions h (all_portions r t n b farm after first before now ends w h m b' last at meets)
      (all_have_portions r t n b farm after first before now ends w h m b' last at meets) c

  -- each is the run's end of its call
  pub ends_are : AllByRecursion (λ e. (ends_within r b.done t n e.call ≡ true)
      × (e ≡ end_of (given_in r) r.periods (done_in r) e.call (start_of b.done e.call))) ends
  ends_are =
      subst (AllByRecursion (λ e. (ends_within r b.done t n e.call ≡ true) × (e ≡ end_of (given_in r) r.periods (done_in r) e.call (start_of b.done e.call))))
      (sym (ends_filled r t n b farm after first before now ends w h m b' last at meets))
      (each_end (λ e. (ends_within r b.done t n e.call ≡ true) × (e ≡ end_of (given_in r) r.periods (done_in r) e.call (start_of b.done e.call))) r t n
      b.done b.left w.filled_portions h
      (all_portions r t n b farm after first before now ends w h m b' last at meets) right)
    where
      right : (c : ℕ) → ends_within r b.done t n c ≡ true → let e = end_of (given_in r) r.periods (done_in r) c (start_of b.done c) in
          (ends_within r b.done t n e.call ≡ true) × (e ≡ end_of (given_in r) r.periods (done_in r) e.call (start_of b.done e.call))
      right c q =
          let same = ap call_is (end_within r t n b.done b.left c h q) in
          (ap (ends_within r b.done t n) same ∙ q, ap (λ (d : ℕ). end_of (given_in r) r.periods (done_in r) d (start_of b.done d)) (sym same))

  -- behind the round the ends are told in time
  pub tells_after : TellsEnds (whole_in r) (t + n) b'
  tells_after c opened unclosed =
      let same : b'.done ≡ b.done = ap (λ (s : State). s.done) told ∙ told_done b ends in
      let opened' : is_some (opened_at c b.done) ≡ true = ap (λ ds. is_some (opened_at c ds)) (sym same) ∙ opened in
      let unclosed' : closed_at c b.done ≡ None = ap (closed_at c) (sym same) ∙ unclosed in
      by (is_some (opened_at c b'.done)) (is_some (opened_at c b.done)) (is_some (closed_at c b'.done)) (is_some (closed_at c b.done)) (gone_in b' c)
      (gone_in b c) (is_told c ends)
      opened opened' (ap is_some unclosed) (ap is_some unclosed') (open_then c)
      ∙ ap (λ (x : Bool). x || is_told c ends) (at.follows.tells c opened' unclosed')
      ∙ ap (λ (x : Bool). gone_at (whole_in r) t b.done c || x) (told_is c)
      ∙ sym (gone_round r t n b.done c opened' unclosed')
      ∙ ap (λ ds. gone_at (whole_in r) (t + n) ds c) (sym same)
    where
      by : (p p' q q' g g' e : Bool) → p ≡ true → p' ≡ true → q ≡ false → q' ≡ false →
          (p && not q && not g) ≡ ((p' && not q' && not g') && not e) → g ≡ (g' || e)
      by true true false false true true e h1 h2 h3 h4 k = refl
      by true true false false true false true h1 h2 h3 h4 k = refl
      by true true false false true false false h1 h2 h3 h4 k = cc
      by true true false false false true e h1 h2 h3 h4 k = cc
      by true true false false false false true h1 h2 h3 h4 k = cc
      by true true false false false false false h1 h2 h3 h4 k = refl
      by false p' q q' g g' e h1 h2 h3 h4 k = cc
      by true false q q' g g' e h1 h2 h3 h4 k = cc
      by true true true q' g g' e h1 h2 h3 h4 k = cc
      by true true false true g g' e h1 h2 h3 h4 k = cc

  -- **What each open call has had behind the round.**
  pub histories_after : (c : ℕ) → those_that (goes_on_call w.worked_portions) worked_at_end c ≡ histories_at r b.done (t + n) c
  histories_after c = by (alive c) refl
    where
      none : Option CallHistory
      none = None

      none_if : (x : Bool) → (if x then None else None) ≡ none
      none_if true = refl
      none_if false = refl

      all : (x : Bool) → (places_in r b.done t n c == n) ≡ x → (y : CallHistory) → Past c y →
          (if x then Some y else None) ≡ past_if x (law_in r c)
          (periods_to r c (t + n - start_of b.done c)) (settings_now r b.done (t + n) c)
      all false e y p = refl
      all true e y p =
          let f = eqb-true (places_in r b.done t n c) n e in
          ap (λ (l : Law). Some (record { law = l; periods = y.periods; now = y.now })) p.law
          ∙ ap (λ (ts : List CallPeriod). Some (record { law = law_in r c; periods = ts; now = y.now }))
          (p.periods ∙ ap (λ (k : ℕ). periods_to r c (t + k - start_of b.done c)) f)
          ∙ ap (λ (s : Settings). Some (record { law = law_in r c; periods = periods_to r c (t + n - start_of b.done c); now = s })) (p.goes_on f)

      by : (x : Bool) → alive c ≡ x → those_that (goes_on_call w.worked_portions) worked_at_end c ≡ histories_at r b.done (t + n) c
      by false o =
          ap (λ (y : Option CallHistory). if goes_on_call w.worked_portions c then y else None)
          (ap (λ (x : Bool). option_map (history_with w.filled_portions hs c (partner_in farm.calls c))
          (past_if x (law_in r c) (periods_to r c (t - start_of b.done c)) (settings_now r b.done t c))) o)
          ∙ none_if (goes_on_call w.worked_portions c)
          ∙ sym (ap (λ (x : Bool). past_if x (law_in r c) (periods_to r c (t + n - start_of b.done c)) (settings_now r b.done (t + n) c))
          (shut_after r t n b.done c o))
      by true o =
          let p = past c o in
          ap (λ (y : Option CallHistory). if goes_on_call w.worked_portions c then y else None) p.1
          ∙ ap (λ (x : Bool). if x then Some p.0 else None) (goes c o)
          ∙ all (places_in r b.done t n c == n) refl p.0 p.2
          ∙ sym (ap (λ (x : Bool). past_if x (law_in r c) (periods_to r c (t + n - start_of b.done c)) (settings_now r b.done (t + n) c))
          (open_after r t n b.done b.left c h o))
