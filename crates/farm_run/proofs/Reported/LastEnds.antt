-- The end of a run: the calls that are open end with it, and the report is the definition's.
use Rattle.std.proofs.Common.{◌≡◌, refl, sym, ap, ◌∙◌, subst, ℕ, ◌+◌, ◌-◌, ◌≤◌, Bool, true, false, not, ◌&&◌, ◌||◌, Option, Some, None, List, [], ◌∷◌}
use Rattle.std.proofs.Common.{length, map, arith}
use Rattle.std.specs.Prelude.{◌==◌, is_some, IfOk, Result, Ok, Err}
use Rattle.std.specs.List.{All, AllByRecursion}
use Rattle.std.proofs.lemmas.Bool.{eq-eqb, or_left, or_right}
use Rattle.std.proofs.lemmas.List.{length-map, length-append}
use Rattle.std.proofs.lemmas.List.Elements.{All-from_recursion}
use Rattle.trau_io.specs.declared.line.Line.{Line}
use Rattle.trau_io.specs.declared.ends.CallEnd.{CallEnd}
use Rattle.switchboard.specs.declared.act.Reply.{Reply}
use Rattle.switchboard.specs.Calls.{Done, opened_at, closed_at, is_open, gone_at}
use Rattle.switchboard.specs.State.{State, end_told, replies_from}
use Rattle.switchboard.specs.Runs.{AllEnded}
use Rattle.switchboard.specs.Ends.{end_of, start_of, whole_end, spans_of}
use Rattle.switchboard.specs.Open.{open_now}
use Rattle.switchboard.proofs.Boards.Whole.{all_ended_at}
use Rattle.farm_report.specs.declared.report.CallLine.{CallLine}
use Rattle.farm_report.specs.declared.report.SpanLine.{SpanLine}
use Rattle.farm_report.specs.View.{ReportView}
use Rattle.farm_rounds.specs.declared.tally.Tally.{Tally}
use Rattle.farm_rounds.specs.Memory.{FarmMemory, tally_in}
use Rattle.farm_rounds.specs.Numbers.{is_among}
use Rattle.farm_rounds.specs.Histories.{kept_of}
use Rattle.run_spec.specs.Run.{Run, given_in, whole_in, done_in, periods_to, law_in}
use Rattle.run_spec.specs.Facts.{report_of, call_line, opened_calls}
use Rattle.run_spec.specs.Now.{IsSoFar, settings_now}
use Rattle.run_spec.proofs.Lists.{each_map}
use Rattle.run_spec.proofs.Periods.SoFar.{standing_now}
use Rattle.run_spec.proofs.Periods.Next.{start_run}
use Rattle.run_spec.proofs.Ending.{end_limit, all_done, report_end}
use Rattle.farm_run.specs.Match.{past_if, histories_at}
use Rattle.farm_run.specs.declared.notes.SentBefore.{SentBefore}
use Rattle.farm_run.specs.Facts.{span_lines, sent_in_table, kept_in, Reports}
use Rattle.farm_run.specs.Ending.{limit_at, told_after}
use Rattle.farm_run.specs.Noted.{call_end_in, is_opened, ended_at, IsKept, IsNoted, TellsTruly, IsAtEnd}
use Rattle.farm_run.proofs.Rounds.Open.{open_at}
use Rattle.farm_run.proofs.Told.Boards.{told_done, is_told_end}
use Rattle.farm_run.proofs.Listed.Tests.{no}
use Rattle.farm_run.proofs.Ordered.Due.{open_told}
use Rattle.farm_run.proofs.Noted.Noting.{noted_ends, noted_same}
use Rattle.farm_run.proofs.Noted.Rounds.{kept_at_end, open_not_ended}
use Rattle.farm_run.proofs.Noted.Truly.{truly_told}
use Rattle.farm_run.proofs.Reported.Finishing.{calls_reported, spans_reported}

-- what holds of each number that is among these holds of all of them
pub each_among : (P : ℕ → Type 0) (calls : List ℕ) → ((c : ℕ) → is_among calls c ≡ true → P c) → AllByRecursion P calls
each_among P [] h = tt
each_among P (c ∷ calls) h =
    (h c (or_left (c == c) (is_among calls c) (eq-eqb c c refl)), each_among P calls (λ d q. h d (or_right (c == d) (is_among calls d) q)))

-- from each number that is among some to all of them
pub all_among : (P : ℕ → Type 0) (calls : List ℕ) → ((c : ℕ) → is_among calls c ≡ true → P c) → All P calls
all_among P calls h = All-from_recursion P calls (each_among P calls h)

-- ---- the calls that are open

module _ (r : Run) (t : ℕ) (b : State) (farm : FarmMemory) (ns : List SentBefore)
    (end : IsAtEnd r t b farm.calls farm.tallies ns) (live : List ℕ)
    (among : (c : ℕ) → is_among live c ≡ open_now b c) where
  -- the run so far
  abbrev so : IsSoFar r t b.done b.left
  so = let follows = end.follows in follows.so_far

  -- what is kept of each call at the run's end
  abbrev tally : ℕ → Tally
  tally = kept_in farm.tallies (histories_at r b.done t)

  -- the ends that the run's end makes
  abbrev last : List CallEnd
  last = map (limit_at r.periods) live

  -- they are open by the definition too
  open_is : (c : ℕ) → is_open (gone_at (whole_in r) t b.done) b.done c ≡ is_among live c
  open_is c = let follows = end.follows in sym (open_told (whole_in r) t b follows.tells c) ∙ sym (among c)

  -- the run's end is theirs
  limit_is : (c : ℕ) → is_among live c ≡ true → call_end_in r c ≡ limit_at r.periods c
  limit_is c q =
      let at = open_at r t b.done c (standing_now r t b.done b.left so) (open_is c ∙ q) in
      let clock = end.clock c (sym (among c) ∙ q) in
      let alive = at.alive in
      ap (end_of (given_in r) r.periods (done_in r) c) (start_run r t b.done b.left c (start_of b.done c) so at.opened)
      ∙ end_limit r t b.done b.left c (start_of b.done c) so end.none_left at.unclosed (subst (λ (v : ℕ). v ≤ start_of b.done c + whole_in r c) clock alive)

  -- each is the run's end
  each_last : AllByRecursion (λ e. e ≡ call_end_in r e.call) last
  each_last = each_map (λ e. e ≡ call_end_in r e.call) (limit_at r.periods) live
      (each_among (λ c. limit_at r.periods c ≡ call_end_in r c) live (λ c q. sym (limit_is c q)))

  -- what is kept of them is what was counted so far
  kept_is : (c : ℕ) → is_among live c ≡ true → IsKept r b.done c (kept_in farm.tallies (histories_at r b.done t) c)
  kept_is c k =
      let o = open_is c ∙ k in
      subst (IsKept r b.done c)
      (sym (ap (λ (s : Bool). kept_of (past_if s (law_in r c) (periods_to r c (t - start_of b.done c)) (settings_now r b.done t c)) (tally_in farm.tallies c)) o))
      (kept_at_end r t b.done b.left c (settings_now r b.done t c) so (open_not_ended r t b.done c o).1
      (ap (λ (e : CallEnd). e.at) (limit_is c k) ∙ sym (end.clock c (sym (among c) ∙ k))) refl)

  -- of other calls what was kept stays
  kept_same : (c : ℕ) → is_among live c ≡ false → kept_in farm.tallies (histories_at r b.done t) c ≡ tally_in farm.tallies c
  kept_same c q = ap (λ (s : Bool). kept_of (past_if s (law_in r c) (periods_to r c (t - start_of b.done c)) (settings_now r b.done t c)) (tally_in farm.tallies c))
      (open_is c ∙ q)

  -- **Then all calls that were opened have ended, and what is noted of them is right.**
  noted_last : IsNoted r b.done (is_opened b.done) ns (kept_in farm.tallies (histories_at r b.done t))
  noted_last =
      noted_same r b.done (λ c. ended_at r b.done t c || is_among live c) (is_opened b.done) ns (kept_in farm.tallies (histories_at r b.done t))
      (kept_in farm.tallies (histories_at r b.done t))
      (noted_ends r b.done (ended_at r b.done t) (is_among live) ns (tally_in farm.tallies) (kept_in farm.tallies (histories_at r b.done t)) end.noted kept_is
      kept_same)
      (λ c. sym (ap (λ (s : Bool). ended_at r b.done t c || s) (sym (open_is c))
      ∙ all (is_opened b.done c) (is_open (gone_at (whole_in r) t b.done) b.done c) (λ o. (open_not_ended r t b.done c o).1))) (λ c. refl)
    where
      all : (o l : Bool) → (l ≡ true → o ≡ true) → ((o && not l) || l) ≡ o
      all true true h = refl
      all true false h = refl
      all false false h = refl
      all false true h = sym (h refl)

  -- **The board was told all ends.**
  all_told : (now : State) → now ≡ told_after b last → ((c : ℕ) → open_now now c ≡ false) → AllEnded (given_in r) r.periods now
  all_told now told none c o l = by (end_told now c) refl
    where
      done_is : now.done ≡ b.done
      done_is = ap (λ (s : State). s.done) told ∙ told_done b last

      truly : TellsTruly r now
      truly = subst (TellsTruly r) (sym told) (truly_told r b last each_last end.truly)

      all : done_in r ≡ now.done
      all = all_done r t b.done b.left so end.none_left ∙ sym done_is

      untold : end_told now c ≡ None → open_now now c ≡ true
      untold q =
          ap (λ (e : Option CallEnd). is_some (opened_at c now.done) && not (is_some (closed_at c now.done)) && not (is_told_end e)) q
          ∙ ap (λ (l : Option ℕ). is_some (opened_at c now.done) && not (is_some l) && true) l ∙ ap (λ (s : Bool). s && true && true) o

      by : (v : Option CallEnd) → end_told now c ≡ v → end_told now c ≡ Some (whole_end (given_in r) r.periods now.done c)
      by None q = absurd (no (open_now now c) (none c) (untold q))
      by (Some e) q = q ∙ ap Some (truly c e q ∙ ap (λ (ds : List Done). whole_end (given_in r) r.periods ds c) all)

  -- ---- the report

  -- reports of the same parts are the same
  same_report : (replies replies' : List Reply) (spans spans' : List SpanLine)
      (lines lines' : List CallLine) (failed : List Line) (left left' : ℕ) →
      replies ≡ replies' → spans ≡ spans' → lines ≡ lines' → left ≡ left' →
      ◌≡◌ {A = ReportView} (record { replies = replies; spans = spans; calls = lines; failed = failed; left = left }) (record {
        replies = replies';
        spans = spans';
        calls = lines';
        failed = failed;
        left = left';
      })
  same_report replies replies' spans spans' lines lines' failed left left' p q s u =
      ap {B = ReportView} (λ (x : List Reply). record { replies = x; spans = spans; calls = lines; failed = failed; left = left }) p
      ∙ ap {B = ReportView} (λ (x : List SpanLine). record { replies = replies'; spans = x; calls = lines; failed = failed; left = left }) q
      ∙ ap {B = ReportView} (λ (x : List CallLine). record { replies = replies'; spans = spans'; calls = x; failed = failed; left = left }) s
      ∙ ap {B = ReportView} (λ (x : ℕ). record { replies = replies'; spans = spans'; calls = lines'; failed = failed; left = x }) u

  -- **What is reported then is the definition's report.**
  pub reported : (now : State) (report : ReportView) → now ≡ told_after b last → ((c : ℕ) → open_now now c ≡ false) →
      Reports now farm ns (length r.orders) report → report ≡ report_of r report.failed
  reported now report told none reports =
      let h = histories_at r b.done t in
      let follows = end.follows in
      let ended = all_told now told none in
      same_report report.replies _ report.spans _ report.calls _ report.failed report.left _ (reports.replies ∙ ap (replies_from 0) done_is)
      (reports.whole (given_in r) r.periods (all_ended_at (given_in r) r.periods now ended)
      ∙ ap (λ (ds : List Done). span_lines (sent_in_table reports.sent) (spans_of (given_in r) r.periods ds) ns) done_is
      ∙ spans_reported r t b.done b.left ns tally so all noted_last (sent_in_table reports.sent) (reports.sent_is h follows.stands))
      (reports.calls h follows.stands
      ∙ calls_reported r now ns tally (all ∙ sym done_is) ended
      (subst (λ (ds : List Done). IsNoted r ds (is_opened ds) ns tally) (sym done_is) noted_last)
      ∙ ap (λ (ds : List Done). map (call_line r) (opened_calls ds)) done_is)
      (reports.left ∙ rest)
      ∙ sym (report_end r t b.done b.left report.failed so end.none_left)
    where
      done_is : now.done ≡ b.done
      done_is = ap (λ (s : State). s.done) told ∙ told_done b last

      all : done_in r ≡ b.done
      all = all_done r t b.done b.left so end.none_left

      rest : length r.orders - length now.done ≡ length b.left
      rest =
          let whole : length (map (λ (d : Done). d.order) b.done) + length b.left ≡ length r.orders =
          sym (length-append (map (λ (d : Done). d.order) b.done) b.left) ∙ ap length so.listed in
          let mapped : length (map (λ (d : Done). d.order) b.done) ≡ length b.done = length-map b.done (λ (d : Done). d.order) in
          let same : length now.done ≡ length b.done = ap length done_is in
          omega (arith, whole, mapped, same)

-- **If a report is made, it is the definition's.**
pub reported_ok : {E : Type 0} (b now : State) (farm : FarmMemory) (ns : List SentBefore)
    (live : List ℕ) (orders periods : ℕ) (x : Result ReportView E) →
    ((c : ℕ) → is_among live c ≡ open_now b c) → now ≡ told_after b (map (limit_at periods) live) → ((c : ℕ) → open_now now c ≡ false) →
    IfOk x (Reports now farm ns orders) →
    IfOk x (λ v. (r : Run) (t : ℕ) → IsAtEnd r t b farm.calls farm.tallies ns →
    r.periods ≡ periods → length r.orders ≡ orders → v ≡ report_of r v.failed)
reported_ok b now farm ns live orders periods (Err e) among told none reports = tt
reported_ok b now farm ns live orders periods (Ok v) among told none reports = λ r t end p o.
    reported r t b farm ns end live among now v (told ∙ ap (λ (n : ℕ). told_after b (map (limit_at n) live)) (sym p)) none
    (subst (λ (n : ℕ). Reports now farm ns n v) (sym o) reports)
