-- The report of a run, once all of its calls have ended.
use Rattle.std.proofs.Common.{◌≡◌, refl, sym, ap, ◌∙◌, ℕ, Bool, true, false, Option, Some, None, subst, List, [], ◌∷◌, map, get_or, cond, inl, inr}
use Rattle.std.specs.Prelude.{◌==◌, if◌then◌else◌, filter, is_some, option_map}
use Rattle.std.specs.List.{filter_map}
use Rattle.std.proofs.lemmas.Bool.{eqb-true, or_cases}
use Rattle.std.proofs.lemmas.List.Elements.{All-from_recursion}
use Rattle.trau_io.specs.declared.ends.CallEnd.{CallEnd}
use Rattle.trau_io.specs.declared.ends.Counts.{Counts}
use Rattle.trau_orders.specs.declared.order.Order.{Order}
use Rattle.switchboard.specs.declared.act.Span.{Span}
use Rattle.switchboard.specs.Calls.{Done, closed_at}
use Rattle.switchboard.specs.Bridges.{bridges, no_bridge}
use Rattle.switchboard.specs.Stands.{IsLatest}
use Rattle.switchboard.specs.State.{State, end_or_told, end_so_far}
use Rattle.switchboard.specs.Runs.{AllEnded}
use Rattle.call_number.specs.CallNumber.{IsCallNumber, call_numbers}
use Rattle.switchboard.specs.Ends.{end_of, start_of, whole_end, span_of, spans_of}
use Rattle.switchboard.proofs.Orders.Steps.{cons_same}
use Rattle.switchboard.proofs.Boards.Whole.{end_by}
use Rattle.farm_report.specs.declared.report.CallLine.{CallLine}
use Rattle.farm_rounds.specs.declared.tally.Tally.{Tally}
use Rattle.run_spec.specs.Run.{Run, given_in, whole_in, done_in, spans_in}
use Rattle.run_spec.specs.Facts as defined
use Rattle.run_spec.specs.Facts.{opened_calls, sent_by}
use Rattle.run_spec.specs.Now.{IsSoFar}
use Rattle.run_spec.proofs.Periods.SoFar.{standing_now}
use Rattle.run_spec.proofs.Bridges.Standing.{IsSoundBridge}
use Rattle.farm_run.specs.declared.notes.SentBefore.{SentBefore}
use Rattle.farm_run.specs.Facts.{span_lines, call_line}
use Rattle.farm_run.specs.Noted.{no_span, is_opened, AreNotes, IsNoted}
use Rattle.farm_run.proofs.Reported.Rows.{rows_are}

-- ---- the calls

-- what is made of some numbers, where nothing is made of the others
filter_made : {X : Type 0} (f : ℕ → Option X) (g : ℕ → X) (p : ℕ → Bool) (xs : List ℕ) → ((c : ℕ) → p c ≡ true → f c ≡ Some (g c)) →
    ((c : ℕ) → p c ≡ false → f c ≡ None) → filter_map f xs ≡ map g (filter p xs)
filter_made f g p [] some none = refl
filter_made f g p (x ∷ xs) some none = by (p x) refl (filter_made f g p xs some none)
  where
    by : (b : Bool) → p x ≡ b → filter_map f xs ≡ map g (filter p xs) →
        filter_map f (x ∷ xs) ≡ map g (cond (p x) (x ∷ filter p xs) (filter p xs))
    by true q rest =
        cons_same (f x) (Some (g x)) (filter_map f xs) (map g (filter p xs)) (some x q) rest
        ∙ sym (ap (λ (b : Bool). map g (cond b (x ∷ filter p xs) (filter p xs))) q)
    by false q rest =
        cons_same (f x) None (filter_map f xs) (map g (filter p xs)) (none x q) rest
        ∙ sym (ap (λ (b : Bool). map g (cond b (x ∷ filter p xs) (filter p xs))) q)

-- the end so far of a call that was opened, once each call has ended
end_there : (r : Run) (now : State) (c : ℕ) → AllEnded (given_in r) r.periods now → is_opened now.done c ≡ true →
    end_so_far now c ≡ Some (whole_end (given_in r) r.periods now.done c)
end_there r now c all o =
    ap (λ (b : Bool). if b then end_or_told now c (closed_at c now.done) else None) o ∙ by (closed_at c now.done) refl
  where
    by : (v : Option ℕ) → closed_at c now.done ≡ v →
        end_or_told now c (closed_at c now.done)
        ≡ Some (whole_end (given_in r) r.periods now.done c)
    by (Some t) q =
        ap (end_or_told now c) q ∙ sym (ap (λ (v : Option ℕ). Some (end_by (given_in r) r.periods c (start_of now.done c) v)) q)
    by None q = ap (end_or_told now c) q ∙ all c o q

-- **The lines of the calls are those of the run.**
pub calls_reported : (r : Run) (now : State) (ns : List SentBefore) (tally : ℕ → Tally) →
    done_in r ≡ now.done → AllEnded (given_in r) r.periods now →
    IsNoted r now.done (is_opened now.done) ns tally →
    filter_map (call_line now tally) call_numbers
    ≡ map (defined.call_line r) (opened_calls now.done)
calls_reported r now ns tally all ended n =
    filter_made (call_line now tally) (defined.call_line r) (is_opened now.done) call_numbers line none
  where
    made : ℕ → List Done → Counts → CallLine
    made c ds counts = record { end = end_of (given_in r) r.periods ds c (start_of ds c); from = start_of ds c; counts = counts }

    line : (c : ℕ) → is_opened now.done c ≡ true → call_line now tally c ≡ Some (defined.call_line r c)
    line c o =
        let kept = n.kept c o in
        ap (option_map (λ (e : CallEnd). record { end = e; from = start_of now.done c; counts = (tally c).counts })) (end_there r now c ended o)
        ∙ ap (λ (ds : List Done). Some (made c ds (tally c).counts)) (sym all)
        ∙ ap (λ (counts : Counts). Some (made c (done_in r) counts)) kept.counts

    none : (c : ℕ) → is_opened now.done c ≡ false → call_line now tally c ≡ None
    none c o =
        ap (λ (b : Bool). option_map (λ (e : CallEnd). record { end = e; from = start_of now.done c; counts = (tally c).counts })
        (if b then end_or_told now c (closed_at c now.done) else None)) o

-- ---- the bridges

-- **The lines of the bridges are those of the run**, by a table of what each call has sent in its latest bridge.
module _ (r : Run) (t : ℕ) (ds : List Done) (left : List Order) (ns : List SentBefore)
    (tally : ℕ → Tally) (so : IsSoFar r t ds left) (all : done_in r ≡ ds)
    (n : IsNoted r ds (is_opened ds) ns tally) where
  -- the bridges as the run says them
  abbrev spans : List Span
  spans = spans_of (given_in r) r.periods ds

  -- they are its spans
  spans_are : spans_in r ≡ spans
  spans_are = ap (λ (ds : List Done). spans_of (given_in r) r.periods ds) all

  -- a call of a bridge was opened
  opened : (c k : ℕ) → IsLatest (bridges ds) c (Some k) → is_opened ds c ≡ true
  opened c k l =
      let stand = standing_now r t ds left so in
      let sound : IsSoundBridge (whole_in r) t ds (get_or (bridges ds) k no_bridge) =
      All-from_recursion (IsSoundBridge (whole_in r) t ds) (bridges ds) stand.sound k no_bridge l.0 in
      elim (or_cases (c == (get_or (bridges ds) k no_bridge).a) (c == (get_or (bridges ds) k no_bridge).b) l.1) [
        | inl q ↦ ap (is_opened ds) (eqb-true c _ q) ∙ ap is_some sound.opened_a
        | inr q ↦ ap (is_opened ds) (eqb-true c _ q) ∙ ap is_some sound.opened_b
      ]

  -- **The lines of bridges are those of the definition.**
  pub spans_reported : (sent : ℕ → ℕ) → ((c : ℕ) → IsCallNumber c → sent c ≡ (let kept = tally c in kept.sent)) →
      span_lines sent spans ns ≡ map (defined.span_line r) spans
  spans_reported sent is =
      rows_are (sent_by r) no_span sent (λ x. (span_of (given_in r) r.periods ds x).to) (bridges ds) [] (bridges ds) ns refl
      (subst (λ (ss : List Span). AreNotes (λ k c. sent_by r (get_or ss k no_span) c) [] (bridges ds) ns) spans_are n.bridges)
      (λ c k l. let o = opened c k l in let kept = n.kept c o in
      is c (n.numbers c o) ∙ kept.sent k l ∙ ap (λ (ss : List Span). sent_by r (get_or ss k no_span) c) spans_are)
