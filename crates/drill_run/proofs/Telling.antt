-- The text of a drill.
use Rattle.std.proofs.Common.{◌≡◌, refl, sym, ap, ◌∙◌, subst, ℕ, ◌+◌, ◌≤◌, Bool, true, false, Option, Some, None, is_some, List, [], ◌∷◌, ◌++◌, map, arith}
use Rattle.std.specs.Prelude.{All, nat_le, if◌then◌else◌, unwrap_or}
use Rattle.std.specs.Io.KnownBytes.{Appends}
use Rattle.std.specs.List.{flat_map, range_with_len, AllByRecursion}
use Rattle.std.proofs.lemmas.List.Elements.{All-from_recursion}
use Rattle.std.proofs.lemmas.List.Folds.{flat_map-map}
use Rattle.call_number.specs.CallNumber.{IsCallNumber}
use Rattle.trau_io.specs.declared.line.Side.{Side}
use Rattle.trau_io.specs.declared.line.Side.TheVariants.{Down, Out}
use Rattle.trau_io.specs.declared.ends.Cause.TheVariants.{Closed, Limit}
use Rattle.trau_io.specs.declared.ends.CallEnd.{CallEnd}
use Rattle.trau_io.specs.Lines.{LineState}
use Rattle.trau_io.specs.Memory.{MemoryLine}
use Rattle.trau_orders.specs.declared.order.Order.{Order}
use Rattle.trau_orders.specs.Lists.{AreOrders}
use Rattle.trau_orders.specs.Text.{text_lines, AreLines, IsWithin, SpellsOneList}
use Rattle.trau_orders.proofs.Known.{orders_known}
use Rattle.switchboard.specs.Calls.{closed_at, opened_at}
use Rattle.switchboard.specs.Ends.{lack_of}
use Rattle.farm_drill.specs.Lines.{AreDrilled}
use Rattle.farm_drill.specs.Orders.{drilled_orders}
use Rattle.run_spec.specs.Run.{Run, done_in, given_in, start_in, whole_in, IsOpened}
use Rattle.run_spec.specs.Lines.{out_of_call, down_of_call}
use Rattle.run_spec.specs.Facts.{call_line, calls_in, report_of}
use Rattle.run_spec.proofs.Lists.{each_map, each_passes, each_weaker}
use Rattle.farm_report.specs.declared.report.CallLine.{CallLine}
use Rattle.farm_report.specs.Lines.{report_text}
use Rattle.farm_report.specs.Sums.{sum_line}
use Rattle.farm_report.specs.View.{ReportView}
use Rattle.farm_run.specs.declared.pace.Pace.{Pace}
use Rattle.farm_run.specs.Runs.{Runs}
use Rattle.drill_run.specs.Drilled.{IsDrilled, drilled_run, text_with_sums}
use Rattle.drill_run.specs.Rooms.{AreAmple, DrillMemory, known_lines}
use Rattle.drill_run.proofs.Quiet.{Drilling, at_first}
use Rattle.drill_run.proofs.Over.{drill_calm, drill_leaves, drilled_calls, report_is}

-- what the run of a drill knows
pub drilling_of : (seed calls periods : ℕ) (d e : DrillMemory) (lines : List MemoryLine) (orders : List Order) (pace : Pace) (report : ReportView)
    (text shown : List ℕ) →
    SpellsOneList → calls ≤ 256 → d ≡ record { lines = lines; calls = calls; periods = periods } → AreDrilled seed calls periods lines →
    AreLines (text_lines text) (drilled_orders calls periods) → IsWithin text → shown ≡ text → AreLines (text_lines shown) orders →
    AreAmple e → Runs orders pace (known_lines d) (known_lines e) report → pace.periods ≡ periods → Drilling seed calls periods d e orders pace report
drilling_of seed calls periods d e lines orders pace report text shown one few is made spelled within same also rooms runs last =
    let are : AreLines (text_lines text) orders = subst (λ (t : List ℕ). AreLines (text_lines t) orders) same also in
    record {
      few = few;
      same_calls = ap (λ (d : DrillMemory). d.calls) is;
      same_periods = ap (λ (d : DrillMemory). d.periods) is;
      to_last = last;
      made = subst (AreDrilled seed calls periods) (sym (ap (λ (d : DrillMemory). d.lines) is)) made;
      rooms = rooms;
      ordered = one (text_lines text) orders (drilled_orders calls periods) are spelled;
      are = orders_known (text_lines text) orders within.1 are;
      runs = runs;
    }

-- the end in the line of a call is its own
pub call_of_line : (r : Run) (c : ℕ) → (call_line r c).end.call ≡ c
call_of_line r c = by (closed_at c (done_in r))
  where
    call_of : CallEnd → ℕ
    call_of e = e.call

    there : (b : Bool) (x y : CallEnd) → call_of x ≡ c → call_of y ≡ c → call_of (if b then x else y) ≡ c
    there true x y p q = p
    there false x y p q = q

    by : (v : Option ℕ) → call_of (elim v [
      | Some t ↦ record { call = c; at = t; cause = Closed }
      | None ↦ if nat_le r.periods (start_in r c + whole_in r c) then record { call = c; at = r.periods; cause = Limit }
          else record { call = c; at = start_in r c + whole_in r c; cause = lack_of (whole_in r c) (given_in r c) }
    ]) ≡ c
    by (Some t) = refl
    by None = there (nat_le r.periods (start_in r c + whole_in r c)) (record { call = c; at = r.periods; cause = Limit })
        (record { call = c; at = start_in r c + whole_in r c; cause = lack_of (whole_in r c) (given_in r c) }) refl refl

flat_same : {X A : Type 0} (f g : X → List A) (xs : List X) → AllByRecursion (λ x. f x ≡ g x) xs → flat_map f xs ≡ flat_map g xs
flat_same f g [] h = refl
flat_same f g (x ∷ xs) h = λ i. h.0 i ++ flat_same f g xs h.1 i

-- what is left behind the run on an outgoing line
abbrev written_in : DrillMemory → ℕ → Side → List ℕ
written_in e c s = unwrap_or (known_lines e c s).written []

all_written : (before now : Option (List ℕ)) (octets : List ℕ) → before ≡ Some [] → Appends before now octets → unwrap_or now [] ≡ octets
all_written before (Some ys) octets was a = subst (λ (o : Option (List ℕ)). Appends o (Some ys) octets) was a
all_written before None octets was a = absurd (subst (λ (o : Option (List ℕ)). Appends o None octets) was a)

module _ (seed calls periods : ℕ) (d e : DrillMemory) (orders : List Order) (pace : Pace) (report : ReportView)
    (x : Drilling seed calls periods d e orders pace report) where
  -- the calls of the report are those of the drill
  pub calls_numbered : All (λ (l : CallLine). IsCallNumber l.end.call) report.calls
  calls_numbered =
      let r = drilled_run seed calls periods in
      let named = each_weaker (λ c. is_some (opened_at c (done_in r)) ≡ true) (λ c. IsCallNumber (call_line r c).end.call) (calls_in r)
      (λ c o. (let n = drilled_calls seed calls periods d e orders pace report x c o in let few = x.few in
      subst IsCallNumber (sym (call_of_line r c)) (n.0, omega (arith, n.1, few))))
      (each_passes (λ c. is_some (opened_at c (done_in r))) (range_with_len 1 4096)) in
      subst (λ (v : ReportView). All (λ (l : CallLine). IsCallNumber l.end.call) v.calls) (sym (report_is seed calls periods d e orders pace report x))
      (All-from_recursion (λ (l : CallLine). IsCallNumber l.end.call) (map (call_line r) (calls_in r))
      (each_map (λ (l : CallLine). IsCallNumber l.end.call) (call_line r) (calls_in r) named))

  sums_same : (c : ℕ) → IsOpened (drilled_run seed calls periods) c →
      sum_line (call_line (drilled_run seed calls periods) c).end.call (written_in e (call_line (drilled_run seed calls periods) c).end.call Out)
      (written_in e (call_line (drilled_run seed calls periods) c).end.call Down)
      ≡ sum_line c (out_of_call (drilled_run seed calls periods) c) (down_of_call (drilled_run seed calls periods) c)
  sums_same c o =
      let r = drilled_run seed calls periods in
      let n = drilled_calls seed calls periods d e orders pace report x c o in
      let leaves = drill_leaves seed calls periods d e orders pace report x in
      let out = all_written (known_lines d c Out).written (known_lines e c Out).written (out_of_call r c)
      (ap (λ (l : LineState). l.written) (at_first seed calls periods d e orders pace report x c Out n.0 n.1)) (leaves.out c o) in
      let down = all_written (known_lines d c Down).written (known_lines e c Down).written (down_of_call r c)
      (ap (λ (l : LineState). l.written) (at_first seed calls periods d e orders pace report x c Down n.0 n.1)) (leaves.down c o) in
      ap (λ (k : ℕ). sum_line k (written_in e k Out) (written_in e k Down)) (call_of_line r c) ∙ (λ i. sum_line c (out i) (down i))

  -- **So the text is the drill's.**
  text_is : (text : List ℕ) → text ≡ report_text report
      ++ flat_map (λ (l : CallLine). sum_line l.end.call (written_in e l.end.call Out) (written_in e l.end.call Down)) report.calls →
      text ≡ text_with_sums (drilled_run seed calls periods)
  unfolding text_with_sums
  text_is text is =
      let r = drilled_run seed calls periods in
      is ∙ ap (λ (v : ReportView). report_text v
      ++ flat_map (λ (l : CallLine). sum_line l.end.call (written_in e l.end.call Out) (written_in e l.end.call Down)) v.calls)
      (report_is seed calls periods d e orders pace report x)
      ∙ ap (λ (xs : List ℕ). report_text (report_of r []) ++ xs)
      (flat_map-map (λ (l : CallLine). sum_line l.end.call (written_in e l.end.call Out) (written_in e l.end.call Down)) (call_line r) (calls_in r)
      ∙ flat_same _ (λ c. sum_line c (out_of_call r c) (down_of_call r c)) (calls_in r)
      (each_weaker _ _ (calls_in r) sums_same (each_passes (λ c. is_some (opened_at c (done_in r))) (range_with_len 1 4096))))

  pub is_drilled : (text old : List ℕ) (lines : List CallLine) → lines ≡ report.calls → old ≡ report_text report →
      text ≡ old ++ flat_map (λ (l : CallLine). sum_line l.end.call (written_in e l.end.call Out) (written_in e l.end.call Down)) lines →
      IsDrilled seed calls periods text
  is_drilled text old lines listed reported is = record {
    before = known_lines d;
    now = known_lines e;
    lines = λ c s first last. at_first seed calls periods d e orders pace report x c s first last;
    ordered = subst AreOrders x.ordered x.are;
    leaves = drill_leaves seed calls periods d e orders pace report x;
    calm = λ c s first last. drill_calm seed calls periods d e orders pace report x c s first last;
    spelled = text_is text (is ∙ (λ i. reported i
        ++ flat_map (λ (l : CallLine). sum_line l.end.call (written_in e l.end.call Out) (written_in e l.end.call Down)) (listed i)));
  }
