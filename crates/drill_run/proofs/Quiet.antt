-- No line of a drill fails.
use Rattle.std.proofs.Common.{◌≡◌, refl, sym, ap, ◌∙◌, subst, ℕ, ◌+◌, ◌*◌, ◌<◌, ◌≤◌, Bool, true, false, inl, inr, Option, Some, is_some, List, [], length}
use Rattle.std.proofs.Common.{arith}
use Rattle.std.specs.Prelude.{◌&&◌, nat_le, if◌then◌else◌, unwrap_or}
use Rattle.std.proofs.lemmas.Bool.{cases_Bool, true≢false}
use Rattle.trau_io.specs.declared.line.Side.{Side}
use Rattle.trau_io.specs.declared.line.Side.TheVariants.{Up, Pcm, Down, Out}
use Rattle.trau_io.specs.Indices.{number_of_side, index_of_line}
use Rattle.trau_io.specs.Lines.{LineState}
use Rattle.trau_io.specs.Memory.{MemoryLine, new_line, state_of}
use Rattle.trau_orders.specs.declared.order.Order.{Order}
use Rattle.trau_orders.specs.Lists.{AreOrders}
use Rattle.switchboard.specs.Calls.{opened_at}
use Rattle.farm_drill.specs.Lines.{AreDrilled, drilled_line, line_of_call}
use Rattle.farm_drill.specs.Orders.{drilled_orders}
use Rattle.run_spec.specs.Run.{Run, done_in, IsOpened}
use Rattle.run_spec.specs.Lines.{out_of_call, down_of_call}
use Rattle.farm_report.specs.View.{ReportView}
use Rattle.round_lines.specs.Rounds.{IsIncoming}
use Rattle.farm_run.specs.declared.pace.Pace.{Pace}
use Rattle.farm_run.specs.Runs.{AreTold, IsRunOver, Runs, is_listed}
use Rattle.farm_drill.proofs.Setting.{drilled-of_call}
use Rattle.drill_run.specs.Rooms.{AreAmple, DrillMemory, IsAmple, known_lines, room_by}
use Rattle.drill_run.proofs.Opened.{opened_drilled}
use Rattle.drill_run.proofs.Rooms.{below, found_in, high, low, side_at}
use Rattle.drill_run.proofs.Lines.{known-line, none_listed, numbered, short_of, told-same, whole_down, whole_out}

-- What is known behind the run of a drill: `d` are its lines as they were made, `e` those behind the run.
pub record Drilling (seed calls periods : ℕ) (d e : DrillMemory) (orders : List Order) (pace : Pace) (report : ReportView) : Type 0 where
  pub few : calls ≤ 256
  pub same_calls : d.calls ≡ calls
  pub same_periods : d.periods ≡ periods
  pub to_last : pace.periods ≡ periods
  pub made : AreDrilled seed calls periods d.lines
  pub rooms : AreAmple e
  pub ordered : orders ≡ drilled_orders calls periods
  pub are : AreOrders orders
  pub runs : Runs orders pace (known_lines d) (known_lines e) report

module _ (seed calls periods : ℕ) (d e : DrillMemory) (orders : List Order) (pace : Pace) (report : ReportView)
    (x : Drilling seed calls periods d e orders pace report) where
  -- before the run a call's line is the one that was drawn for it
  pub at_first : (c : ℕ) (s : Side) → 1 ≤ c → c ≤ calls → known_lines d c s ≡ state_of (line_of_call seed c periods s)
  at_first c s first last =
      known-line d c s (line_of_call seed c periods s) first
      (x.made.each c s (omega (arith, last, x.few)) ∙ ap Some (drilled-of_call seed calls periods c s first last))

  -- all lines tell what they hold
  told : AreTold (known_lines d)
  told c s number incoming = (
    (drilled_line seed calls periods c s).to_come,
    ap (λ (l : LineState). l.to_come)
        (known-line d c s (drilled_line seed calls periods c s) number.0 (x.made.each c s (omega (arith, number.1)))),
  )

  -- so there is a run over what they gave
  some : (r : Run) × IsRunOver orders pace.periods (is_listed report.failed) (known_lines d) (known_lines e) r
  some = x.runs.there x.are told

  -- a run of these orders opens the drill's calls alone
  pub its_calls : (r : Run) (c : ℕ) → r.orders ≡ orders → IsOpened r c → (1 ≤ c) × (c ≤ calls)
  its_calls r c is o = opened_drilled r calls periods c (is ∙ x.ordered) o

  -- the lines of number 0 are as they were, and so are the numbers that they tell
  none_opened : IsOpened some.0 0 → ⊥
  none_opened o = let first = (its_calls some.0 0 some.1.same_orders o).0 in omega (arith, first)

  stays : (s : Side) → known_lines e 0 s ≡ known_lines d 0 s
  stays s = (x.runs.leaves some.0 some.1).others 0 s none_opened

  calls_stay : e.calls ≡ calls
  calls_stay = told-same e.calls d.calls (stays Up) ∙ x.same_calls

  periods_stay : e.periods ≡ periods
  periods_stay = told-same e.periods d.periods (stays Pcm) ∙ x.same_periods

  -- a line behind the run
  record Stands (c : ℕ) (s : Side) : Type 0 where
    line : MemoryLine
    known : known_lines e c s ≡ state_of line
    ample : IsAmple (room_by periods (number_of_side s)) line

  -- each line of a call is one, with its room
  stands : (c : ℕ) (s : Side) → 1 ≤ c → c ≤ calls → Stands c s
  stands c s first last =
      let f = found_in e.lines (index_of_line c s) (omega (arith, x.rooms.long, high c s (omega (arith, last, x.few)))) in
      let within : index_of_line c s < 4 * (e.calls + 1) = subst (λ (n : ℕ). index_of_line c s < 4 * (n + 1)) (sym calls_stay) (below c calls s last) in
      let has = x.rooms.each (index_of_line c s) f.0 (low c s first) within f.1 in
      record {
        line = f.0;
        known = known-line e c s f.0 first f.1;
        ample = subst (λ (n : ℕ). IsAmple (room_by n (number_of_side s)) f.0) periods_stay
            (subst (λ (k : ℕ). IsAmple (room_by e.periods k) f.0) (side_at c s) has);
      }

  -- **No line is listed.** One that isn't of a call that was opened is as it was.
  idle : (c : ℕ) (s : Side) → is_listed report.failed c s ≡ true → (IsOpened some.0 c → ⊥) → ⊥
  idle c s listed not =
      let number = numbered report.failed c s listed in
      let drawn = drilled_line seed calls periods c s in
      let was : known_lines d c s ≡ state_of drawn = known-line d c s drawn number.0 (x.made.each c s (omega (arith, number.1))) in
      let same : (known_lines e c s).faults ≡ (known_lines d c s).faults = ap (λ (l : LineState). l.faults) ((x.runs.leaves some.0 some.1).others c s not) in
      let none : (known_lines d c s).faults ≡ drawn.faults = ap (λ (l : LineState). l.faults) was in
      let zero_at_first = calm c s in
      let rose = x.runs.failed.failures.rose c s listed in
      omega (arith, same, none, zero_at_first, rose)
    where
      calm : (c : ℕ) (s : Side) → (drilled_line seed calls periods c s).faults ≡ 0
      calm c s = by (nat_le 1 c && nat_le c calls) s
        where
          by : (b : Bool) (s : Side) → (if b then line_of_call seed c periods s else new_line [] [] [] 0).faults ≡ 0
          by true Up = refl
          by true Pcm = refl
          by true Down = refl
          by true Out = refl
          by false s = refl

  -- one of a call that was opened has room left, since it holds too little
  busy : (c : ℕ) (s : Side) → is_listed report.failed c s ≡ true → IsOpened some.0 c → ⊥
  busy c s listed o = by s listed (stands c s number.0 number.1) (at_first c s number.0 number.1)
    where
      number : (1 ≤ c) × (c ≤ calls)
      number = its_calls some.0 c some.1.same_orders o

      full : (s : Side) (room : ℕ) (l : MemoryLine) → is_listed report.failed c s ≡ true → IsAmple room l → known_lines e c s ≡ state_of l →
          known_lines d c s ≡ state_of (line_of_call seed c periods s) → length l.written ≡ room
      full s room l listed ample is was =
          let rose = x.runs.failed.failures.rose c s listed in
          let first : (known_lines d c s).faults ≡ 0 = ap (λ (l : LineState). l.faults) was ∙ calm s in
          let last : (known_lines e c s).faults ≡ l.faults = ap (λ (l : LineState). l.faults) is in
          let some_failed : 0 < l.faults = omega (arith, rose, first, last) in
          let none = ample.full some_failed in
          omega (arith, ample.whole, none)
        where
          calm : (s : Side) → (line_of_call seed c periods s).faults ≡ 0
          calm Up = refl
          calm Pcm = refl
          calm Down = refl
          calm Out = refl

      empty : (s : Side) → known_lines d c s ≡ state_of (line_of_call seed c periods s) → (known_lines d c s).written ≡ Some []
      empty s was = ap (λ (l : LineState). l.written) was ∙ none s
        where
          none : (s : Side) → (state_of (line_of_call seed c periods s)).written ≡ Some []
          none Up = refl
          none Pcm = refl
          none Down = refl
          none Out = refl

      unwritten : (s : Side) (l : MemoryLine) → IsIncoming s → known_lines e c s ≡ state_of l →
          known_lines d c s ≡ state_of (line_of_call seed c periods s) → length l.written ≡ 0
      unwritten s l incoming is was =
          let same : Some l.written ≡ Some [] = sym (ap (λ (l : LineState). l.written) is) ∙ x.runs.sides.incoming c s incoming ∙ empty s was in
          ap (λ (o : Option (List ℕ)). length (unwrap_or o [])) same

      fewer : some.0.periods ≡ periods
      fewer = some.1.same_periods ∙ x.to_last

      in_range : AreOrders some.0.orders
      in_range = subst AreOrders (sym some.1.same_orders) x.are

      by : (s : Side) → is_listed report.failed c s ≡ true → Stands c s → known_lines d c s ≡ state_of (line_of_call seed c periods s) → ⊥
      by Up listed h was =
          let all = full Up 1 h.line listed h.ample h.known was in
          let none = unwritten Up h.line tt h.known was in
          omega (arith, all, none)
      by Pcm listed h was =
          let all = full Pcm 1 h.line listed h.ample h.known was in
          let none = unwritten Pcm h.line tt h.known was in
          omega (arith, all, none)
      by Down listed h was =
          let all = full Down (40 * periods) h.line listed h.ample h.known was in
          let octets = down_of_call some.0 c in
          let holds = ap (λ (l : LineState). l.written) h.known in
          let less = short_of (is_listed report.failed c Down) (known_lines d c Down) (known_lines e c Down) octets h.line.written listed (empty Down was)
          holds ((x.runs.leaves some.0 some.1).down c o) in
          omega (arith, all, less, whole_down some.0 c in_range, fewer)
      by Out listed h was =
          let all = full Out (160 * periods) h.line listed h.ample h.known was in
          let octets = out_of_call some.0 c in
          let holds = ap (λ (l : LineState). l.written) h.known in
          let less = short_of (is_listed report.failed c Out) (known_lines d c Out) (known_lines e c Out) octets h.line.written listed (empty Out was)
          holds ((x.runs.leaves some.0 some.1).out c o) in
          omega (arith, all, less, whole_out some.0 c in_range, fewer)

  pub none_failed : report.failed ≡ []
  none_failed = none_listed report.failed (λ c s listed. elim (cases_Bool (is_some (opened_at c (done_in some.0)))) [
    | inl o ↦ busy c s listed o
    | inr q ↦ idle c s listed (λ o. true≢false (sym o ∙ q))
  ])
