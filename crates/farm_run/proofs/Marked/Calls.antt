-- The calls of a mark: those that are live at a run's last period are those that only its end cuts off.
use Rattle.std.proofs.Common.{◌≡◌, refl, sym, ap, ◌∙◌, subst, ℕ, ◌+◌, ◌-◌, ◌*◌, ◌<◌, ◌≤◌, Bool, true, false, ◌&&◌, Option, Some, None, List, [], ◌∷◌, ◌++◌}
use Rattle.std.proofs.Common.{length, map, take, get_or, inl, inr, arith}
use Rattle.std.specs.Prelude.{is_some, filter, nat_lt, if◌then◌else◌, IfSome}
use Rattle.std.specs.List.{range_with_len, All}
use Rattle.std.proofs.lemmas.Bool.{cases_Bool, ltb-true, and_right}
use Rattle.std.proofs.lemmas.List.{length-map, map-append, take_more, get_or-map}
use Rattle.trau_io.specs.declared.ends.CallEnd.{CallEnd}
use Rattle.trau_io.specs.declared.ends.Cause.{Cause}
use Rattle.trau_io.specs.declared.ends.Cause.TheVariants.{End, Fault}
use Rattle.trau_io.specs.declared.line.Side.{Side}
use Rattle.trau_io.specs.declared.line.Side.TheVariants.{Up, Pcm}
use Rattle.trau_io.specs.Lines.{LineState}
use Rattle.call_number.specs.CallNumber.{IsCallNumber, call_numbers}
use Rattle.trau_orders.specs.declared.order.Order.{Order}
use Rattle.switchboard.specs.Calls.{Done, opened_at, closed_at, is_open, gone_at}
use Rattle.switchboard.specs.Ends.{Given, lack_of, end_of, start_of}
use Rattle.switchboard.specs.State.{first_stamp}
use Rattle.farm_checkpoint.specs.declared.mark.MarkCall.{MarkCall}
use Rattle.farm_checkpoint.specs.Marks.{AreOpenAtMark, IsOpenAtMark, NumbersRise}
use Rattle.farm_report.specs.Sums.{sum_of}
use Rattle.farm_rounds.specs.Calls.{call_in}
use Rattle.farm_rounds.specs.Numbers.{IsRising, is_among}
use Rattle.run_spec.specs.Run.{Run, given_in, whole_in, done_in, periods_to, start_in, who_in, end_in, IsOpened, cause_in, worked_to}
use Rattle.run_spec.specs.Lines.{out_line, down_octets}
use Rattle.run_spec.specs.Facts.{calls_in}
use Rattle.run_spec.specs.Mark.{is_limit, mark_call, marked_calls}
use Rattle.run_spec.specs.Now.{NoOrderTo}
use Rattle.run_spec.proofs.Periods.Settled.{start_is}
use Rattle.run_spec.proofs.Periods.SoFar.{standing_now}
use Rattle.run_spec.proofs.Orders.OpenCalls.{shut_cases, gone_is}
use Rattle.run_spec.proofs.Ending.{all_done, end_closed, end_lacks, end_limit}
use Rattle.farm_run.specs.declared.stage.Stage.{Stage}
use Rattle.farm_run.specs.Marking.{entry_of}
use Rattle.farm_run.specs.Noted.{is_opened}
use Rattle.farm_run.specs.Outgoing.{sum_to}
use Rattle.farm_run.specs.Stages.{IsStage, OpenedBefore, SumsAt}
use Rattle.farm_run.specs.Standing.{Standing}
use Rattle.farm_run.specs.Clock.{IsAtClock}
use Rattle.farm_run.proofs.Ordered.Due.{open_told}
use Rattle.farm_run.proofs.Reported.LastEnds.{each_among, all_among}
use Rattle.farm_run.proofs.Clocks.Reach.{worked_all}
use Rattle.farm_run.proofs.Reported.Rising.{has, rising_same, range_rises, range_has}
use Rattle.farm_run.proofs.Rounds.Open.{open_at}
use Rattle.farm_run.proofs.Marked.Numbers.{rises_of, has_among, filter_twice, map_each}

-- a call that its lines end isn't cut off by the run's end
not_limit : (k : ℕ) (g : Given) → is_limit (lack_of k g) ≡ false
not_limit k g = by (nat_lt g.up (40 * (k + 1))) g.up_failed g.pcm_failed
  where
    by : (a u p : Bool) →
        is_limit (if a then (if u then Fault Up else End Up (g.up - 40 * k)) else if p
        then Fault Pcm else End Pcm (g.pcm - 160 * k)) ≡ false
    by true true p = refl
    by true false p = refl
    by false u true = refl
    by false u false = refl

-- the cause of an end
abbrev cause_of : CallEnd → Cause
cause_of e = e.cause

-- ---- the entries

-- one more entry
pub entry_more : (s : Stage) (live : List ℕ) (i : ℕ) (old new : List MarkCall) (call : MarkCall) →
    i < length live → old ≡ map (entry_of s) (take i live) →
    call ≡ entry_of s (get_or live i 0) → new ≡ old ++ call ∷ [] →
    new ≡ map (entry_of s) (take (i + 1) live)
entry_more s live i old new call within front is more =
    more ∙ ap (λ (xs : List MarkCall). xs ++ call ∷ []) front ∙ ap (λ (x : MarkCall). map (entry_of s) (take i live) ++ x ∷ []) is
    ∙ sym (ap (map (entry_of s)) (take_more live i 0 within) ∙ map-append (entry_of s) (take i live) (get_or live i 0 ∷ []))

module _ (s : Stage) (live : (c : ℕ) → is_among s.farm.live c ≡ is_some (call_in s.farm.calls c))
    (rising : IsRising s.farm.live) (stage : IsStage s) where
  -- **Their numbers rise.**
  pub numbers_rise : NumbersRise (map (entry_of s) s.farm.live)
  numbers_rise i j d less within =
      let long : length (map (entry_of s) s.farm.live) ≡ length s.farm.live = length-map s.farm.live (entry_of s) in
      let e = get_or-map (entry_of s) s.farm.live i 0 d (omega arith) in
      let f = get_or-map (entry_of s) s.farm.live j 0 d (omega arith) in
      let up = rising i j less (omega arith) in
      omega (arith, ap (λ (x : MarkCall). x.call) e, ap (λ (x : MarkCall). x.call) f, up)

  -- **So they may be live at the run's last period.**
  pub entries_live : (n : ℕ) → OpenedBefore n s.board.done → AreOpenAtMark n (map (entry_of s) s.farm.live)
  entries_live n openings = record {
    each = λ i d within.
        let long : length (map (entry_of s) s.farm.live) ≡ length s.farm.live = length-map s.farm.live (entry_of s) in
        let l : i < length s.farm.live = omega arith in
        subst (IsOpenAtMark n) (sym (get_or-map (entry_of s) s.farm.live i 0 d l)) (record {
          number = numbers i 0 l;
          opened = openings (get_or s.farm.live i 0);
        });
    rising = numbers_rise;
  }
    where
      numbers : All IsCallNumber s.farm.live
      numbers = all_among IsCallNumber s.farm.live (λ c q. let matches = (let k = stage.clock in k.matches) in
          matches.number c (sym (matches.is_open c) ∙ sym (live c) ∙ q))

  -- ---- they are the run's

  module _ (r : Run) (last : Standing) (first now : ℕ → Side → LineState) (at : IsAtClock r s.clock s.board s.farm.calls last first now)
      (e : s.clock ≡ r.periods) where
    -- the executed orders
    abbrev ds : List Done
    ds = s.board.done

    -- no order is left before the run's end
    left_none : IfSome (first_stamp s.board.left) (λ m. r.periods ≤ m)
    left_none = let k = stage.clock in subst (λ (t : ℕ). IfSome (first_stamp s.board.left) (λ m. t ≤ m)) e k.ahead

    -- the executed orders are all that the run executes
    all : done_in r ≡ ds
    all = all_done r s.clock ds s.board.left at.follows.so_far left_none

    -- whether a call is open at the run's end
    alive : ℕ → Bool
    alive = is_open (gone_at (whole_in r) s.clock ds) ds

    -- the farm's live calls are those
    is_alive : (c : ℕ) → is_among s.farm.live c ≡ is_open (gone_at (whole_in r) s.clock ds) ds c
    is_alive c = let k = stage.clock in live c ∙ k.matches.is_open c ∙ open_told (whole_in r) s.clock s.board at.follows.tells c

    -- a live call goes on to the run's end
    limited : (c : ℕ) → is_open (gone_at (whole_in r) s.clock ds) ds c ≡ true → (is_opened (done_in r) c && is_limit (cause_in r c)) ≡ true
    limited c o =
        let here = open_at r s.clock ds c (standing_now r s.clock ds s.board.left at.follows.so_far) o in
        let goes = here.alive in
        let opened : is_opened (done_in r) c ≡ true = ap (λ (xs : List Done). is_opened xs c) all ∙ ap is_some here.opened in
        let end = end_limit r s.clock ds s.board.left c (start_of (done_in r) c) at.follows.so_far left_none here.unclosed
        (let same : start_of (done_in r) c ≡ start_of ds c = ap (λ (xs : List Done). start_of xs c) all in omega (arith, e, same, goes)) in
        ap (λ (b : Bool). b && is_limit (cause_in r c)) opened ∙ ap (λ (x : CallEnd). true && is_limit x.cause) end

    -- any other was closed, or its lines end it
    others : (c : ℕ) → is_open (gone_at (whole_in r) s.clock ds) ds c ≡ false → (is_opened (done_in r) c && is_limit (cause_in r c)) ≡ false
    others c o = by (opened_at c ds) refl
      where
        opens : is_opened (done_in r) c ≡ is_some (opened_at c ds)
        opens = ap (λ (xs : List Done). is_opened xs c) all

        no_limit : is_limit (cause_in r c) ≡ false → (is_opened (done_in r) c && is_limit (cause_in r c)) ≡ false
        no_limit q = and_right (is_opened (done_in r) c) (is_limit (cause_in r c)) q

        closed : (at_end : ℕ) → closed_at c ds ≡ Some at_end → is_limit (cause_in r c) ≡ false
        closed at_end q = ap (λ (x : CallEnd). is_limit x.cause) (end_closed r s.clock ds s.board.left c (start_of (done_in r) c) at_end at.follows.so_far q)

        lacks : (begins : ℕ) → opened_at c ds ≡ Some begins → closed_at c ds ≡ None →
            gone_at (whole_in r) s.clock ds c ≡ true → is_limit (cause_in r c) ≡ false
        lacks begins q l g =
            let gone : begins + whole_in r c < s.clock = ltb-true (begins + whole_in r c) s.clock (sym (gone_is (whole_in r) s.clock ds c begins q) ∙ g) in
            let same : start_of (done_in r) c ≡ begins = start_is (done_in r) c begins (ap (opened_at c) all ∙ q) in
            ap (λ (m : ℕ). is_limit (cause_of (end_of (given_in r) r.periods (done_in r) c m))) same
            ∙ ap (λ (x : CallEnd). is_limit x.cause)
            (end_lacks r s.clock ds s.board.left c begins at.follows.so_far q l (omega (arith, e, gone)) (ahead s.board.left gone at.follows.so_far.ahead))
            ∙ not_limit (whole_in r c) (given_in r c)
          where
            ahead : (os : List Order) → begins + whole_in r c < s.clock →
                IfSome (first_stamp os) (λ u. s.clock ≤ u) → NoOrderTo (begins + whole_in r c) os
            ahead [] l k = tt
            ahead (x ∷ os) l k = omega arith

        by : (v : Option ℕ) → opened_at c ds ≡ v → (is_opened (done_in r) c && is_limit (cause_in r c)) ≡ false
        by None q = ap (λ (b : Bool). b && is_limit (cause_in r c)) (opens ∙ ap is_some q)
        by (Some begins) q = shut (closed_at c ds) refl
          where
            shut : (v : Option ℕ) → closed_at c ds ≡ v → (is_opened (done_in r) c && is_limit (cause_in r c)) ≡ false
            shut (Some at_end) l = no_limit (closed at_end l)
            shut None l = elim (shut_cases (gone_at (whole_in r) s.clock ds) ds c begins q o) [
              | inl p ↦ no_limit (closed p.0 p.1)
              | inr g ↦ no_limit (lacks begins q l g)
            ]

    -- **The live calls are those that only the run's end cuts off.**
    live_is : s.farm.live ≡ filter (λ c. is_limit (cause_in r c)) (calls_in r)
    live_is =
        rising_same 0 1 s.farm.live (filter (λ c. is_opened (done_in r) c && is_limit (cause_in r c)) (range_with_len 1 4096))
        (rises_of 0 s.farm.live (λ i l. omega arith) rising)
        (range_rises (λ c. is_opened (done_in r) c && is_limit (cause_in r c)) 1 4096) members
        ∙ sym (filter_twice (λ c. is_limit (cause_in r c)) (λ c. is_opened (done_in r) c) call_numbers)
      where
        same : (c : ℕ) → is_among s.farm.live c ≡ (is_opened (done_in r) c && is_limit (cause_in r c))
        same c = is_alive c ∙ elim (cases_Bool (is_open (gone_at (whole_in r) s.clock ds) ds c)) [
          | inl o ↦ o ∙ sym (limited c o)
          | inr o ↦ o ∙ sym (others c o)
        ]

        numbers : (c : ℕ) → (is_opened (done_in r) c && is_limit (cause_in r c)) ≡ true → (1 ≤ c) × (c < 1 + 4096)
        numbers c q =
            let k = stage.clock in
            let number = k.matches.number c (sym (k.matches.is_open c) ∙ sym (live c) ∙ same c ∙ q) in
            let most = number.1 in
            (number.0, omega (arith, most))

        members : (c : ℕ) →
            has c s.farm.live ≡ has c (filter
            (λ c. is_opened (done_in r) c && is_limit (cause_in r c)) (range_with_len 1 4096))
        members c = has_among c s.farm.live ∙ same c ∙ sym (range_has (λ c. is_opened (done_in r) c && is_limit (cause_in r c)) 1 4096 c (numbers c))

    -- **The entries are the mark's.**
    pub entries_are : SumsAt r s.clock (sum_to s.outgoing) → map (entry_of s) s.farm.live ≡ marked_calls r
    entries_are sums =
        map_each (entry_of s) (mark_call r) s.farm.live (each_among (λ c. entry_of s c ≡ mark_call r c) s.farm.live entry)
        ∙ ap (map (mark_call r)) live_is
      where
        entry : (c : ℕ) → is_among s.farm.live c ≡ true → entry_of s c ≡ mark_call r c
        entry c q =
            let here = open_at r s.clock ds c (standing_now r s.clock ds s.board.left at.follows.so_far) (sym (is_alive c) ∙ q) in
            let opened : IsOpened r c = ap (λ (xs : List Done). is_opened xs c) all ∙ ap is_some here.opened in
            let begins : start_of ds c ≡ start_in r c = sym (ap (λ (xs : List Done). start_of xs c) all) in
            let whole : worked_to r s.clock c ≡ end_in r c - start_of (done_in r) c = ap (λ (t : ℕ). worked_to r t c) e
            ∙ worked_all r s.clock ds s.board.left c at.follows.so_far in
            let out = sums.out c opened ∙ ap (λ (k : ℕ). sum_of (out_line (who_in r c) (periods_to r c k))) whole in
            let down = sums.down c opened ∙ ap (λ (k : ℕ). sum_of (down_octets (who_in r c) (periods_to r c k))) whole in
            same c _ _ _ _ _ _ begins out down
          where
            same : (c from from' out out' down down' : ℕ) → from ≡ from' → out ≡ out' → down ≡ down' →
                ◌≡◌ {A = MarkCall} (record { call = c; from = from; out = out; down = down })
                (record { call = c; from = from'; out = out'; down = down' })
            same c from from' out out' down down' p q k =
                ap {B = MarkCall} (λ (x : ℕ). record { call = c; from = x; out = out; down = down }) p
                ∙ ap {B = MarkCall} (λ (x : ℕ). record { call = c; from = from'; out = x; down = down }) q
                ∙ ap {B = MarkCall} (λ (x : ℕ). record { call = c; from = from'; out = out'; down = x }) k
