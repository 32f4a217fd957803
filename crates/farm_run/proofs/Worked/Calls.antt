-- The calls of a round: what was taken of their lines is the run's.
use Rattle.std.proofs.Common.{◌≡◌, refl, sym, ap, ◌∙◌, subst, ℕ, suc, ◌+◌, ◌-◌, ◌*◌, ◌<◌, Bool, true, false, Some, List, [], ◌∷◌, ◌++◌, length, drop, inl}
use Rattle.std.proofs.Common.{inr, ◌⊎◌, arith}
use Rattle.std.specs.Prelude.{◌==◌, is_some, slice_index}
use Rattle.std.specs.List.{AllByRecursion, filter_map, cons_option}
use Rattle.std.proofs.lemmas.Bool.{eq-eqb, true≢false}
use Rattle.std.proofs.lemmas.List.Elements.{recursion_from_All, All-from_get_or}
use Rattle.std.proofs.lemmas.List.Folds.{list_any_at}
use Rattle.trau_io.specs.declared.ends.CallEnd.{CallEnd}
use Rattle.trau_io.specs.declared.line.Side.{Side}
use Rattle.trau_io.specs.declared.line.Side.TheVariants.{Up, Pcm}
use Rattle.trau_io.specs.Lines.{LineState}
use Rattle.round_lines.specs.Memory.{LinesMemory}
use Rattle.round_lines.specs.Memory as round_lines
use Rattle.round_lines.specs.Portions.{PortionMemory}
use Rattle.round_lines.specs.Rounds.{portion_at, call_at, portion_end, no_portion}
use Rattle.switchboard.specs.Calls.{is_open, gone_at}
use Rattle.switchboard.specs.Ends.{start_of}
use Rattle.switchboard.specs.State.{State}
use Rattle.farm_rounds.specs.Calls.{Call, call_in}
use Rattle.farm_rounds.specs.Memory.{FarmMemory}
use Rattle.farm_rounds.specs.Working.{goes_on_call}
use Rattle.farm_rounds.specs.RoundHistories.{portion_of}
use Rattle.farm_rounds.proofs.Drain.GoingOn.{goes_on_at}
use Rattle.run_spec.specs.Run.{Run, whole_in, IsOpened}
use Rattle.run_spec.proofs.Periods.SoFar.{standing_now}
use Rattle.run_spec.proofs.Periods.Next.{opened_run}
use Rattle.farm_run.proofs.Rounds.Taken.{IsRound, IsTaken, IsPortion, has_portion, places_in}
use Rattle.farm_run.specs.Runs.{is_listed}
use Rattle.farm_run.specs.Match.{Matches}
use Rattle.farm_run.specs.Standing.{Standing, standing, is_over, IsToCome, never_given}
use Rattle.farm_run.specs.Clock.{IsAtClock}
use Rattle.farm_run.proofs.Rounds.Open.{open_at}
use Rattle.farm_run.proofs.Rounds.Ends.{whole_taken}
use Rattle.farm_run.proofs.Ordered.Due.{open_told}
use Rattle.farm_run.proofs.Listed.Counts.{portion_cases}
use Rattle.farm_run.proofs.Clocks.Reach.{open_before_end, worked_now}
use Rattle.farm_run.proofs.Worked.Round.{WorkedRound, PortionFacts, filled_call, filled_periods, up_long, pcm_long, MeetsRun}
use Rattle.farm_run.proofs.Worked.Facts.{portion_facts, up_after, pcm_after, incoming_after}
use Rattle.farm_run.proofs.Rounds.Taking.{met}
use Rattle.farm_run.proofs.Worked.Portions.{portion_of_at}

-- the ends that portions tell are those of their places
pub same_ends : (t : ℕ) (ss ts : List PortionMemory) → length ss ≡ length ts →
    ((k : ℕ) → k < length ts → (portion_at ss k).lines ≡ (portion_at ts k).lines) →
    filter_map (portion_end t) ss ≡ filter_map (portion_end t) ts
same_ends t [] [] e h = refl
same_ends t [] (x ∷ ts) e h = absurd (omega arith)
same_ends t (s ∷ ss) [] e h = absurd (omega arith)
same_ends t (s ∷ ss) (x ∷ ts) e h =
    ap (λ (p : LinesMemory). cons_option (round_lines.end_in_round t p) (filter_map (portion_end t) ss)) (h 0 (omega arith))
    ∙ ap (cons_option (portion_end t x)) (same_ends t ss ts (omega arith) (λ k l. h (suc k) (omega arith)))

module _ (r : Run) (t n : ℕ) (b : State) (farm after : FarmMemory) (first before now : ℕ → Side → LineState) (ends : List CallEnd)
    (w : WorkedRound t n farm after before now ends) (h : IsRound r t n b.done b.left)
    (m : Matches b farm.calls) (b' : State) (last : Standing)
    (at : IsAtClock r t b farm.calls last first before)
    (meets : MeetsRun r n w.filled_portions (standing b' after.failed now) last) where
  -- whether a call is open at the clock
  abbrev alive : ℕ → Bool
  alive = is_open (gone_at (whole_in r) t b.done) b.done

  -- **The farm's calls are those that are open by the definition.**
  pub open_is : (c : ℕ) → is_some (call_in farm.calls c) ≡ alive c
  open_is c = m.is_open c ∙ open_told (whole_in r) t b at.follows.tells c

  -- the run opens it
  pub opened_is : (c : ℕ) → alive c ≡ true → IsOpened r c
  opened_is c o =
      ap is_some (opened_run r t b.done b.left c (start_of b.done c) h.so_far (open_at r t b.done c (standing_now r t b.done b.left h.so_far) o).opened)

  -- what is known of the portion of an open call
  pub record OpenPortion (c : ℕ) : Type 0 where
    pub k : ℕ
    pub within : k < length farm.live
    pub here : slice_index farm.live k ≡ c
    pub call : Call
    pub called : call_in farm.calls c ≡ Some call
    pub facts : PortionFacts n (before c) (w.between c) (now c) c call (portion_at w.planned_portions k)
        (portion_at w.filled_portions k) (portion_at w.worked_portions k) (portion_at w.drained_portions k)
    pub found : portion_of w.filled_portions c ≡ portion_at w.filled_portions k
    pub number : (portion_at w.filled_portions k).lines.call ≡ c
    pub taken : IsTaken r b.done t n c (portion_at w.filled_portions k).lines (portion_at w.filled_portions k).up (portion_at w.filled_portions k).pcm
    pub whole : round_lines.whole_in (portion_at w.filled_portions k).lines ≡ places_in r b.done t n c
    pub up_left : IsToCome (now c Up) (40 * (t - start_of b.done c) + 40 * n) (r.lines c).up
        (never_given (last.listed c Up) (last.lines c Up))
    pub pcm_left : IsToCome (now c Pcm) (160 * (t - start_of b.done c) + 160 * n) (r.lines c).pcm
        (never_given (last.listed c Pcm) (last.lines c Pcm))

  -- **An open call has a portion, which took what the run's lines give.**
  pub open_portion : (c : ℕ) → alive c ≡ true → OpenPortion c
  open_portion c o = by (portion_cases t n farm after before now ends w c)
    where
      by : ((k : ℕ) × (k < length farm.live) × (slice_index farm.live k ≡ c)) ⊎ (is_some (call_in farm.calls c) ≡ false) → OpenPortion c
      by (inr q) = absurd (true≢false (sym o ∙ sym (open_is c) ∙ q))
      by (inl p) =
          let f = portion_facts t n farm after before now ends w p.0 c p.1 p.2 in
          let place = portion_at w.filled_portions p.0 in
          let called = filled_call _ _ _ _ _ _ _ _ f.2.front in
          let whole : IsOpened r c = opened_is c o in
          let early = open_before_end r t n b.done b.left c h o in
          let now_is = worked_now r t n b.done b.left c h o in
          let up_rest = never_given (last.listed c Up) (last.lines c Up) in
          let pcm_rest = never_given (last.listed c Pcm) (last.lines c Pcm) in
          let up_told : IsToCome (before c Up) (40 * (t - start_of b.done c)) (r.lines c).up up_rest = at.lines.up_read c whole (inl early)
          ∙ ap (λ (i : ℕ). Some (drop (40 * i) (r.lines c).up ++ up_rest)) now_is in
          let pcm_told : IsToCome (before c Pcm) (160 * (t - start_of b.done c)) (r.lines c).pcm pcm_rest = at.lines.pcm_read c whole (inl early)
          ∙ ap (λ (i : ℕ). Some (drop (160 * i) (r.lines c).pcm ++ pcm_rest)) now_is in
          let long : p.0 < length w.filled_portions = omega (arith, p.1, w.number, w.filled_number) in
          let is_met = met r b.done t n c (before c) (w.between c) (portion_at w.planned_portions p.0) place (standing b' after.failed now) last f.2.front.fills called
          (filled_periods _ _ _ _ _ _ _ _ f.2.front)
          (up_long _ _ _ _ _ _ _ _ f.2.front) (pcm_long _ _ _ _ _ _ _ _ f.2.front) meets.on (meets.flags.up c) (meets.flags.pcm c)
          (λ side i. ap (λ (d : ℕ). is_listed after.failed d side) (sym called) ∙ meets.listed p.0 side long i)
          (λ l. ap (is_over b') (sym called) ∙ meets.over p.0 long l)
          (incoming_after t n farm after before now ends w c) up_told pcm_told in
          record {
            k = p.0;
            within = p.1;
            here = p.2;
            call = f.0;
            called = f.1;
            facts = f.2;
            found = ap (portion_of w.filled_portions) (sym called) ∙ portion_of_at w.filled_portions p.0 w.rising long;
            number = called;
            taken = is_met.taken;
            whole = whole_taken r t n b.done b.left c place.lines place.up place.pcm h o is_met.taken;
            up_left = ap (λ (l : LineState). l.to_come) (up_after t n farm after before now ends w c) ∙ is_met.up_left;
            pcm_left = ap (λ (l : LineState). l.to_come) (pcm_after t n farm after before now ends w c) ∙ is_met.pcm_left;
          }

  -- ---- the round's portions and ends

  -- there are as many portions as open calls
  long : length w.filled_portions ≡ length farm.live
  long = w.filled_number ∙ w.number

  -- a portion that took what the run's lines give its call is one of the run's round
  portion_is : (c : ℕ) (s : PortionMemory) → alive c ≡ true → s.lines.call ≡ c → IsTaken r b.done t n c s.lines s.up s.pcm → IsPortion r b.done t n s
  portion_is c s o e k = record { open_now = ap alive e ∙ o; taken = subst (λ (d : ℕ). IsTaken r b.done t n d s.lines s.up s.pcm) (sym e) k }

  -- **Each portion is one of the run's round.**
  pub all_portions : AllByRecursion (IsPortion r b.done t n) w.filled_portions
  all_portions = recursion_from_All (IsPortion r b.done t n) w.filled_portions (All-from_get_or (IsPortion r b.done t n) w.filled_portions no_portion each)
    where
      each : (k : ℕ) → k < length w.filled_portions → IsPortion r b.done t n (portion_at w.filled_portions k)
      each k l =
          let c = slice_index farm.live k in
          let f = portion_facts t n farm after before now ends w k c (omega (arith, l, long)) refl in
          let o : alive c ≡ true = sym (open_is c) ∙ ap is_some f.1 in
          let s = open_portion c o in
          let called = filled_call _ _ _ _ _ _ _ _ f.2.front in
          let same : portion_at w.filled_portions s.k ≡ portion_at w.filled_portions k = sym s.found ∙ ap (portion_of w.filled_portions) (sym called) ∙ portion_of_at w.filled_portions k w.rising l in
          subst (IsPortion r b.done t n) same (portion_is c (portion_at w.filled_portions s.k) o s.number s.taken)

  -- each open call has one
  pub all_have_portions : (c : ℕ) → alive c ≡ true → has_portion c w.filled_portions ≡ true
  all_have_portions c o =
      let s = open_portion c o in
      let l = s.within in
      list_any_at (λ x. c == x.lines.call) w.filled_portions s.k no_portion (omega (arith, l, long)) (eq-eqb c (call_at w.filled_portions s.k) (sym s.number))

  -- the ends that are told are those of the filled portions
  pub ends_filled : ends ≡ filter_map (portion_end t) w.filled_portions
  ends_filled = w.told ∙ same_ends t w.worked_portions w.filled_portions w.worked_number w.places

  -- **A call goes on exactly where its lines give all periods of the round.**
  pub goes_on_is : (c : ℕ) → alive c ≡ true → goes_on_call w.worked_portions c ≡ (places_in r b.done t n c == n)
  goes_on_is c o =
      let s = open_portion c o in
      let l = s.within in
      let within : s.k < length w.worked_portions = omega (arith, l, long, w.worked_number) in
      let place : (portion_at w.worked_portions s.k).lines ≡ (portion_at w.filled_portions s.k).lines = s.facts.front.lines in
      ap (goes_on_call w.worked_portions) (sym (ap (λ (p : LinesMemory). p.call) place ∙ s.number))
      ∙ goes_on_at w.worked_portions s.k w.worked_rising within
      ∙ ap (λ (p : LinesMemory). round_lines.whole_in p == p.periods) place
      ∙ ap (λ (i : ℕ). i == (portion_at w.filled_portions s.k).lines.periods) s.whole
      ∙ ap (λ (i : ℕ). places_in r b.done t n c == i) s.taken.periods
