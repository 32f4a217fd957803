-- What a round adds to what the calls have had.
use Rattle.std.proofs.Common.{◌≡◌, refl, sym, ap, ◌∙◌, subst, ℕ, ◌+◌, ◌-◌, ◌≤◌, Bool, true, false, ◌&&◌, Option, Some, None, List, arith}
use Rattle.std.specs.Prelude.{min, if◌then◌else◌, is_none, option_map, nat_lt, find}
use Rattle.std.proofs.lemmas.Bool.{and_parts, and_from}
use Rattle.trau_io.specs.declared.ends.CallEnd.{CallEnd}
use Rattle.trau_io.specs.declared.line.Side.{Side}
use Rattle.trau_io.specs.Lines.{LineState}
use Rattle.round_lines.specs.Memory as round_lines
use Rattle.round_lines.specs.Portions.{PortionMemory}
use Rattle.round_lines.specs.Rounds.{portion_at}
use Rattle.switchboard.specs.declared.table.Bridge.{Bridge}
use Rattle.switchboard.specs.Calls.{Done, is_open, gone_at}
use Rattle.switchboard.specs.Bridges.{bridges, joins, other, lasts, bridge_of}
use Rattle.switchboard.specs.Ends.{start_of}
use Rattle.switchboard.specs.State.{State, gone_in}
use Rattle.call_leg.specs.Settings.{Settings, without_bridge, settings_at}
use Rattle.call_pair.specs.History.{settings_past}
use Rattle.call_pair.specs.Memory.{IoMemory}
use Rattle.farm_rounds.specs.Calls.{partner_in}
use Rattle.farm_rounds.specs.Memory.{FarmMemory}
use Rattle.farm_rounds.specs.Histories.{CallHistory}
use Rattle.farm_rounds.specs.Rounds.{io_of}
use Rattle.farm_rounds.specs.RoundHistories.{portion_of, history_with, history_alone, history_beside, history_bridged, worked_histories}
use Rattle.run_spec.specs.Run.{Run, whole_in, periods_to, law_in}
use Rattle.run_spec.specs.Now.{settings_now}
use Rattle.farm_run.proofs.Rounds.Taken.{IsRound, IsFed, places_in}
use Rattle.farm_run.specs.Match.{Matches, past_if, histories_at}
use Rattle.farm_run.specs.Standing.{Standing, standing}
use Rattle.farm_run.specs.Clock.{IsAtClock}
use Rattle.farm_run.proofs.Rounds.Histories.{alone_worked, alone_settings, settings_kept}
use Rattle.farm_run.proofs.Rounds.Open.{bridge_open}
use Rattle.farm_run.proofs.Rounds.Partners.{bridged_worked, bridged_settings, both_calls}
use Rattle.farm_run.proofs.Rounds.Finished.{fed_taken}
use Rattle.farm_run.proofs.Ordered.Due.{open_told}
use Rattle.farm_run.proofs.Worked.Round.{WorkedRound, MeetsRun}
use Rattle.farm_run.proofs.Worked.Calls.{OpenPortion, open_portion}

-- where the same calls are open, the same bridges last
bridge_same : (gone gone' : ℕ → Bool) (ds : List Done) (c : ℕ) →
    ((d : ℕ) → is_open gone ds d ≡ is_open gone' ds d) → bridge_of gone ds c ≡ bridge_of gone' ds c
bridge_same gone gone' ds c e =
    let same : (x : Bridge) → (joins c x && lasts gone ds x) ≡ (joins c x && lasts gone' ds x) = λ x.
    ap (λ (p : Bool). joins c x && (is_none x.ended && p && is_open gone ds x.b)) (e x.a)
    ∙ ap (λ (p : Bool). joins c x && (is_none x.ended && is_open gone' ds x.a && p)) (e x.b) in
    ap (λ (p : Bridge → Bool). find p (bridges ds)) (λ i. λ x. same x i)

-- what is set for the next period but for the bridge
starts_past : (k others : ℕ) (now : Settings) → (settings_past k others now).starts ≡ (settings_at k now).starts
starts_past k others now = by (nat_lt others k)
  where
    by : (b : Bool) → (if b then without_bridge (settings_at k now) else settings_at k now).starts ≡ (settings_at k now).starts
    by true = refl
    by false = refl

module _ (r : Run) (t n : ℕ) (b : State) (farm after : FarmMemory) (first before now : ℕ → Side → LineState) (ends : List CallEnd)
    (w : WorkedRound t n farm after before now ends) (h : IsRound r t n b.done b.left)
    (m : Matches b farm.calls) (b' : State) (last : Standing)
    (at : IsAtClock r t b farm.calls last first before)
    (meets : MeetsRun r n w.filled_portions (standing b' after.failed now) last) where
  -- whether a call is open at the clock
  abbrev is_alive : ℕ → Bool
  is_alive = is_open (gone_at (whole_in r) t b.done) b.done

  -- the bridge that it is in
  abbrev bridge_at : ℕ → Option Bridge
  bridge_at = bridge_of (gone_at (whole_in r) t b.done) b.done

  -- what is known of its portion
  abbrev Portion : ℕ → Type 0
  Portion c = OpenPortion r t n b farm after first before now ends w h m b' last at meets c

  abbrev portion : (c : ℕ) → is_alive c ≡ true → Portion c
  portion c o = open_portion r t n b farm after first before now ends w h m b' last at meets c o

  -- **A call's partner is the other call of its bridge.**
  partner_is : (c : ℕ) → partner_in farm.calls c ≡ option_map (other c) (bridge_at c)
  partner_is c =
      m.partner c ∙ ap (option_map (other c)) (bridge_same (gone_in b) (gone_at (whole_in r) t b.done) b.done c (open_told (whole_in r) t b at.follows.tells))

  -- what an open call has had, and its octets of the round
  abbrev past : ℕ → CallHistory
  past c = record { law = law_in r c; periods = periods_to r c (t - start_of b.done c); now = settings_now r b.done t c }

  -- what its job is given
  abbrev octets : ℕ → IoMemory
  octets c = io_of (portion_of w.filled_portions c)

  -- what it has had before the round
  past_is : (c : ℕ) → is_alive c ≡ true → histories_at r b.done t c ≡ Some (past c)
  past_is c o = ap (λ (x : Bool). past_if x (law_in r c) (periods_to r c (t - start_of b.done c)) (settings_now r b.done t c)) o

  -- its job is given what the run's lines give
  pub fed : (c : ℕ) → is_alive c ≡ true → IsFed r b.done t n c (octets c)
  fed c o =
      let s = portion c o in
      let x = portion_at w.filled_portions s.k in
      subst (λ (x : PortionMemory). IsFed r b.done t n c (io_of x)) (sym s.found)
      (fed_taken r t n b.done b.left c x.lines (io_of x) h o s.taken s.number refl refl)

  -- for so many periods as the run says
  pub given : (c : ℕ) → is_alive c ≡ true → round_lines.whole_in (portion_of w.filled_portions c).lines ≡ places_in r b.done t n c
  given c o = let s = portion c o in ap (λ (x : PortionMemory). round_lines.whole_in x.lines) s.found ∙ s.whole

  -- no more than the round has
  at_most : (c : ℕ) → places_in r b.done t n c ≤ n
  at_most c = most n (start_of b.done c + whole_in r c - t)
    where
      most : (n m : ℕ) → min n m ≤ n
      most n m = omega arith

  -- What a call has had after the round: its periods up to where its lines ended it or the round ends. What is set for
  -- the next one is what the run has set, where it goes on.
  pub record IsPast (c : ℕ) (x : CallHistory) : Type 0 where
    pub law : x.law ≡ law_in r c
    pub periods : x.periods ≡ periods_to r c (t + places_in r b.done t n c - start_of b.done c)
    pub goes_on : places_in r b.done t n c ≡ n → x.now ≡ settings_now r b.done (t + n) c
    pub starts : x.now.starts ≡ (settings_now r b.done (t + places_in r b.done t n c) c).starts

  -- a bridge starts after some periods of the round where it does so in the run
  starts_kept : (c k : ℕ) → k ≤ n → (settings_at k (settings_now r b.done t c)).starts ≡ (settings_now r b.done (t + k) c).starts
  starts_kept c k l = ap (λ (s : Settings). s.starts) (settings_kept r t n b.done b.left c k h l)

  -- **Of a call that isn't bridged.**
  alone_is : (c : ℕ) → is_alive c ≡ true → bridge_at c ≡ None → IsPast c (history_alone w.filled_portions c (past c))
  alone_is c o none =
      let g = given c o in
      let k = places_in r b.done t n c in
      let l = at_most c in
      record {
        law = refl;
        periods = alone_worked r t n b.done b.left c (octets c) h o (fed c o) none ∙ ap (λ (i : ℕ). periods_to r c (t + i - start_of b.done c)) g;
        goes_on = λ e. ap (λ (i : ℕ). settings_at i (settings_now r b.done t c)) (g ∙ e) ∙ alone_settings r t n b.done b.left c n h none (omega arith);
        starts = ap (λ (i : ℕ). (settings_at i (settings_now r b.done t c)).starts) g ∙ starts_kept c k l;
      }

  -- **Of one that is, with its partner.**
  bridged_is : (c : ℕ) (x : Bridge) → is_alive c ≡ true → is_alive (other c x) ≡ true → bridge_at c ≡ Some x →
      IsPast c (history_bridged w.filled_portions c (past c) (other c x) (past (other c x)))
  bridged_is c x o p some =
      let d = other c x in
      let g = given c o in
      let k = places_in r b.done t n c in
      let l = at_most c in
      let now = settings_now r b.done t c in
      let whole = round_lines.whole_in (portion_of w.filled_portions c).lines in
      let others = round_lines.whole_in (portion_of w.filled_portions d).lines in
      record {
        law = refl;
        periods = bridged_worked r t n b.done b.left c x (octets c) (octets d) h some (fed c o) (fed d p)
            ∙ ap (λ (i : ℕ). periods_to r c (t + i - start_of b.done c)) g;
        goes_on = λ e. bridged_settings r t n b.done b.left c x (octets c) (octets d) h some (fed c o) (fed d p) (g ∙ e)
            ∙ ap (λ (i : ℕ). settings_now r b.done (t + i) c) (g ∙ e);
        starts = starts_past whole others now ∙ ap (λ (i : ℕ). (settings_at i now).starts) g ∙ starts_kept c k l;
      }

  -- **Each open call has had after the round what the run gives it.**
  pub worked_past : (c : ℕ) → is_alive c ≡ true →
      (x : CallHistory) × (worked_histories w.filled_portions (partner_in farm.calls) (histories_at r b.done t) c ≡ Some x) × IsPast c x
  worked_past c o = by (bridge_at c) refl
    where
      hs : ℕ → Option CallHistory
      hs = histories_at r b.done t

      start : (q : Option ℕ) → partner_in farm.calls c ≡ q → worked_histories w.filled_portions (partner_in farm.calls) hs c
          ≡ Some (history_with w.filled_portions hs c q (past c))
      start q e = ap (option_map (history_with w.filled_portions hs c (partner_in farm.calls c))) (past_is c o)
          ∙ ap (λ (q : Option ℕ). Some (history_with w.filled_portions hs c q (past c))) e

      by : (v : Option Bridge) → bridge_at c ≡ v →
          (x : CallHistory) × (worked_histories w.filled_portions (partner_in farm.calls) hs c
          ≡ Some x) × IsPast c x
      by None e = (history_alone w.filled_portions c (past c), start None (partner_is c ∙ ap (option_map (other c)) e), alone_is c o e)
      by (Some x) e =
          let parts = bridge_open r t b.done c x e in
          let both =
          and_parts (is_alive c) (is_alive (other c x)) (sym (both_calls is_alive c x parts.0) ∙ and_from (is_alive x.a) (is_alive x.b) parts.1 parts.2) in
          let partner = past_is (other c x) both.1 in (
            history_bridged w.filled_portions c (past c) (other c x) (past (other c x)),
            start (Some (other c x)) (partner_is c ∙ ap (option_map (other c)) e)
                ∙ ap (λ (y : Option CallHistory). Some (history_beside w.filled_portions c (past c) (other c x) y)) partner,
            bridged_is c x o both.1 e,
          )
