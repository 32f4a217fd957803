-- The board and the farm after a round: its ends are told in time, and the same calls are open.
use Rattle.std.proofs.Common.{◌≡◌, refl, sym, ap, ◌∙◌, subst, ℕ, ◌+◌, ◌<◌, ◌≤◌, Bool, true, false, not, ◌&&◌, ◌||◌, Option, Some, None, List, length, inl}
use Rattle.std.proofs.Common.{inr, ◌⊎◌, arith}
use Rattle.std.specs.Prelude.{◌==◌, if◌then◌else◌, is_some, IfSome, slice_index}
use Rattle.std.specs.List.{AllByRecursion}
use Rattle.std.proofs.lemmas.Bool.{cases_lt, eq-eqb}
use Rattle.std.proofs.lemmas.List.Elements.{All-from_recursion}
use Rattle.std.proofs.lemmas.List.Folds.{list_any_at}
use Rattle.trau_io.specs.declared.ends.CallEnd.{CallEnd}
use Rattle.trau_io.specs.declared.line.Side.{Side}
use Rattle.trau_io.specs.Lines.{LineState}
use Rattle.round_lines.specs.Memory as round_lines
use Rattle.round_lines.specs.Memory.{LinesMemory}
use Rattle.round_lines.specs.Portions.{PortionMemory}
use Rattle.round_lines.specs.Rounds.{portion_at, call_at, portion_end, no_portion}
use Rattle.switchboard.specs.Ends.{lack_of}
use Rattle.switchboard.specs.State.{State, first_stamp, last_stamp}
use Rattle.switchboard.specs.Open.{open_now, partner_now, ArePairs}
use Rattle.call_number.specs.CallNumber.{IsCallNumber}
use Rattle.farm_rounds.specs.Calls.{call_in, partner_in}
use Rattle.farm_rounds.specs.Memory.{FarmMemory}
use Rattle.farm_rounds.specs.Working.{goes_on_call, that_stays}
use Rattle.run_spec.proofs.Lists.{each_weaker}
use Rattle.farm_run.specs.Ending.{AreOpen, AreApart, AreLate, has_left, partner_past, told_after, is_told}
use Rattle.farm_run.specs.Match.{AtClock}
use Rattle.farm_run.proofs.Told.Ends.{clock_round}
use Rattle.farm_run.proofs.Told.Portions.{portions_apart}
use Rattle.farm_run.proofs.Told.Lacking.{each_told, told_goes, has_call}
use Rattle.farm_run.proofs.Listed.Counts.{portion_cases}
use Rattle.farm_run.proofs.Worked.Round.{WorkedRound, FilledRound, front_facts, up_long, filled_periods, worked_call}
use Rattle.farm_run.proofs.Worked.Facts.{front, worked_at}

-- an end that the board can be told: it lies within the round, and its call is open
pub record IsRight (t n : ℕ) (b : State) (e : CallEnd) : Type 0 where
  pub from : t ≤ e.at
  pub before : e.at < t + n
  pub number : IsCallNumber e.call
  pub open_now : open_now b e.call ≡ true

module _ (t n : ℕ) (b : State) (farm : FarmMemory) (before between : ℕ → Side → LineState)
    (planned filled worked : List PortionMemory) (ends : List CallEnd)
    (w : FilledRound t n farm before between planned filled worked ends) (a : AtClock t b farm.calls) where
  -- no portion has more whole periods than the round
  few : (k c : ℕ) → k < length farm.live → slice_index farm.live k ≡ c → round_lines.whole_in (portion_at worked k).lines ≤ n
  few k c l e =
      let f = front_facts t n farm before between planned filled worked ends w k c l e in
      let place = ap round_lines.whole_in f.2.lines in
      let up = f.2.fills.up.bound in
      let long = up_long _ _ _ _ _ _ _ _ f.2 in
      omega (arith, place, up, long)

  -- an end that a portion tells is right
  portion_right : (k : ℕ) → k < length worked → IfSome (portion_end t (portion_at worked k)) (IsRight t n b)
  portion_right k l = by (round_lines.whole_in s.lines == s.lines.periods) refl
    where
      s : PortionMemory
      s = portion_at worked k

      within : k < length farm.live
      within = omega (arith, l, w.worked_number, w.filled_number, w.number)

      c : ℕ
      c = slice_index farm.live k

      end : CallEnd
      end = record { call = s.lines.call; at = t + round_lines.whole_in s.lines; cause = lack_of (round_lines.whole_in s.lines) (round_lines.given_in s.lines) }

      right : (round_lines.whole_in s.lines ≡ s.lines.periods → ⊥) → IsRight t n b end
      right other =
          let f = front_facts t n farm before between planned filled worked ends w k c within refl in
          let called : s.lines.call ≡ c = worked_call _ _ _ _ _ _ _ _ f.2 in
          let all : s.lines.periods ≡ n = ap (λ (p : LinesMemory). p.periods) f.2.lines ∙ filled_periods _ _ _ _ _ _ _ _ f.2 in
          let o : open_now b c ≡ true = sym (a.matches.is_open c) ∙ ap is_some f.1 in
          let o' : open_now b s.lines.call ≡ true = ap (open_now b) called ∙ o in
          record {
            from = omega arith;
            before = less (round_lines.whole_in s.lines) (few k c within refl) (λ e. other (e ∙ sym all));
            number = a.matches.number s.lines.call o';
            open_now = o';
          }
        where
          less : (m : ℕ) → m ≤ n → (m ≡ n → ⊥) → t + m < t + n
          less m l ne = elim (cases_lt m n) [ inl q ↦ omega arith | inr q ↦ absurd (ne (omega arith)) ]

      by : (x : Bool) → (round_lines.whole_in s.lines == s.lines.periods) ≡ x → IfSome (if x then None else Some end) (IsRight t n b)
      by true e = tt
      by false e = right (λ q. let g = eq-eqb (round_lines.whole_in s.lines) s.lines.periods q in cc)

  -- each end that is told is right
  pub ends_right : AllByRecursion (IsRight t n b) ends
  ends_right = subst (AllByRecursion (IsRight t n b)) (sym w.told) (each_told (IsRight t n b) t worked portion_right)

  -- **The call of each of these ends is open.**
  pub tells_open : AreOpen b ends
  tells_open =
      All-from_recursion (λ e. open_now b e.call ≡ true) ends (each_weaker (IsRight t n b) (λ e. open_now b e.call ≡ true) ends (λ e q. q.open_now) ends_right)

  -- no two of these ends are of one call
  pub tells_apart : AreApart ends
  tells_apart = subst AreApart (sym w.told) (portions_apart t worked w.worked_rising)

  -- none of these ends lies below the stamp of an executed order
  pub tells_late : AreLate b ends
  tells_late = let past = a.past in All-from_recursion (λ e. last_stamp b.done ≤ e.at) ends
      (each_weaker (IsRight t n b) (λ e. last_stamp b.done ≤ e.at) ends (λ e q. let f = q.from in omega arith) ends_right)

module _ (t n : ℕ) (b : State) (farm after : FarmMemory) (before now : ℕ → Side → LineState) (ends : List CallEnd)
    (w : WorkedRound t n farm after before now ends) (a : AtClock t b farm.calls) where
  -- ---- who is open after it

  -- **Of an open call the end is told exactly where it doesn't go on.**
  pub told_is : (c : ℕ) → is_some (call_in farm.calls c) ≡ true → is_told c ends ≡ not (goes_on_call w.worked_portions c)
  told_is c o = ap (is_told c) w.told ∙ told_goes t w.worked_portions w.worked_rising c (by (portion_cases t n farm after before now ends w c))
    where
      by : ((k : ℕ) × (k < length farm.live) × (slice_index farm.live k ≡ c))
          ⊎ (is_some (call_in farm.calls c) ≡ false) → has_call w.worked_portions c ≡ true
      by (inl p) = list_any_at (λ s. s.lines.call == c) w.worked_portions p.0 no_portion (omega (arith, p.1, w.worked_number, w.filled_number, w.number))
          (eq-eqb (call_at w.worked_portions p.0) c (worked_at t n farm after before now ends w p.0 p.1 ∙ p.2))
      by (inr q) = cc

  -- the farm keeps the calls whose ends weren't told
  calls_left : (c : ℕ) → is_some (call_in after.calls c) ≡ (is_some (call_in farm.calls c) && not (is_told c ends))
  calls_left c = w.is_open c ∙ ap (λ (x : Bool). x && goes_on_call w.worked_portions c) (w.live c) ∙ by (is_some (call_in farm.calls c)) refl
    where
      twice : (g : Bool) → g ≡ not (not g)
      twice true = refl
      twice false = refl

      by : (x : Bool) → is_some (call_in farm.calls c) ≡ x → (x && goes_on_call w.worked_portions c) ≡ (x && not (is_told c ends))
      by true q = twice (goes_on_call w.worked_portions c) ∙ sym (ap not (told_is c q))
      by false q = refl

  -- the farm keeps those partners that both go on
  partners_left : ArePairs (open_now b) (partner_now b) → (c : ℕ) → partner_in after.calls c ≡ partner_past ends (partner_in farm.calls) c
  partners_left pairs c = w.partners c ∙ by (partner_in farm.calls c) refl
    where
      none : Option ℕ
      none = None

      empty : (x : Bool) → (if x then None else None) ≡ none
      empty true = refl
      empty false = refl

      both : (p : ℕ) (g k u v : Bool) → u ≡ not g → v ≡ not k →
          (if g then (if k then Some p else None) else None) ≡ (if u || v then None else Some p)
      both p true true false false e f = refl
      both p true false false true e f = refl
      both p false k true v e f = refl
      both p true true true v e f = cc
      both p true true false true e f = cc
      both p true false true v e f = cc
      both p true false false false e f = cc
      both p false k false v e f = cc

      live : (d : ℕ) → open_now b d ≡ true → is_told d ends ≡ not (goes_on_call w.worked_portions d)
      live d o = told_is d (a.matches.is_open d ∙ o)

      by : (q : Option ℕ) → partner_in farm.calls c ≡ q →
          (if goes_on_call w.worked_portions c then that_stays (goes_on_call w.worked_portions) q
          else None) ≡ (if is_told c ends || has_left q ends then None else q)
      by None e = empty (goes_on_call w.worked_portions c) ∙ sym (empty (is_told c ends || false))
      by (Some p) e =
          let o = pairs.both_open c p (sym (a.matches.partner c) ∙ e) in
          both p (goes_on_call w.worked_portions c) (goes_on_call w.worked_portions p) (is_told c ends) (is_told p ends) (live c o.0) (live p o.1)

  -- **After the round the board and the farm stand at the clock behind it.**
  pub clock_after : (b' : State) → ArePairs (open_now b) (partner_now b) →
      IfSome (first_stamp b.left) (λ s. t + n ≤ s) → b' ≡ told_after b ends →
      ((c : ℕ) → open_now b' c ≡ (open_now b c && not (is_told c ends))) →
      ((c : ℕ) → partner_now b' c ≡ partner_past ends (partner_now b) c) →
      AtClock (t + n) b' after.calls
  clock_after b' pairs clear told o p =
      clock_round t n b b' farm.calls after.calls ends a
      (each_weaker (IsRight t n b) (λ e. e.at < t + n) ends (λ e q. q.before)
      (ends_right t n b farm before w.between w.planned_portions w.filled_portions w.worked_portions ends (front t n farm after before now ends w) a)) clear told o p
      calls_left (partners_left pairs)
