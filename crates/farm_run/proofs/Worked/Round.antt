-- A round of the farm by what its parts tell: its portions as they were planned, filled, worked and drained.
use Rattle.std.proofs.Common.{◌≡◌, refl, sym, ap, ◌∙◌, subst, ℕ, suc, ◌*◌, ◌<◌, Bool, true, false, ◌&&◌, Option, Some, None, List, [], ◌∷◌, length, arith}
use Rattle.std.specs.Prelude.{◌==◌, ◌||◌, if◌then◌else◌, is_some, slice_index}
use Rattle.std.specs.List.{filter_map}
use Rattle.std.proofs.lemmas.Bool.{eqb-true}
use Rattle.std.proofs.lemmas.List.{length-replicate}
use Rattle.trau_io.specs.declared.ends.CallEnd.{CallEnd}
use Rattle.trau_io.specs.declared.line.Side.{Side}
use Rattle.trau_io.specs.Lines.{LineState}
use Rattle.round_lines.specs.Transfer.{fails_now}
use Rattle.round_lines.specs.Memory as round_lines
use Rattle.round_lines.specs.Memory.{LinesMemory, IsFresh, TellsFaults, outlet_before, fails_in}
use Rattle.round_lines.specs.Portions.{PortionMemory, Fills, Drains, new_portion}
use Rattle.round_lines.specs.Rounds.{Each, KeepsButEach, IsIncoming, IsOutgoing, Rising, portion_at, call_at, portion_end}
use Rattle.farm_rounds.specs.Calls.{Call, call_in, partner_in}
use Rattle.farm_rounds.specs.Numbers.{is_among}
use Rattle.farm_rounds.specs.Memory.{FarmMemory, tally_in}
use Rattle.farm_rounds.specs.Failed.{AreFailed}
use Rattle.farm_rounds.specs.Histories.{CallHistory, CallsStand, kept_of}
use Rattle.farm_rounds.specs.Working.{GainsFailed, goes_on_call, partner_past}
use Rattle.farm_rounds.specs.RoundHistories.{portion_for, worked_histories, AreWorked, those_that}
use Rattle.farm_rounds.proofs.Places.Rising.{there}
use Rattle.run_spec.specs.Run.{Run}
use Rattle.farm_run.specs.Outgoing.{Settles}
use Rattle.farm_run.specs.Standing.{Standing, StandingGoesOn, HasFlags}

-- what a round of n periods from t on did to the farm and the lines, and the ends that it told
pub record WorkedRound (t n : ℕ) (farm after : FarmMemory) (before now : ℕ → Side → LineState) (ends : List CallEnd) : Type 0 where
  pub planned_portions : List PortionMemory
  pub filled_portions : List PortionMemory
  pub worked_portions : List PortionMemory
  pub drained_portions : List PortionMemory
  pub between : ℕ → Side → LineState
  pub live : (c : ℕ) → is_among farm.live c ≡ is_some (call_in farm.calls c)
  pub number : length planned_portions ≡ length farm.live
  pub portions : (k : ℕ) → k < length farm.live →
      portion_at planned_portions k ≡ portion_for n (slice_index farm.live k)
      (call_in farm.calls (slice_index farm.live k))
  pub fills : Each Fills before between planned_portions filled_portions (length planned_portions)
  pub filled_others : KeepsButEach IsIncoming before between planned_portions (length planned_portions)
  pub filled_number : length filled_portions ≡ length planned_portions
  pub rising : Rising filled_portions
  pub worked_number : length worked_portions ≡ length filled_portions
  pub worked_rising : Rising worked_portions
  pub places : (k : ℕ) → k < length filled_portions → (portion_at worked_portions k).lines ≡ (portion_at filled_portions k).lines
  pub told : ends ≡ filter_map (portion_end t) worked_portions
  pub drains : Each Settles between now worked_portions drained_portions (length worked_portions)
  pub held : Bool
  pub writes : held ≡ false → Each Drains between now worked_portions drained_portions (length worked_portions)
  pub back : held ≡ true → (now ≡ between) × (drained_portions ≡ worked_portions)
  pub drained_others : KeepsButEach IsOutgoing between now worked_portions (length worked_portions)
  pub drained_number : length drained_portions ≡ length worked_portions
  pub known : AreFailed farm.failed farm.calls
  pub gains : GainsFailed farm.failed after.failed drained_portions
  pub is_open : (c : ℕ) → is_some (call_in after.calls c) ≡ (is_among farm.live c && goes_on_call worked_portions c)
  pub partners : (c : ℕ) → partner_in after.calls c ≡ partner_past (goes_on_call worked_portions) (partner_in farm.calls) c
  pub octets : (h : ℕ → Option CallHistory) → CallsStand h farm.calls →
      AreWorked filled_portions (worked_histories filled_portions (partner_in farm.calls) h) worked_portions
  pub stands : (h : ℕ → Option CallHistory) → CallsStand h farm.calls →
      CallsStand (those_that (goes_on_call worked_portions) (worked_histories filled_portions (partner_in farm.calls) h)) after.calls
  pub tallies : (h : ℕ → Option CallHistory) → CallsStand h farm.calls → (c : ℕ) →
      tally_in after.tallies c ≡ (if goes_on_call worked_portions c then tally_in farm.tallies c
      else kept_of (worked_histories filled_portions (partner_in farm.calls) h c)
      (tally_in farm.tallies c))

-- How a round of n periods agrees with the run: `behind` is the state of the run after the round, `last` at its end.
pub record MeetsRun (r : Run) (n : ℕ) (portions : List PortionMemory) (behind last : Standing) : Type 0 where
  pub on : StandingGoesOn behind last
  pub flags : HasFlags r last
  -- of the incoming lines of the round's calls, exactly those that failed in it are listed after it
  pub listed : (k : ℕ) (s : Side) → k < length portions → IsIncoming s →
      behind.listed (call_at portions k) s ≡ fails_in (portion_at portions k).lines s
  -- a call whose lines lack one of the periods has ended after it
  pub over : (k : ℕ) → k < length portions → round_lines.whole_in (portion_at portions k).lines < n →
      behind.over (call_at portions k) ≡ true

-- what a round did up to its work, and the ends that it told
pub record FilledRound (t n : ℕ) (farm : FarmMemory) (before between : ℕ → Side → LineState) (planned filled worked : List PortionMemory)
    (ends : List CallEnd) : Type 0 where
  pub live : (c : ℕ) → is_among farm.live c ≡ is_some (call_in farm.calls c)
  pub number : length planned ≡ length farm.live
  pub portions : (k : ℕ) → k < length farm.live →
      portion_at planned k ≡ portion_for n (slice_index farm.live k)
      (call_in farm.calls (slice_index farm.live k))
  pub fills : Each Fills before between planned filled (length planned)
  pub filled_number : length filled ≡ length planned
  pub worked_number : length worked ≡ length filled
  pub worked_rising : Rising worked
  pub places : (k : ℕ) → k < length filled → (portion_at worked k).lines ≡ (portion_at filled k).lines
  pub told : ends ≡ filter_map (portion_end t) worked

-- ---- the portions

-- the place of a number that is among others
pub among_place : (xs : List ℕ) (c : ℕ) → is_among xs c ≡ true → (k : ℕ) × (k < length xs) × (slice_index xs k ≡ c)
among_place [] c e = cc
among_place (x ∷ xs) c e = by (x == c) refl e (among_place xs c)
  where
    by : (b : Bool) → (x == c) ≡ b → (b || is_among xs c) ≡ true →
        (is_among xs c ≡ true → (k : ℕ) × (k < length xs) × (slice_index xs k ≡ c)) →
        (k : ℕ) × (k < length (x ∷ xs)) × (slice_index (x ∷ xs) k ≡ c)
    by true q h rest = (0, omega arith, eqb-true x c q)
    by false q h rest = let p = rest h in (suc p.0, (let l = p.1 in omega arith), p.2)

-- the portion of a call in a round, up to its work
pub record FrontFacts (n : ℕ) (before between : Side → LineState) (c : ℕ) (call : Call) (planned filled worked : PortionMemory) : Type 0 where
  pub made : planned ≡ new_portion c n call.down_failed call.out_failed
  pub fills : Fills before between planned filled
  pub lines : worked.lines ≡ filled.lines

module _ (n : ℕ) (before between : Side → LineState) (c : ℕ) (call : Call) (planned filled worked : PortionMemory)
    (f : FrontFacts n before between c call planned filled worked) where
  -- reading changes the marks of the incoming lines alone
  kept_place : filled.lines ≡ record planned.lines { up = filled.lines.up; pcm = filled.lines.pcm }
  kept_place = ap (λ (s : PortionMemory). s.lines) f.fills.kept

  -- the portion is this call's, before the work
  pub filled_call : filled.lines.call ≡ c
  filled_call = ap (λ (p : LinesMemory). p.call) kept_place ∙ ap (λ (s : PortionMemory). s.lines.call) f.made

  -- the portion is this call's after the work
  pub worked_call : worked.lines.call ≡ c
  worked_call = ap (λ (p : LinesMemory). p.call) f.lines ∙ filled_call

  -- it is for so many periods
  pub filled_periods : filled.lines.periods ≡ n
  filled_periods = ap (λ (p : LinesMemory). p.periods) kept_place ∙ ap (λ (s : PortionMemory). s.lines.periods) f.made

  -- its buffers have the octets of so many
  pub up_long : length filled.up ≡ 40 * n
  up_long = f.fills.up_length ∙ ap (λ (s : PortionMemory). length s.up) f.made ∙ length-replicate (40 * n) 0

  pub pcm_long : length filled.pcm ≡ 160 * n
  pcm_long = f.fills.pcm_length ∙ ap (λ (s : PortionMemory). length s.pcm) f.made ∙ length-replicate (160 * n) 0

  -- its outgoing lines stand as the call had them
  pub worked_down : worked.lines.down ≡ outlet_before call.down_failed
  worked_down = ap (λ (p : LinesMemory). p.down) (f.lines ∙ kept_place) ∙ ap (λ (s : PortionMemory). s.lines.down) f.made

  pub worked_out : worked.lines.out ≡ outlet_before call.out_failed
  worked_out = ap (λ (p : LinesMemory). p.out) (f.lines ∙ kept_place) ∙ ap (λ (s : PortionMemory). s.lines.out) f.made

-- the portion of a call in a round, up to the round's end
pub record PortionFacts (n : ℕ) (before between now : Side → LineState) (c : ℕ) (call : Call)
    (planned filled worked drained : PortionMemory) : Type 0 where
  pub front : FrontFacts n before between c call planned filled worked
  pub drains : Settles between now worked drained

module _ (n : ℕ) (before between now : Side → LineState) (c : ℕ) (call : Call) (planned filled worked drained : PortionMemory)
    (f : PortionFacts n before between now c call planned filled worked drained) where
  -- the portion is this call's behind the writing too
  pub drained_call : drained.lines.call ≡ c
  drained_call = ap (λ (s : PortionMemory). s.lines.call) f.drains.kept ∙ worked_call n before between c call planned filled worked f.front

  -- a line that stands as it did before the round hasn't failed in it
  not_yet : (b : Bool) → fails_now (outlet_before b) ≡ false
  not_yet true = refl
  not_yet false = refl

  -- no line of a planned portion has failed in the round
  fresh : IsFresh planned.lines
  fresh = (
    ap (λ (s : PortionMemory). fails_now s.lines.down) f.front.made ∙ not_yet call.down_failed,
    ap (λ (s : PortionMemory). fails_now s.lines.out) f.front.made
        ∙ not_yet call.out_failed,
  )

  -- **At the round's end its marks tell which of its lines' counts rose.**
  pub tells_portion : TellsFaults before now drained.lines
  tells_portion = f.drains.faults before (subst (TellsFaults before between) (sym f.front.lines) (f.front.fills.faults fresh))

module _ (t n : ℕ) (farm : FarmMemory) (before between : ℕ → Side → LineState)
    (planned filled worked : List PortionMemory) (ends : List CallEnd)
    (w : FilledRound t n farm before between planned filled worked ends) where
  -- **Each open call has its portion.**
  pub front_facts : (k c : ℕ) → k < length farm.live → slice_index farm.live k ≡ c →
      (x : Call) × (call_in farm.calls c ≡ Some x)
      × FrontFacts n (before c) (between c) c x (portion_at planned k) (portion_at filled k)
      (portion_at worked k)
  front_facts k c l e = by (call_in farm.calls c) refl (sym (w.live c) ∙ there farm.live c k l e)
    where
      by : (o : Option Call) → call_in farm.calls c ≡ o → is_some o ≡ true →
          (x : Call) × (call_in farm.calls c ≡ Some x)
          × FrontFacts n (before c) (between c) c x (portion_at planned k) (portion_at filled k)
          (portion_at worked k)
      by None q h = cc
      by (Some x) q h =
          let made : portion_at planned k ≡ new_portion c n x.down_failed x.out_failed = w.portions k l ∙ ap (λ d. portion_for n d (call_in farm.calls d)) e
          ∙ ap (portion_for n c) q in
          let called : call_at planned k ≡ c = ap (λ (s : PortionMemory). s.lines.call) made in (
            x,
            q,
            record {
              made = made;
              fills = subst (λ d. Fills (before d) (between d) (portion_at planned k) (portion_at filled k)) called (w.fills k (omega (arith, w.number)));
              lines = w.places k (omega (arith, w.number, w.filled_number));
            },
          )
