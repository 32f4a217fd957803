-- What a round of the farm makes of each open call's portion, and of the lines.
use Rattle.std.proofs.Common.{◌≡◌, refl, sym, ap, ◌∙◌, subst, ℕ, ◌<◌, true, false, Some, List, length, arith}
use Rattle.std.specs.Prelude.{is_some, slice_index}
use Rattle.trau_io.specs.declared.ends.CallEnd.{CallEnd}
use Rattle.trau_io.specs.declared.line.Side.{Side}
use Rattle.trau_io.specs.declared.line.Side.TheVariants.{Up, Pcm, Down, Out}
use Rattle.trau_io.specs.Lines.{LineState}
use Rattle.round_lines.specs.Portions.{PortionMemory, Drains}
use Rattle.round_lines.specs.Rounds.{IsIncoming, IsOutgoing, portion_at, call_at}
use Rattle.farm_rounds.specs.Calls.{Call, call_in}
use Rattle.farm_rounds.specs.Memory.{FarmMemory}
use Rattle.farm_rounds.proofs.Places.Rising.{there}
use Rattle.farm_run.specs.Outgoing.{Settles}
use Rattle.farm_run.proofs.Lines.Sides.{not_both}
use Rattle.farm_run.proofs.Worked.Round.{WorkedRound, FilledRound, PortionFacts, worked_call, front_facts}

module _ (t n : ℕ) (farm after : FarmMemory) (before now : ℕ → Side → LineState)
    (ends : List CallEnd) (w : WorkedRound t n farm after before now ends) where
  -- the round up to its work
  pub front : FilledRound t n farm before w.between w.planned_portions w.filled_portions w.worked_portions ends
  front = record {
    live = w.live;
    number = w.number;
    portions = w.portions;
    fills = w.fills;
    filled_number = w.filled_number;
    worked_number = w.worked_number;
    worked_rising = w.worked_rising;
    places = w.places;
    told = w.told;
  }

  -- **Each open call has a portion, of which this is known.**
  pub portion_facts : (k c : ℕ) → k < length farm.live → slice_index farm.live k ≡ c →
      (x : Call) × (call_in farm.calls c ≡ Some x)
      × PortionFacts n (before c) (w.between c) (now c) c x (portion_at w.planned_portions k)
      (portion_at w.filled_portions k) (portion_at w.worked_portions k) (portion_at w.drained_portions k)
  portion_facts k c l e =
      let f = front_facts t n farm before w.between w.planned_portions w.filled_portions w.worked_portions ends front k c l e in
      let called : call_at w.worked_portions k ≡ c = worked_call _ _ _ _ _ _ _ _ f.2 in (
        f.0,
        f.1,
        record {
          front = f.2;
          drains = subst (λ d. Settles (w.between d) (now d) (portion_at w.worked_portions k) (portion_at w.drained_portions k)) called
              (w.drains k (omega (arith, w.number, w.filled_number, w.worked_number)));
        },
      )

  -- where the round's octets are written, its call's lines are given them
  pub writes_at : (k c : ℕ) → k < length farm.live → slice_index farm.live k ≡ c → w.held ≡ false →
      Drains (w.between c) (now c) (portion_at w.worked_portions k) (portion_at w.drained_portions k)
  writes_at k c l e q =
      let f = portion_facts k c l e in
      let called : call_at w.worked_portions k ≡ c = worked_call _ _ _ _ _ _ _ _ f.2.front in
      subst (λ d. Drains (w.between d) (now d) (portion_at w.worked_portions k) (portion_at w.drained_portions k)) called
      (w.writes q k (omega (arith, l, w.number, w.filled_number, w.worked_number)))

  -- the portions stand in the order of the open calls, behind the work
  pub worked_at : (k : ℕ) → k < length farm.live → call_at w.worked_portions k ≡ slice_index farm.live k
  worked_at k l = let f = portion_facts k (slice_index farm.live k) l refl in worked_call _ _ _ _ _ _ _ _ f.2.front

  -- the planned portions stand in the order of the open calls
  pub planned_at : (k : ℕ) → k < length farm.live → call_at w.planned_portions k ≡ slice_index farm.live k
  planned_at k l = let f = portion_facts k (slice_index farm.live k) l refl in ap (λ (s : PortionMemory). s.lines.call) f.2.front.made

  -- ---- the lines

  -- an incoming line isn't written, and an outgoing one isn't read
  pub down_between : (c : ℕ) → w.between c Down ≡ before c Down
  down_between c = w.filled_others c Down (λ k l e h. h)

  -- reading leaves the outgoing lines
  pub out_between : (c : ℕ) → w.between c Out ≡ before c Out
  out_between c = w.filled_others c Out (λ k l e h. h)

  -- both of them
  pub outgoing_between : (c : ℕ) (s : Side) → IsOutgoing s → w.between c s ≡ before c s
  outgoing_between c s o = w.filled_others c s (λ k l e i. not_both s i o)

  -- writing leaves the incoming lines
  pub up_after : (c : ℕ) → now c Up ≡ w.between c Up
  up_after c = w.drained_others c Up (λ k l e h. h)

  pub pcm_after : (c : ℕ) → now c Pcm ≡ w.between c Pcm
  pcm_after c = w.drained_others c Pcm (λ k l e h. h)

  -- both of them
  pub incoming_after : (c : ℕ) (s : Side) → IsIncoming s → now c s ≡ w.between c s
  incoming_after c s i = w.drained_others c s (λ k l e o. not_both s i o)

  -- **The lines of a call that isn't open stay as they were.**
  pub lines_kept : (c : ℕ) → is_some (call_in farm.calls c) ≡ false → (s : Side) → now c s ≡ before c s
  lines_kept c e s =
      w.drained_others c s (λ k l q h. none k (omega (arith, w.number, w.filled_number, w.worked_number))
      (q ∙ worked_at k (omega (arith, w.number, w.filled_number, w.worked_number))))
      ∙ w.filled_others c s (λ k l q h. none k (omega (arith, w.number)) (q ∙ planned_at k (omega (arith, w.number))))
    where
      none : (k : ℕ) → k < length farm.live → c ≡ slice_index farm.live k → ⊥
      none k l q = let a : is_some (call_in farm.calls c) ≡ true = sym (w.live c) ∙ there farm.live c k l (sym q) in cc
