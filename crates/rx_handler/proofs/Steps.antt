-- For crates above: one more period of a history is one step of the table of states (`received_more`).
use Rattle.std.proofs.Common.{◌≡◌, refl, ap, ◌∙◌, sym, ℕ, ◌+◌, ◌≤◌, min, suc, Bool, true, false, if◌then◌else◌, List, [], ◌∷◌, length, ◌⊎◌, inl, inr, arith}
use Rattle.std.specs.Prelude.{◌==◌}
use Rattle.std.proofs.lemmas.Grind.{common_steps}
use Rattle.std.proofs.Math.Path.{fun_ext}
use Rattle.trau_params.specs.Fields.{Fields}
use Rattle.rx_subst.specs.Lost.{silent_from_lost}
use Rattle.rx_noise.specs.Mix.{approach_steps, mix_of}
use Rattle.rx_noise.specs.Noise.{silent_from_fall}
use Rattle.rx_noise.proofs.Mixing.{mix_of-one}
use Rattle.rx_muting.specs.Draws.{state_after, draw_of, draws_from}
use Rattle.rx_muting.proofs.Numbered.{draw_of-state_after, state_after-state_after}
use Rattle.rx_handler.specs.Profile.{fall_from_missed}
use Rattle.rx_handler.specs.Heard.{Heard, Good, Sid, Idle, Lost}
use Rattle.rx_handler.specs.Origin.{Origin, NoiseFrame, frame_of, draws_of, EffectiveFields}
use Rattle.rx_handler.specs.Past.{Anchor, NoAnchor, AtGood, AtSid, anchor_of, anchor_after, missed_in, periods_of_fall, approached_of, start_from, approach_start_of, origin_from}
use Rattle.rx_handler.specs.Past.{origin_of, draw_count, effective_of}
use Rattle.rx_handler.specs.Memory.{RxState, Speech, Noise, RxMemory}
use Rattle.rx_handler.specs.Step.{missed_after, fall_after, state_after_loss, state_after_sid, next_state, origin_by, received}
use Rattle.rx_handler.specs.Stands.{first_step, step_of, state_from, state_after_past, Stands}
use Rattle.rx_handler.proofs.Missed.{begun_same}

-- the counts of the table after one more lost period
missed_more : (missed : Bool) (since : List Heard) →
    min (missed_in (Lost missed ∷ since)) fall_from_missed ≡ missed_after (min (missed_in since) fall_from_missed) missed
missed_more true since = let e : missed_in (Lost true ∷ since) ≡ suc (missed_in since) = refl in omega arith
missed_more false since = let e : missed_in (Lost false ∷ since) ≡ missed_in since = refl in omega arith

fall_more : (missed : Bool) (since : List Heard) →
    min (periods_of_fall (Lost missed ∷ since)) silent_from_fall ≡
    fall_after (min (missed_in (Lost missed ∷ since)) fall_from_missed) (min (periods_of_fall since) silent_from_fall)
unfolding periods_of_fall
fall_more missed since = grind (arith, common_steps)

-- the state after it
loss_more : (missed : Bool) (old : Fields → Fields) (step : ℕ) (a : Anchor) →
    state_from old (min (step + 1) approach_steps) (anchor_after (Lost missed) a) ≡ state_after_loss (state_from old step a) missed
loss_more missed old step NoAnchor = refl
loss_more missed old step (AtGood p since) =
    ap (Speech p) (let e : min (suc (length since)) silent_from_lost ≡ min (min (length since) silent_from_lost + 1) silent_from_lost =
    omega arith in e)
loss_more missed old step (AtSid q since) =
    let count = missed_more missed since in
    let fall = fall_more missed since in
    ap (λ k. Noise (old q) q (min (step + 1) approach_steps) k (min (periods_of_fall (Lost missed ∷ since)) silent_from_fall)) count ∙
    ap (λ f. Noise (old q) q (min (step + 1) approach_steps) (missed_after (min (missed_in since) fall_from_missed) missed) f)
    (fall ∙ ap (λ k. fall_after k (min (periods_of_fall since) silent_from_fall)) count)

-- ---- the step of the table

-- the step is the one by numbers, or the descriptor is approached from itself
abbrev Near : (Fields → Fields) → ℕ → Anchor → Type 0
Near old step NoAnchor = Unit {0}
Near old step (AtGood p since) = Unit {0}
Near old step (AtSid q since) = (step ≡ min (length since + 1) approach_steps) ⊎ ((old q ≡ q) × (step ≤ approach_steps))

-- a state's step and where the noise stands go together
near_first : (q : Fields) (a : Anchor) (old : Fields → Fields) → Near (start_from a old) (first_step a) (AtSid q [])
near_first q NoAnchor old = inr (refl, omega arith)
near_first q (AtGood p since) old = inr (refl, omega arith)
near_first q (AtSid r since) old = inl refl

near_more : (missed : Bool) (old : Fields → Fields) (step : ℕ) (a : Anchor) → Near old step a →
    Near old (min (step + 1) approach_steps) (anchor_after (Lost missed) a)
near_more missed old step NoAnchor n = tt
near_more missed old step (AtGood p since) n = tt
near_more missed old step (AtSid q since) n = elim n [
  | inl e ↦ inl (let f : min (step + 1) approach_steps ≡ min (suc (length since) + 1) approach_steps = omega arith in f)
  | inr s ↦ inr (s.0, omega arith)
]

near : (past : List Heard) → Near (λ q. approach_start_of past q) (step_of past) (anchor_of past)
unfolding anchor_of approach_start_of step_of
near [] = tt
near (Good p ∷ past) = tt
near (Sid q ∷ past) = near_first q (anchor_of past) (λ r. approach_start_of past r)
near (Idle ∷ past) = tt
near (Lost missed ∷ past) = near_more missed (λ q. approach_start_of past q) (step_of past) (anchor_of past) (near past)

-- so the noise stands where it does by numbers
moved_same : (old q : Fields) (step : ℕ) (since : List Heard) →
    (step ≡ min (length since + 1) approach_steps) ⊎ ((old ≡ q) × (step ≤ approach_steps)) →
    mix_of old q step ≡ approached_of old q since
moved_same old q step since n = elim n [
  | inl e ↦ ap (mix_of old q) e
  | inr s ↦
      let e = s.0 in
      rw e (mix_of-one q step s.1 ∙ sym (mix_of-one q (min (length since + 1) approach_steps) (omega arith)))
]

-- ---- one period more

-- the state after a descriptor
sid_more : (q : Fields) (a : Anchor) (old : Fields → Fields) (step : ℕ) → Near old step a →
    Noise (start_from a old q) q (first_step a) 0 0 ≡ state_after_sid (state_from old step a) q
sid_more q NoAnchor old step n = refl
sid_more q (AtGood p since) old step n = refl
sid_more q (AtSid r since) old step n =
    ap (λ base. Noise (if periods_of_fall since == 0 then base else q) q 1 0 0) (sym (moved_same (old r) r step since n)) ∙
    ap (λ b. Noise (if b then mix_of (old r) r step else q) q 1 0 0) (sym (begun_same (periods_of_fall since)))

-- after any period
pub state-more : (y : Heard) (past : List Heard) → state_after_past (y ∷ past) ≡ next_state (state_after_past past) y
unfolding anchor_of periods_of_fall approach_start_of step_of
state-more (Good p) past = refl
state-more (Sid q) past = sid_more q (anchor_of past) (λ r. approach_start_of past r) (step_of past) (near past)
state-more Idle past = refl
state-more (Lost missed) past = loss_more missed (λ q. approach_start_of past q) (step_of past) (anchor_of past)

-- the frame of a period is made from the same by its anchor and by the state after it
origin_same : (old : Fields → Fields) (step : ℕ) (a : Anchor) → Near old step a → origin_by (state_from old step a) ≡ origin_from old a
origin_same old step NoAnchor n = refl
origin_same old step (AtGood p []) n = refl
origin_same old step (AtGood p (y ∷ since)) n = let e : (min (suc (length since)) silent_from_lost == 0) ≡ false = grind arith in rw e
origin_same old step (AtSid q since) n =
    ap (λ base. NoiseFrame base (min (periods_of_fall since) silent_from_fall)) (moved_same (old q) q step since n)

-- the frames of a source that has come this far are those by the numbers of all draws
from_here : (origin : Origin) (call first : ℕ) → frame_of origin (draw_of (state_after call first)) ≡ frame_of origin (draws_from call first)
from_here origin call first = ap (frame_of origin) (fun_ext (λ k. fun_ext (λ m. draw_of-state_after call first k m)))

-- one step after any past
pub received_more : (call : ℕ) (past : List Heard) (memory : RxMemory) (y : Heard) (answer : EffectiveFields) (after : RxMemory) →
    received memory y ≡ (answer, after) → Stands call past memory → Stands call (y ∷ past) after × (answer ≡ effective_of call (y ∷ past))
unfolding received draw_count effective_of
received_more call past memory y answer after step stands =
    let origin : Origin = origin_of (y ∷ past) in
    let state : next_state memory.state y ≡ state_after_past (y ∷ past) = ap (λ s. next_state s y) stands.state ∙ sym (state-more y past) in
    let same : origin_by (next_state memory.state y) ≡ origin = ap origin_by state ∙
    origin_same (λ q. approach_start_of (y ∷ past) q) (step_of (y ∷ past)) (anchor_of (y ∷ past)) (near (y ∷ past)) in
    let source : memory.source ≡ state_after call (draw_count past) = stands.source in
    let frame : frame_of (origin_by (next_state memory.state y)) (draw_of memory.source) ≡ frame_of origin (draws_from call (draw_count past)) =
    ap (λ o. frame_of o (draw_of memory.source)) same ∙ ap (λ r. frame_of origin (draw_of r)) source ∙ from_here origin call (draw_count past) in
    let drawn_on : state_after memory.source (draws_of (origin_by (next_state memory.state y))) ≡
    state_after call (draw_count past + draws_of origin) =
    ap (λ o. state_after memory.source (draws_of o)) same ∙ ap (λ r. state_after r (draws_of origin)) source ∙
    state_after-state_after call (draw_count past) (draws_of origin) in
    (record { state = ap (λ m. m.1.state) (sym step) ∙ state; source = ap (λ m. m.1.source) (sym step) ∙ drawn_on }, ap (λ m. m.0) (sym step) ∙ frame)

-- a step of the table by its parts
pub received_by : (memory : RxMemory) (y : Heard) (state : RxState) (answer : EffectiveFields) (source : ℕ) →
    state ≡ next_state memory.state y → answer ≡ frame_of (origin_by state) (draw_of memory.source) →
    source ≡ state_after memory.source (draws_of (origin_by state)) → received memory y ≡ (answer, record { state = state; source = source })
unfolding received
received_by memory y state answer source s a d = rw (a, d, s)
