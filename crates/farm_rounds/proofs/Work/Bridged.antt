-- Whether a call is bridged behind both phases of a round: a bridge that ends within the call's places is off, and any
-- other stays on.
use Rattle.std.proofs.Common.{◌≡◌, ◌≢◌, refl, sym, ap, ◌∙◌, subst, ℕ, zero, suc, ◌+◌, ◌<◌, ◌≤◌, Bool, true, false, List, arith, inl, inr}
use Rattle.std.specs.Prelude.{◌==◌, ◌&&◌, nat_le, nat_lt, if◌then◌else◌}
use Rattle.std.proofs.Math.Bool.{and-true, and-false}
use Rattle.std.proofs.lemmas.Bool.Decides.{nat_tests}
use Rattle.std.proofs.lemmas.Bool.{cases_Bool, eqb-true, eq-eqb, false≢true}
use Rattle.rx_handler.specs.Origin.{EffectiveFields}
use Rattle.call_leg.specs.Memory.{DownMemory}
use Rattle.call_leg.specs.Step.{bridge_over}
use Rattle.call_leg.proofs.HalfSteps.{down-keeps}
use Rattle.call_pair.specs.Periods.{has_period}
use Rattle.call_pair.specs.Phases.{CallMemory, down_before, call_place, after_call_places, job_at_phase_end, periods_left, turn_down, with_partner}
use Rattle.call_pair.specs.declared.call_job.Phase.TheVariants.{First, Second}

pub le_is : (a b : ℕ) → a ≤ b → nat_le a b ≡ true
le_is a b l = grind (arith, nat_tests)

pub not_le_is : (a b : ℕ) → b < a → nat_le a b ≡ false
not_le_is a b l = grind (arith, nat_tests)

lt_is : (a b : ℕ) → a < b → nat_lt a b ≡ true
lt_is a b l = grind (arith, nat_tests)

-- ---- the first phase leaves the downlink half alone

pub record SameDown (before now : CallMemory) : Type 0 where
  pub down : now.down ≡ before.down
  pub given : now.io.given ≡ before.io.given
  pub bridge_end : now.bridge_end ≡ before.bridge_end
  pub phase : now.phase ≡ before.phase

call_place_first : (j : CallMemory) → j.phase ≡ First → SameDown j (call_place j)
call_place_first j e = elim (cases_Bool (has_period j.io)) [
  | inl t ↦ simp (t, e) (record { down = refl; given = refl; bridge_end = refl; phase = sym e })
  | inr f ↦ simp f (record { down = refl; given = refl; bridge_end = refl; phase = refl })
]

call_places_first : (n : ℕ) (j : CallMemory) → j.phase ≡ First → SameDown j (after_call_places n j)
call_places_first zero j e = record { down = refl; given = refl; bridge_end = refl; phase = refl }
call_places_first (suc n) j e =
    let one = call_place_first j e in
    let rest = call_places_first n (call_place j) (one.phase ∙ e) in
    record {
      down = rest.down ∙ one.down;
      given = rest.given ∙ one.given;
      bridge_end = rest.bridge_end ∙ one.bridge_end;
      phase = rest.phase ∙ one.phase;
    }

-- ---- the second phase

abbrev on : CallMemory → Bool
on j = j.down.bridged

-- a place ends the bridge where it is the bridge's end
before_flag : (m k : ℕ) (d : DownMemory) → (down_before m k d).bridged ≡ (d.bridged && (if k == m then false else true))
before_flag m k d = by d.bridged (k == m) refl where
  by : (a b : Bool) → d.bridged ≡ a → (if a && b then bridge_over d else d).bridged ≡ (a && (if b then false else true))
  by true true e = refl
  by true false e = e
  by false true e = e
  by false false e = e

pub record IsPlaceDone (j now : CallMemory) : Type 0 where
  pub flag : on now ≡ (down_before j.bridge_end j.io.done j.down).bridged
  pub done : now.io.done ≡ j.io.done + 1
  pub given : now.io.given ≡ j.io.given
  pub bridge_end : now.bridge_end ≡ j.bridge_end
  pub phase : now.phase ≡ Second

call_place_second : (j : CallMemory) → j.phase ≡ Second → has_period j.io ≡ true →
    IsPlaceDone j (call_place j)
call_place_second j e t =
    simp (t, e) (record { flag = down-keeps (down_before j.bridge_end j.io.done j.down) _ _ _; done = refl; given = refl; bridge_end = refl; phase = refl })

-- what is off stays off
call_places_off : (n : ℕ) (j : CallMemory) → j.phase ≡ Second → on j ≡ false →
    on (after_call_places n j) ≡ false
call_places_off zero j e f = f
call_places_off (suc n) j e f = elim (cases_Bool (has_period j.io)) [
  | inl t ↦
      let one = call_place_second j e t in
      call_places_off n (call_place j) one.phase
      (one.flag ∙ before_flag j.bridge_end j.io.done j.down ∙ ap (λ (b : Bool). b && (if j.io.done == j.bridge_end then false else true)) f)
  | inr g ↦ let same : call_place j ≡ j = simp g refl in subst (λ (k : CallMemory). on (after_call_places n k) ≡ false) (sym same) (call_places_off n j e f)
]

-- what is on stays on as long as there are places before the bridge's end
call_places_flag : (n : ℕ) (j : CallMemory) → j.phase ≡ Second → j.io.done + n ≡ j.io.given →
    j.io.done ≤ j.bridge_end →
    on (after_call_places n j) ≡ (on j && nat_le j.io.given j.bridge_end)
call_places_flag zero j e all low =
    let within : nat_le j.io.given j.bridge_end ≡ true = le_is j.io.given j.bridge_end (omega (arith, all, low)) in
    sym (and-true (on j)) ∙ sym (ap (λ (b : Bool). on j && b) within)
call_places_flag (suc n) j e all low =
    let place : has_period j.io ≡ true = lt_is j.io.done j.io.given (omega (arith, all)) in
    let one = call_place_second j e place in
    elim (cases_Bool (j.io.done == j.bridge_end)) [
      | inl t ↦
          let here : j.io.done ≡ j.bridge_end = eqb-true j.io.done j.bridge_end t in
          let past : nat_le j.io.given j.bridge_end ≡ false = not_le_is j.io.given j.bridge_end (omega (arith, all, here)) in
          let off : on (call_place j) ≡ false =
          one.flag ∙ before_flag j.bridge_end j.io.done j.down ∙ ap (λ (b : Bool). on j && (if b then false else true)) t ∙ and-false (on j) in
          call_places_off n (call_place j) one.phase off ∙ sym (and-false (on j)) ∙ sym (ap (λ (b : Bool). on j && b) past)
      | inr f ↦
          let apart : j.io.done ≢ j.bridge_end = λ q. false≢true (sym f ∙ eq-eqb j.io.done j.bridge_end q) in
          let same : on (call_place j) ≡ on j =
          one.flag ∙ before_flag j.bridge_end j.io.done j.down ∙ ap (λ (b : Bool). on j && (if b then false else true)) f ∙ and-true (on j) in
          call_places_flag n (call_place j) one.phase (omega (arith, all, one.done, one.given)) (omega (arith, low, apart, one.done, one.bridge_end))
          ∙ ap (λ (b : Bool). b && nat_le (call_place j).io.given (call_place j).bridge_end) same
          ∙ ap (λ (k : ℕ). on j && nat_le k (call_place j).bridge_end) one.given ∙ ap (λ (k : ℕ). on j && nat_le j.io.given k) one.bridge_end
    ]

-- ---- both phases

-- **A call is bridged behind both phases where it was and its bridge doesn't end before its last place.**
pub flag_after : (j : CallMemory) (frames : List EffectiveFields) → j.phase ≡ First → on (job_at_phase_end (turn_down (with_partner frames (job_at_phase_end j))))
    ≡ (on j && nat_le j.io.given j.bridge_end)
flag_after j frames e =
    let told = call_places_first (periods_left j) j e in
    let k = turn_down (with_partner frames (job_at_phase_end j)) in
    let left : 0 + periods_left k ≡ k.io.given = omega arith in
    call_places_flag (periods_left k) k refl left (omega arith) ∙ ap (λ (d : DownMemory). d.bridged && nat_le k.io.given k.bridge_end) told.down
    ∙ ap (λ (n : ℕ). on j && nat_le n k.bridge_end) told.given ∙ ap (λ (n : ℕ). on j && nat_le j.io.given n) told.bridge_end
