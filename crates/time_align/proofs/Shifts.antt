-- For crates above: what several fields ask for together is a shift (`IsShift-latest_shift`).
-- What a field or several ask for is a shift.
use Rattle.std.proofs.Common.{◌≡◌, ap, ◌∙◌, ℕ, ◌<◌, ◌*◌, ℤ, pos, nat_le, Option, Some, None, unwrap_or, List, [], ◌∷◌, refl, arith}
use Rattle.std.specs.Prelude.{◌==◌}
use Rattle.std.proofs.lemmas.Bool.{cond_both, cond-false, leb-true, lt-leb, ne_eqb}
use Rattle.time_align.specs.Shift.{most_steps, step_octets, small_delay_field, small_delay, advance_field, advance, shift_of, asked_then, latest_ask, latest_shift, IsShift}

-- what may be asked for, with 0 for nothing
abbrev pub MayBeShift : Option ℤ → Type 0
MayBeShift asked = IsShift (unwrap_or asked (pos 0))

pub IsShift-shift_of : (field : ℕ) → MayBeShift (shift_of field)
unfolding shift_of
IsShift-shift_of field =
    cond_both (field == 0) None _ MayBeShift (λ y. omega arith) (λ n0.
    cond_both (nat_le field most_steps) (Some (pos (step_octets * field))) _ MayBeShift
    (λ y. let l = leb-true field most_steps y in omega arith) (λ n1.
    cond_both (field == small_delay_field) (Some small_delay) _ MayBeShift (λ y. omega arith) (λ n2.
    cond_both (field == advance_field) (Some advance) None MayBeShift (λ y. refl) (λ n3. omega arith))))

-- a number beyond the 6 bits of a field asks for nothing
pub asked_beyond : (field : ℕ) (before : Option ℤ) → 63 < field → asked_then field before ≡ before
unfolding shift_of
asked_beyond field before l =
    let none : shift_of field ≡ None =
    cond-false (field == 0) None _ (ne_eqb field 0 (λ e. omega arith)) ∙
    cond-false (nat_le field most_steps) (Some (pos (step_octets * field))) _ (lt-leb field most_steps (omega arith)) ∙
    cond-false (field == small_delay_field) (Some small_delay) _ (ne_eqb field small_delay_field (λ e. omega arith)) ∙
    cond-false (field == advance_field) (Some advance) None (ne_eqb field advance_field (λ e. omega arith)) in
    ap (λ (o : Option ℤ). elim o as (λ x. Option ℤ) [ None ↦ before | Some shift ↦ Some shift ]) none

-- what was asked for, or before
asked_or : (asked before : Option ℤ) → MayBeShift asked → MayBeShift before →
    MayBeShift (elim asked [ None ↦ before | Some shift ↦ Some shift ])
asked_or None before a b = b
asked_or (Some shift) before a b = a

pub IsShift-latest_shift : (fields : List (Option ℕ)) → IsShift (latest_shift fields)
IsShift-latest_shift [] = omega arith
IsShift-latest_shift (None ∷ before) = IsShift-latest_shift before
IsShift-latest_shift (Some field ∷ before) =
    asked_or (shift_of field) (latest_ask before) (IsShift-shift_of field) (IsShift-latest_shift before)
