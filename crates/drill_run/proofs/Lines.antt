-- What is known of a line of a drill: its state, that it isn't listed, and the octets that it holds.
use Rattle.std.proofs.Common.{◌≡◌, refl, sym, ap, ◌∙◌, subst, ℕ, ◌-◌, ◌*◌, ◌<◌, ◌≤◌, Bool, true, false, inl, inr, Option, Some, List, [], ◌∷◌, length, take}
use Rattle.std.proofs.Common.{arith, slice_get}
use Rattle.std.specs.Prelude.{◌==◌, unwrap_or}
use Rattle.std.specs.Io.KnownBytes.{Appends}
use Rattle.std.proofs.lemmas.Bool.{cases_Bool, eqb-true}
use Rattle.std.proofs.lemmas.List.{length-take, length-replicate}
use Rattle.call_number.specs.CallNumber.{IsCallNumber}
use Rattle.trau_io.specs.declared.line.Line.{Line}
use Rattle.trau_io.specs.declared.line.Side.{Side}
use Rattle.trau_io.specs.Indices.{index_of_line}
use Rattle.trau_io.specs.Lines.{LineState}
use Rattle.trau_io.specs.Memory.{MemoryLine, state_of, states_of, known_line}
use Rattle.trau_orders.specs.Lists.{AreOrders}
use Rattle.run_spec.specs.Run.{Run, start_in, end_in, periods_in, who_in}
use Rattle.run_spec.specs.Lines.{out_of_call, down_of_call}
use Rattle.run_spec.proofs.Periods.SoFar.{so_far_at_first}
use Rattle.call_leg.proofs.LineLaws.{length-out_line}
use Rattle.run_spec.proofs.Parts.LongerLines.{length-down_octets, length-periods_to}
use Rattle.farm_run.specs.Runs.{HasWritten, is_listed}
use Rattle.farm_run.proofs.Listed.Tests.{listed_head, one_line, or_cases}
use Rattle.farm_run.proofs.Clocks.Reach.{end_within_run}
use Rattle.drill_run.specs.Rooms.{DrillMemory, known_lines, number_told}

-- ---- what is known of a line

-- the lines of a call's number are those of the memory
known-call : (d : DrillMemory) (c : ℕ) (s : Side) → 1 ≤ c → known_lines d c s ≡ states_of d.lines c s
known-call d c s first = elim (cases_Bool (c == 0)) [
  | inl e ↦ let none : c ≡ 0 = eqb-true c 0 e in absurd (omega (arith, first, none))
  | inr e ↦ rw e refl
]

-- the state of a line is that of the one at its index
pub known-line : (d : DrillMemory) (c : ℕ) (s : Side) (l : MemoryLine) → 1 ≤ c → slice_get d.lines (index_of_line c s) ≡ Some l →
    known_lines d c s ≡ state_of l
known-line d c s l first found = known-call d c s first ∙ ap known_line found

-- numbers that are told alike are one
pub told-same : (m n : ℕ) → number_told m ≡ number_told n → m ≡ n
told-same m n e =
    sym (length-replicate m 0) ∙ ap (λ (l : LineState). length (unwrap_or l.to_come [])) e ∙ length-replicate n 0

-- ---- lines that are listed

-- a line that is listed is of a call's number
pub numbered : (lines : List Line) (c : ℕ) (s : Side) → is_listed lines c s ≡ true → IsCallNumber c
numbered [] c s e = cc
numbered (l ∷ lines) c s e = elim (or_cases (index_of_line l.call l.side == index_of_line c s) (is_listed lines c s) e) [
  | inl q ↦ subst IsCallNumber ((one_line c l.call s l.side (eqb-true (index_of_line l.call l.side) (index_of_line c s) q)).0) l.number
  | inr q ↦ numbered lines c s q
]

pub none_listed : (lines : List Line) → ((c : ℕ) (s : Side) → is_listed lines c s ≡ true → ⊥) → lines ≡ []
none_listed [] none = refl
none_listed (l ∷ lines) none = absurd (none l.call l.side (listed_head l lines))

-- ---- octets that are written

-- a line that was empty holds what it gained
gained : (before now : Option (List ℕ)) (octets : List ℕ) → before ≡ Some [] → (ys : List ℕ) → now ≡ Some ys → Appends before now octets → ys ≡ octets
gained before now octets was ys is a =
    subst (λ (o : Option (List ℕ)). Appends (Some []) o octets) is (subst (λ (o : Option (List ℕ)). Appends o now octets) was a)

-- a line that failed holds a proper front
pub short_of : (b : Bool) (before now : LineState) (octets ys : List ℕ) → b ≡ true → before.written ≡ Some [] → now.written ≡ Some ys →
    HasWritten b before now octets → length ys < length octets
short_of true before now octets ys e was is w =
    let same = gained before.written now.written (take w.0 octets) was ys is w.2 in
    omega (arith, ap {B = ℕ} (λ (xs : List ℕ). length xs) same, length-take w.0 octets, w.1)
short_of false before now octets ys e was is w = cc

-- a run gives a call no more octets than its periods have
pub whole_out : (r : Run) (c : ℕ) → AreOrders r.orders → length (out_of_call r c) ≤ 160 * r.periods
whole_out r c are =
    let last : end_in r c ≤ r.periods = end_within_run r 0 [] r.orders c (so_far_at_first r are) in
    omega (arith, length-out_line (who_in r c) (periods_in r c), length-periods_to r c (end_in r c - start_in r c), last)

pub whole_down : (r : Run) (c : ℕ) → AreOrders r.orders → length (down_of_call r c) ≤ 40 * r.periods
whole_down r c are =
    let last : end_in r c ≤ r.periods = end_within_run r 0 [] r.orders c (so_far_at_first r are) in
    omega (arith, length-down_octets (who_in r c) (periods_in r c), length-periods_to r c (end_in r c - start_in r c), last)
