-- For crates above: a drilled call has its lines (`drilled-of_call`), and what a table of lines has where one was set
-- (`get-same`, `get-other`).
-- The lines of a drill, as those of one call after the other are set.
use Rattle.std.proofs.Common.{◌≡◌, ◌≢◌, ℕ, zero, suc, ◌-◌, ◌<◌, ◌≤◌, Bool, true, false, ◌&&◌, inl, inr, List, [], length, Some, slice_get, slice_set, refl, sym}
use Rattle.std.proofs.Common.{ap, ◌∙◌, subst, arith}
use Rattle.std.specs.Prelude.{All, nat_le}
use Rattle.std.proofs.lemmas.Bool.{le-leb, lt-leb, cases_eq, cases_lt}
use Rattle.std.proofs.lemmas.List.{length-set, get_or-set_same, get_or-set_other}
use Rattle.std.proofs.lemmas.Option.{slice_get-get_or}
use Rattle.call_number.specs.declared.TheConstants.{NUMBERS}
use Rattle.trau_io.specs.declared.line.Side.{Side}
use Rattle.trau_io.specs.declared.line.Side.TheVariants.{Up, Pcm, Down, Out}
use Rattle.trau_io.specs.Indices.{index_of_line}
use Rattle.trau_io.specs.Memory.{MemoryLine, new_line}
use Rattle.trau_io.proofs.Tables.{number_of_side-below}
use Rattle.farm_drill.specs.Lines.{line_of_call, drilled_line, AreDrilled}

-- ---- places

within : (call : ℕ) (s : Side) → call < NUMBERS → index_of_line call s < 16388
within call s h = omega (arith, h, number_of_side-below s)

other_call : (c call : ℕ) (s side : Side) → c ≢ call → index_of_line c s ≢ index_of_line call side
other_call c call s side other = λ same. other (omega (arith, same, number_of_side-below s, number_of_side-below side))

pub get-same : (xs : List MemoryLine) (i : ℕ) (x : MemoryLine) → i < length xs → slice_get (slice_set xs i x) i ≡ Some x
get-same xs i x h = slice_get-get_or (slice_set xs i x) i x (omega (arith, h, length-set xs i x)) ∙ ap Some (get_or-set_same xs i x x h)

pub get-other : (xs : List MemoryLine) (i j : ℕ) (x : MemoryLine) → j < length xs → j ≢ i → slice_get (slice_set xs i x) j ≡ slice_get xs j
get-other xs i j x h ne =
    slice_get-get_or (slice_set xs i x) j x (omega (arith, h, length-set xs i x)) ∙ ap Some (get_or-set_other xs i j x x ne) ∙ sym (slice_get-get_or xs j x h)

-- ---- which calls have lines

both_false : (a b : Bool) → b ≡ false → (a && b) ≡ false
both_false true b e = e
both_false false b e = refl

pub drilled-of_call : (seed calls periods call : ℕ) (s : Side) → 1 ≤ call → call ≤ calls → drilled_line seed calls periods call s ≡ line_of_call seed call periods s
drilled-of_call seed calls periods call s low high =
    let least : nat_le 1 call ≡ true = le-leb 1 call low in
    let most : nat_le call calls ≡ true = le-leb call calls high in
    rw (least, most) refl

drilled-past : (seed calls periods call : ℕ) (s : Side) → calls < call → drilled_line seed calls periods call s ≡ new_line [] [] [] 0
drilled-past seed calls periods call s past =
    let most : (nat_le 1 call && nat_le call calls) ≡ false = both_false (nat_le 1 call) (nat_le call calls) (lt-leb call calls past) in
    rw most refl

drilled-zero : (seed calls periods : ℕ) (s : Side) → drilled_line seed calls periods 0 s ≡ new_line [] [] [] 0
drilled-zero seed calls periods s = refl

drilled-none : (seed periods call : ℕ) (s : Side) → drilled_line seed 0 periods call s ≡ new_line [] [] [] 0
drilled-none seed periods zero s = drilled-zero seed 0 periods s
drilled-none seed periods (suc call) s = drilled-past seed 0 periods (suc call) s (omega arith)

drilled-same : (seed call periods c : ℕ) (s : Side) → c ≢ call → 1 ≤ call → drilled_line seed (call - 1) periods c s ≡ drilled_line seed call periods c s
drilled-same seed call periods zero s other low = drilled-zero seed (call - 1) periods s ∙ sym (drilled-zero seed call periods s)
drilled-same seed call periods (suc c) s other low = elim (cases_lt (suc c) call) [
  | inl before ↦ drilled-of_call seed (call - 1) periods (suc c) s (omega arith) (omega arith)
      ∙ sym (drilled-of_call seed call periods (suc c) s (omega arith) (omega arith))
  | inr after ↦
      let past : call < suc c = omega (arith, after, other) in
      drilled-past seed (call - 1) periods (suc c) s (omega (arith, past)) ∙ sym (drilled-past seed call periods (suc c) s past)
]

-- ---- the table

pub none_set : (seed periods : ℕ) (lines : List MemoryLine) → length lines ≡ 16388 → All (λ (l : MemoryLine). l ≡ new_line [] [] [] 0) lines →
    AreDrilled seed 0 periods lines
none_set seed periods lines long all = record {
  count = long;
  each = λ call s h.
      let inside : index_of_line call s < length lines = omega (arith, long, within call s h) in
      slice_get-get_or lines (index_of_line call s) (new_line [] [] [] 0) inside
      ∙ ap Some (all (index_of_line call s) (new_line [] [] [] 0) inside ∙ sym (drilled-none seed periods call s));
}

-- the lines of a call set one after the other
pub record AreSet (seed call periods : ℕ) (before now : List MemoryLine) : Type 0 where
  pub up : List MemoryLine
  pub pcm : List MemoryLine
  pub down : List MemoryLine
  pub set_up : up ≡ slice_set before (index_of_line call Up) (line_of_call seed call periods Up)
  pub set_pcm : pcm ≡ slice_set up (index_of_line call Pcm) (line_of_call seed call periods Pcm)
  pub set_down : down ≡ slice_set pcm (index_of_line call Down) (line_of_call seed call periods Down)
  pub set_out : now ≡ slice_set down (index_of_line call Out) (line_of_call seed call periods Out)

module _ (seed call periods : ℕ) (before : List MemoryLine) (low : 1 ≤ call) (high : call ≤ 256) (are : AreDrilled seed (call - 1) periods before) where
  at : Side → MemoryLine
  at s = line_of_call seed call periods s

  with_up : List MemoryLine
  with_up = slice_set before (index_of_line call Up) (at Up)

  with_pcm : List MemoryLine
  with_pcm = slice_set with_up (index_of_line call Pcm) (at Pcm)

  with_down : List MemoryLine
  with_down = slice_set with_pcm (index_of_line call Down) (at Down)

  with_out : List MemoryLine
  with_out = slice_set with_down (index_of_line call Out) (at Out)

  long_up : length with_up ≡ 16388
  unfolding with_up
  long_up = length-set before (index_of_line call Up) (at Up) ∙ are.count

  long_pcm : length with_pcm ≡ 16388
  unfolding with_pcm
  long_pcm = length-set with_up (index_of_line call Pcm) (at Pcm) ∙ long_up

  long_down : length with_down ≡ 16388
  unfolding with_down
  long_down = length-set with_pcm (index_of_line call Down) (at Down) ∙ long_pcm

  long_out : length with_out ≡ 16388
  unfolding with_out
  long_out = length-set with_down (index_of_line call Out) (at Out) ∙ long_down

  past_up : (p : ℕ) → p < 16388 → p ≢ index_of_line call Up → slice_get with_up p ≡ slice_get before p
  unfolding with_up
  past_up p h ne = get-other before (index_of_line call Up) p (at Up) (omega (arith, h, are.count)) ne

  past_pcm : (p : ℕ) → p < 16388 → p ≢ index_of_line call Pcm → slice_get with_pcm p ≡ slice_get with_up p
  unfolding with_pcm
  past_pcm p h ne = get-other with_up (index_of_line call Pcm) p (at Pcm) (omega (arith, h, long_up)) ne

  past_down : (p : ℕ) → p < 16388 → p ≢ index_of_line call Down → slice_get with_down p ≡ slice_get with_pcm p
  unfolding with_down
  past_down p h ne = get-other with_pcm (index_of_line call Down) p (at Down) (omega (arith, h, long_pcm)) ne

  past_out : (p : ℕ) → p < 16388 → p ≢ index_of_line call Out → slice_get with_out p ≡ slice_get with_down p
  unfolding with_out
  past_out p h ne = get-other with_down (index_of_line call Out) p (at Out) (omega (arith, h, long_down)) ne

  here : (s : Side) → slice_get with_out (index_of_line call s) ≡ Some (at s)
  unfolding with_up with_pcm with_down with_out
  here Up =
      past_out (index_of_line call Up) (omega (arith, high)) (λ e. absurd (omega (arith, e)))
      ∙ past_down (index_of_line call Up) (omega (arith, high)) (λ e. absurd (omega (arith, e)))
      ∙ past_pcm (index_of_line call Up) (omega (arith, high)) (λ e. absurd (omega (arith, e)))
      ∙ get-same before (index_of_line call Up) (at Up) (omega (arith, high, are.count))
  here Pcm =
      past_out (index_of_line call Pcm) (omega (arith, high)) (λ e. absurd (omega (arith, e)))
      ∙ past_down (index_of_line call Pcm) (omega (arith, high)) (λ e. absurd (omega (arith, e)))
      ∙ get-same with_up (index_of_line call Pcm) (at Pcm) (omega (arith, high, long_up))
  here Down =
      past_out (index_of_line call Down) (omega (arith, high)) (λ e. absurd (omega (arith, e)))
      ∙ get-same with_pcm (index_of_line call Down) (at Down) (omega (arith, high, long_pcm))
  here Out = get-same with_down (index_of_line call Out) (at Out) (omega (arith, high, long_down))

  elsewhere : (c : ℕ) (s : Side) → c < NUMBERS → c ≢ call → slice_get with_out (index_of_line c s) ≡ slice_get before (index_of_line c s)
  elsewhere c s h other =
      let inside : index_of_line c s < 16388 = within c s h in
      past_out (index_of_line c s) inside (other_call c call s Out other) ∙ past_down (index_of_line c s) inside (other_call c call s Down other)
      ∙ past_pcm (index_of_line c s) inside (other_call c call s Pcm other) ∙ past_up (index_of_line c s) inside (other_call c call s Up other)

  each : (c : ℕ) (s : Side) → c < NUMBERS → slice_get with_out (index_of_line c s) ≡ Some (drilled_line seed call periods c s)
  unfolding at
  each c s h = elim (cases_eq c call) [
    | inl same ↦
        subst (λ (k : ℕ). slice_get with_out (index_of_line k s) ≡ Some (drilled_line seed call periods k s)) (sym same)
        (here s ∙ ap Some (sym (drilled-of_call seed call periods call s low (omega arith))))
    | inr other ↦ elsewhere c s h other ∙ are.each c s h ∙ ap Some (drilled-same seed call periods c s other low)
  ]

  all_set : AreDrilled seed call periods with_out
  all_set = record { count = long_out; each = each }

pub one_more_set : (seed call periods : ℕ) (before now : List MemoryLine) → 1 ≤ call → call ≤ 256 → AreSet seed call periods before now →
    AreDrilled seed (call - 1) periods before → AreDrilled seed call periods now
unfolding at with_up with_pcm with_down with_out
one_more_set seed call periods before now low high are old =
    let same : now ≡ with_out seed call periods before low high old =
    are.set_out ∙ ap (λ (t : List MemoryLine). slice_set t (index_of_line call Out) (line_of_call seed call periods Out))
    (are.set_down ∙ ap (λ (t : List MemoryLine). slice_set t (index_of_line call Down) (line_of_call seed call periods Down))
    (are.set_pcm ∙ ap (λ (t : List MemoryLine). slice_set t (index_of_line call Pcm) (line_of_call seed call periods Pcm)) are.set_up)) in
    subst (AreDrilled seed call periods) (sym same) (all_set seed call periods before low high old)
