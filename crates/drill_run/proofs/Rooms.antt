-- An operation leaves each line its room.
use Rattle.std.proofs.Common.{◌≡◌, refl, sym, ap, ◌∙◌, subst, ℕ, zero, suc, ◌+◌, ◌-◌, ◌*◌, ◌/◌, ◌%◌, ◌<◌, ◌≤◌, Bool, true, false, inl, inr, Option, Some}
use Rattle.std.proofs.Common.{List, [], ◌∷◌, ◌++◌, length, take, arith, slice_get, slice_set}
use Rattle.std.specs.Prelude.{◌==◌, ◌||◌, if◌then◌else◌, min, max, nat_lt, slice_index, Result, Ok, Err, IfSome}
use Rattle.std.specs.List.{list_any}
use Rattle.std.proofs.lemmas.Bool.{cases_eq, eqb-true}
use Rattle.std.proofs.lemmas.List.{length-append, length-take, length-set}
use Rattle.std.proofs.lemmas.Option.{slice_get_within}
use Rattle.trau_io.specs.declared.line.Failed.{Failed}
use Rattle.trau_io.specs.declared.line.Side.{Side}
use Rattle.trau_io.specs.declared.line.Side.TheVariants.{Up, Pcm, Down, Out}
use Rattle.trau_io.specs.Indices.{number_of_side, index_of_line}
use Rattle.trau_io.specs.Memory.{MemoryLine, is_failing, cut_of, read_answer, write_answer, after_read, after_write}
use Rattle.trau_io.proofs.Tables.{number_of_side-below}
use Rattle.farm_drill.specs.Lines.{AreDrilled, drilled_line, line_of_call}
use Rattle.farm_drill.proofs.Setting.{drilled-of_call, get-other, get-same}
use Rattle.drill_run.specs.Rooms.{IsAmple, AreAmple, DrillMemory, room_by}

failed : Failed
failed = record {}

none_fails : (room : ℕ) (l : MemoryLine) → IsAmple room l → is_failing l ≡ false
none_fails room l a = ap (λ (fs : List ℕ). list_any (λ number. number == l.calls) fs) a.never

ample_read : (room : ℕ) (l : MemoryLine) (n : ℕ) (res : Result ℕ Failed) → IsAmple room l → res ≡ read_answer l n → IsAmple room (after_read l res)
ample_read room l n res a e =
    let ok : res ≡ Ok (min (cut_of l n) (length l.to_come)) =
    e ∙ ap (λ (b : Bool). if b then Err failed else Ok (min (cut_of l n) (length l.to_come))) (none_fails room l a) in
    subst (λ (x : Result ℕ Failed). IsAmple room (after_read l x)) (sym ok) (record { never = a.never; whole = a.whole; full = a.full })

cut_bound : (l : MemoryLine) (n : ℕ) → cut_of l n ≤ n
cut_bound l n = by (nat_lt l.calls (length l.cuts)) (max (slice_index l.cuts l.calls) 1)
  where
    by : (b : Bool) (k : ℕ) → (if b then min n k else n) ≤ n
    by true k = omega arith
    by false k = omega arith

ample_write : (room : ℕ) (l : MemoryLine) (bytes : List ℕ) (res : Result ℕ Failed) → IsAmple room l → res ≡ write_answer l (length bytes) →
    IsAmple room (after_write l bytes res)
ample_write room l bytes res a e = by (l.room == 0) refl
  where
    most : ℕ
    most = min (cut_of l (length bytes)) l.room

    by : (b : Bool) → (l.room == 0) ≡ b → IsAmple room (after_write l bytes res)
    by true q =
        let err : res ≡ Err failed = e ∙ ap (λ (b : Bool). if b || is_failing l then Err failed else Ok most) q in
        subst (λ (x : Result ℕ Failed). IsAmple room (after_write l bytes x)) (sym err)
        (record { never = a.never; whole = a.whole; full = λ h. eqb-true l.room 0 q })
    by false q =
        let ok : res ≡ Ok most = e ∙ ap (λ (b : Bool). if b || is_failing l then Err failed else Ok most) q
        ∙ ap (λ (b : Bool). if b then Err failed else Ok most) (none_fails room l a) in
        subst (λ (x : Result ℕ Failed). IsAmple room (after_write l bytes x)) (sym ok) (record {
          never = a.never;
          whole = sum most (cut_of l (length bytes)) refl (cut_bound l (length bytes));
          full = λ h. (let none = a.full h in omega (arith, none));
        })
      where
        sum : (m k : ℕ) → m ≡ min k l.room → k ≤ length bytes → length (l.written ++ take m bytes) + (l.room - m) ≡ room
        sum m k e h = omega (arith, a.whole, e, h, length-append l.written (take m bytes), length-take m bytes)

-- ---- the table

pub found_in : {X : Type 0} (xs : List X) (i : ℕ) → i < length xs → (x : X) × (slice_get xs i ≡ Some x)
found_in [] i l = absurd (omega arith)
found_in (y ∷ ys) zero l = (y, refl)
found_in (y ∷ ys) (suc i) l = found_in ys i (omega arith)

some_same : (x y : MemoryLine) → Some x ≡ Some y → x ≡ y
some_same x y e = cc

-- **A line of the table is another one now that has its room.**
ample_set : (d : DrillMemory) (now : List MemoryLine) (p : ℕ) (old new : MemoryLine) → AreAmple d → 4 ≤ p → p < 16388 → slice_get d.lines p ≡ Some old →
    now ≡ slice_set d.lines p new →
    (IsAmple (room_by d.periods (p % 4)) old → IsAmple (room_by d.periods (p % 4)) new) → AreAmple (record d { lines = now })
ample_set d now p old new a low high found put keeps =
    subst (λ (lines : List MemoryLine). AreAmple (record d { lines = lines })) (sym put) (record { long = length-set d.lines p new ∙ a.long; each = each })
  where
    each : (i : ℕ) (l : MemoryLine) → 4 ≤ i → i < 4 * (d.calls + 1) → slice_get (slice_set d.lines p new) i ≡ Some l → IsAmple (room_by d.periods (i % 4)) l
    each i l low below e = elim (cases_eq i p) [
      | inl q ↦
          let is : new ≡ l = some_same new l (sym (get-same d.lines p new (omega (arith, a.long, high))) ∙ ap (slice_get (slice_set d.lines p new)) (sym q)
          ∙ e) in
          subst (λ (k : ℕ). IsAmple (room_by d.periods (k % 4)) l) (sym q)
          (subst (IsAmple (room_by d.periods (p % 4))) is (keeps (a.each p old (omega (arith, q, low)) (omega (arith, q, below)) found)))
      | inr q ↦
          let inside : i < length d.lines = omega (arith, slice_get_within (slice_set d.lines p new) i l e, length-set d.lines p new) in
          a.each i l low below (sym (get-other d.lines p i new inside q) ∙ e)
    ]

pub reads : (d : DrillMemory) (p n : ℕ) (now : List MemoryLine) (res : Result ℕ Failed) → AreAmple d → 4 ≤ p → p < 16388 →
    IfSome (slice_get d.lines p) (λ l. res ≡ read_answer l n) → IfSome (slice_get d.lines p) (λ l. now ≡ slice_set d.lines p (after_read l res)) →
    AreAmple (record d { lines = now })
reads d p n now res a low high answer after =
    let f = found_in d.lines p (omega (arith, a.long, high)) in
    let is = subst (λ (o : Option MemoryLine). IfSome o (λ l. res ≡ read_answer l n)) f.1 answer in
    ample_set d now p f.0 (after_read f.0 res) a low high f.1 (subst (λ (o : Option MemoryLine). IfSome o (λ l. now ≡ slice_set d.lines p (after_read l res)))
    f.1 after) (λ h. ample_read (room_by d.periods (p % 4)) f.0 n res h is)

pub writes : (d : DrillMemory) (p : ℕ) (bytes : List ℕ) (now : List MemoryLine) (res : Result ℕ Failed) → AreAmple d → 4 ≤ p → p < 16388 →
    IfSome (slice_get d.lines p) (λ l. res ≡ write_answer l (length bytes)) →
    IfSome (slice_get d.lines p) (λ l. now ≡ slice_set d.lines p (after_write l bytes res)) → AreAmple (record d { lines = now })
writes d p bytes now res a low high answer after =
    let f = found_in d.lines p (omega (arith, a.long, high)) in
    let is = subst (λ (o : Option MemoryLine). IfSome o (λ l. res ≡ write_answer l (length bytes))) f.1 answer in
    ample_set d now p f.0 (after_write f.0 bytes res) a low high f.1
    (subst (λ (o : Option MemoryLine). IfSome o (λ l. now ≡ slice_set d.lines p (after_write l bytes res))) f.1 after)
    (λ h. ample_write (room_by d.periods (p % 4)) f.0 bytes res h is)

-- ---- places

pub low : (call : ℕ) (s : Side) → 1 ≤ call → 4 ≤ index_of_line call s
low call Up l = omega arith
low call Pcm l = omega arith
low call Down l = omega arith
low call Out l = omega arith

pub high : (call : ℕ) (s : Side) → call ≤ 4096 → index_of_line call s < 16388
high call Up l = omega arith
high call Pcm l = omega arith
high call Down l = omega arith
high call Out l = omega arith

pub below : (call calls : ℕ) (s : Side) → call ≤ calls → index_of_line call s < 4 * (calls + 1)
below call calls Up l = omega arith
below call calls Pcm l = omega arith
below call calls Down l = omega arith
below call calls Out l = omega arith

pub side_at : (call : ℕ) (s : Side) → index_of_line call s % 4 ≡ number_of_side s
side_at call Up = omega arith
side_at call Pcm = omega arith
side_at call Down = omega arith
side_at call Out = omega arith

-- a place is that of a line
record IsPlace (i : ℕ) : Type 0 where
  pub call : ℕ
  pub side : Side
  pub is : i ≡ index_of_line call side

line_at : (i c k : ℕ) → i ≡ 4 * c + k → k < 4 → IsPlace i
line_at i c zero e l = record { call = c; side = Up; is = e }
line_at i c (suc zero) e l = record { call = c; side = Pcm; is = e }
line_at i c (suc (suc zero)) e l = record { call = c; side = Down; is = e }
line_at i c (suc (suc (suc zero))) e l = record { call = c; side = Out; is = e }
line_at i c (suc (suc (suc (suc k)))) e l = absurd (omega arith)

-- ---- as the lines are made

ample_at_first : (seed periods call : ℕ) (s : Side) → IsAmple (room_by periods (number_of_side s)) (line_of_call seed call periods s)
ample_at_first seed periods call Up = record { never = refl; whole = refl; full = λ h. absurd (omega (arith, h)) }
ample_at_first seed periods call Pcm = record { never = refl; whole = refl; full = λ h. absurd (omega (arith, h)) }
ample_at_first seed periods call Down = record { never = refl; whole = omega arith; full = λ h. absurd (omega (arith, h)) }
ample_at_first seed periods call Out = record { never = refl; whole = omega arith; full = λ h. absurd (omega (arith, h)) }

-- **So the lines of a drill have their rooms.**
pub ample_drilled : (seed calls periods : ℕ) (lines : List MemoryLine) → calls ≤ 256 → AreDrilled seed calls periods lines →
    AreAmple (record { lines = lines; calls = calls; periods = periods })
ample_drilled seed calls periods lines few are = record { long = are.count; each = each }
  where
    each : (i : ℕ) (l : MemoryLine) → 4 ≤ i → i < 4 * (calls + 1) → slice_get lines i ≡ Some l → IsAmple (room_by periods (i % 4)) l
    each i l low below e =
        let parts : i ≡ 4 * (i / 4) + i % 4 = omega arith in
        let less : i % 4 < 4 = omega arith in
        let at = line_at i (i / 4) (i % 4) parts less in
        let c = at.call in
        let s = at.side in
        let is = at.is in
        let first : 1 ≤ c = omega (arith, is, low, number_of_side-below s) in
        let last : c ≤ calls = omega (arith, is, below) in
        let made : slice_get lines (index_of_line c s) ≡ Some (drilled_line seed calls periods c s) = are.each c s (omega (arith, last, few)) in
        let here : slice_get lines (index_of_line c s) ≡ Some l = subst (λ (k : ℕ). slice_get lines k ≡ Some l) is e in
        let found : Some (line_of_call seed c periods s) ≡ Some l =
        subst (λ (x : MemoryLine). Some x ≡ Some l) (drilled-of_call seed calls periods c s first last) (sym made ∙ here) in
        let side : i % 4 ≡ number_of_side s = ap (λ (k : ℕ). k % 4) is ∙ side_at c s in
        subst (λ (k : ℕ). IsAmple (room_by periods k) l) (sym side)
        (subst (IsAmple (room_by periods (number_of_side s))) (some_same (line_of_call seed c periods s) l found) (ample_at_first seed periods c s))
