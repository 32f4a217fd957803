-- The alignment fields of the periods that count.
use Rattle.std.proofs.Common.{◌≡◌, sym, ap, ◌∙◌, ℕ, ◌+◌, ◌-◌, Bool, true, false, if◌then◌else◌, Option, Some, None, List, [], ◌∷◌, ◌++◌, length, map, take}
use Rattle.std.proofs.Common.{drop, reverse, arith, inl, inr, length-drop}
use Rattle.std.specs.Prelude.{find, is_none}
use Rattle.std.proofs.Math.Seq.{take-append_seam, drop-append_seam}
use Rattle.std.proofs.lemmas.Bool.{cases_lt}
use Rattle.std.proofs.lemmas.List.{reverse-append, reverse-reverse, length-reverse, length-map, drop_all, map-append, take-append-drop}
use Rattle.down_framer.specs.Made.{Period, MadeFrame, counted_fields}
use Rattle.down_framer.specs.ByNumber.{when, fields_to, asked_fields, numbered_of}
use Rattle.down_framer.proofs.Timing.{AreOnTime}

-- the first ones without some of their front, in the other order
reverse_drop : (n : ℕ) (xs : List (Option ℕ)) → reverse (drop n (reverse xs)) ≡ take (length xs - n) xs
reverse_drop n xs = elim (cases_lt (length xs) n) [
  | inl past ↦
      let l = length-reverse xs in
      let none : length xs - n ≡ 0 = omega arith in
      ap reverse (drop_all n (reverse xs) (omega arith)) ∙ sym (ap (λ k. take k xs) none)
  | inr within ↦
      let back = reverse (drop (length xs - n) xs) in
      let front = reverse (take (length xs - n) xs) in
      let parts : reverse xs ≡ back ++ front =
      sym (ap reverse (take-append-drop (length xs - n) xs)) ∙ reverse-append (take (length xs - n) xs) (drop (length xs - n) xs) in
      let count : length back ≡ n = length-reverse (drop (length xs - n) xs) ∙ length-drop (length xs - n) xs ∙ omega arith in
      ap (λ z. reverse (drop n z)) parts ∙ ap (λ i. reverse (drop i (back ++ front))) (sym count) ∙ ap reverse (drop-append_seam back front) ∙
      reverse-reverse (take (length xs - n) xs)
]

-- the fields up to the newest period, of those of all periods
pub fields_so_far : {A : Type 0} (more ps : List (Period A)) → take (length ps) (asked_fields (more ++ ps)) ≡ asked_fields ps
fields_so_far more ps =
    let fields = λ (z : List (Period _)). map (λ p. p.field) z in
    ap (λ z. take (length ps) (reverse z)) (map-append (λ p. p.field) more ps) ∙
    ap (take (length ps)) (reverse-append (fields more) (fields ps)) ∙
    ap (λ n. take n (asked_fields ps ++ reverse (fields more))) (sym (length-reverse (fields ps) ∙ length-map ps (λ p. p.field))) ∙
    take-append_seam (asked_fields ps) (reverse (fields more))

-- the fields of the periods that count
pub fields-agree : {A : Type 0} (F : List (Option ℕ)) (w : ℕ) (ps : List (Period A)) (fs : List (MadeFrame A)) → take (w + 1) F ≡ asked_fields ps →
    AreOnTime fs →
    fields_to F w (map numbered_of fs) ≡ counted_fields ps fs
fields-agree F w ps [] e t = ap reverse e ∙ reverse-reverse (map (λ p. p.field) ps)
fields-agree F w ps (f ∷ fs) e t = by (is_none f.carries) (fields-agree F w ps fs e t.1)
  where
    by : (b : Bool) → fields_to F w (map numbered_of fs) ≡ counted_fields ps fs →
        (elim (if b then Some (numbered_of f) else find (λ f. is_none f.carries) (map numbered_of fs)) as (λ o. List (Option ℕ)) [
          | None ↦ reverse (take (w + 1) F)
          | Some m ↦ reverse (drop (when m.start + 1) (take (w + 1) F))
        ]) ≡
        (elim (if b then Some f else find (λ f. is_none f.carries) fs) as (λ o. List (Option ℕ)) [
          | None ↦ map (λ p. p.field) ps
          | Some m ↦ take (length ps - (m.period + 1)) (map (λ p. p.field) ps)
        ])
    by true h =
        let on_time : when f.start ≡ f.period = t.0 in
        ap (λ z. reverse (drop (when f.start + 1) z)) e ∙ ap (λ k. reverse (drop (k + 1) (asked_fields ps))) on_time ∙
        reverse_drop (f.period + 1) (map (λ p. p.field) ps) ∙ ap (λ n. take (n - (f.period + 1)) (map (λ p. p.field) ps)) (length-map ps (λ p. p.field))
    by false h = h
