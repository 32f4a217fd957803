-- What a front of a text tells: the mark that it begins with, and the first line that no mark has there.
use Rattle.std.proofs.Common.{◌≡◌, ℕ, suc, ◌+◌, ◌-◌, ◌<◌, ◌≤◌, inl, inr, List, [], ◌∷◌, ◌++◌, length, take, drop, map, refl, sym, ◌∙◌, ap, subst, arith}
use Rattle.std.proofs.Common.{append_assoc}
use Rattle.std.specs.Prelude.{codes}
use Rattle.std.specs.List.{All, flat_map, concat}
use Rattle.std.proofs.lemmas.Bool.{cases_order}
use Rattle.std.proofs.lemmas.List.{length-append, length-map, take-take, take-append-drop}
use Rattle.std.proofs.lemmas.List.Folds.{concat-append}
use Rattle.std.proofs.lemmas.List.Elements.{All-nil, All-cons, All-head, All-tail}
use Rattle.farm_checkpoint.specs.declared.mark.MarkCall.{MarkCall}
use Rattle.farm_checkpoint.specs.Marks.{MarkView, IsOpenAtMark, HasSums, IsMark}
use Rattle.farm_checkpoint.specs.Text.{save_line, call_text, orders_line, mark_lines, mark_text, HasLines, IsRead, HasOneMark, NotGoodAndBad, HasOneFirst}
use Rattle.farm_checkpoint.proofs.Fields.{Fits, one_field, save_field}
use Rattle.farm_checkpoint.proofs.Lines.{lines_of, not_orders, text_of_lines, one_list, Next, next_line}

pub all_fit : (period : ℕ) (calls : List MarkCall) → period ≤ 4294967295 → All (IsOpenAtMark period) calls → All HasSums calls → All Fits calls
all_fit period [] small are_open sums = All-nil Fits
all_fit period (c ∷ calls) small are_open sums =
    let is = All-head (IsOpenAtMark period) c calls are_open in
    let has = All-head HasSums c calls sums in
    All-cons Fits c calls (record { call = omega (arith, is.number.1); from = omega (arith, small, is.opened); out = has.0; down = has.1 })
    (all_fit period calls small (All-tail (IsOpenAtMark period) c calls are_open) (All-tail HasSums c calls sums))

pub fits : (mark : MarkView) → IsMark mark → All Fits mark.calls
fits mark is = all_fit mark.period mark.calls is.at_most is.are_open.each is.sums

-- a text's first line is that of one period
pub one_period : (p q : ℕ) (a b : List ℕ) → 1 ≤ p → p ≤ 4294967295 → 1 ≤ q → q ≤ 4294967295 → save_line p ++ a ≡ save_line q ++ b → (p ≡ q) × (a ≡ b)
one_period p q a b low high low' high' e =
    one_field 1 4294967295 1 4294967295 10 p q (codes "save ") (save_line p ++ a) a b (omega arith) (omega arith) (omega arith)
    (save_field p (save_line p ++ a) a low high refl) (save_field q (save_line p ++ a) b low' high' e)

-- a mark's text by its parts
pub parts : (mark : MarkView) (rest : List ℕ) → mark_text mark ++ rest ≡ save_line mark.period ++ (flat_map call_text mark.calls ++ (orders_line ++ rest))
parts mark rest =
    append_assoc (save_line mark.period) (concat (lines_of mark.calls)) rest
    ∙ ap (λ t. save_line mark.period ++ (t ++ rest)) (text_of_lines mark.calls)
    ∙ ap (λ t. save_line mark.period ++ t) (append_assoc (flat_map call_text mark.calls) orders_line rest)

-- what is written for a mark, part by part
pub written : (mark : MarkView) (first calls text : List ℕ) → first ≡ save_line mark.period → calls ≡ first ++ flat_map call_text mark.calls →
    text ≡ calls ++ orders_line → text ≡ mark_text mark
written mark first calls text a b c =
    c ∙ ap (λ t. t ++ orders_line) (b ∙ ap (λ t. t ++ flat_map call_text mark.calls) a)
    ∙ append_assoc (save_line mark.period) (flat_map call_text mark.calls) orders_line
    ∙ ap (λ t. save_line mark.period ++ t) (sym (text_of_lines mark.calls))

same_mark : (mark other : MarkView) → mark.period ≡ other.period → mark.calls ≡ other.calls → mark ≡ other
same_mark mark other period calls = λ i. record { period = period i; calls = calls i }

pub one_mark : HasOneMark
one_mark text mark other m n one two =
    let whole = sym (parts mark one.orders) ∙ sym one.whole ∙ two.whole ∙ parts other two.orders in
    let first = one_period mark.period other.period _ _ one.is.at_least one.is.at_most two.is.at_least two.is.at_most whole in
    let calls = one_list mark.calls other.calls one.orders two.orders (fits mark one.is) (fits other two.is) first.1 in
    let same = same_mark mark other first.0 calls.0 in
    (same, one.place ∙ ap (λ x. length (mark_text x)) same ∙ sym two.place)

-- a text that begins with lines of a mark begins with fewer of them
pub fewer : (text : List ℕ) (mark : MarkView) (m n : ℕ) → m ≤ n → HasLines text mark n → HasLines text mark m
fewer text mark m n few has = record {
  is = has.is;
  many = omega (arith, few, has.many);
  rest = concat (drop m (take n (mark_lines mark))) ++ has.rest;
  whole = has.whole ∙ ap (λ t. t ++ has.rest) parted ∙ append_assoc (concat (take m (mark_lines mark))) (concat (drop m (take n (mark_lines mark)))) has.rest;
}
  where
    parted : concat (take n (mark_lines mark)) ≡ concat (take m (mark_lines mark)) ++ concat (drop m (take n (mark_lines mark)))
    parted =
        ap concat (sym (take-append-drop m (take n (mark_lines mark))))
        ∙ concat-append (take m (take n (mark_lines mark))) (drop m (take n (mark_lines mark)))
        ∙ ap (λ ls. concat ls ++ concat (drop m (take n (mark_lines mark)))) (take-take m n (mark_lines mark) few)

-- one that begins with a mark begins with all its lines
pub all_lines : (text : List ℕ) (mark : MarkView) (m n : ℕ) → IsRead text mark m → n ≤ length (mark_lines mark) → HasLines text mark n
all_lines text mark m n read few = record {
  is = read.is;
  many = few;
  rest = concat (drop n (mark_lines mark)) ++ read.orders;
  whole = read.whole ∙ ap (λ t. t ++ read.orders) parted ∙ append_assoc (concat (take n (mark_lines mark))) (concat (drop n (mark_lines mark))) read.orders;
}
  where
    parted : mark_text mark ≡ concat (take n (mark_lines mark)) ++ concat (drop n (mark_lines mark))
    parted = ap concat (sym (take-append-drop n (mark_lines mark))) ∙ concat-append (take n (mark_lines mark)) (drop n (mark_lines mark))

pub one_first : HasOneFirst
one_first text m n one two =
    elim (cases_order m n) [
      | inl same ↦ same
      | inr (inl less) ↦ absurd (one.bad two.before (fewer text two.before m (n - 1) (omega (arith, less)) two.good))
      | inr (inr more) ↦ absurd (two.bad one.before (fewer text one.before n (m - 1) (omega (arith, more)) one.good))
    ]

pub lines_count : (mark : MarkView) → length (mark_lines mark) ≡ length mark.calls + 2
lines_count mark = omega (arith, length-append (map call_text mark.calls) (orders_line ∷ []), length-map mark.calls call_text)

-- behind calls that a text begins with, a mark with more lines has its next one
pub next_of : (text rest : List ℕ) (period : ℕ) (calls : List MarkCall) (mark : MarkView) (n : ℕ) → 1 ≤ period → period ≤ 4294967295 → All Fits calls →
    text ≡ save_line period ++ (flat_map call_text calls ++ rest) → n ≡ suc (suc (length calls)) → HasLines text mark n →
    (period ≡ mark.period) × Next calls mark.calls rest
next_of text rest period calls mark n low high fit front number has =
    let lines = subst (HasLines text mark) number has in
    let whole = sym front ∙ lines.whole ∙ append_assoc (save_line mark.period) (concat (take (suc (length calls)) (lines_of mark.calls))) lines.rest in
    let first = one_period period mark.period _ _ low high has.is.at_least has.is.at_most whole in
    (first.0, next_line calls mark.calls rest lines.rest fit (fits mark has.is) (omega (arith, lines.many, lines_count mark)) first.1)

pub not_good_and_bad : NotGoodAndBad
not_good_and_bad text mark m n read bad =
    elim (cases_order n (length (mark_lines mark))) [
      | inl same ↦ bad.bad mark (all_lines text mark m n read (omega (arith, same)))
      | inr (inl less) ↦ bad.bad mark (all_lines text mark m n read (omega (arith, less)))
      | inr (inr more) ↦ beyond more
    ]
  where
    beyond : length (mark_lines mark) < n → ⊥
    beyond more =
        let count = lines_count mark in
        let few = fewer text bad.before (suc (suc (length mark.calls))) (n - 1) (omega (arith, more, count)) bad.good in
        let next = next_of text (orders_line ++ read.orders) mark.period mark.calls bad.before (suc (suc (length mark.calls))) read.is.at_least read.is.at_most
        (fits mark read.is) (read.whole ∙ parts mark read.orders) refl few in
        elim next.1.is [
          | inl (all, last) ↦ absurd (omega (arith, more, count, bad.more, lines_count bad.before, ap length all))
          | inr (y, zs, ahead, line) ↦ not_orders y next.1.after read.orders (sym line)
        ]
