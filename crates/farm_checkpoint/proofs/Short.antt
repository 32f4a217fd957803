-- How long the text of a mark is.
use Rattle.std.proofs.Common.{◌≡◌, ℕ, zero, suc, ◌+◌, ◌*◌, ◌<◌, ◌≤◌, List, [], ◌∷◌, ◌++◌, length, get_or, ap, arith, length-append}
use Rattle.std.specs.Prelude.{codes, decimal}
use Rattle.std.specs.List.{All, flat_map, concat}
use Rattle.std.proofs.lemmas.Fmt.{length-decimal-le}
use Rattle.std.proofs.lemmas.List.Elements.{All-head, All-tail}
use Rattle.farm_checkpoint.specs.declared.mark.MarkCall.{MarkCall}
use Rattle.farm_checkpoint.specs.Marks.{MarkView, NumbersRise, IsOpenAtMark, HasSums, IsMark}
use Rattle.farm_checkpoint.specs.Text.{save_line, call_text, orders_line, mark_text}
use Rattle.farm_checkpoint.proofs.Lines.{lines_of, text_of_lines}

-- two texts one behind the other
joined : (a b : ℕ) (xs ys : List ℕ) → length xs ≤ a → length ys ≤ b → length (xs ++ ys) ≤ a + b
joined a b xs ys long long' = let both = length-append xs ys in omega (arith, both, long, long')

-- a number of 32 bits
digits : (n : ℕ) → n ≤ 4294967295 → length (decimal n) ≤ 10
digits n small = length-decimal-le 10 n (omega arith) (omega (arith, small)) (omega (arith, small))

-- ---- lines

-- save P
short_save : (period : ℕ) → period ≤ 4294967295 → length (save_line period) ≤ 16
unfolding save_line
short_save period small =
    joined 5 11 (codes "save ") (decimal period ++ codes "\n") (omega arith)
    (joined 10 1 (decimal period) (codes "\n") (digits period small) (omega arith))

-- call C from S out X down Y
short_call : (period : ℕ) (c : MarkCall) → period ≤ 4294967295 → IsOpenAtMark period c → HasSums c → length (call_text c) ≤ 57
unfolding call_text
short_call period c small is sums =
    let number : length (decimal c.call) ≤ 4 =
    length-decimal-le 4 c.call (omega arith) (omega (arith, is.number.1)) (omega (arith, is.number.1)) in
    let from = digits c.from (omega (arith, is.opened, small)) in
    joined 5 52 (codes "call ") _ (omega arith)
    (joined 4 48 (decimal c.call) _ number
    (joined 6 42 (codes " from ") _ (omega arith)
    (joined 10 32 (decimal c.from) _ from
    (joined 5 27 (codes " out ") _ (omega arith)
    (joined 10 17 (decimal c.out) _ (digits c.out sums.0)
    (joined 6 11 (codes " down ") _ (omega arith)
    (joined 10 1 (decimal c.down) (codes "\n") (digits c.down sums.1) (omega arith))))))))

short_calls : (period : ℕ) (calls : List MarkCall) → period ≤ 4294967295 → All (IsOpenAtMark period) calls → All HasSums calls →
    length (flat_map call_text calls) ≤ 57 * length calls
short_calls period [] small is sums = omega arith
short_calls period (c ∷ calls) small is sums =
    let here = short_call period c small (All-head (IsOpenAtMark period) c calls is) (All-head HasSums c calls sums) in
    let others = short_calls period calls small (All-tail (IsOpenAtMark period) c calls is) (All-tail HasSums c calls sums) in
    let both = joined 57 (57 * length calls) (call_text c) (flat_map call_text calls) here others in
    omega (arith, both)

-- ---- how many there are

-- numbers that rise are above their places
above : (period : ℕ) (calls : List MarkCall) (i : ℕ) (d : MarkCall) → All (IsOpenAtMark period) calls → NumbersRise calls → i < length calls →
    i < (get_or calls i d).call
above period calls zero d is rise within = let first = is zero d within in omega (arith, first.number.0)
above period calls (suc i) d is rise within =
    let before = above period calls i d is rise (omega (arith, within)) in
    let up = rise i (suc i) d (omega arith) within in
    omega (arith, before, up)

few : (period : ℕ) (calls : List MarkCall) → All (IsOpenAtMark period) calls → NumbersRise calls → length calls ≤ 4096
few period [] is rise = omega arith
few period (c ∷ calls) is rise =
    let last = above period (c ∷ calls) (length calls) c is rise (omega arith) in
    let known = is (length calls) c (omega arith) in
    omega (arith, last, known.number.1)

-- ---- **The text of a mark is short.**
pub short : (mark : MarkView) → IsMark mark → length (mark_text mark) ≤ 233495
short mark is =
    let calls : length (flat_map call_text mark.calls) ≤ 57 * length mark.calls =
    short_calls mark.period mark.calls is.at_most is.are_open.each is.sums in
    let many = few mark.period mark.calls is.are_open.each is.are_open.rising in
    let lines : length (concat (lines_of mark.calls)) ≤ 233479 =
    subst-length (concat (lines_of mark.calls)) (flat_map call_text mark.calls ++ orders_line) 233479 (text_of_lines mark.calls)
    (joined 233472 7 (flat_map call_text mark.calls) orders_line (omega (arith, calls, many)) (omega arith)) in
    joined 16 233479 (save_line mark.period) (concat (lines_of mark.calls)) (short_save mark.period is.at_most) lines
  where
    subst-length : (xs ys : List ℕ) (n : ℕ) → xs ≡ ys → length ys ≤ n → length xs ≤ n
    subst-length xs ys n same long = let e = ap length same in omega (arith, e, long)
