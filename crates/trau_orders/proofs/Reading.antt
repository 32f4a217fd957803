-- Orders that are read line by line.
use Rattle.std.proofs.Common.{◌≡◌, ℕ, ◌+◌, ◌-◌, ◌≤◌, ◌<◌, List, [], ◌∷◌, ◌++◌, length, get_or, take, refl, sym, ◌∙◌, ap, subst, arith, append_assoc, append-nil}
use Rattle.std.proofs.Common.{inl, inr, Some, Result, Ok, Err, slice_get, below_more}
use Rattle.std.proofs.lemmas.List.{length-append, get_or_append_left, get_or_push, same_lists}
use Rattle.std.proofs.lemmas.Option.{slice_get_within, get_or_from_slice_get}
use Rattle.std.proofs.Math.Nat.{eq-or-lt_of_le}
use Rattle.std.proofs.Math.Seq.{take-append_seam}
use Rattle.trau_alaw.specs.declared.Law.TheVariants.{A}
use Rattle.trau_orders.specs.declared.order.What.TheVariants.{OpenCall}
use Rattle.trau_orders.specs.declared.fault.OrderFault.{OrderFault}
use Rattle.trau_orders.specs.declared.fault.OrderFault.TheVariants.{Line, TooLong, TooMany}
use Rattle.trau_orders.specs.declared.order.Order.{Order}
use Rattle.trau_orders.specs.Grammar.{IsLine}
use Rattle.trau_orders.specs.Text.{text_lines, AreLines, IsNoEarlier, IsFirstBad}
use Rattle.trau_orders.proofs.OneOrder.{one_stamp, one_order}
use Rattle.trau_orders.proofs.TextLines.{no_line}

-- these orders were read, and this text is left
pub record HasRead (text rest : List ℕ) (orders : List Order) : Type 0 where
  pub lines : List (List ℕ)
  pub whole : text_lines text ≡ lines ++ text_lines rest
  pub read : AreLines lines orders

pub length_push : {X : Type 0} (xs : List X) (x : X) → length (xs ++ x ∷ []) ≡ length xs + 1
length_push xs x = length-append xs (x ∷ [])

push_lines : (lines : List (List ℕ)) (os : List Order) (line : List ℕ) (o : Order) → AreLines lines os → IsLine line o → IsNoEarlier os o →
    AreLines (lines ++ line ∷ []) (os ++ o ∷ [])
push_lines lines os line o are is follows = record {
  one_each = length_push lines line ∙ ap (λ n. n + 1) are.one_each ∙ sym (length_push os o);
  spelled = λ k d within. below_more (λ n. IsLine (get_or (lines ++ line ∷ []) n []) (get_or (os ++ o ∷ []) n d)) (length os) (λ n low. older n d low)
      (newest d) k (omega (arith, within, length_push os o));
  rising = λ k d within. steps k d (omega (arith, within, length_push os o));
}
  where
    older : (n : ℕ) (d : Order) → n < length os → IsLine (get_or (lines ++ line ∷ []) n []) (get_or (os ++ o ∷ []) n d)
    older n d low =
        let line_low : n < length lines = omega (arith, are.one_each) in
        rw (get_or_append_left lines (line ∷ []) [] n line_low) (rw (get_or_append_left os (o ∷ []) d n low) (are.spelled n d low))

    newest : (d : Order) → IsLine (get_or (lines ++ line ∷ []) (length os) []) (get_or (os ++ o ∷ []) (length os) d)
    newest d = rw (get_or_push lines line [] (length os) are.one_each) (rw (get_or_push os o d (length os) refl) is)

    steps : (k : ℕ) (d : Order) → k < length os → (get_or (os ++ o ∷ []) k d).stamp ≤ (get_or (os ++ o ∷ []) (k + 1) d).stamp
    steps k d low =
        let next : k + 1 ≤ length os = omega arith in
        elim (eq-or-lt_of_le next) [
          | inl last ↦
              let place : length os - 1 ≡ k = omega (arith, last) in
              rw (get_or_append_left os (o ∷ []) d k low)
              (rw (get_or_push os o d (k + 1) (sym last)) (subst (λ n. (get_or os n d).stamp ≤ o.stamp) place (follows d (omega arith))))
          | inr inside ↦ rw (get_or_append_left os (o ∷ []) d k low) (rw (get_or_append_left os (o ∷ []) d (k + 1) inside) (are.rising k d inside))
        ]

-- one more line with its order
pub read_more : (text rest line after : List ℕ) (os : List Order) (o : Order) → HasRead text rest os → text_lines rest ≡ line ∷ text_lines after →
    IsLine line o → IsNoEarlier os o → HasRead text after (os ++ o ∷ [])
read_more text rest line after os o so_far next is follows = record {
  lines = so_far.lines ++ line ∷ [];
  whole = so_far.whole ∙ ap (λ ls. so_far.lines ++ ls) next ∙ sym (append_assoc so_far.lines (line ∷ []) (text_lines after));
  read = push_lines so_far.lines os line o so_far.read is follows;
}

-- all lines were read
pub read_all : (text rest : List ℕ) (os : List Order) → HasRead text rest os → rest ≡ [] → AreLines (text_lines text) os
read_all text rest os so_far none =
    subst (λ ls. AreLines ls os) (sym (so_far.whole ∙ ap (λ t. so_far.lines ++ text_lines t) none ∙ ap (λ ls. so_far.lines ++ ls) no_line
    ∙ append-nil so_far.lines)) so_far.read

-- the lines that were read and those that are left
pub read_count : (text rest : List ℕ) (os : List Order) → HasRead text rest os → length os + length (text_lines rest) ≡ length (text_lines text)
read_count text rest os so_far = omega (arith, so_far.read.one_each, ap length so_far.whole, length-append so_far.lines (text_lines rest))

-- the order that a line and the stamps before it don't allow
pub behind : (line : List ℕ) (os : List Order) (o p before : Order) → IsLine line o → IsLine line p → slice_get os (length os - 1) ≡ Some before →
    o.stamp < before.stamp → IsNoEarlier os p → ⊥
behind line os o p before is is' last late follows =
    let some = slice_get_within os (length os - 1) before last in
    let same : get_or os (length os - 1) p ≡ before = get_or_from_slice_get os (length os - 1) before p last in
    let stamps = one_stamp line o p is is' in
    let follow = follows p (omega (arith, some)) in
    absurd (omega (arith, late, stamps, follow, ap (λ x. x.stamp) same))

no_order : Order
no_order = record { stamp = 0; what = OpenCall 0 A }

-- no orders have these lines and one more that nothing behind them allows
pub stops : (lines : List (List ℕ)) (os ps : List Order) (line : List ℕ) → AreLines lines os → AreLines (lines ++ line ∷ []) ps →
    ((o : Order) → IsLine line o → IsNoEarlier os o → ⊥) → ⊥
stops lines os ps line are more none =
    none (get_or ps (length os) no_order) (subst (λ l. IsLine l (get_or ps (length os) no_order)) (get_or_push lines line [] (length os) are.one_each)
    (more.spelled (length os) no_order within)) follows
  where
    longer : length ps ≡ length os + 1
    longer = omega (arith, more.one_each, length_push lines line, are.one_each)

    within : length os < length ps
    within = omega (arith, longer)

    follows : IsNoEarlier os (get_or ps (length os) no_order)
    follows d some =
        let low : length os - 1 < length os = omega arith in
        let line_low : length os - 1 < length lines = omega (arith, are.one_each) in
        let known = are.spelled (length os - 1) d low in
        let other : IsLine (get_or lines (length os - 1) []) (get_or ps (length os - 1) no_order) =
        subst (λ l. IsLine l (get_or ps (length os - 1) no_order)) (get_or_append_left lines (line ∷ []) [] (length os - 1) line_low)
        (more.spelled (length os - 1) no_order (omega (arith, longer))) in
        let stamps = one_stamp (get_or lines (length os - 1) []) (get_or os (length os - 1) d) (get_or ps (length os - 1) no_order) known other in
        let place : length os - 1 + 1 ≡ length os = omega arith in
        let rises : (get_or ps (length os - 1) no_order).stamp ≤ (get_or ps (length os) no_order).stamp =
        subst (λ k. (get_or ps (length os - 1) no_order).stamp ≤ (get_or ps k no_order).stamp) place
        (more.rising (length os - 1) no_order (omega (arith, longer))) in
        omega (arith, stamps, rises)

-- the line at which reading stops is the first bad one
unfoldable pub read_bad : (text rest line after : List ℕ) (os : List Order) → HasRead text rest os → text_lines rest ≡ line ∷ text_lines after →
    ((o : Order) → IsLine line o → IsNoEarlier os o → ⊥) → IsFirstBad (text_lines text) (length os + 1)
read_bad text rest line after os so_far next none = record {
  at_least = omega arith;
  at_most = omega (arith, read_count text rest os so_far, ap length next);
  before = os;
  good = subst (λ ls. AreLines ls os) (sym front) so_far.read;
  bad = λ ps are. stops so_far.lines os ps line so_far.read (subst (λ ls. AreLines ls ps) with_it are) none;
}
  where
    parts : text_lines text ≡ (so_far.lines ++ line ∷ []) ++ text_lines after
    parts = so_far.whole ∙ ap (λ ls. so_far.lines ++ ls) next ∙ sym (append_assoc so_far.lines (line ∷ []) (text_lines after))

    front : take (length os + 1 - 1) (text_lines text) ≡ so_far.lines
    front =
        let size : length os + 1 - 1 ≡ length so_far.lines = omega (arith, so_far.read.one_each) in
        ap (λ n. take n (text_lines text)) size ∙ ap (take (length so_far.lines)) so_far.whole ∙ take-append_seam so_far.lines (text_lines rest)

    with_it : take (length os + 1) (text_lines text) ≡ so_far.lines ++ line ∷ []
    with_it =
        let size : length os + 1 ≡ length (so_far.lines ++ line ∷ []) = omega (arith, so_far.read.one_each, length_push so_far.lines line) in
        ap (λ n. take n (text_lines text)) size ∙ ap (take (length (so_far.lines ++ line ∷ []))) parts ∙ take-append_seam (so_far.lines ++ line ∷ [])
        (text_lines after)

-- lines have one list of orders at most
pub one_list : (lines : List (List ℕ)) (os ps : List Order) → AreLines lines os → AreLines lines ps → os ≡ ps
one_list lines os ps are other =
    same_lists os ps (sym are.one_each ∙ other.one_each) (λ k d within. one_order (get_or lines k []) (get_or os k d) (get_or ps k d) (are.spelled k d within)
    (other.spelled k d (omega (arith, within, are.one_each, other.one_each))))

-- what was read isn't a fault
pub no_fault : {T E : Type 0} (t : T) (e : E) → Ok t ≡ Err e → ⊥
no_fault t e is = cc

-- a line's fault isn't one of the whole text
pub not_of_all : {T : Type 0} (n : ℕ) (r : Result T OrderFault) → r ≡ Err (Line n) → (r ≡ Err TooLong → ⊥) × (r ≡ Err TooMany → ⊥)
not_of_all n r line = (λ is. cc, λ is. cc)
