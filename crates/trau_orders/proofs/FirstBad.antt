-- The first bad line: there is none among lines of orders, and no second first.
use Rattle.std.proofs.Common.{◌≡◌, ℕ, ◌+◌, ◌-◌, ◌<◌, List, [], take, min, sym, ◌∙◌, ap, subst, arith, inl, inr}
use Rattle.std.proofs.lemmas.List.{length-take, get_or-take, take-take}
use Rattle.std.proofs.lemmas.Bool.{cases_order}
use Rattle.trau_orders.specs.declared.order.Order.{Order}
use Rattle.trau_orders.specs.Text.{AreLines, IsFirstBad}

-- the lines in front spell the orders in front
front_lines : (n : ℕ) (lines : List (List ℕ)) (os : List Order) → AreLines lines os → AreLines (take n lines) (take n os)
front_lines n lines os are = record {
  one_each = length-take n lines ∙ ap (min n) are.one_each ∙ sym (length-take n os);
  spelled = λ k d within.
      let low : k < n = omega (arith, within, length-take n os) in
      rw (get_or-take n lines k [] low) (rw (get_or-take n os k d low) (are.spelled k d (omega (arith, within, length-take n os))));
  rising = λ k d within.
      let low : k < n = omega (arith, within, length-take n os) in
      let next : k + 1 < n = omega (arith, within, length-take n os) in
      rw (get_or-take n os k d low) (rw (get_or-take n os (k + 1) d next) (are.rising k d (omega (arith, within, length-take n os))));
}

pub good_or_bad : (lines : List (List ℕ)) (os : List Order) (n : ℕ) → AreLines lines os → IsFirstBad lines n → ⊥
good_or_bad lines os n are is = is.bad (take n os) (front_lines n lines os are)

-- no bad line stands before the first
no_earlier : (lines : List (List ℕ)) (m n : ℕ) → IsFirstBad lines m → IsFirstBad lines n → m < n → ⊥
no_earlier lines m n first second less = first.bad (take m second.before)
    (subst (λ ls. AreLines ls (take m second.before)) (take-take m (n - 1) lines (omega (arith, less)))
    (front_lines m (take (n - 1) lines) second.before second.good))

pub one_first : (lines : List (List ℕ)) (m n : ℕ) → IsFirstBad lines m → IsFirstBad lines n → m ≡ n
one_first lines m n first second =
    elim (cases_order m n)
    [ inl same ↦ same | inr (inl less) ↦ absurd (no_earlier lines m n first second less) | inr (inr more) ↦ absurd (no_earlier lines n m second first more) ]
