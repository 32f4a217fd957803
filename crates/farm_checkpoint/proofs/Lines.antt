-- The lines of calls: a text begins with those of one list of calls.
use Rattle.std.proofs.Common.{◌≡◌, ℕ, suc, ◌≤◌, ◌⊎◌, inl, inr, List, [], ◌∷◌, ◌++◌, length, take, map, refl, sym, ◌∙◌, ap, arith, append_assoc, append-nil}
use Rattle.std.proofs.Common.{slice_index}
use Rattle.std.specs.List.{All, flat_map, concat}
use Rattle.std.proofs.lemmas.List.Elements.{All-head, All-tail}
use Rattle.farm_checkpoint.specs.declared.mark.MarkCall.{MarkCall}
use Rattle.farm_checkpoint.specs.Text.{call_text, orders_line}
use Rattle.farm_checkpoint.proofs.Fields.{Fits, one_call}

-- the lines of calls, and the last line
abbrev pub lines_of : List MarkCall → List (List ℕ)
lines_of calls = map call_text calls ++ orders_line ∷ []

-- the line of a call begins with another letter than the last line
pub not_orders : (c : MarkCall) (a b : List ℕ) → call_text c ++ a ≡ orders_line ++ b → ⊥
unfolding call_text
not_orders c a b e = let letters = ap (λ t. slice_index t 0) e in absurd (omega (arith, letters))

-- the lines of calls, and then the last one
pub text_of_lines : (calls : List MarkCall) → concat (lines_of calls) ≡ flat_map call_text calls ++ orders_line
text_of_lines [] = append-nil orders_line
text_of_lines (c ∷ calls) = ap (λ t. call_text c ++ t) (text_of_lines calls) ∙ sym (append_assoc (call_text c) (flat_map call_text calls) orders_line)

-- of two lists of calls with their last lines a text has one
pub one_list : (xs ys : List MarkCall) (a b : List ℕ) → All Fits xs → All Fits ys →
    flat_map call_text xs ++ (orders_line ++ a) ≡ flat_map call_text ys ++ (orders_line ++ b) → (xs ≡ ys) × (a ≡ b)
one_list [] [] a b fits fits' e = (refl, cc)
one_list [] (y ∷ ys) a b fits fits' e = absurd
    (not_orders y (flat_map call_text ys ++ (orders_line ++ b)) a (sym (append_assoc (call_text y) (flat_map call_text ys) _) ∙ sym e))
one_list (x ∷ xs) [] a b fits fits' e = absurd
    (not_orders x (flat_map call_text xs ++ (orders_line ++ a)) b (sym (append_assoc (call_text x) (flat_map call_text xs) _) ∙ e))
one_list (x ∷ xs) (y ∷ ys) a b fits fits' e =
    let first = one_call x y _ _ (All-head Fits x xs fits) (All-head Fits y ys fits')
    (sym (append_assoc (call_text x) (flat_map call_text xs) _) ∙ e ∙ append_assoc (call_text y) (flat_map call_text ys) _) in
    let others = one_list xs ys a b (All-tail Fits x xs fits) (All-tail Fits y ys fits') first.1 in
    ((λ i. first.0 i ∷ others.0 i), others.1)

-- what may follow calls that a text begins with: the last line where these are all, or one more call
pub record Next (xs ys : List MarkCall) (rest : List ℕ) : Type 0 where
  pub after : List ℕ
  pub is : ((ys ≡ xs) × (rest ≡ orders_line ++ after)) ⊎ ((y : MarkCall) × (zs : List MarkCall) × (ys ≡ xs ++ y ∷ zs) × (rest ≡ call_text y ++ after))

one_more : (x y : MarkCall) (xs ys : List MarkCall) (rest : List ℕ) → x ≡ y → Next xs ys rest → Next (x ∷ xs) (y ∷ ys) rest
one_more x y xs ys rest same next = record {
  after = next.after;
  is = elim next.is [
    | inl (all, last) ↦ inl ((λ i. sym same i ∷ all i), last)
    | inr (z, zs, more, line) ↦ inr (z, zs, (λ i. sym same i ∷ more i), line)
  ];
}

-- a text that begins with these calls, and with as many lines of others and one more, has these in front of the others
pub next_line : (xs ys : List MarkCall) (rest after : List ℕ) → All Fits xs → All Fits ys → length xs ≤ length ys →
    flat_map call_text xs ++ rest ≡ concat (take (suc (length xs)) (lines_of ys)) ++ after → Next xs ys rest
next_line [] [] rest after fits fits' few e = record { after = after; is = inl (refl, e ∙ ap (λ t. t ++ after) (append-nil orders_line)) }
next_line [] (y ∷ ys) rest after fits fits' few e = record { after = after; is = inr (y, ys, refl, e ∙ ap (λ t. t ++ after) (append-nil (call_text y))) }
next_line (x ∷ xs) [] rest after fits fits' few e = absurd (omega (arith, few))
next_line (x ∷ xs) (y ∷ ys) rest after fits fits' few e =
    let first = one_call x y _ _ (All-head Fits x xs fits) (All-head Fits y ys fits')
    (sym (append_assoc (call_text x) (flat_map call_text xs) rest) ∙ e ∙ append_assoc (call_text y) (concat (take (suc (length xs)) (lines_of ys))) after) in
    one_more x y xs ys rest first.0 (next_line xs ys rest after (All-tail Fits x xs fits) (All-tail Fits y ys fits') (omega (arith, few)) first.1)
