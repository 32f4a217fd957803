-- Lists with a front left out, and what a ring takes of a list.
use Rattle.std.proofs.Common.{◌≡◌, sym, ap, ◌∙◌, ℕ, ◌+◌, ◌-◌, ◌≤◌, min, List, ◌++◌, length, take, drop, arith, inl, inr}
use Rattle.std.proofs.Math.Seq.{drop-append-add}
use Rattle.std.proofs.lemmas.Bool.{cases_lt}
use Rattle.std.proofs.lemmas.List.{drop_all, drop-append-le, drop_min, take_all}
use Rattle.circular_buffer.specs.Buffer.{keep_last}

pub drop-append : (n : ℕ) (xs ys : List ℕ) → drop n (xs ++ ys) ≡ drop n xs ++ drop (n - length xs) ys
drop-append n xs ys = elim (cases_lt (length xs) n) [
  | inl past ↦
      let e : n ≡ length xs + (n - length xs) = omega arith in
      ap (λ k. drop k (xs ++ ys)) e ∙ drop-append-add xs ys (n - length xs) ∙ sym (ap (λ z. z ++ drop (n - length xs) ys) (drop_all n xs (omega arith)))
  | inr within ↦
      let e : n - length xs ≡ 0 = omega arith in
      drop-append-le n xs ys within ∙ ap (λ k. drop n xs ++ drop k ys) (sym e)
]

-- all of a list goes in where there is room
pub filled : (n room : ℕ) (more : List ℕ) → n ≡ min (length more) room → length more ≤ room → take n more ≡ more
filled n room more e l = take_all n more (omega arith)

-- the last items are the list without its front, at most all of it
pub kept_last : (n step gone : ℕ) (xs : List ℕ) → n ≡ length xs → gone ≡ min step n → keep_last (n - gone) xs ≡ drop step xs
kept_last n step gone xs e g =
    let k : length xs - (n - gone) ≡ min step (length xs) = omega arith in
    ap (λ i. drop i xs) k ∙ drop_min step xs
