-- The least call number by which two lists of calls differ, once they are known to have the same entries at the front.
use Rattle.std.proofs.Common.{◌≡◌, ◌≢◌, ℕ, suc, ◌<◌, ◌≤◌, inl, inr, List, [], ◌∷◌, ◌++◌, length, get_or, take, drop, min, Some, None, eqb, refl, sym, ◌∙◌, ap}
use Rattle.std.proofs.Common.{subst, arith}
use Rattle.std.specs.List.{All}
use Rattle.std.specs.Option.{option_or}
use Rattle.std.proofs.lemmas.Bool.{ne_eqb, cases_order}
use Rattle.std.proofs.lemmas.Bool.Decides.{Decides-eqb}
use Rattle.std.proofs.lemmas.List.{take-append-drop}
use Rattle.std.proofs.lemmas.List.Folds.{find-append}
use Rattle.std.proofs.lemmas.List.Elements.{All-head, All-tail, All-cons}
use Rattle.std.proofs.Math.ListN.{drop_of_length-le}
use Rattle.std.proofs.Math.Seq.{drop-cons}
use Rattle.farm_checkpoint.specs.declared.mark.MarkCall.{MarkCall}
use Rattle.farm_checkpoint.specs.Marks.{NumbersRise}
use Rattle.farm_checkpoint.specs.Differences.{entry_of, IsLeastDifference, DifferAt}
use Rattle.farm_checkpoint.proofs.Rising.{front_below, back_above}

-- a number that no entry has
abbrev pub HasNot : ℕ → List MarkCall → Type 0
HasNot c calls = All (λ e. e.call ≢ c) calls

no_entry : (c : ℕ) (calls : List MarkCall) → HasNot c calls → entry_of calls c ≡ None
no_entry c [] has = refl
no_entry c (x ∷ calls) has = rw (ne_eqb x.call c (All-head (λ e. e.call ≢ c) x calls has)) (no_entry c calls (All-tail (λ e. e.call ≢ c) x calls has))

own_entry : (x : MarkCall) (calls : List MarkCall) → entry_of (x ∷ calls) x.call ≡ Some x
own_entry x calls = rw ((Decides-eqb x.call x.call).1 refl) refl

all_below : (c : ℕ) (calls : List MarkCall) (n : ℕ) → n ≤ c → All (λ e. e.call < n) calls → HasNot c calls
all_below c calls n low below = λ i d within e. omega (arith, low, e, below i d within)

all_above : (c : ℕ) (calls : List MarkCall) (n : ℕ) → c ≤ n → All (λ e. n < e.call) calls → HasNot c calls
all_above c calls n low above = λ i d within e. omega (arith, low, e, above i d within)

-- no entry from one on has a smaller number
from_here : (front : List MarkCall) (x : MarkCall) (back : List MarkCall) (c : ℕ) → NumbersRise (front ++ x ∷ back) → c < x.call → HasNot c (x ∷ back)
from_here front x back c rises low = All-cons (λ e. e.call ≢ c) x back (λ e. omega (arith, low, e))
    (all_above c back x.call (omega (arith, low)) (back_above front x back rises))

-- the entries of a number that is in no common front
entry_behind : (c : ℕ) (front back : List MarkCall) → HasNot c front → entry_of (front ++ back) c ≡ entry_of back c
entry_behind c front back has = find-append (λ e. eqb e.call c) front back ∙ ap (λ o. option_or o (entry_of back c)) (no_entry c front has)

-- and of one that only the front can have
same_entry : (d : ℕ) (front back others : List MarkCall) → HasNot d back → HasNot d others → entry_of (front ++ back) d ≡ entry_of (front ++ others) d
same_entry d front back others has has' =
    find-append (λ e. eqb e.call d) front back
    ∙ ap (λ o. option_or (entry_of front d) o) (no_entry d back has ∙ sym (no_entry d others has'))
    ∙ sym (find-append (λ e. eqb e.call d) front others)

some_none : (x : MarkCall) → Some x ≡ None → ⊥
some_none x e = cc

some_some : (x y : MarkCall) → Some x ≡ Some y → x ≡ y
some_some x y e = cc

-- one list is longer
pub one_longer : (front : List MarkCall) (x : MarkCall) (back : List MarkCall) → NumbersRise (front ++ x ∷ back) →
    IsLeastDifference (front ++ x ∷ back) (front ++ []) x.call
one_longer front x back rises = record {
  differs = λ e. some_none x (sym (own_entry x back) ∙ sym (entry_behind x.call front (x ∷ back) lacks) ∙ e ∙ entry_behind x.call front [] lacks);
  least = λ d low. same_entry d front (x ∷ back) [] (from_here front x back d rises low) (λ i e within. absurd (omega (arith, within)));
}
  where
    lacks : HasNot x.call front
    lacks = all_below x.call front x.call (omega arith) (front_below front x back rises)

pub turned : (one other : List MarkCall) (c : ℕ) → IsLeastDifference one other c → IsLeastDifference other one c
turned one other c is = record { differs = λ e. is.differs (sym e); least = λ d low. sym (is.least d low) }

-- the first list has the smaller number first
pub one_first : (front : List MarkCall) (x y : MarkCall) (back others : List MarkCall) → NumbersRise (front ++ x ∷ back) →
    NumbersRise (front ++ y ∷ others) → x.call < y.call →
    IsLeastDifference (front ++ x ∷ back) (front ++ y ∷ others) x.call
one_first front x y back others rises rises' low = record {
  differs = λ e. some_none x (sym (own_entry x back) ∙ sym (entry_behind x.call front (x ∷ back) lacks) ∙ e
      ∙ entry_behind x.call front (y ∷ others) lacks ∙ no_entry x.call (y ∷ others) (from_here front y others x.call rises' low));
  least = λ d less. same_entry d front (x ∷ back) (y ∷ others) (from_here front x back d rises less)
      (from_here front y others d rises' (omega (arith, less, low)));
}
  where
    lacks : HasNot x.call front
    lacks = all_below x.call front x.call (omega arith) (front_below front x back rises)

-- both have an entry of this number
pub both_have : (front : List MarkCall) (x y : MarkCall) (back others : List MarkCall) → NumbersRise (front ++ x ∷ back) →
    NumbersRise (front ++ y ∷ others) → x.call ≡ y.call → x ≢ y →
    IsLeastDifference (front ++ x ∷ back) (front ++ y ∷ others) x.call
both_have front x y back others rises rises' same differ = record {
  differs = λ e. differ (some_some x y (sym (own_entry x back) ∙ sym (entry_behind x.call front (x ∷ back) lacks) ∙ e
      ∙ entry_behind x.call front (y ∷ others) lacks ∙ ap (entry_of (y ∷ others)) same ∙ own_entry y others));
  least = λ d less. same_entry d front (x ∷ back) (y ∷ others) (from_here front x back d rises less)
      (from_here front y others d rises' (omega (arith, less, same)));
}
  where
    lacks : HasNot x.call front
    lacks = all_below x.call front x.call (omega arith) (front_below front x back rises)

-- whichever number is smaller
pub either_first : (front : List MarkCall) (x y : MarkCall) (back others : List MarkCall) → NumbersRise (front ++ x ∷ back) →
    NumbersRise (front ++ y ∷ others) → x ≢ y →
    IsLeastDifference (front ++ x ∷ back) (front ++ y ∷ others) (min x.call y.call)
either_first front x y back others rises rises' differ =
    elim (cases_order x.call y.call) [
      | inl same ↦ at (omega (arith, same)) (both_have front x y back others rises rises' same differ)
      | inr (inl less) ↦ at (omega (arith, less)) (one_first front x y back others rises rises' less)
      | inr (inr more) ↦ at (omega (arith, more)) (turned _ _ y.call (one_first front y x others back rises' rises more))
    ]
  where
    at : {c : ℕ} → c ≡ min x.call y.call → IsLeastDifference (front ++ x ∷ back) (front ++ y ∷ others) c →
        IsLeastDifference (front ++ x ∷ back) (front ++ y ∷ others) (min x.call y.call)
    at same is = subst (IsLeastDifference (front ++ x ∷ back) (front ++ y ∷ others)) same is

-- a list with an entry at a place: those in front, the entry, and those behind
parted : (calls : List MarkCall) (n : ℕ) (x : MarkCall) → n < length calls → x ≡ get_or calls n x → calls ≡ take n calls ++ x ∷ drop (suc n) calls
parted calls n x within is = sym (take-append-drop n calls)
    ∙ ap (λ t. take n calls ++ t) (drop-cons calls n x within ∙ ap (λ y. y ∷ drop (suc n) calls) (sym is))

-- and one that ends there
all_front : (calls : List MarkCall) (n : ℕ) → length calls ≤ n → calls ≡ take n calls ++ []
all_front calls n end = sym (take-append-drop n calls) ∙ ap (λ t. take n calls ++ t) (drop_of_length-le calls end)

-- two lists whose first entries are the same, and the next ones aren't
pub both_go_on : (one other : List MarkCall) (n : ℕ) (x y : MarkCall) → NumbersRise one → NumbersRise other → take n one ≡ take n other → DifferAt one other n →
    n < length one → x ≡ get_or one n x → n < length other → y ≡ get_or other n y → IsLeastDifference one other (min x.call y.call)
both_go_on one other n x y rises rises' same differ within at within' at' =
    subst (λ calls. IsLeastDifference calls other (min x.call y.call)) (sym mine)
    (subst (λ calls. IsLeastDifference (take n one ++ x ∷ drop (suc n) one) calls (min x.call y.call)) (sym others)
    (either_first (take n one) x y (drop (suc n) one) (drop (suc n) other) (subst NumbersRise mine rises) (subst NumbersRise others rises')
    (λ e. differ x (sym at ∙ e ∙ at' ∙ ap (λ d. get_or other n d) (sym e)))))
  where
    mine : one ≡ take n one ++ x ∷ drop (suc n) one
    mine = parted one n x within at

    others : other ≡ take n one ++ y ∷ drop (suc n) other
    others = parted other n y within' at' ∙ ap (λ front. front ++ y ∷ drop (suc n) other) (sym same)

-- and two of which the first goes on alone
pub one_goes_on : (one other : List MarkCall) (n : ℕ) (x : MarkCall) → NumbersRise one → take n one ≡ take n other → n < length one → x ≡ get_or one n x →
    length other ≤ n → IsLeastDifference one other x.call
one_goes_on one other n x rises same within at end =
    subst (λ calls. IsLeastDifference calls other x.call) (sym mine)
    (subst (λ calls. IsLeastDifference (take n one ++ x ∷ drop (suc n) one) calls x.call) (sym others)
    (one_longer (take n one) x (drop (suc n) one) (subst NumbersRise mine rises)))
  where
    mine : one ≡ take n one ++ x ∷ drop (suc n) one
    mine = parted one n x within at

    others : other ≡ take n one ++ []
    others = all_front other n end ∙ ap (λ front. front ++ []) (sym same)
