-- For crates above: a list of bits has one list of yields (`same_yields`).
use Rattle.std.proofs.Common.{◌≡◌, ℕ, List, [], ◌∷◌, ◌++◌, reverse, refl, sym, ap, ◌∙◌, subst, inl, inr}
use Rattle.std.proofs.lemmas.Bool.{cases_order, cases_Bool}
use Rattle.std.proofs.lemmas.List.{append-nil}
use Rattle.trau_frame.specs.Match.{bit_in, is_match}
use Rattle.frame_sync.specs.declared.yields.Yield.{Yield}
use Rattle.frame_sync.specs.Yields.{IsFirstMatch, frame_or_miss, place_of, end_of_yields, hunts, IsNextYield, Yields}
use Rattle.frame_sync.proofs.Modes.{both_ways, reverse-onto}

-- the least match is one
least : (line : ℕ → ℕ) (low p q : ℕ) → IsFirstMatch line low p → IsFirstMatch line low q → p ≡ q
least line low p q a b = elim (cases_order p q) [
  | inl e ↦ e
  | inr o ↦ elim o [
    | inl l ↦ absurd (both_ways (is_match line p) a.2 (b.1 p a.0 l))
    | inr g ↦ absurd (both_ways (is_match line q) b.2 (a.1 q b.0 g))
  ]
]

-- only one yield follows others
one_follows : (bits : List ℕ) (past : List Yield) (y z : Yield) → IsNextYield bits past y → IsNextYield bits past z → y ≡ z
one_follows bits past y z f g =
    let place : place_of y ≡ place_of z = elim (cases_Bool (hunts past)) [
      | inl h ↦ least (bit_in bits) (end_of_yields past) (place_of y) (place_of z) (f.hunting h) (g.hunting h)
      | inr h ↦ f.locked h ∙ sym (g.locked h)
    ] in
    f.kind ∙ ap (frame_or_miss (bit_in bits)) place ∙ sym g.kind

-- these yields are all that follow the past ones, which have the newest first
record AllFollow (bits : List ℕ) (past ys : List Yield) : Type 0 where
  each : (before after : List Yield) (y : Yield) → ys ≡ before ++ y ∷ after → IsNextYield bits (reverse before ++ past) y
  none : (y : Yield) → IsNextYield bits (reverse ys ++ past) y → ⊥

-- those behind the first follow it
all-rest : (bits : List ℕ) (past : List Yield) (y : Yield) (ys : List Yield) → AllFollow bits past (y ∷ ys) → AllFollow bits (y ∷ past) ys
all-rest bits past y ys a = record {
  each = λ before after z e.
      subst (λ l. IsNextYield bits l z) (reverse-onto y before past) (a.each (y ∷ before) after z (ap (λ l. y ∷ l) e));
  none = λ z f. a.none z (subst (λ l. IsNextYield bits l z) (sym (reverse-onto y ys past)) f);
}

-- so there is only one list of yields from these on
same_all : (bits : List ℕ) (past ys zs : List Yield) → AllFollow bits past ys → AllFollow bits past zs → ys ≡ zs
same_all bits past [] [] a b = refl
same_all bits past [] (z ∷ zs) a b = absurd (a.none z (b.each [] zs z refl))
same_all bits past (y ∷ ys) [] a b = absurd (b.none y (a.each [] ys y refl))
same_all bits past (y ∷ ys) (z ∷ zs) a b =
    let head : y ≡ z = one_follows bits past y z (a.each [] ys y refl) (b.each [] zs z refl) in
    let rest : ys ≡ zs =
    same_all bits (z ∷ past) ys zs (subst (λ x. AllFollow bits (x ∷ past) ys) head (all-rest bits past y ys a)) (all-rest bits past z zs b) in
    cc

-- and of a whole line
all-from : (bits : List ℕ) (ys : List Yield) → Yields bits ys → AllFollow bits [] ys
all-from bits ys y = record {
  each = λ before after z e. subst (λ l. IsNextYield bits l z) (sym (append-nil (reverse before))) (y.0 before after z e);
  none = λ z f. y.1 z (subst (λ l. IsNextYield bits l z) (append-nil (reverse ys)) f);
}

pub same_yields : (bits : List ℕ) (ys zs : List Yield) → Yields bits ys → Yields bits zs → ys ≡ zs
same_yields bits ys zs y z = same_all bits [] ys zs (all-from bits ys y) (all-from bits zs z)
