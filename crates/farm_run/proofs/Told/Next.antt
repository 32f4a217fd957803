-- One end more of a list: which calls are told then, and which partners are left.
use Rattle.std.proofs.Common.{◌≡◌, refl, sym, ap, ◌∙◌, ℕ, zero, suc, ◌+◌, ◌<◌, Bool, true, false, not, ◌&&◌, ◌||◌, Option, Some, None, List, [], ◌∷◌, ◌++◌}
use Rattle.std.proofs.Common.{length, take, get_or, inl, inr, arith}
use Rattle.std.specs.Prelude.{◌==◌, if◌then◌else◌}
use Rattle.std.specs.List.{list_any}
use Rattle.std.proofs.Math.Bool.{or-false}
use Rattle.std.proofs.lemmas.Bool.{cases_Bool, eqb-true, eq-eqb, or_parts}
use Rattle.std.proofs.lemmas.List.{take_more}
use Rattle.trau_io.specs.declared.ends.CallEnd.{CallEnd}
use Rattle.trau_io.specs.declared.ends.Cause.TheVariants.{Closed}
use Rattle.switchboard.specs.Calls.{is_this}
use Rattle.switchboard.specs.Open.{partner_without}
use Rattle.farm_run.specs.Ending.{AreApart, has_left, partner_past, is_told}

-- stands in a list of ends where there is none
abbrev pub no_end : CallEnd
no_end = record { call = 0; at = 0; cause = Closed }

-- one element more of a list
pub front : {A : Type 0} (xs : List A) (i : ℕ) (x : A) → i < length xs → x ≡ get_or xs i x → take (i + 1) xs ≡ take i xs ++ x ∷ []
front xs i x less is = take_more xs i x less ∙ ap (λ y. take i xs ++ y ∷ []) (sym is)

abbrev no_number : Option ℕ
no_number = None

is_false : (b : Bool) → (b ≡ true → ⊥) → b ≡ false
is_false false h = refl
is_false true h = absurd (h refl)

-- the order of two compared numbers doesn't matter
pub eqb-sym : (m n : ℕ) → (m == n) ≡ (n == m)
eqb-sym m n = elim (cases_Bool (m == n)) [
  | inl q ↦ q ∙ sym (eq-eqb n m (sym (eqb-true m n q)))
  | inr q ↦ q ∙ sym (is_false (n == m) (λ k. let f = eq-eqb m n (sym (eqb-true n m k)) in cc))
]

-- ---- one end more

-- **A call's end is told where it was told before, or is this one.**
pub any_next : {A : Type 0} (p : A → Bool) (xs : List A) (x : A) → list_any p (xs ++ x ∷ []) ≡ (list_any p xs || p x)
any_next p [] x = or-false (p x)
any_next p (y ∷ xs) x = ap (λ (b : Bool). p y || b) (any_next p xs x) ∙ assoc (p y) (list_any p xs) (p x)
  where
    assoc : (a b c : Bool) → (a || (b || c)) ≡ ((a || b) || c)
    assoc true b c = refl
    assoc false b c = refl

-- **Its call is open no more.**
pub open_more : (b s o t : Bool) → o ≡ (b && not s) → (if t then false else o) ≡ (b && not (s || t))
open_more true true o true e = refl
open_more true false o true e = refl
open_more false s o true e = refl
open_more true true o false e = e
open_more true false o false e = e
open_more false s o false e = e

-- a partner has left where it had before, or is the call of this end
left_next : (o : Option ℕ) (ends : List CallEnd) (e : CallEnd) → has_left o (ends ++ e ∷ []) ≡ (has_left o ends || is_this e.call o)
left_next None ends e = refl
left_next (Some p) ends e = any_next (λ d. p == d.call) ends e ∙ ap (λ b. is_told p ends || b) (eqb-sym p e.call)

-- After an end, neither its call nor the partner has a partner, and the others keep theirs.
module _ (was : ℕ → Option ℕ) (both : (c p : ℕ) → was c ≡ Some p → was p ≡ Some c)
    (ends : List CallEnd) (e : CallEnd) (new : is_told e.call ends ≡ false) where
  -- no partner stays none
  none_if : (b : Bool) → (if b then None else None) ≡ no_number
  none_if true = refl
  none_if false = refl

  -- the end's call is the partner of c where c is its partner
  each_other : (c p : ℕ) → was c ≡ Some p → is_told c ends ≡ false → is_this c (partner_past ends was e.call) ≡ is_this e.call (Some p)
  each_other c p k l = by (was e.call) refl
    where
      some : (a b : ℕ) → Some a ≡ Some b → a ≡ b
      some a b q = cc

      pick : (s : Bool) (o : Option ℕ) → s ≡ false → is_this c (if is_told e.call ends || s then None else o) ≡ is_this c o
      pick false o q = ap (λ b. is_this c (if b || false then None else o)) new
      pick true o q = cc

      by : (o : Option ℕ) → was e.call ≡ o → is_this c (if is_told e.call ends || has_left o ends then None else o) ≡ (e.call == p)
      by None q =
          ap (is_this c) (none_if (is_told e.call ends || false)) ∙ sym
          (is_false (e.call == p) (λ h. let g : was e.call ≡ Some c = ap was (eqb-true e.call p h) ∙ both c p k in cc))
      by (Some d) q = elim (cases_Bool (e.call == p)) [
        | inl h ↦
            let g : Some d ≡ Some c = sym q ∙ ap was (eqb-true e.call p h) ∙ both c p k in
            let f = some d c g in
            pick (is_told d ends) (Some d) (ap (λ m. is_told m ends) f ∙ l) ∙ eq-eqb c d (sym f) ∙ sym h
        | inr h ↦ apart (is_told e.call ends || is_told d ends) (λ f. let g : Some e.call ≡ Some p = sym (both e.call d q) ∙ ap was (sym (eqb-true c d f))
            ∙ k in let m = eq-eqb e.call p (some e.call p g) in cc) ∙ sym h
      ]
        where
          apart : (s : Bool) → ((c == d) ≡ true → ⊥) → is_this c (if s then None else Some d) ≡ false
          apart true f = refl
          apart false f = is_false (c == d) f

  -- **After one end more, partners are those that these ends leave.**
  pub partner_more : (now : ℕ → Option ℕ) → ((c : ℕ) → now c ≡ partner_past ends was c) → (c : ℕ) →
      partner_without e.call now c ≡ partner_past (ends ++ e ∷ []) was c
  partner_more now h c =
      ap (λ o. if c == e.call || is_this c o then None else now c) (h e.call)
      ∙ ap (λ o. if c == e.call || is_this c (partner_past ends was e.call) then None else o) (h c)
      ∙ by (was c) refl
      ∙ ap (λ b. if b || (has_left (was c) ends || is_this e.call (was c)) then None else was c) (sym (any_next (λ d. c == d.call) ends e))
      ∙ ap (λ b. if is_told c (ends ++ e ∷ []) || b then None else was c) (sym (left_next (was c) ends e))
    where
      step : (p : ℕ) (n j s t q : Bool) → (s ≡ false → j ≡ q) → (if n || j then None else if s || t then None else Some p)
          ≡ (if (s || n) || (t || q) then None else Some p)
      step p true j true t q h = refl
      step p true j false t q h = refl
      step p false true true t q h = refl
      step p false false true t q h = refl
      step p false true false true q h = refl
      step p false true false false true h = refl
      step p false true false false false h = let k = h refl in cc
      step p false false false true q h = refl
      step p false false false false false h = refl
      step p false false false false true h = let k = h refl in cc

      by : (o : Option ℕ) → was c ≡ o →
          (if c == e.call || is_this c (partner_past ends was e.call) then None else if is_told c ends || has_left o ends then None else o)
          ≡ (if (is_told c ends || c == e.call) || (has_left o ends || is_this e.call o) then None else o)
      by None q =
          ap (λ o. if c == e.call || is_this c (partner_past ends was e.call) then None else o) (none_if (is_told c ends || false))
          ∙ none_if (c == e.call || is_this c (partner_past ends was e.call)) ∙ sym (none_if ((is_told c ends || c == e.call) || false))
      by (Some p) q = step p (c == e.call) (is_this c (partner_past ends was e.call)) (is_told c ends) (is_told p ends) (e.call == p) (each_other c p q)

-- **No end before this one is of its call.**
pub apart_front : (ends : List CallEnd) (i : ℕ) (e : CallEnd) → AreApart ends → i < length ends →
    e ≡ get_or ends i e → is_told e.call (take i ends) ≡ false
apart_front [] i e a l is = absurd (omega arith)
apart_front (d ∷ ends) zero e a l is = refl
apart_front (d ∷ ends) (suc i) e a l is = by (e.call == d.call) refl (apart_front ends i e a.1 (omega arith) is)
  where
    among : (c : ℕ) (ends : List CallEnd) (i : ℕ) (e : CallEnd) → i < length ends →
        e ≡ get_or ends i e → is_told c ends ≡ false → (c == e.call) ≡ false
    among c [] i e l is f = absurd (omega arith)
    among c (d ∷ ends) zero e l is f = ap (λ (x : CallEnd). c == x.call) is ∙ (or_parts (c == d.call) (is_told c ends) f).0
    among c (d ∷ ends) (suc i) e l is f = among c ends i e (omega arith) is (or_parts (c == d.call) (is_told c ends) f).1

    by : (b : Bool) → (e.call == d.call) ≡ b → is_told e.call (take i ends) ≡ false → (b || is_told e.call (take i ends)) ≡ false
    by false q h = h
    by true q h = let g = eq-eqb d.call e.call (sym (eqb-true e.call d.call q)) in let f = among d.call ends i e (omega arith) is a.0 in cc
