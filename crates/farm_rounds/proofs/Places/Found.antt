-- The open calls by their numbers: the one with a number, in whatever list is made of them.
use Rattle.std.proofs.Common.{◌≡◌, refl, sym, ap, ◌∙◌, ℕ, zero, suc, ◌<◌, true, Option, Some, None, is_some, List, [], ◌∷◌, length, get_or, arith, inl, inr}
use Rattle.std.specs.Prelude.{◌==◌, map}
use Rattle.std.specs.Option.{option_map, option_and_then}
use Rattle.std.specs.List.{All, find}
use Rattle.std.proofs.lemmas.Bool.{cases_Bool, eqb-true, eq-eqb, ne_eqb}
use Rattle.std.proofs.lemmas.List.{get_or-map, length-map}
use Rattle.round_lines.specs.Portions.{PortionMemory}
use Rattle.farm_rounds.specs.declared.open.OpenCall.{OpenCall}
use Rattle.farm_rounds.specs.Calls.{Kept, kept_in, partner_in}
use Rattle.farm_rounds.specs.Numbers.{IsRising, is_among}
use Rattle.farm_rounds.specs.Opens.{kept_of, portion_of_open}
use Rattle.farm_rounds.specs.Opened.{Standing, standing_of_open, no_open}
use Rattle.farm_rounds.proofs.Places.Numbered.{found_map, found_is, found_same, among_found}

abbrev pub number_of : OpenCall → ℕ
number_of o = o.job.io.call

-- the call with a number
abbrev pub open_in : List OpenCall → ℕ → Option OpenCall
open_in os c = find (λ o. o.job.io.call == c) os

-- what holds of whatever it is
pub all_of : {A : Type 0} (P : A → Type 0) (xs : List A) → ((x : A) → P x) → All P xs
all_of P xs h k d l = h (get_or xs k d)

-- ---- one that is found

pub record IsFound (os : List OpenCall) (c : ℕ) (o : OpenCall) : Type 0 where
  pub index : ℕ
  pub inside : index < length os
  pub there : get_or os index no_open ≡ o
  pub number : o.job.io.call ≡ c

some_same : (x y : OpenCall) → Some x ≡ Some y → x ≡ y
some_same x y e = cc

none_some : (y : OpenCall) → None ≡ Some y → ⊥
none_some y e = cc

pub is_found : (os : List OpenCall) (c : ℕ) (o : OpenCall) → open_in os c ≡ Some o → IsFound os c o
is_found [] c o e = absurd (none_some o e)
is_found (x ∷ os) c o e = elim (cases_Bool (x.job.io.call == c)) [
  | inl t ↦
      let same : x ≡ o = some_same x o (rw t at e) in
      record { index = 0; inside = omega arith; there = same; number = ap number_of (sym same) ∙ eqb-true x.job.io.call c t }
  | inr f ↦
      let r = is_found os c o (rw f at e) in
      let l = r.inside in
      record { index = suc r.index; inside = omega (arith, l); there = r.there; number = r.number }
]

-- what holds of all calls holds of it
pub found_all : (P : OpenCall → Type 0) (os : List OpenCall) (c : ℕ) (o : OpenCall) → open_in os c ≡ Some o → All P os → P o
found_all P os c o e a = (found_is number_of P os c o a e).0

-- its number is there
pub found_among : (os : List OpenCall) (c : ℕ) (o : OpenCall) → open_in os c ≡ Some o → is_among (map number_of os) c ≡ true
found_among os c o e = among_found number_of os c ∙ ap (λ (x : Option OpenCall). is_some x) e

-- each call is found by its own number
pub find_at : (os : List OpenCall) (k : ℕ) → IsRising (map number_of os) → k < length os →
    open_in os (get_or os k no_open).job.io.call ≡ Some (get_or os k no_open)
find_at [] k rising l = absurd (omega arith)
find_at (x ∷ os) zero rising l = rw (eq-eqb x.job.io.call x.job.io.call refl) refl
find_at (x ∷ os) (suc k) rising l =
    let tail : IsRising (map number_of os) = λ i j b m. rising (suc i) (suc j) (omega (arith, b)) (omega (arith, m)) in
    let up : x.job.io.call < get_or (map number_of os) k 0 = rising 0 (suc k) (omega arith) (omega (arith, l, length-map os number_of)) in
    let same : get_or (map number_of os) k 0 ≡ (get_or os k no_open).job.io.call = get_or-map number_of os k no_open 0 (omega (arith, l)) in
    rw (ne_eqb x.job.io.call (get_or os k no_open).job.io.call (λ q. absurd (omega (arith, up, same, q)))) (find_at os k tail (omega (arith, l)))

-- ---- what is made of each call

pub kept_by : (os : List OpenCall) (c : ℕ) → kept_in (map kept_of os) c ≡ option_map kept_of (open_in os c)
kept_by os c = found_map (λ (k : Kept). k.call.number == c) kept_of os

pub standing_by : (os : List OpenCall) (c : ℕ) → find (λ s. s.number == c) (map standing_of_open os) ≡ option_map standing_of_open (open_in os c)
standing_by os c = found_map (λ (s : Standing). s.number == c) standing_of_open os

pub portion_by : (os : List OpenCall) (c : ℕ) → All (λ o. o.lines.call ≡ o.job.io.call) os →
    find (λ s. s.lines.call == c) (map portion_of_open os) ≡ option_map portion_of_open (open_in os c)
portion_by os c same =
    found_map (λ (s : PortionMemory). s.lines.call == c) portion_of_open os
    ∙ ap (λ (x : Option OpenCall). option_map portion_of_open x) (found_same number_of (λ (o : OpenCall). o.lines.call) os c same)

-- calls that keep their numbers
pub changed_by : (g : OpenCall → OpenCall) (os : List OpenCall) (c : ℕ) → All (λ o. (g o).job.io.call ≡ o.job.io.call) os →
    open_in (map g os) c ≡ option_map g (open_in os c)
changed_by g os c same =
    found_map (λ (o : OpenCall). o.job.io.call == c) g os
    ∙ ap (λ (x : Option OpenCall). option_map g x) (found_same number_of (λ (o : OpenCall). (g o).job.io.call) os c same)

-- ---- partners

pub partner_by : (os : List OpenCall) (c : ℕ) → partner_in (map kept_of os) c ≡ option_and_then (λ k. k.partner) (option_map kept_of (open_in os c))
partner_by os c = ap (option_and_then (λ (k : Kept). k.partner)) (kept_by os c)

pub partner_found : (os : List OpenCall) (c : ℕ) (o : OpenCall) → open_in os c ≡ Some o → partner_in (map kept_of os) c ≡ o.partner
partner_found os c o e = partner_by os c ∙ ap (λ (x : Option OpenCall). option_and_then (λ (k : Kept). k.partner) (option_map kept_of x)) e

pub partner_none : (os : List OpenCall) (c : ℕ) → open_in os c ≡ None → partner_in (map kept_of os) c ≡ None
partner_none os c e = partner_by os c ∙ ap (λ (x : Option OpenCall). option_and_then (λ (k : Kept). k.partner) (option_map kept_of x)) e

-- a call with a partner is open
pub record HasPartner (os : List OpenCall) (c d : ℕ) : Type 0 where
  pub call : OpenCall
  pub found : open_in os c ≡ Some call
  pub partner : call.partner ≡ Some d

pub has_partner : (os : List OpenCall) (c d : ℕ) → partner_in (map kept_of os) c ≡ Some d → HasPartner os c d
has_partner os c d e = by (open_in os c) refl where
  none : None ≡ Some d → ⊥
  none q = cc

  by : (x : Option OpenCall) → open_in os c ≡ x → HasPartner os c d
  by None q = absurd (none (sym (partner_none os c q) ∙ e))
  by (Some o) q = record { call = o; found = q; partner = sym (partner_found os c o q) ∙ e }
