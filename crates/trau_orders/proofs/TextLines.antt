-- For crates above: the first line of a text (`first_line`), and none of an empty one (`no_line`).
-- The lines of a text, the first first.
use Rattle.std.proofs.Common.{◌≡◌, ◌≢◌, ◌<◌, ℕ, List, [], ◌∷◌, ◌++◌, length, Option, None, Some, eqb, false, refl, ◌∙◌, ap, arith}
use Rattle.std.specs.Prelude.{IfSome, IsNone}
use Rattle.std.specs.Option.{option_or}
use Rattle.std.specs.List.{onto_first}
use Rattle.std.proofs.lemmas.List.{length-append}
use Rattle.std.proofs.lemmas.List.Elements.{All-head, All-tail}
use Rattle.decimal_number.specs.Splits.{Lacks, SplitsAt}
use Rattle.trau_orders.specs.Text.{text_lines}

-- one more octet of a line
within_line : (b : ℕ) (bs : List ℕ) → eqb b 10 ≡ false → text_lines (b ∷ bs) ≡ onto_first b (text_lines bs)
unfolding text_lines
within_line b bs lacks = rw lacks refl

line_ends : (front back : List ℕ) → Lacks 10 front → text_lines (front ++ 10 ∷ back) ≡ front ∷ text_lines back
unfolding text_lines
line_ends [] back lacks = refl
line_ends (b ∷ bs) back lacks =
    within_line b (bs ++ 10 ∷ back) (All-head (λ x. eqb x 10 ≡ false) b bs lacks)
    ∙ ap (onto_first b) (line_ends bs back (All-tail (λ x. eqb x 10 ≡ false) b bs lacks))

-- a text that splits at an LF has the front as its first line
pub first_line : (text front back : List ℕ) → SplitsAt 10 text front back → text_lines text ≡ front ∷ text_lines back
first_line text front back at = ap text_lines at.whole ∙ line_ends front back at.front_lacks

pub rest_shorter : (text front back : List ℕ) → SplitsAt 10 text front back → length back < length text
rest_shorter text front back at = omega (arith, ap length at.whole, length-append front (10 ∷ back))

-- a text without an LF is one line, if it is anything
pub last_line : (b : ℕ) (bs : List ℕ) → Lacks 10 (b ∷ bs) → text_lines (b ∷ bs) ≡ (b ∷ bs) ∷ []
unfolding text_lines
last_line b [] lacks = within_line b [] (All-head (λ x. eqb x 10 ≡ false) b [] lacks)
last_line b (a ∷ as') lacks =
    within_line b (a ∷ as') (All-head (λ x. eqb x 10 ≡ false) b (a ∷ as') lacks)
    ∙ ap (onto_first b) (last_line a as' (All-tail (λ x. eqb x 10 ≡ false) b (a ∷ as') lacks))

pub only_line : (text : List ℕ) → Lacks 10 text → length text ≢ 0 → text_lines text ≡ text ∷ []
only_line [] lacks some = absurd (some refl)
only_line (b ∷ bs) lacks some = last_line b bs lacks

pub no_line : text_lines [] ≡ []
unfolding text_lines
no_line = refl

-- by whether the first of two options is there
pub of_or : {X : Type 0} (r : Option X) (x : X) (P Q : X → Type 0) → IfSome r P → (IsNone r → Q x) → ((y : X) → P y → Q y) → IfSome (option_or r (Some x)) Q
of_or None x P Q found otherwise on = otherwise refl
of_or (Some y) x P Q found otherwise on = on y found

pub some_of_or : {X : Type 0} (r : Option X) (x : X) → IsNone (option_or r (Some x)) → ⊥
some_of_or None x none = cc
some_of_or (Some y) x none = cc
