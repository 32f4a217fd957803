-- For crates above: one more item of a list appends its own list, or lists one item or none (`appended_more`,
-- `listed_more`).
use Rattle.std.proofs.Common.{◌≡◌, sym, ap, ◌∙◌, ℕ, ◌+◌, ◌<◌, Option, List, [], ◌∷◌, ◌++◌, length, get_or, take, append_assoc, append-nil}
use Rattle.std.specs.List.{filter_map, cons_option, flat_map}
use Rattle.std.proofs.lemmas.List.{take_more}
use Rattle.std.proofs.lemmas.Grind.{flat_map-append}
use Rattle.std.proofs.lemmas.List.Elements.{filter_map-append}

-- one more element is listed, or none
pub listed_more : {A B : Type 0} (f : A → Option B) (xs : List A) (i : ℕ) (base ys : List B) (x : A)
    (o : Option B) → i < length xs → x ≡ get_or xs i x → f x ≡ o → ys ≡ base ++ filter_map f (take i xs) →
    ys ++ cons_option o [] ≡ base ++ filter_map f (take (i + 1) xs)
listed_more f xs i base ys x o less is e h =
    ap (λ l. l ++ cons_option o []) h ∙ append_assoc base (filter_map f (take i xs)) (cons_option o [])
    ∙ ap (λ l. base ++ l) (ap (λ o. filter_map f (take i xs) ++ cons_option o []) (sym e ∙ ap f is)
    ∙ sym (ap (filter_map f) (take_more xs i x less) ∙ filter_map-append f (take i xs) (get_or xs i x ∷ [])))

-- one more element's list is appended
pub appended_more : {A B : Type 0} (f : A → List B) (xs : List A) (i : ℕ) (base ys zs : List B)
    (x : A) → i < length xs → x ≡ get_or xs i x → zs ≡ ys ++ f x → ys ≡ base ++ flat_map f (take i xs) → zs ≡ base ++ flat_map f (take (i + 1) xs)
appended_more f xs i base ys zs x less is e h =
    e ∙ ap (λ l. l ++ f x) h ∙ append_assoc base (flat_map f (take i xs)) (f x)
    ∙ ap (λ l. base ++ l) (ap (λ y. flat_map f (take i xs) ++ f y) is ∙ ap (λ l. flat_map f (take i xs) ++ l) (sym (append-nil (f (get_or xs i x))))
    ∙ sym (ap (flat_map f) (take_more xs i x less) ∙ flat_map-append f (take i xs) (get_or xs i x ∷ [])))
