-- Words that ask for the base station's end.
use Rattle.std.proofs.Common.{◌≡◌, ℕ, ◌%◌, List, [], ◌∷◌, length, map, get_or, sym, ◌∙◌, subst, arith}
use Rattle.std.specs.Prelude.{codes, decimal}
use Rattle.std.proofs.lemmas.Fmt.{decimal_injective}
use Rattle.clap.specs.Words.{Text}
use Rattle.decimal_number.specs.Number.{IsNumber}
use Rattle.command_words.specs.Follow.{IsWanted, NamesFollow}

-- they name one call and one place
pub one_follow : (words : List Text) (c d m n : ℕ) → NamesFollow words c m → NamesFollow words d n → (c ≡ d) × (m ≡ n)
one_follow words c d m n first second =
    let is = first.spelled in
    let also = second.spelled in
    let one = first.wanted in
    let other = second.wanted in
    let digits = one.spelled in
    let others = other.spelled in
    let calls : decimal c ≡ decimal d = cc in
    let places : first.want_text ≡ second.want_text = cc in (
      decimal_injective c d (omega (arith, first.high)) (omega (arith, second.high)) calls,
      decimal_injective m n (omega (arith, one.high)) (omega (arith, other.high)) (sym digits ∙ places ∙ others),
    )

-- a list of three
pub three : {A B : Type 0} (f : A → B) (xs : List A) (a b c : A) → length xs ≡ 3 → a ≡ get_or xs 0 a → b ≡ get_or xs 1 b → c ≡ get_or xs 2 c →
    map f xs ≡ f a ∷ f b ∷ f c ∷ []
three f [] a b c long first second third = absurd (omega arith)
three f (x ∷ []) a b c long first second third = absurd (omega arith)
three f (x ∷ y ∷ []) a b c long first second third = absurd (omega arith)
three f (x ∷ y ∷ z ∷ []) a b c long first second third = cc
three f (x ∷ y ∷ z ∷ w ∷ xs) a b c long first second third = absurd (omega arith)

-- a number that isn't a multiple of 4 is no wanted place
pub not_wanted : (text : Text) (n want : ℕ) → IsNumber 0 316 text n → (n % 4 ≡ 0 → ⊥) → IsWanted text want → ⊥
not_wanted text n want is not wanted =
    let same : n ≡ want = decimal_injective n want (omega (arith, is.at_most)) (omega (arith, wanted.high)) (sym is.spelled ∙ wanted.spelled) in
    not (subst (λ m. m % 4 ≡ 0) (sym same) wanted.fours)

-- three words that are `follow`, a call and a wanted place
pub are_follow : (words : List Text) (name number place : Text) (call want : ℕ) → words ≡ name ∷ number ∷ place ∷ [] → name ≡ codes "follow" →
    IsNumber 1 4096 number call → IsWanted place want → NamesFollow words call want
are_follow words name number place call want are named is wanted = record {
  low = is.at_least;
  high = is.at_most;
  want_text = place;
  wanted = wanted;
  spelled = are ∙ (λ i. named i ∷ is.spelled i ∷ place ∷ []);
}
