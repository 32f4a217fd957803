-- For crates above: eight words in lanes are kept where they are passed on (`words_kept`), and lists of eight are taken
-- apart (`by_eight`).
use Rattle.std.proofs.Common.{◌≡◌, ◌≤◌, ℤ, FitsSigned, w16, to_z, of_z, map, List, [], ◌∷◌, length, refl, ap, ◌∙◌, sym, subst, arith, unsigned_abs, get_or}
use Rattle.std.proofs.Common.{take}
use Rattle.std.specs.Int.{Width}
use Rattle.std.proofs.lemmas.Int.{ints, to_z-of_z}
use Rattle.std.specs.Simd.Lanes.{zip2, Each1}
use Rattle.std.proofs.lemmas.Simd.{Each1-weaker, length-zip2}
use Rattle.trau_lanes.specs.Lanes.{EightWords, EightFactors}

-- lanes that fit are kept
pub lanes_kept : (w : Width) (xs : List ℤ) → Each1 (FitsSigned w) xs → map (to_z w) (map (of_z w) xs) ≡ xs
lanes_kept w [] p = refl
lanes_kept w (x ∷ xs) p = ap (λ z. z ∷ map (to_z w) (map (of_z w) xs)) (to_z-of_z w x p.0) ∙ ap (λ zs. x ∷ zs) (lanes_kept w xs p.1)

-- eight words are passed as they are
pub words_kept : (xs : List ℤ) → EightWords xs → map (to_z w16) (map (of_z w16) xs) ≡ xs
words_kept xs e = lanes_kept w16 xs e.words

-- what a function is passed are words too
pub words_passed : (xs : List ℤ) → EightWords xs → EightWords (map (to_z w16) (map (of_z w16) xs))
words_passed xs e = subst EightWords (sym (words_kept xs e)) e

-- factors are words
pub factors_words : (xs : List ℤ) → EightFactors xs → EightWords xs
factors_words xs e = record { eight = e.eight; words = Each1-weaker (λ x. unsigned_abs x ≤ 32767) (FitsSigned w16) (λ x h. omega (arith, ints)) xs e.factors }

pub factors_passed : (xs : List ℤ) → EightFactors xs → EightFactors (map (to_z w16) (map (of_z w16) xs))
factors_passed xs e = subst EightFactors (sym (words_kept xs (factors_words xs e))) e

-- lanes made two by two of two lists
pub eight_zipped : (f : ℤ → ℤ → ℤ) → ((x y : ℤ) → FitsSigned w16 (f x y)) → (xs ys : List ℤ) → length xs ≡ 8 → length ys ≡ 8 → EightWords (zip2 f xs ys)
eight_zipped f h xs ys a b = record { eight = length-zip2 f xs ys (a ∙ sym b) ∙ a; words = each xs ys }
  where
    each : (xs ys : List ℤ) → Each1 (FitsSigned w16) (zip2 f xs ys)
    each [] ys = tt
    each (x ∷ xs) [] = tt
    each (x ∷ xs) (y ∷ ys) = (h x y, each xs ys)

-- ---- lane by lane

-- what holds of each four numbers holds of each list of four
pub by_four : (P : List ℤ → Type 0) → ((a b c d : ℤ) → P (a ∷ b ∷ c ∷ d ∷ [])) → (xs : List ℤ) → length xs ≡ 4 → P xs
by_four P h (a ∷ b ∷ c ∷ d ∷ []) l = h a b c d
by_four P h [] l = absurd (omega arith)
by_four P h (a ∷ []) l = absurd (omega arith)
by_four P h (a ∷ b ∷ []) l = absurd (omega arith)
by_four P h (a ∷ b ∷ c ∷ []) l = absurd (omega arith)
by_four P h (a ∷ b ∷ c ∷ d ∷ e ∷ xs) l = absurd (omega arith)

-- the same of eight
pub by_eight : (P : List ℤ → Type 0) → ((a b c d e f g h : ℤ) → P (a ∷ b ∷ c ∷ d ∷ e ∷ f ∷ g ∷ h ∷ [])) → (xs : List ℤ) → length xs ≡ 8 → P xs
by_eight P h (a ∷ b ∷ c ∷ d ∷ xs) l = by_four (λ ys. P (a ∷ b ∷ c ∷ d ∷ ys)) (h a b c d) xs (omega arith)
by_eight P h [] l = absurd (omega arith)
by_eight P h (a ∷ []) l = absurd (omega arith)
by_eight P h (a ∷ b ∷ []) l = absurd (omega arith)
by_eight P h (a ∷ b ∷ c ∷ []) l = absurd (omega arith)

-- two lists of eight words, of which each two lanes meet R
pub by_pairs : (P Q : ℤ → Type 0) (R : ℤ → ℤ → Type 0) (G : List ℤ → List ℤ → Type 0) →
    ((x y : ℤ) → P x → Q y → R x y) →
    ((a b c d e f g h a' b' c' d' e' f' g' h' : ℤ) → R a a' → R b b' → R c c' → R d d' → R e e' → R f f' → R g g' → R h h' →
    G (a ∷ b ∷ c ∷ d ∷ e ∷ f ∷ g ∷ h ∷ []) (a' ∷ b' ∷ c' ∷ d' ∷ e' ∷ f' ∷ g' ∷ h' ∷ [])) →
    (xs ys : List ℤ) → length xs ≡ 8 → length ys ≡ 8 → Each1 P xs → Each1 Q ys → G xs ys
by_pairs P Q R G r k xs ys l m =
    by_eight (λ xs. Each1 P xs → Each1 Q ys → G xs ys)
    (λ a b c d e f g h p. by_eight (λ ys. Each1 Q ys → G (a ∷ b ∷ c ∷ d ∷ e ∷ f ∷ g ∷ h ∷ []) ys)
    (λ a' b' c' d' e' f' g' h' q. k a b c d e f g h a' b' c' d' e' f' g' h' (r a a' p.0 q.0) (r b b' p.1.0 q.1.0) (r c c' p.1.1.0 q.1.1.0)
    (r d d' p.1.1.1.0 q.1.1.1.0)
    (r e e' p.1.1.1.1.0 q.1.1.1.1.0) (r f f' p.1.1.1.1.1.0 q.1.1.1.1.1.0) (r g g' p.1.1.1.1.1.1.0 q.1.1.1.1.1.1.0)
    (r h h' p.1.1.1.1.1.1.1.0 q.1.1.1.1.1.1.1.0)) ys m) xs l

-- lists of eight are the same where each two numbers are
pub eight_same : {a b c d e f g h a' b' c' d' e' f' g' h' : ℤ} → a ≡ a' → b ≡ b' → c ≡ c' → d ≡ d' → e ≡ e' → f ≡ f' → g ≡ g' → h ≡ h' →
    (a ∷ b ∷ c ∷ d ∷ e ∷ f ∷ g ∷ h ∷ []) ≡ (a' ∷ b' ∷ c' ∷ d' ∷ e' ∷ f' ∷ g' ∷ h' ∷ [])
eight_same p q r s t u v w = λ i. p i ∷ q i ∷ r i ∷ s i ∷ t i ∷ u i ∷ v i ∷ w i ∷ []

-- the lanes moved up by one place, with a word in the first
pub shifted_in : (x : ℤ) (xs : List ℤ) → FitsSigned w16 x → EightWords xs →
    (to_z w16 (of_z w16 x) ∷ to_z w16 (get_or (map (of_z w16) xs) 0 0) ∷ to_z w16 (get_or (map (of_z w16) xs) 1 0) ∷ to_z w16 (get_or (map (of_z w16) xs) 2 0) ∷
    to_z w16 (get_or (map (of_z w16) xs) 3 0) ∷ to_z w16 (get_or (map (of_z w16) xs) 4 0) ∷ to_z w16 (get_or (map (of_z w16) xs) 5 0) ∷
    to_z w16 (get_or (map (of_z w16) xs) 6 0) ∷ [])
    ≡ take 8 (x ∷ xs)
shifted_in x xs f e =
    by_eight (λ xs. Each1 (FitsSigned w16) xs →
    (to_z w16 (of_z w16 x) ∷ to_z w16 (get_or (map (of_z w16) xs) 0 0) ∷ to_z w16 (get_or (map (of_z w16) xs) 1 0) ∷ to_z w16 (get_or (map (of_z w16) xs) 2 0) ∷
    to_z w16 (get_or (map (of_z w16) xs) 3 0) ∷ to_z w16 (get_or (map (of_z w16) xs) 4 0) ∷ to_z w16 (get_or (map (of_z w16) xs) 5 0) ∷
    to_z w16 (get_or (map (of_z w16) xs) 6 0) ∷ [])
    ≡ take 8 (x ∷ xs))
    (λ a b c d e f' g h p. eight_same (to_z-of_z w16 x f) (to_z-of_z w16 a p.0) (to_z-of_z w16 b p.1.0) (to_z-of_z w16 c p.1.1.0) (to_z-of_z w16 d p.1.1.1.0)
    (to_z-of_z w16 e p.1.1.1.1.0) (to_z-of_z w16 f' p.1.1.1.1.1.0) (to_z-of_z w16 g p.1.1.1.1.1.1.0)) xs e.eight e.words

-- one word more at the front, and the last one gone
pub shifted_words : (x : ℤ) (xs : List ℤ) → FitsSigned w16 x → EightWords xs → EightWords (take 8 (x ∷ xs))
shifted_words x xs f e =
    by_eight (λ xs. Each1 (FitsSigned w16) xs → EightWords (take 8 (x ∷ xs)))
    (λ a b c d e f' g h p. record { eight = refl; words = (f, (p.0, (p.1.0, (p.1.1.0, (p.1.1.1.0, (p.1.1.1.1.0, (p.1.1.1.1.1.0, (p.1.1.1.1.1.1.0, tt)))))))) })
    xs e.eight e.words
