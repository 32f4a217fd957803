-- Items that stand in rising order of their numbers: what is found by a number, and what of it where some are kept.
use Rattle.std.proofs.Common.{◌≡◌, refl, ap, ◌∙◌, subst, ℕ, zero, suc, ◌<◌, Bool, Option, Some, None, is_some, List, [], ◌∷◌, length, map, arith, inl, inr}
use Rattle.std.specs.Prelude.{◌==◌, ◌&&◌, filter, find}
use Rattle.std.specs.Option.{option_map}
use Rattle.std.specs.List.{All, AllPairs, list_any}
use Rattle.std.proofs.lemmas.Bool.{cases_Bool, eqb-true, ne_eqb}
use Rattle.std.proofs.lemmas.List.{get_or-map, length-map}
use Rattle.std.proofs.lemmas.List.Kept.{AllPairs-filter}
use Rattle.std.proofs.lemmas.Map.Entries.{option_filter}
use Rattle.farm_rounds.specs.Numbers.{IsRising, is_among}

-- ---- lists of what is seen of others

pub found_map : {X Y : Type 0} (q : Y → Bool) (f : X → Y) (xs : List X) → find q (map f xs) ≡ option_map f (find (λ x. q (f x)) xs)
found_map q f [] = refl
found_map q f (x ∷ xs) = elim (cases_Bool (q (f x))) [ inl t ↦ simp t refl | inr n ↦ simp n (found_map q f xs) ]

pub any_map : {X Y : Type 0} (q : Y → Bool) (f : X → Y) (xs : List X) → list_any q (map f xs) ≡ list_any (λ x. q (f x)) xs
any_map q f [] = refl
any_map q f (x ∷ xs) = elim (cases_Bool (q (f x))) [ inl t ↦ simp t refl | inr n ↦ simp n (any_map q f xs) ]

pub map_same : {X Y : Type 0} (f g : X → Y) (xs : List X) → All (λ x. f x ≡ g x) xs → map f xs ≡ map g xs
map_same f g [] same = refl
map_same {X} {Y} f g (x ∷ xs) same =
    ap (λ (y : Y). y ∷ map f xs) (same 0 x (omega arith))
    ∙ ap (λ (ys : List Y). g x ∷ ys) (map_same f g xs (λ k d l. same (suc k) d (omega arith)))

-- ---- found by their numbers

module _ {X : Type 0} (number : X → ℕ) where
  abbrev pub found : List X → ℕ → Option X
  found xs c = find (λ x. number x == c) xs

  abbrev pub Rise : List X → Type 0
  Rise xs = AllPairs (λ x y. number x < number y) xs

  pub rise : (xs : List X) → IsRising (map number xs) → Rise xs
  rise xs rising i j d l m =
      omega (
        arith,
        rising i j l (omega (arith, m, length-map xs number)),
        get_or-map number xs i d 0 (omega (arith, l, m)),
        get_or-map number xs j d 0 m,
      )

  pub rising : (xs : List X) → Rise xs → IsRising (map number xs)
  rising [] h i j l m = absurd (omega arith)
  rising (x ∷ xs) h i j l m =
      let within : j < length (x ∷ xs) = omega (arith, m, length-map (x ∷ xs) number) in
      omega (
        arith,
        h i j x l within,
        get_or-map number (x ∷ xs) i x 0 (omega (arith, l, within)),
        get_or-map number (x ∷ xs) j x 0 within,
      )

  pub rising_filter : (p : X → Bool) (xs : List X) → Rise xs → IsRising (map number (filter p xs))
  rising_filter p xs h = rising (filter p xs) (AllPairs-filter (λ x y. number x < number y) p xs h)

  behind : (x : X) (xs : List X) → Rise (x ∷ xs) → Rise xs
  behind x xs h i j d l m = h (suc i) (suc j) d (omega arith) (omega arith)

  -- none behind an item has its number
  none_behind : (x : X) (xs : List X) (c : ℕ) → number x ≡ c → Rise (x ∷ xs) → found xs c ≡ None
  none_behind x xs c e h = go xs (λ k d l. let less = h zero (suc k) d (omega arith) (omega arith) in omega (arith, less, e)) where
    go : (ys : List X) → All (λ y. c < number y) ys → found ys c ≡ None
    go [] above = refl
    go (y ∷ ys) above =
        let less : c < number y = above 0 y (omega arith) in
        simp (ne_eqb (number y) c (λ q. absurd (omega (arith, q, less)))) (go ys (λ k d l. above (suc k) d (omega arith)))

  -- what is found among those that are kept
  pub found_filter : (p : X → Bool) (xs : List X) (c : ℕ) → Rise xs → found (filter p xs) c ≡ option_filter p (found xs c)
  found_filter p [] c h = refl
  found_filter p (x ∷ xs) c h =
      let rest = found_filter p xs c (behind x xs h) in
      elim (cases_Bool (number x == c)) [
        | inl t ↦ elim (cases_Bool (p x)) [
          | inl u ↦ simp (t, u) refl
          | inr n ↦ simp (t, n) (rest ∙ ap (option_filter p) (none_behind x xs c (eqb-true (number x) c t) h))
        ]
        | inr f ↦ elim (cases_Bool (p x)) [ inl u ↦ simp (f, u) rest | inr n ↦ simp (f, n) rest ]
      ]

  -- whether one with this number is kept
  pub any_found : (p : X → Bool) (xs : List X) (c : ℕ) → Rise xs → list_any (λ x. (number x == c) && p x) xs ≡ is_some (option_filter p (found xs c))
  any_found p [] c h = refl
  any_found p (x ∷ xs) c h =
      let rest = any_found p xs c (behind x xs h) in
      elim (cases_Bool (number x == c)) [
        | inl t ↦ elim (cases_Bool (p x)) [
          | inl u ↦ simp (t, u) refl
          | inr n ↦ simp (t, n)
              (rest ∙ ap (λ (o : Option X). is_some (option_filter p o)) (none_behind x xs c (eqb-true (number x) c t) h))
        ]
        | inr f ↦ simp f rest
      ]

  pub among_found : (xs : List X) (c : ℕ) → is_among (map number xs) c ≡ is_some (found xs c)
  among_found [] c = refl
  among_found (x ∷ xs) c = elim (cases_Bool (number x == c)) [ inl t ↦ simp t refl | inr f ↦ simp f (among_found xs c) ]

  pub found_is : (P : X → Type 0) (xs : List X) (c : ℕ) (x : X) → All P xs → found xs c ≡ Some x → P x × (number x ≡ c)
  found_is P [] c x all e = absurd (cc)
  found_is P (y ∷ ys) c x all e = elim (cases_Bool (number y == c)) [
    | inl t ↦
        let same : y ≡ x = let h = simp t at e in cc in
        subst (λ (z : X). P z × (number z ≡ c)) same (all 0 y (omega arith), eqb-true (number y) c t)
    | inr f ↦ found_is P ys c x (λ k d l. all (suc k) d (omega arith)) (simp f at e)
  ]

  -- with numbers that are the same
  pub found_same : (n : X → ℕ) (xs : List X) (c : ℕ) → All (λ x. n x ≡ number x) xs → find (λ x. n x == c) xs ≡ found xs c
  found_same n [] c same = refl
  found_same n (x ∷ xs) c same =
      let here : (n x == c) ≡ (number x == c) = ap (λ (k : ℕ). k == c) (same 0 x (omega arith)) in
      let rest = found_same n xs c (λ k d l. same (suc k) d (omega arith)) in
      elim (cases_Bool (number x == c)) [ inl t ↦ simp (here ∙ t, t) refl | inr f ↦ simp (here ∙ f, f) rest ]
