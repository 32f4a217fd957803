-- For crates above: one more item of a list adds to its last stretch alone (`stretched-more`), which had the items
-- `before`.
use Rattle.std.proofs.Common.{◌≡◌, refl, sym, ap, ◌∙◌, Bool, true, false, if◌then◌else◌, List, [], ◌∷◌, ◌++◌, map, reverse, append_assoc}
use Rattle.std.specs.List.{flat_map}
use Rattle.std.proofs.lemmas.Bool.{cond-true, cond-false}
use Rattle.std.proofs.lemmas.List.{reverse-append, append-nil, map-append}
use Rattle.std.proofs.lemmas.List.Concat.{flat_map-append}
use Rattle.call_spec.specs.Stretches.{put_before, stretches}

pub reverse-more : {A : Type 0} (x : A) (xs : List A) → reverse (x ∷ xs) ≡ reverse xs ++ x ∷ []
reverse-more x xs = reverse-append (x ∷ []) xs

pub map-reverse : {A B : Type 0} (f : A → B) (xs : List A) → map f (reverse xs) ≡ reverse (map f xs)
map-reverse f [] = refl
map-reverse f (x ∷ xs) =
    ap (map f) (reverse-more x xs) ∙ map-append f (reverse xs) (x ∷ []) ∙ ap (λ z. z ++ f x ∷ []) (map-reverse f xs) ∙ sym (reverse-more (f x) (map f xs))

-- the last of some items
abbrev last : {A : Type 0} → A → List A → A
last x [] = x
last x (y ∷ ys) = last y ys

last-more : {A : Type 0} (x : A) (xs : List A) (y : A) → last x (xs ++ y ∷ []) ≡ y
last-more x [] y = refl
last-more x (z ∷ zs) y = last-more z zs y

-- an item after a stretch, and after a list that is cut
abbrev join : {A : Type 0} → (A → A → Bool) → A → List A → List (List A)
join r x [] = (x ∷ []) ∷ []
join r x (y ∷ ys) = if r (last y ys) x then ((y ∷ ys) ++ x ∷ []) ∷ [] else (y ∷ ys) ∷ (x ∷ []) ∷ []

-- an item behind a list that is cut
abbrev put_after : {A : Type 0} → (A → A → Bool) → A → List (List A) → List (List A)
put_after r x [] = (x ∷ []) ∷ []
put_after r x (s ∷ []) = join r x s
put_after r x (s ∷ q ∷ qs) = s ∷ put_after r x (q ∷ qs)

-- before and behind do not meet
put-both : {A : Type 0} (r : A → A → Bool) (x y : A) (cut : List (List A)) → put_before r y (put_after r x cut) ≡ put_after r x (put_before r y cut)
put-both r x y [] = refl
put-both r x y ([] ∷ []) = refl
put-both r x y ((z ∷ zs) ∷ []) = by (r (last z zs) x) (r y z) refl refl
  where
    by : (a b : Bool) → r (last z zs) x ≡ a → r y z ≡ b → put_before r y (put_after r x ((z ∷ zs) ∷ [])) ≡ put_after r x (put_before r y ((z ∷ zs) ∷ []))
    by true true p q = simp (p, q) refl
    by true false p q = simp (p, q) refl
    by false true p q = simp (p, q) refl
    by false false p q = simp (p, q) refl
put-both r x y ([] ∷ q ∷ qs) = refl
put-both r x y ((z ∷ zs) ∷ q ∷ qs) = by (r y z) refl
  where
    by : (b : Bool) → r y z ≡ b → put_before r y (put_after r x ((z ∷ zs) ∷ q ∷ qs)) ≡ put_after r x (put_before r y ((z ∷ zs) ∷ q ∷ qs))
    by true e = rw e refl
    by false e = rw e refl

-- one item more, behind
stretches-more : {A : Type 0} (r : A → A → Bool) (xs : List A) (x : A) → stretches r (xs ++ x ∷ []) ≡ put_after r x (stretches r xs)
stretches-more r [] x = refl
stretches-more r (y ∷ xs) x = ap (put_before r y) (stretches-more r xs x) ∙ put-both r x y (stretches r xs)

put_after-last : {A : Type 0} (r : A → A → Bool) (x : A) (cut : List (List A)) (s : List A) → put_after r x (cut ++ s ∷ []) ≡ cut ++ join r x s
put_after-last r x [] s = refl
put_after-last r x (p ∷ []) s = refl
put_after-last r x (p ∷ q ∷ qs) s = ap (λ cut. p ∷ cut) (put_after-last r x (q ∷ qs) s)

join-last : {A : Type 0} (r : A → A → Bool) (x y : A) (ys : List A) →
    join r x (ys ++ y ∷ []) ≡ (if r y x then ((ys ++ y ∷ []) ++ x ∷ []) ∷ [] else (ys ++ y ∷ []) ∷ (x ∷ []) ∷ [])
join-last r x y [] = refl
join-last r x y (z ∷ zs) = ap (λ l. if r l x then (((z ∷ zs) ++ y ∷ []) ++ x ∷ []) ∷ [] else ((z ∷ zs) ++ y ∷ []) ∷ (x ∷ []) ∷ []) (last-more z zs y)

-- ---- with the newest item first

-- the items that x goes on with, back to the start of its stretch
abbrev pub before : {A : Type 0} → (A → A → Bool) → A → List A → List A
before r x [] = []
before r x (y ∷ past) = if r y x then y ∷ before r y past else []

-- the stretch that ends with x
abbrev pub newest : {A : Type 0} → (A → A → Bool) → A → List A → List A
newest r x past = x ∷ before r x past

-- it goes on with the last stretch or begins one
join-newest : {A : Type 0} (r : A → A → Bool) (x y : A) (s : List A) →
    join r x (reverse (y ∷ s)) ≡ (if r y x then reverse (x ∷ y ∷ s) ∷ [] else reverse (y ∷ s) ∷ (x ∷ []) ∷ [])
join-newest r x y s =
    ap (join r x) (reverse-more y s) ∙ join-last r x y (reverse s) ∙
    ap (λ z. if r y x then (z ++ x ∷ []) ∷ [] else z ∷ (x ∷ []) ∷ []) (sym (reverse-more y s)) ∙
    ap (λ z. if r y x then z ∷ [] else reverse (y ∷ s) ∷ (x ∷ []) ∷ []) (sym (reverse-more x (y ∷ s)))

-- the last stretch is the one that ends with the newest item
pub last_stretch : {A : Type 0} (r : A → A → Bool) (x : A) (past : List A) →
    (cut : List (List A)) × (stretches r (reverse (x ∷ past)) ≡ cut ++ reverse (newest r x past) ∷ [])
last_stretch r x [] = ([], refl)
last_stretch {A = A} r x (y ∷ past) = by (r y x) refl (last_stretch r y past)
  where
    by : (b : Bool) → r y x ≡ b → (cut : List (List A)) × (stretches r (reverse (y ∷ past)) ≡ cut ++ reverse (newest r y past) ∷ []) →
        (cut : List (List A)) × (stretches r (reverse (x ∷ y ∷ past)) ≡ cut ++ reverse (newest r x (y ∷ past)) ∷ [])
    by true e h = (
      h.0,
      ap (stretches r) (reverse-more x (y ∷ past)) ∙ stretches-more r (reverse (y ∷ past)) x ∙ ap (put_after r x) h.1 ∙
          put_after-last r x h.0 (reverse (newest r y past)) ∙ ap (λ z. h.0 ++ z) (join-newest r x y (before r y past) ∙ cond-true (r y x) _ _ e) ∙
          sym (ap (λ s. h.0 ++ reverse (x ∷ s) ∷ []) (cond-true (r y x) (y ∷ before r y past) [] e)),
    )
    by false e h = (
      h.0 ++ reverse (newest r y past) ∷ [],
      ap (stretches r) (reverse-more x (y ∷ past)) ∙ stretches-more r (reverse (y ∷ past)) x ∙ ap (put_after r x) h.1 ∙
          put_after-last r x h.0 (reverse (newest r y past)) ∙ ap (λ z. h.0 ++ z) (join-newest r x y (before r y past) ∙ cond-false (r y x) _ _ e) ∙
          sym (append_assoc h.0 (reverse (newest r y past) ∷ []) ((x ∷ []) ∷ [])) ∙
          sym (ap (λ s. (h.0 ++ reverse (newest r y past) ∷ []) ++ reverse (x ∷ s) ∷ []) (cond-false (r y x) (y ∷ before r y past) [] e)),
    )

-- What is made of each stretch, with one more item: where an item more adds to what is made of its stretch, it adds the
-- same to all.
pub record AddsTo {A B : Type 0} (r : A → A → Bool) (F : List A → List B) (f : A → List A → List B) : Type 0 where
  pub first : (x : A) → F (x ∷ []) ≡ f x []
  pub more : (x y : A) (past : List A) → r y x ≡ true → F (reverse (x ∷ newest r y past)) ≡ F (reverse (newest r y past)) ++ f x (newest r y past)

-- **One item more adds what it adds to the last stretch.**
pub stretched-more : {A B : Type 0} (r : A → A → Bool) (F : List A → List B) (f : A → List A → List B) → AddsTo r F f → (x : A) (past : List A) →
    flat_map F (stretches r (reverse (x ∷ past))) ≡ flat_map F (stretches r (reverse past)) ++ f x (before r x past)
stretched-more r F f h x [] = append-nil (F (x ∷ [])) ∙ h.first x
stretched-more r F f h x (y ∷ past) = by (last_stretch r y past) (r y x) refl
  where
    parts : (cut : List (List _)) (b : Bool) → r y x ≡ b →
        flat_map F cut ++ flat_map F (if r y x then reverse (x ∷ newest r y past) ∷ [] else reverse (newest r y past) ∷ (x ∷ []) ∷ []) ≡
        (flat_map F cut ++ F (reverse (newest r y past))) ++ f x (before r x (y ∷ past))
    parts cut true e =
        ap (λ z. flat_map F cut ++ flat_map F z) (cond-true (r y x) _ _ e) ∙
        ap (λ z. flat_map F cut ++ z) (append-nil (F (reverse (x ∷ newest r y past))) ∙ h.more x y past e) ∙
        sym (append_assoc (flat_map F cut) (F (reverse (newest r y past))) (f x (newest r y past))) ∙
        sym (ap (λ b. (flat_map F cut ++ F (reverse (newest r y past))) ++ f x b) (cond-true (r y x) (newest r y past) [] e))
    parts cut false e =
        ap (λ z. flat_map F cut ++ flat_map F z) (cond-false (r y x) _ _ e) ∙
        ap (λ z. flat_map F cut ++ (F (reverse (newest r y past)) ++ z)) (append-nil (F (x ∷ [])) ∙ h.first x) ∙
        sym (append_assoc (flat_map F cut) (F (reverse (newest r y past))) (f x [])) ∙
        sym (ap (λ b. (flat_map F cut ++ F (reverse (newest r y past))) ++ f x b) (cond-false (r y x) (newest r y past) [] e))

    by : (cut : List (List _)) × (stretches r (reverse (y ∷ past)) ≡ cut ++ reverse (newest r y past) ∷ []) → (b : Bool) → r y x ≡ b →
        flat_map F (stretches r (reverse (x ∷ y ∷ past))) ≡ flat_map F (stretches r (reverse (y ∷ past))) ++ f x (before r x (y ∷ past))
    by s b e =
        let now : flat_map F (stretches r (reverse (x ∷ y ∷ past))) ≡
        flat_map F s.0 ++ flat_map F (if r y x then reverse (x ∷ newest r y past) ∷ [] else reverse (newest r y past) ∷ (x ∷ []) ∷ []) =
        ap (λ xs. flat_map F (stretches r xs)) (reverse-more x (y ∷ past)) ∙ ap (flat_map F) (stretches-more r (reverse (y ∷ past)) x) ∙
        ap (λ cut. flat_map F (put_after r x cut)) s.1 ∙ ap (flat_map F) (put_after-last r x s.0 (reverse (newest r y past))) ∙
        flat_map-append F s.0 (join r x (reverse (newest r y past))) ∙ ap (λ z. flat_map F s.0 ++ flat_map F z) (join-newest r x y (before r y past)) in
        let were : flat_map F (stretches r (reverse (y ∷ past))) ≡ flat_map F s.0 ++ F (reverse (newest r y past)) =
        ap (flat_map F) s.1 ∙ flat_map-append F s.0 (reverse (newest r y past) ∷ [])
        ∙ ap (λ z. flat_map F s.0 ++ z) (append-nil (F (reverse (newest r y past)))) in
        now ∙ parts s.0 b e ∙ ap (λ z. z ++ f x (before r x (y ∷ past))) (sym were)
