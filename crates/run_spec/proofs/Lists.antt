-- For crates above: what holds of each item of a list, also of a filtered or mapped one, and lists in which one item at
-- most passes (`AtMostOne`).
use Rattle.std.proofs.Common.{◌≡◌, refl, sym, ap, ◌∙◌, ℕ, Bool, true, false, Option, Some, None, List, [], ◌∷◌, ◌++◌, map, inl, inr}
use Rattle.std.specs.Prelude.{◌&&◌, ◌||◌, if◌then◌else◌, find, is_some, option_map, filter}
use Rattle.std.specs.List.{list_any, AllByRecursion}
use Rattle.std.proofs.lemmas.Bool.{cases_Bool}
use Rattle.switchboard.proofs.Lists.{not_both}

-- an answer has one value
pub one_value : (v : Option ℕ) (a b : ℕ) → v ≡ Some a → v ≡ Some b → a ≡ b
one_value v a b e f = cc

-- a function changes no None
pub some_mapped : {X Y : Type 0} (f : X → Y) (o : Option X) → is_some (option_map f o) ≡ is_some o
some_mapped f None = refl
some_mapped f (Some x) = refl

pub each_append : {X : Type 0} (P : X → Type 0) (xs ys : List X) → AllByRecursion P xs → AllByRecursion P ys → AllByRecursion P (xs ++ ys)
each_append P [] ys h k = k
each_append P (x ∷ xs) ys h k = (h.0, each_append P xs ys h.1 k)

pub each_front : {X : Type 0} (P : X → Type 0) (xs ys : List X) → AllByRecursion P (xs ++ ys) → AllByRecursion P xs
each_front P [] ys h = tt
each_front P (x ∷ xs) ys h = (h.0, each_front P xs ys h.1)

pub each_back : {X : Type 0} (P : X → Type 0) (xs ys : List X) → AllByRecursion P (xs ++ ys) → AllByRecursion P ys
each_back P [] ys h = h
each_back P (x ∷ xs) ys h = each_back P xs ys h.1

pub each_map : {X Y : Type 0} (P : X → Type 0) (f : Y → X) (ys : List Y) → AllByRecursion (λ y. P (f y)) ys → AllByRecursion P (map f ys)
each_map P f [] h = tt
each_map P f (y ∷ ys) h = (h.0, each_map P f ys h.1)

pub each_mapped : {X Y : Type 0} (P : X → Type 0) (f : Y → X) (ys : List Y) → AllByRecursion P (map f ys) → AllByRecursion (λ y. P (f y)) ys
each_mapped P f [] h = tt
each_mapped P f (y ∷ ys) h = (h.0, each_mapped P f ys h.1)

pub each_filter : {X : Type 0} (P : X → Type 0) (p : X → Bool) (xs : List X) → AllByRecursion P xs → AllByRecursion P (filter p xs)
each_filter P p [] h = tt
each_filter P p (x ∷ xs) h = by P x (filter p xs) (p x) h.0 (each_filter P p xs h.1)
  where
    by : {X : Type 0} (P : X → Type 0) (x : X) (xs : List X) (t : Bool) → P x → AllByRecursion P xs → AllByRecursion P (if t then x ∷ xs else xs)
    by P x xs true h k = (h, k)
    by P x xs false h k = k

-- what passes a filter
pub each_passes : {X : Type 0} (p : X → Bool) (xs : List X) → AllByRecursion (λ x. p x ≡ true) (filter p xs)
each_passes p [] = tt
each_passes p (x ∷ xs) = by p x (filter p xs) (p x) refl (each_passes p xs)
  where
    by : {X : Type 0} (p : X → Bool) (x : X) (xs : List X) (t : Bool) → p x ≡ t → AllByRecursion (λ x. p x ≡ true) xs →
        AllByRecursion (λ x. p x ≡ true) (if t then x ∷ xs else xs)
    by p x xs true h k = (h, k)
    by p x xs false h k = k

pub each_weaker : {X : Type 0} (P Q : X → Type 0) (xs : List X) → ((x : X) → P x → Q x) → AllByRecursion P xs → AllByRecursion Q xs
each_weaker P Q [] f h = tt
each_weaker P Q (x ∷ xs) f h = (f x h.0, each_weaker P Q xs f h.1)

pub each_both : {X : Type 0} (P Q : X → Type 0) (xs : List X) → AllByRecursion P xs → AllByRecursion Q xs → AllByRecursion (λ x. P x × Q x) xs
each_both P Q [] h k = tt
each_both P Q (x ∷ xs) h k = ((h.0, k.0), each_both P Q xs h.1 k.1)

pub each_all : {X : Type 0} (P : X → Type 0) (xs : List X) → ((x : X) → P x) → AllByRecursion P xs
each_all P [] f = tt
each_all P (x ∷ xs) f = (f x, each_all P xs f)

-- ---- the first that passes

-- one step of it
found_same : {X : Type 0} (s t : Bool) (x : X) (o p : Option X) → s ≡ t → o ≡ p → (if s then Some x else o) ≡ (if t then Some x else p)
found_same s t x o p e f = cc

pub find_same : {X : Type 0} (p q : X → Bool) (xs : List X) → AllByRecursion (λ x. p x ≡ q x) xs → find p xs ≡ find q xs
find_same p q [] h = refl
find_same p q (x ∷ xs) h = found_same (p x) (q x) x (find p xs) (find q xs) h.0 (find_same p q xs h.1)

pub find_none : {X : Type 0} (p : X → Bool) (xs : List X) → AllByRecursion (λ x. p x ≡ false) xs → find p xs ≡ None
find_none p [] h = refl
find_none p (x ∷ xs) h = found_same (p x) false x (find p xs) None h.0 (find_none p xs h.1)

pub none_each : {X : Type 0} (p : X → Bool) (xs : List X) → find p xs ≡ None → AllByRecursion (λ x. p x ≡ false) xs
none_each p [] e = tt
none_each p (x ∷ xs) e = let h = by (p x) x (find p xs) e in (h.0, none_each p xs h.1)
  where
    by : {X : Type 0} (t : Bool) (x : X) (o : Option X) → (if t then Some x else o) ≡ None → (t ≡ false) × (o ≡ None)
    by true x o e = cc
    by false x o e = (refl, e)

pub find_map : {X Y : Type 0} (p : X → Bool) (f : Y → X) (ys : List Y) → find p (map f ys) ≡ option_map f (find (λ y. p (f y)) ys)
find_map p f [] = refl
find_map p f (y ∷ ys) = by f y (p (f y)) (find p (map f ys)) (find (λ y. p (f y)) ys) (find_map p f ys)
  where
    by : {X Y : Type 0} (f : Y → X) (y : Y) (t : Bool) (o : Option X) (u : Option Y) → o ≡ option_map f u →
        (if t then Some (f y) else o) ≡ option_map f (if t then Some y else u)
    by f y true o u e = refl
    by f y false o u e = e

pub find_front : {X : Type 0} (p : X → Bool) (xs ys : List X) → AllByRecursion (λ x. p x ≡ false) ys → find p (xs ++ ys) ≡ find p xs
find_front p [] ys h = find_none p ys h
find_front p (x ∷ xs) ys h = found_same (p x) (p x) x _ _ refl (find_front p xs ys h)

-- it is one of the elements
pub found : {X : Type 0} (P : X → Type 0) (p : X → Bool) (xs : List X) (x : X) → AllByRecursion P xs → find p xs ≡ Some x → P x × (p x ≡ true)
found P p [] x h e = cc
found P p (y ∷ xs) x h e = elim (cases_Bool (p y)) [
  | inl t ↦ let same : y ≡ x = is y x (p y) (find p xs) t e in (rw (← same) h.0, ap p (sym same) ∙ t)
  | inr f ↦ found P p xs x h.1 (past y (p y) (find p xs) f ∙ e)
]
  where
    is : {X : Type 0} (y x : X) (t : Bool) (o : Option X) → t ≡ true → (if t then Some y else o) ≡ Some x → y ≡ x
    is y x true o t e = cc
    is y x false o t e = cc

    past : {X : Type 0} (y : X) (t : Bool) (o : Option X) → t ≡ false → o ≡ (if t then Some y else o)
    past y true o t = cc
    past y false o t = refl

-- ---- whether any passes

pub any_none : {X : Type 0} (p : X → Bool) (xs : List X) → AllByRecursion (λ x. p x ≡ false) xs → list_any p xs ≡ false
any_none p [] h = refl
any_none p (x ∷ xs) h = ap (λ t. t || list_any p xs) h.0 ∙ any_none p xs h.1

pub any_map : {X Y : Type 0} (p : X → Bool) (f : Y → X) (ys : List Y) → list_any p (map f ys) ≡ list_any (λ y. p (f y)) ys
any_map p f [] = refl
any_map p f (y ∷ ys) = ap (λ t. p (f y) || t) (any_map p f ys)

pub any_front : {X : Type 0} (p : X → Bool) (xs ys : List X) → AllByRecursion (λ x. p x ≡ false) ys → list_any p (xs ++ ys) ≡ list_any p xs
any_front p [] ys h = any_none p ys h
any_front p (x ∷ xs) ys h = ap (λ t. p x || t) (any_front p xs ys h)

pub none_any : {X : Type 0} (p : X → Bool) (xs : List X) → list_any p xs ≡ false → AllByRecursion (λ x. p x ≡ false) xs
none_any p [] e = tt
none_any p (x ∷ xs) e = let h = by (p x) (list_any p xs) e in (h.0, none_any p xs h.1)
  where
    by : (s t : Bool) → (s || t) ≡ false → (s ≡ false) × (t ≡ false)
    by true t e = cc
    by false t e = (refl, e)

-- ---- at most one passes

-- at most one of them passes the test
abbrev pub AtMostOne : {X : Type 0} → (X → Bool) → List X → Type 0
AtMostOne p [] = Unit {0}
AtMostOne p (x ∷ xs) = (p x ≡ true → find p xs ≡ None) × AtMostOne p xs

-- a test that fewer pass
pub one_weaker : {X Y : Type 0} (p : X → Bool) (q : Y → Bool) (f : X → Y) (xs : List X) → AllByRecursion (λ x. q (f x) ≡ true → p x ≡ true) xs →
    AtMostOne p xs → AtMostOne q (map f xs)
one_weaker p q f [] k h = tt
one_weaker p q f (x ∷ xs) k h = (λ e. none_weaker p q f xs k.1 (h.0 (k.0 e)), one_weaker p q f xs k.1 h.1)
  where
    no : (s t : Bool) → (s ≡ true → t ≡ true) → t ≡ false → s ≡ false
    no true t k e = let u = k refl in cc
    no false t k e = refl

    none_weaker : {X Y : Type 0} (p : X → Bool) (q : Y → Bool) (f : X → Y) (xs : List X) → AllByRecursion (λ x. q (f x) ≡ true → p x ≡ true) xs →
        find p xs ≡ None → find q (map f xs) ≡ None
    none_weaker p q f xs k e = find_none q (map f xs) (each_map (λ y. q y ≡ false) f xs
        (each_weaker (λ x. (q (f x) ≡ true → p x ≡ true) × (p x ≡ false)) (λ x. q (f x) ≡ false) xs (λ x h. no (q (f x)) (p x) h.0 h.1)
        (each_both _ _ xs k (none_each p xs e))))

-- all that pass are the one that is found
pub one_found : {X : Type 0} (p : X → Bool) (xs : List X) (x : X) → AtMostOne p xs → find p xs ≡ Some x → AllByRecursion (λ y. p y ≡ true → y ≡ x) xs
one_found p [] x h e = tt
one_found p (y ∷ xs) x h e = elim (cases_Bool (p y)) [
  | inl t ↦ let same : y ≡ x = is y x (p y) (find p xs) t e in
      (λ s. same, each_weaker (λ z. p z ≡ false) (λ z. p z ≡ true → z ≡ x) xs (λ z f s. absurd (not_both _ f s)) (none_each p xs (h.0 t)))
  | inr f ↦ (λ s. absurd (not_both _ f s), one_found p xs x h.1 (past y (p y) (find p xs) f ∙ e))
]
  where
    is : {X : Type 0} (y x : X) (t : Bool) (o : Option X) → t ≡ true → (if t then Some y else o) ≡ Some x → y ≡ x
    is y x true o t e = cc
    is y x false o t e = cc

    past : {X : Type 0} (y : X) (t : Bool) (o : Option X) → t ≡ false → o ≡ (if t then Some y else o)
    past y true o t = cc
    past y false o t = refl

-- the first that passes two tests, where at most one passes the first of them
pub find_and : {X : Type 0} (p q : X → Bool) (xs : List X) → AtMostOne p xs →
    find (λ x. p x && q x) xs ≡ elim (find p xs) [ None ↦ None | Some x ↦ if q x then Some x else None ]
find_and p q [] h = refl
find_and p q (x ∷ xs) h = by p q x xs (p x) h.0 (find_and p q xs h.1) refl
  where
    none : {X : Type 0} (p q : X → Bool) (x : X) (xs : List X) (t : Bool) → find p xs ≡ None →
        find (λ x. p x && q x) xs ≡ elim (find p xs) [ None ↦ None | Some x ↦ if q x then Some x else None ] →
        (if t then Some x else find (λ x. p x && q x) xs) ≡ (if t then Some x else None)
    none p q x xs true e f = refl
    none p q x xs false e f = f ∙ ap (λ (o : Option _). elim o [ None ↦ None | Some x ↦ if q x then Some x else None ]) e

    by : {X : Type 0} (p q : X → Bool) (x : X) (xs : List X) (t : Bool) → (p x ≡ true → find p xs ≡ None) →
        find (λ x. p x && q x) xs ≡ elim (find p xs) [ None ↦ None | Some x ↦ if q x then Some x else None ] → p x ≡ t →
        (if t && q x then Some x else find (λ x. p x && q x) xs)
        ≡ elim (if t then Some x else find p xs) [ None ↦ None | Some x ↦ if q x then Some x else None ]
    by p q x xs true h f e = none p q x xs (q x) (h e) f
    by p q x xs false h f e = f
