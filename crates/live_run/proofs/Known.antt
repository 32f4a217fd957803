-- What all callers know of a call together, and whose a number of a caller is.
use Rattle.std.proofs.Common.{◌≡◌, ◌≢◌, ℕ, zero, suc, ◌+◌, ◌-◌, ◌<◌, ◌≤◌, true, false, ◌==◌, inl, inr, List, [], ◌∷◌, ◌++◌, length, map, take, drop, reverse}
use Rattle.std.proofs.Common.{get_or, refl, sym, ap, ◌∙◌, subst, ⊎_elim, append-nil, arith}
use Rattle.std.specs.List.{flat_map}
use Rattle.std.proofs.lemmas.Bool.{cases_eq, cases_lt, eq-eqb, ne_eqb}
use Rattle.std.proofs.lemmas.List.{reverse-append}
use Rattle.std.proofs.lemmas.Grind.{flat_map-append}
use Rattle.farm_live.specs.declared.live.Seat.{Seat}
use Rattle.farm_live.specs.declared.live.Caller.{Caller}
use Rattle.farm_live.specs.Book.{BookState}
use Rattle.trau_num.specs.Weights.{weigh}
use Rattle.farm_live.specs.Slot.{bit, is_at, times, ascending, all_callers, AllSeen}
use Rattle.farm_live.specs.Live.{view_of, numbers_of}
use Rattle.trau_num.proofs.Weights.{weigh-append}
use Rattle.farm_live.proofs.NewFarm.{first_is, first_numbers, last_numbers}

-- ---- what all callers know of a call

-- what a first caller knows comes last
turned : {A : Type 0} (h : Caller → List A) (c : Caller) (cs : List Caller) → flat_map h (reverse (c ∷ cs)) ≡ flat_map h (reverse cs) ++ h c
turned h c cs =
    ap (flat_map h) (reverse-append (c ∷ []) cs) ∙ flat_map-append h (reverse cs) (c ∷ [])
    ∙ ap (λ l. flat_map h (reverse cs) ++ l) (append-nil (h c))

-- callers that know nothing know nothing together
none_in : {A : Type 0} (h : Caller → List A) (cs : List Caller) (d : Caller) → ((i : ℕ) → i < length cs → h (get_or cs i d) ≡ []) →
    flat_map h (reverse cs) ≡ []
none_in h [] d none = refl
none_in h (c ∷ cs) d none =
    turned h c cs ∙ ap (λ l. l ++ h c) (none_in h cs d (λ i lt. none (suc i) (omega arith))) ∙ none 0 (omega arith)

-- callers of whom one alone knows something know this together
pub one_in : {A : Type 0} (h : Caller → List A) (cs : List Caller) (o : ℕ) (d : Caller) (ys : List A) → o < length cs → h (get_or cs o d) ≡ ys →
    ((i : ℕ) → i < length cs → i ≢ o → h (get_or cs i d) ≡ []) → flat_map h (reverse cs) ≡ ys
one_in h [] o d ys there is none = absurd (omega arith)
one_in h (c ∷ cs) zero d ys there is none =
    turned h c cs ∙ ap (λ l. l ++ h c) (none_in h cs d (λ i lt. none (suc i) (omega arith) (λ (e : suc i ≡ 0). absurd (omega arith)))) ∙ is
one_in h (c ∷ cs) (suc o) d ys there is none =
    turned h c cs
    ∙ ap (λ l. l ++ h c)
    (one_in h cs o d ys (omega arith) is (λ i lt ne. none (suc i) (omega arith) (λ (e : suc i ≡ suc o). ne (let f : i ≡ o = omega arith in f))))
    ∙ ap (λ l. ys ++ l) (none 0 (omega arith) (λ (e : 0 ≡ suc o). absurd (omega arith))) ∙ append-nil ys

-- what one caller has weighs no more than what all have
pub weight_in : (f : ℕ → ℕ) (h : Caller → List ℕ) (cs : List Caller) (i : ℕ) (d : Caller) → i < length cs →
    weigh f (h (get_or cs i d)) ≤ weigh f (flat_map h (reverse cs))
weight_in f h [] i d there = absurd (omega arith)
weight_in f h (c ∷ cs) zero d there = omega (arith, ap (weigh f) (turned h c cs), weigh-append f (flat_map h (reverse cs)) (h c))
weight_in f h (c ∷ cs) (suc i) d there =
    let rest = weight_in f h cs i d (omega arith) in
    omega (arith, rest, ap (weigh f) (turned h c cs), weigh-append f (flat_map h (reverse cs)) (h c))

-- what was seen of two lists was seen of each
seen_parts : (b : BookState) (xs ys : List BookState) → AllSeen b (xs ++ ys) → AllSeen b xs × AllSeen b ys
seen_parts b [] ys all = (tt, all)
seen_parts b (x ∷ xs) ys all = let rest = seen_parts b xs ys all.1 in ((all.0, rest.0), rest.1)

-- a book that begins with all that the callers saw begins with what each saw
pub seen_in : (b : BookState) (h : Caller → List BookState) (cs : List Caller) (i : ℕ)
    (d : Caller) → i < length cs → AllSeen b (flat_map h (reverse cs)) → AllSeen b (h (get_or cs i d))
seen_in b h [] i d there all = absurd (omega arith)
seen_in b h (c ∷ cs) zero d there all = (seen_parts b (flat_map h (reverse cs)) (h c) (subst (AllSeen b) (turned h c cs) all)).1
seen_in b h (c ∷ cs) (suc i) d there all =
    seen_in b h cs i d (omega arith) (seen_parts b (flat_map h (reverse cs)) (h c) (subst (AllSeen b) (turned h c cs) all)).0

-- what is listed in two steps is listed in one
pub flat_flat : {X Y A : Type 0} (f : Y → List A) (g : X → List Y) (xs : List X) → flat_map f (flat_map g xs) ≡ flat_map (λ x. flat_map f (g x)) xs
flat_flat f g [] = refl
flat_flat f g (x ∷ xs) = flat_map-append f (g x) (flat_map g xs) ∙ ap (λ l. flat_map f (g x) ++ l) (flat_flat f g xs)

-- a caller has one view of a call
pub one_view : (xs : List Seat) (k : ℕ) → k < length xs → (s : Seat) × (map view_of (take 1 (drop k xs)) ≡ view_of (get_or xs k s) ∷ [])
one_view [] k h = absurd (omega arith)
one_view (x ∷ xs) zero h = (x, refl)
one_view (x ∷ xs) (suc k) h = one_view xs k (omega arith)

-- ---- each number is some caller's

-- a number of a stretch is in it
number_in : (c k n : ℕ) → k ≤ c → c < k + n → 0 < times c (ascending k n)
number_in c k zero low high = absurd (omega arith)
number_in c k (suc n) low high = ⊎_elim
    (λ (e : c ≡ k). let t : (k == c) ≡ true = eq-eqb k c (sym e) in let one : is_at c k ≡ 1 = ap bit t in omega arith)
    (λ (ne : c ≢ k). let rest = number_in c (suc k) n (let le : suc k ≤ c = omega (arith, low, ne) in le) (omega arith) in omega arith)
    (cases_eq c k)

-- it is left behind the first ones
number_left : (c i k n : ℕ) → k + i ≤ c → c < k + n → 0 < times c (drop i (ascending k n))
number_left c zero k n low high = number_in c k n (omega arith) high
number_left c (suc i) k zero low high = absurd (omega arith)
number_left c (suc i) k (suc n) low high = number_left c i (suc k) n (omega arith) (omega arith)

-- one behind the stretch isn't
number_out : (c k n : ℕ) → k + n ≤ c → times c (ascending k n) ≡ 0
number_out c k zero h = refl
number_out c k (suc n) h =
    let ne : k ≢ c = λ (e : k ≡ c). absurd (omega arith) in
    let t : (k == c) ≡ false = ne_eqb k c ne in
    let none : is_at c k ≡ 0 = ap bit t in
    omega (arith, none, number_out c (suc k) n (omega arith))

-- all numbers of callers are below 64
number_below : (c : ℕ) → 0 < times c all_callers → c < 64
unfolding all_callers
number_below c some = elim (cases_lt c 64) [ inl lt ↦ lt | inr le ↦ absurd (omega (arith, some, number_out c 0 64 le)) ]

-- a number of a caller is left where fewer were given
left_of_all : (c i : ℕ) → i ≤ c → c < 64 → 0 < times c (drop i all_callers)
unfolding all_callers
left_of_all c i low high = number_left c i 0 64 (omega (arith, low)) (omega (arith, high))

-- a caller of so many has this number
pub whose : (callers c : ℕ) → 1 ≤ callers → callers ≤ 64 → 0 < times c all_callers →
    (i : ℕ) × (i < callers) × (0 < times c (numbers_of callers i))
whose callers c some few known =
    let below = number_below c known in elim (cases_lt (c + 1) callers) [
      | inl lt ↦ (c, omega arith, subst (λ (ns : List ℕ). 0 < times c ns) (first_numbers callers c lt) (first_is c below))
      | inr le ↦
          let last : callers - 1 + 1 ≡ callers = omega (arith, some) in (
            callers - 1,
            omega (arith, some),
            subst (λ (ns : List ℕ). 0 < times c ns) (last_numbers callers (callers - 1) last) (left_of_all c (callers - 1) (omega (arith, le)) below),
          )
    ]
