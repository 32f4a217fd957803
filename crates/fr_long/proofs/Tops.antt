-- The greatest of 81 numbers by the greatest in each of eight lanes.
use Rattle.std.proofs.Common.{◌≡◌, ◌⊎◌, ℕ, suc, zero, ◌+◌, ◌-◌, ◌*◌, ◌/◌, ◌%◌, ◌^◌, ◌<◌, ◌≤◌, min, ℤ, pos, ◌≤ℤ◌, FitsSigned, w32, to_z, of_z, int_lt, int_cmp}
use Rattle.std.proofs.Common.{is_lt, Less, Greater, Equal, Bool, true, false, cond, map, length, get_or, set, replicate, List, [], ◌∷◌, refl, ap, sym, subst}
use Rattle.std.proofs.Common.{◌∙◌, arith, inl, inr, lit<}
use Rattle.std.specs.Int.{int_max}
use Rattle.std.specs.Ordering.{ord_max}
use Rattle.std.proofs.lemmas.Int.{ints, clamps, to_z-of_z}
use Rattle.std.proofs.lemmas.Bool.{cases_lt, cases_eq}
use Rattle.std.proofs.lemmas.List.{get_or-set_same, get_or-set_other, get_or_past}
use Rattle.std.specs.Simd.Lanes.{zip2, Each1, chunk}
use Rattle.std.proofs.lemmas.Simd.{get_or-zip2, get_or-chunk, length-zip2, length-chunk, Each1-chunk, Each1-from_get_or, get_or-replicate, length-replicate}
use lib.Lanes.{sel_l, top}
use lib.Signed.{lt_z}
use Rattle.trau_num.specs.Num.{entry}
use Rattle.trau_lanes.proofs.LaneSums.{less}
use Rattle.fr_long.specs.Lag.{IsTop}

-- ---- the greater of two

-- the greater of two
pub max_bounds : (x y : ℤ) → (x ≤ℤ int_max x y) × (y ≤ℤ int_max x y)
max_bounds x y = (omega (arith, ints, clamps), omega (arith, ints, clamps))

pub max_reached : (x y : ℤ) → (int_max x y ≡ x) ⊎ (int_max x y ≡ y)
max_reached x y = by (int_lt y x)
  where
    by : (b : Bool) → (cond b x y ≡ x) ⊎ (cond b x y ≡ y)
    by true = inl refl
    by false = inr refl

pub max_fits : (x y : ℤ) → FitsSigned w32 x → FitsSigned w32 y → FitsSigned w32 (int_max x y)
max_fits x y f g = elim (max_reached x y) [
  | inl e ↦ subst (FitsSigned w32) (sym e) f
  | inr e ↦ subst (FitsSigned w32) (sym e) g
]

-- the greater of two lanes, and of each of eight
lane_max : (x y : ℤ) → FitsSigned w32 x → FitsSigned w32 y → to_z w32 (cond (top 31 (less (of_z w32 x) (of_z w32 y))) (of_z w32 y) (of_z w32 x)) ≡ int_max x y
lane_max x y f g =
    ap (λ z. to_z w32 (cond (top 31 (cond (lt_z z (to_z w32 (of_z w32 y))) (2 ^ 32 - 1) 0)) (of_z w32 y) (of_z w32 x))) (to_z-of_z w32 x f) ∙
    ap (λ z. to_z w32 (cond (top 31 (cond (lt_z x z) (2 ^ 32 - 1) 0)) (of_z w32 y) (of_z w32 x))) (to_z-of_z w32 y g) ∙ by (lt_z x y) refl
  where
    by : (b : Bool) → lt_z x y ≡ b → to_z w32 (cond (top 31 (cond b (2 ^ 32 - 1) 0)) (of_z w32 y) (of_z w32 x)) ≡ int_max x y
    by true e = to_z-of_z w32 y g ∙ grind (arith, ints, e)
    by false e = to_z-of_z w32 x f ∙ grind (arith, ints, e)

pub lanes_max : (xs ys : List ℤ) → Each1 (FitsSigned w32) xs → Each1 (FitsSigned w32) ys →
    map (to_z w32) (sel_l (map (top 31) (zip2 less (map (of_z w32) xs) (map (of_z w32) ys))) (map (of_z w32) ys) (map (of_z w32) xs)) ≡ zip2 int_max xs ys
lanes_max [] ys p q = refl
lanes_max (x ∷ xs) [] p q = refl
lanes_max (x ∷ xs) (y ∷ ys) p q = (λ i. lane_max x y p.0 q.0 i ∷ lanes_max xs ys p.1 q.1 i)

pub max_all_fit : (xs ys : List ℤ) → Each1 (FitsSigned w32) xs → Each1 (FitsSigned w32) ys → Each1 (FitsSigned w32) (zip2 int_max xs ys)
max_all_fit [] ys p q = tt
max_all_fit (x ∷ xs) [] p q = tt
max_all_fit (x ∷ xs) (y ∷ ys) p q = (max_fits x y p.0 q.0, max_all_fit xs ys p.1 q.1)

-- `max` of the ordering is that of the integers
is_less : (t u : Bool) → is_lt (cond t Less (cond u Greater Equal)) ≡ t
is_less true u = refl
is_less false true = refl
is_less false false = refl

-- the greater by the order's function
pub ord_max_is : (x y : ℤ) → ord_max int_cmp x y ≡ int_max x y
ord_max_is x y = ap (λ t. cond t x y) (is_less (int_lt y x) (int_lt x y))

-- ---- eight at a time

-- a top is 0 or one of the numbers
abbrev pub Reached : List ℤ → ℤ → Type 0
Reached c t = (t ≡ pos 0) ⊎ ((k : ℕ) × (k < 81) × (entry c k ≡ t))

-- where the first of eight stands
abbrev pub start_of : ℕ → ℕ
start_of g = min (8 * g) 73

-- the top of each lane over the groups so far
pub record AreTops (c tops : List ℤ) (group : ℕ) : Type 0 where
  pub eight : length tops ≡ 8
  pub longs : Each1 (FitsSigned w32) tops
  pub not_negative : (j : ℕ) → j < 8 → pos 0 ≤ℤ entry tops j
  pub bound : (g j : ℕ) → g < group → j < 8 → entry c (start_of g + j) ≤ℤ entry tops j
  pub reached : (j : ℕ) → j < 8 → Reached c (entry tops j)

-- the lane after eight more
lane_is : (c tops : List ℤ) (g j : ℕ) → length tops ≡ 8 → length c ≡ 81 → j < 8 →
    entry (zip2 int_max tops (chunk (start_of g) 8 c)) j ≡ int_max (entry tops j) (entry c (start_of g + j))
lane_is c tops g j l m b =
    let room : start_of g + 8 ≤ length c = omega arith in
    let long = length-chunk (start_of g) 8 c room in
    get_or-zip2 int_max tops (chunk (start_of g) 8 c) j (pos 0) (pos 0) (pos 0) (omega arith) (omega arith) ∙
    ap (int_max (entry tops j)) (get_or-chunk (start_of g) 8 c j (pos 0) b)

pub tops_next : (c tops : List ℤ) (group : ℕ) → length c ≡ 81 → ((k : ℕ) → FitsSigned w32 (entry c k)) → AreTops c tops group →
    AreTops c (zip2 int_max tops (chunk (start_of group) 8 c)) (group + 1)
tops_next c tops group l longs h =
    let room : start_of group + 8 ≤ length c = omega arith in
    let long = length-chunk (start_of group) 8 c room in
    let row : Each1 (FitsSigned w32) (chunk (start_of group) 8 c) =
    Each1-chunk (FitsSigned w32) (start_of group) 8 c (Each1-from_get_or (FitsSigned w32) c (pos 0) (λ k b. longs k)) in
    record {
      eight = length-zip2 int_max tops (chunk (start_of group) 8 c) (h.eight ∙ sym long) ∙ h.eight;
      longs = max_all_fit tops (chunk (start_of group) 8 c) h.longs row;
      not_negative = λ j b.
          let e = lane_is c tops group j h.eight l b in
          let low = (max_bounds (entry tops j) (entry c (start_of group + j))).0 in
          let n = h.not_negative j b in
          subst (λ t. pos 0 ≤ℤ t) (sym e) (omega (arith, ints));
      bound = λ g j b d.
          let e = lane_is c tops group j h.eight l d in
          let both = max_bounds (entry tops j) (entry c (start_of group + j)) in
          subst (λ t. entry c (start_of g + j) ≤ℤ t) (sym e)
          (elim (cases_lt g group) [
            | inl m ↦ let low = both.0 in let before = h.bound g j m d in omega (arith, ints)
            | inr m ↦
                let same : g ≡ group = omega arith in
                subst (λ i. entry c (start_of i + j) ≤ℤ int_max (entry tops j) (entry c (start_of group + j))) (sym same) both.1
          ]);
      reached = λ j b.
          let e = lane_is c tops group j h.eight l b in
          subst (Reached c) (sym e)
          (elim (max_reached (entry tops j) (entry c (start_of group + j))) [
            | inl m ↦ subst (Reached c) (sym m) (h.reached j b)
            | inr m ↦ inr (start_of group + j, omega arith, sym m)
          ]);
    }

-- ---- the greatest lane

-- the top of the lanes so far
pub record IsTopLane (c tops : List ℤ) (top : ℤ) (lane : ℕ) : Type 0 where
  pub not_negative : pos 0 ≤ℤ top
  pub bound : (j : ℕ) → j < lane → entry tops j ≤ℤ top
  pub reached : Reached c top

pub lane_next : (c tops : List ℤ) (best : ℤ) (lane group : ℕ) (next : ℤ) → lane < 8 → AreTops c tops group → IsTopLane c tops best lane →
    next ≡ int_max best (entry tops lane) →
    IsTopLane c tops next (lane + 1)
lane_next c tops best lane group next l h t e =
    let both = max_bounds best (entry tops lane) in
    let low = both.0 in
    let here = both.1 in
    let n = t.not_negative in
    record {
      not_negative = rw e (omega (arith, ints));
      bound = λ j b. subst (λ z. entry tops j ≤ℤ z) (sym e) (elim (cases_lt j lane) [
        | inl m ↦ let before = t.bound j m in omega (arith, ints)
        | inr m ↦ let same : j ≡ lane = omega arith in subst (λ i. entry tops i ≤ℤ int_max best (entry tops lane)) (sym same) here
      ]);
      reached = subst (Reached c) (sym e) (elim (max_reached best (entry tops lane)) [
        | inl m ↦ subst (Reached c) (sym m) t.reached
        | inr m ↦ subst (Reached c) (sym m) (h.reached lane l)
      ]);
    }

pub top_is : (c tops : List ℤ) (best : ℤ) (lane group : ℕ) → 8 ≤ lane → 11 ≤ group → AreTops c tops group → IsTopLane c tops best lane → IsTop c 81 best
top_is c tops best lane group l m h t = record { not_negative = t.not_negative; bound = all; reached = t.reached }
  where
    at : (k g j : ℕ) → k ≡ start_of g + j → g < 11 → j < 8 → entry c k ≤ℤ best
    at k g j e a b =
        let one = h.bound g j (omega arith) b in
        let two = t.bound j (omega arith) in
        subst (λ i. entry c i ≤ℤ best) (sym e) (omega (arith, ints))

    all : (k : ℕ) → k < 81 → entry c k ≤ℤ best
    all k b = elim (cases_lt k 80) [
      | inl d ↦ at k (k / 8) (k % 8) (omega arith) (omega arith) (omega arith)
      | inr d ↦ at k 10 7 (omega arith) (lit< tt) (lit< tt)
    ]

-- ---- what is filled stays in range

-- a list of longs with one of them set
pub set_fits : (xs : List ℤ) (i : ℕ) (x : ℤ) → i < length xs → FitsSigned w32 x → ((k : ℕ) → FitsSigned w32 (get_or xs k (pos 0))) → (k : ℕ) →
    FitsSigned w32 (get_or (set xs i x) k (pos 0))
set_fits xs i x l f h k = elim (cases_eq k i) [
  | inl e ↦ subst (λ j. FitsSigned w32 (get_or (set xs i x) j (pos 0))) (sym e) (subst (FitsSigned w32) (sym (get_or-set_same xs i x (pos 0) l)) f)
  | inr n ↦ subst (FitsSigned w32) (sym (get_or-set_other xs i k x (pos 0) n)) (h k)
]

pub zeros_fit : (k : ℕ) → FitsSigned w32 (get_or (replicate 81 (pos 0)) k (pos 0))
zeros_fit k =
    let z : FitsSigned w32 (pos 0) = omega (arith, ints) in
    elim (cases_lt k 81) [
      | inl b ↦ subst (FitsSigned w32) (sym (get_or-replicate 81 k (pos 0) (pos 0) b)) z
      | inr b ↦ subst (FitsSigned w32) (sym (get_or_past (replicate 81 (pos 0)) k (pos 0) (omega (arith, length-replicate 81 (pos 0))))) z
    ]
