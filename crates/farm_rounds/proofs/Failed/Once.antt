-- The lines that are listed after a round stand in it once each.
use Rattle.std.proofs.Common.{◌≡◌, refl, sym, ap, ◌∙◌, subst, ℕ, suc, ◌+◌, ◌*◌, ◌<◌, ◌≤◌, Bool, true, false, Some, None, List, [], ◌∷◌, ◌++◌, length, map}
use Rattle.std.proofs.Common.{arith}
use Rattle.std.specs.Prelude.{eqb, ◌==◌, if◌then◌else◌, slice_index}
use Rattle.std.specs.List.{AllByRecursion, Contains, IsDistinct, filter_map, cons_option}
use Rattle.std.specs.List.Sorted.{IsNonDecreasing, IsNonDecreasingBy, IsPermutation, IsStrictlyIncreasing}
use Rattle.std.proofs.lemmas.Bool.{ne_eqb, eq-eqb, eqb-true}
use Rattle.std.proofs.lemmas.List.{get_or-map, length-map}
use Rattle.std.proofs.lemmas.List.Elements.{Contains-append_right}
use Rattle.std.proofs.lemmas.List.Sorted.{IsPermutation-map}
use Rattle.std.proofs.lemmas.Map.Keys.{IsDistinct-IsPermutation, IsStrictlyIncreasing-from_distinct}
use Rattle.trau_io.specs.declared.line.Line.{Line}
use Rattle.trau_io.specs.declared.line.Side.{Side}
use Rattle.trau_io.specs.declared.line.Side.TheVariants.{Up, Pcm, Down, Out}
use Rattle.trau_io.specs.Indices.{index_of_line}
use Rattle.round_lines.specs.Memory.{LinesMemory, fails_in, line_name, name_where_failed, failed_in_round}
use Rattle.round_lines.specs.Portions.{PortionMemory}
use Rattle.round_lines.specs.Rounds.{Rising, call_at}
use Rattle.farm_rounds.proofs.Failed.Names.{Name, names, one_line, same_test}

-- the place of a line, and of its name
abbrev pub line_place : Line → ℕ
line_place l = index_of_line l.call l.side

-- where a line stands in the order of all lines
abbrev place : Name → ℕ
place y = index_of_line y.0 y.1

-- two names of one line
abbrev same : Name → Name → Bool
same y z = place y == place z

-- no two lines stand there alike
same_name : (y z : Name) → place z ≡ place y → z ≡ y
same_name y z e = let p = one_line y.0 z.0 y.1 z.1 e in ap (λ (d : ℕ). (d, z.1)) p.0 ∙ ap (λ (s : Side). (y.0, s)) p.1

-- the order of the two doesn't matter
flips : (y z : Name) → same y z ≡ same z y
flips y z = same_test (same y z) (same z y) (λ e. eq-eqb (place z) (place y) (sym (eqb-true (place y) (place z) e)))
    (λ e. eq-eqb (place y) (place z) (sym (eqb-true (place z) (place y) e)))

-- ---- names that rise

-- the first place is at least n, and each is below the next
abbrev RisesFrom : ℕ → List Name → Type 0
RisesFrom n [] = Unit {0}
RisesFrom n (y ∷ ys) = (n ≤ place y) × RisesFrom (suc (place y)) ys

-- names that rise from a number on rise from any lower one
rises_sooner : (n m : ℕ) (ys : List Name) → n ≤ m → RisesFrom m ys → RisesFrom n ys
rises_sooner n m [] l r = tt
rises_sooner n m (y ∷ ys) l r = let k = r.0 in (omega arith, r.1)

-- a line that stands lower isn't among them
apart : (x n : ℕ) (ys : List Name) → x < n → RisesFrom n ys → AllByRecursion (λ z. x == place z ≡ false) ys
apart x n [] l r = tt
apart x n (y ∷ ys) l r = let k = r.0 in (ne_eqb x (place y) (λ e. absurd (omega (arith, e, k, l))), apart x (suc (place y)) ys (omega arith) r.1)

-- names that rise are of different lines
rising_distinct : (n : ℕ) (ys : List Name) → RisesFrom n ys → IsDistinct same ys
unfolding IsDistinct
rising_distinct n [] r = tt
rising_distinct n (y ∷ ys) r = (apart (place y) (suc (place y)) ys (omega arith) r.1, rising_distinct (suc (place y)) ys r.1)

-- lines whose places rise
lines_rise : (lines : List Line) (n : ℕ) → IsStrictlyIncreasing (map line_place lines) →
    (0 < length lines → n ≤ slice_index (map line_place lines) 0) → RisesFrom n (map line_name lines)
lines_rise [] n s l = tt
lines_rise (x ∷ lines) n s l = (l (omega arith), lines_rise lines (suc (line_place x)) tail (λ m. s 0 (omega (arith, m, length-map lines line_place))))
  where
    tail : IsStrictlyIncreasing (map line_place lines)
    tail k m =
        let e : suc k + 1 ≡ suc (k + 1) = omega arith in
        subst (λ (j : ℕ). slice_index (map line_place lines) k < slice_index (map line_place (x ∷ lines)) j) e (s (suc k) (omega arith))

-- the lines that failed in a round, portion by portion
one_side : (p : LinesMemory) (z : Side) (zs : List Side) (rest : List Name) (n : ℕ) → n ≤ index_of_line p.call z →
    RisesFrom (suc (index_of_line p.call z)) (filter_map (name_where_failed p) zs ++ rest) →
    RisesFrom n (filter_map (name_where_failed p) (z ∷ zs) ++ rest)
one_side p z zs rest n l r = by (fails_in p z) refl
  where
    by : (b : Bool) → fails_in p z ≡ b →
        RisesFrom n (cons_option (if b then Some (p.call, z) else None) (filter_map (name_where_failed p) zs) ++ rest)
    by true q = (l, r)
    by false q = rises_sooner n (suc (index_of_line p.call z)) (filter_map (name_where_failed p) zs ++ rest) (omega arith) r

-- the names of a portion rise, and stand before those of later ones
one_portion : (p : LinesMemory) (rest : List Name) (n : ℕ) → n ≤ 4 * p.call → RisesFrom (4 * p.call + 4) rest → RisesFrom n (failed_in_round p ++ rest)
one_portion p rest n l r =
    one_side p Up (Pcm ∷ Down ∷ Out ∷ []) rest n (omega arith)
    (one_side p Pcm (Down ∷ Out ∷ []) rest (suc (index_of_line p.call Up)) (omega arith)
    (one_side p Down (Out ∷ []) rest (suc (index_of_line p.call Pcm)) (omega arith)
    (one_side p Out [] rest (suc (index_of_line p.call Down)) (omega arith)
    (rises_sooner (suc (index_of_line p.call Out)) (4 * p.call + 4) rest (omega arith) r))))

-- The names of all portions rise.
portions_rise : (portions : List PortionMemory) (n : ℕ) → Rising portions → (0 < length portions → n ≤ 4 * call_at portions 0) → RisesFrom n (names portions)
portions_rise [] n r l = tt
portions_rise (x ∷ portions) n r l =
    one_portion x.lines (names portions) n (l (omega arith)) (portions_rise portions (4 * x.lines.call + 4) (λ i j a m. r (suc i) (suc j) (omega arith) (omega arith)) next)
  where
    next : 0 < length portions → 4 * x.lines.call + 4 ≤ 4 * call_at portions 0
    next m = let k : x.lines.call < call_at portions 0 = r 0 1 (omega arith) (omega arith) in omega (arith, k)

-- ---- names that differ

-- a line that isn't among some differs from each
differs : (y : Name) (ys : List Name) → (Contains ys y → ⊥) → AllByRecursion (λ z. same y z ≡ false) ys
differs y [] h = tt
differs y (z ∷ ys) h = (
  ne_eqb (place y) (place z) (λ e. h (0, omega arith, same_name y z (sym e))),
  differs y ys (λ m. h (Contains-append_right (z ∷ []) ys y m)),
)

-- what holds of each of two lists holds of both
each_append : (P : Name → Type 0) (xs ys : List Name) → AllByRecursion P xs → AllByRecursion P ys → AllByRecursion P (xs ++ ys)
each_append P [] ys h k = k
each_append P (x ∷ xs) ys h k = (h.0, each_append P xs ys h.1 k)

-- two lists of different lines that share none are one such list
distinct_append : (xs ys : List Name) → IsDistinct same xs → IsDistinct same ys →
    ((y : Name) → Contains xs y → Contains ys y → ⊥) → IsDistinct same (xs ++ ys)
unfolding IsDistinct
distinct_append [] ys d e h = e
distinct_append (x ∷ xs) ys d e h = (
  each_append (λ z. same x z ≡ false) xs ys d.0 (differs x ys (h x (0, omega arith, refl))),
  distinct_append xs ys d.1 e (λ y m. h y (Contains-append_right (x ∷ []) xs y m)),
)

-- different lines stand differently
distinct_places : (lines : List Line) → IsDistinct same (map line_name lines) → IsDistinct eqb (map line_place lines)
unfolding IsDistinct
distinct_places [] d = tt
distinct_places (l ∷ lines) d = (others lines d.0, distinct_places lines d.1)
  where
    others : (ls : List Line) → AllByRecursion (λ z. same (line_name l) z ≡ false) (map line_name ls) →
        AllByRecursion (λ (q : ℕ). eqb (line_place l) q ≡ false) (map line_place ls)
    others [] a = tt
    others (k ∷ ls) a = (a.0, others ls a.1)

-- lines that are sorted so never fall
not_falling : (lines : List Line) → IsNonDecreasingBy line_place lines → IsNonDecreasing (map line_place lines)
not_falling [] h i j d l m = absurd (omega arith)
not_falling (x ∷ lines) h i j d l m =
    let long = length-map (x ∷ lines) line_place in
    let at : j < length (x ∷ lines) = omega (arith, m, long) in
    let first = get_or-map line_place (x ∷ lines) i x d (omega (arith, at, l)) in
    let second = get_or-map line_place (x ∷ lines) j x d at in
    let k = h i j x l at in
    omega (arith, first, second, k)

-- **Where no line was listed before that failed in the round, each is listed once.**
pub listed_once : (before lines now : List Line) (portions : List PortionMemory) → map line_name lines ≡ map line_name before ++ names portions →
    IsPermutation lines now → IsNonDecreasingBy line_place now → Rising portions →
    ((y : Name) → Contains (map line_name before) y → Contains (names portions) y → ⊥) → IsStrictlyIncreasing (map line_place before) →
    IsStrictlyIncreasing (map line_place now)
listed_once before lines now portions named sorted order r none s =
    IsStrictlyIncreasing-from_distinct (map line_place now) (not_falling now order)
    (distinct_places now
    (IsDistinct-IsPermutation same flips (map line_name lines) (map line_name now) (IsPermutation-map line_name lines now sorted)
    (subst (λ (ys : List Name). IsDistinct same ys) (sym named)
    (distinct_append (map line_name before) (names portions) (rising_distinct 0 (map line_name before) (lines_rise before 0 s (λ m. omega arith)))
    (rising_distinct 0 (names portions) (portions_rise portions 0 r (λ m. omega arith))) none))))
