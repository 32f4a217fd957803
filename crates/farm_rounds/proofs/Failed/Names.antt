-- For crates above: a line is listed exactly if its name is among those of failed lines (`listed_name`, `name_listed`),
-- and how such tests combine.
-- The lines that are listed as failed, as a test and by their names, and those that failed in a round.
use Rattle.std.proofs.Common.{◌≡◌, refl, sym, ap, ◌∙◌, subst, ℕ, zero, suc, ◌<◌, Bool, true, false, Some, None, List, [], ◌∷◌, length, map, get_or, inl, inr, ◌⊎◌, arith}
use Rattle.std.specs.Prelude.{◌==◌, if◌then◌else◌}
use Rattle.std.specs.List.{Contains, filter_map, flat_map, cons_option}
use Rattle.std.proofs.lemmas.Bool.{eq-eqb, eqb-true, or_cases, or_left, or_right}
use Rattle.std.proofs.lemmas.List.Elements.{Contains-append_left, Contains-append_right, Contains-append_cases}
use Rattle.std.proofs.lemmas.List.Sorted.{Contains-permutation, IsPermutation-map, IsPermutation-sym}
use Rattle.trau_io.specs.declared.line.Line.{Line}
use Rattle.trau_io.specs.declared.line.Side.{Side}
use Rattle.trau_io.specs.declared.line.Side.TheVariants.{Up, Pcm, Down, Out}
use Rattle.trau_io.specs.Indices.{index_of_line}
use Rattle.round_lines.specs.Memory.{LinesMemory, fails_in, sides, line_name, name_where_failed, failed_in_round}
use Rattle.round_lines.specs.Portions.{PortionMemory}
use Rattle.round_lines.specs.Rounds.{portion_at, call_at}
use Rattle.farm_rounds.specs.Failed.{is_listed}
use Rattle.farm_rounds.specs.Working.{GainsFailed}

-- ---- members of lists

-- a list of one item has that
one_of : {X : Type 0} (y x : X) (k : ℕ) → k < length (y ∷ []) → get_or (y ∷ []) k x ≡ x → y ≡ x
one_of y x zero l e = e
one_of y x (suc k) l e = absurd (omega arith)

-- the first element, or one behind it
pub cons_cases : {X : Type 0} (y : X) (xs : List X) (x : X) → Contains (y ∷ xs) x → (y ≡ x) ⊎ Contains xs x
cons_cases y xs x h = elim (Contains-append_cases (y ∷ []) xs x h) [ inl a ↦ inl (one_of y x a.0 a.1 a.2) | inr b ↦ inr b ]

pub none_in : {X : Type 0} (x : X) → Contains [] x → ⊥
none_in x h = let l = h.1 in absurd (omega arith)

-- tests that follow from each other are the same
pub same_test : (p q : Bool) → (p ≡ true → q ≡ true) → (q ≡ true → p ≡ true) → p ≡ q
same_test true q f g = sym (f refl)
same_test false true f g = g refl
same_test false false f g = refl

-- ---- places of lines

-- no two lines have one place
pub one_line : (c d : ℕ) (s z : Side) → index_of_line d z ≡ index_of_line c s → (d ≡ c) × (z ≡ s)
one_line c d Up Up e = (omega (arith, e), refl)
one_line c d Up Pcm e = absurd (omega (arith, e))
one_line c d Up Down e = absurd (omega (arith, e))
one_line c d Up Out e = absurd (omega (arith, e))
one_line c d Pcm Up e = absurd (omega (arith, e))
one_line c d Pcm Pcm e = (omega (arith, e), refl)
one_line c d Pcm Down e = absurd (omega (arith, e))
one_line c d Pcm Out e = absurd (omega (arith, e))
one_line c d Down Up e = absurd (omega (arith, e))
one_line c d Down Pcm e = absurd (omega (arith, e))
one_line c d Down Down e = (omega (arith, e), refl)
one_line c d Down Out e = absurd (omega (arith, e))
one_line c d Out Up e = absurd (omega (arith, e))
one_line c d Out Pcm e = absurd (omega (arith, e))
one_line c d Out Down e = absurd (omega (arith, e))
one_line c d Out Out e = (omega (arith, e), refl)

-- **A line is listed where its name is told.**
pub listed_name : (lines : List Line) (c : ℕ) (s : Side) → is_listed lines c s ≡ true → Contains (map line_name lines) (c, s)
listed_name [] c s e = cc
listed_name (l ∷ lines) c s e = elim (or_cases (index_of_line l.call l.side == index_of_line c s) (is_listed lines c s) e) [
  | inl q ↦ let p = one_line c l.call s l.side (eqb-true (index_of_line l.call l.side) (index_of_line c s) q) in
      (0, omega arith, ap (λ (d : ℕ). (d, l.side)) p.0 ∙ ap (λ (z : Side). (c, z)) p.1)
  | inr q ↦ Contains-append_right (line_name l ∷ []) (map line_name lines) (c, s) (listed_name lines c s q)
]

-- a line is listed where its name is
pub name_listed : (lines : List Line) (c : ℕ) (s : Side) → Contains (map line_name lines) (c, s) → is_listed lines c s ≡ true
name_listed [] c s h = absurd (none_in (c, s) h)
name_listed (l ∷ lines) c s h = elim (cons_cases (line_name l) (map line_name lines) (c, s) h) [
  | inl q ↦ or_left (index_of_line l.call l.side == index_of_line c s) (is_listed lines c s)
      (eq-eqb (index_of_line l.call l.side) (index_of_line c s) (ap (λ (y : ℕ × Side). index_of_line y.0 y.1) q))
  | inr m ↦ or_right (index_of_line l.call l.side == index_of_line c s) (is_listed lines c s) (name_listed lines c s m)
]

-- the first line of a list is listed
pub listed_head : (l : Line) (lines : List Line) → is_listed (l ∷ lines) l.call l.side ≡ true
listed_head l lines =
    or_left (index_of_line l.call l.side == index_of_line l.call l.side) (is_listed lines l.call l.side) (eq-eqb (index_of_line l.call l.side) (index_of_line l.call l.side) refl)

-- ---- the lines that failed in a round

-- a line by its call and its side
abbrev pub Name : Type 0
Name = ℕ × Side

-- the lines of a call that failed are those sides whose mark says so
listed_side : (p : LinesMemory) (xs : List Side) (s : Side) → Contains xs s → fails_in p s ≡ true →
    Contains (filter_map (name_where_failed p) xs) (p.call, s)
listed_side p [] s h e = absurd (none_in s h)
listed_side p (z ∷ xs) s h e = by (fails_in p z) refl (cons_cases z xs s h) (λ k. listed_side p xs s k e)
  where
    by : (b : Bool) → fails_in p z ≡ b → (z ≡ s) ⊎ Contains xs s → (Contains xs s → Contains (filter_map (name_where_failed p) xs) (p.call, s)) →
        Contains (cons_option (if b then Some (p.call, z) else None) (filter_map (name_where_failed p) xs)) (p.call, s)
    by false q (inl k) rest = let g : fails_in p z ≡ true = ap (fails_in p) k ∙ e in cc
    by true q (inl k) rest = (0, omega arith, ap (λ (z : Side). (p.call, z)) k)
    by false q (inr k) rest = rest k
    by true q (inr k) rest = Contains-append_right ((p.call, z) ∷ []) (filter_map (name_where_failed p) xs) (p.call, s) (rest k)

-- a line that a portion names failed in the round
side_listed : (p : LinesMemory) (xs : List Side) (y : Name) → Contains (filter_map (name_where_failed p) xs) y →
    (s : Side) × (y ≡ (p.call, s)) × (fails_in p s ≡ true)
side_listed p [] y h = absurd (none_in y h)
side_listed p (z ∷ xs) y h = by (fails_in p z) refl h (side_listed p xs y)
  where
    by : (b : Bool) → fails_in p z ≡ b → Contains (cons_option (if b then Some (p.call, z) else None) (filter_map (name_where_failed p) xs)) y →
        (Contains (filter_map (name_where_failed p) xs) y → (s : Side) × (y ≡ (p.call, s)) × (fails_in p s ≡ true)) →
        (s : Side) × (y ≡ (p.call, s)) × (fails_in p s ≡ true)
    by false q k rest = rest k
    by true q k rest = elim (cons_cases (p.call, z) (filter_map (name_where_failed p) xs) y k) [ inl e ↦ (z, sym e, q) | inr m ↦ rest m ]

-- each side is one of the four
a_side : (s : Side) → Contains sides s
a_side Up = (0, omega arith, refl)
a_side Pcm = (1, omega arith, refl)
a_side Down = (2, omega arith, refl)
a_side Out = (3, omega arith, refl)

-- the lines of all portions' calls that failed
abbrev pub names : List PortionMemory → List Name
names portions = flat_map (λ s. failed_in_round s.lines) portions

-- a line that failed in the round is among the names of the portions
pub portion_listed : (portions : List PortionMemory) (k : ℕ) (s : Side) → k < length portions → fails_in (portion_at portions k).lines s ≡ true →
    Contains (names portions) (call_at portions k, s)
portion_listed [] k s l e = absurd (omega arith)
portion_listed (x ∷ portions) zero s l e = Contains-append_left (failed_in_round x.lines) (names portions) (x.lines.call, s) (listed_side x.lines sides s (a_side s) e)
portion_listed (x ∷ portions) (suc k) s l e =
    Contains-append_right (failed_in_round x.lines) (names portions) (call_at portions k, s) (portion_listed portions k s (omega arith) e)

-- the portion that a name is listed by
pub record Lists (portions : List PortionMemory) (y : Name) : Type 0 where
  pub k : ℕ
  pub within : k < length portions
  pub side : Side
  pub name : y ≡ (call_at portions k, side)
  pub fails : fails_in (portion_at portions k).lines side ≡ true

-- a name among them is of a line that failed
pub listed_portion : (portions : List PortionMemory) (y : Name) → Contains (names portions) y → Lists portions y
listed_portion [] y h = absurd (none_in y h)
listed_portion (x ∷ portions) y h = elim (Contains-append_cases (failed_in_round x.lines) (names portions) y h) [
  | inl a ↦ let l = side_listed x.lines sides y a in record { k = 0; within = omega arith; side = l.0; name = l.1; fails = l.2 }
  | inr b ↦ let l = listed_portion portions y b in record { k = suc l.k; within = (let m = l.within in omega arith); side = l.side; name = l.name; fails = l.fails }
]

-- ---- a round

-- **The lines that are listed after a round are those from before and those that its portions' marks tell.**
pub listed_before : (before now : List Line) (portions : List PortionMemory) (y : Name) → GainsFailed before now portions →
    Contains (map line_name before) y ⊎ Contains (names portions) y → Contains (map line_name now) y
listed_before before now portions y g h =
    Contains-permutation (map line_name g.lines) (map line_name now) y (IsPermutation-map line_name g.lines now g.same)
    (subst (λ xs. Contains xs y) (sym g.told) (elim h [
      | inl a ↦ Contains-append_left (map line_name before) (names portions) y a
      | inr b ↦ Contains-append_right (map line_name before) (names portions) y b
    ]))

-- A line that is listed after the round was listed before it, or failed in it.
pub listed_after : (before now : List Line) (portions : List PortionMemory) (y : Name) → GainsFailed before now portions → Contains (map line_name now) y →
    Contains (map line_name before) y ⊎ Contains (names portions) y
listed_after before now portions y g h = Contains-append_cases (map line_name before) (names portions) y
    (subst (λ xs. Contains xs y) g.told (Contains-permutation (map line_name now) (map line_name g.lines) y
    (IsPermutation-map line_name now g.lines (IsPermutation-sym g.lines now g.same)) h))
