-- For crates above: one line of a table of all lines is replaced (`replaced`); no two lines have one index
-- (`same_line`).
use Rattle.std.proofs.Common.{◌≡◌, ◌≢◌, ℕ, ◌<◌, zero, suc, List, [], ◌∷◌, length, get_or, Option, Some, slice_get, slice_set, refl, sym, ◌∙◌, ap, arith}
use Rattle.std.proofs.lemmas.Option.{slice_get_read}
use Rattle.trau_io.specs.declared.line.Side.{Side}
use Rattle.trau_io.specs.declared.line.Side.TheVariants.{Up, Pcm, Down, Out}
use Rattle.trau_io.specs.Indices.{number_of_side, index_of_line}
use Rattle.trau_io.specs.Lines.{LineState, OthersStay}

pub number_of_side-below : (s : Side) → number_of_side s < 4
number_of_side-below Up = omega arith
number_of_side-below Pcm = omega arith
number_of_side-below Down = omega arith
number_of_side-below Out = omega arith

abbrev side_of : ℕ → Side
side_of zero = Up
side_of (suc zero) = Pcm
side_of (suc (suc zero)) = Down
side_of n = Out

side_of-number : (s : Side) → side_of (number_of_side s) ≡ s
side_of-number Up = refl
side_of-number Pcm = refl
side_of-number Down = refl
side_of-number Out = refl

-- a place is one line's
pub same_line : (c d : ℕ) (s t : Side) → index_of_line c s ≡ index_of_line d t → (c ≡ d) × (s ≡ t)
same_line c d s t same =
    let number : number_of_side s ≡ number_of_side t = omega (arith, same, number_of_side-below s, number_of_side-below t) in
    (omega (arith, same, number), sym (side_of-number s) ∙ ap side_of number ∙ side_of-number t)

get-set_same : {X : Type 0} (xs : List X) (i : ℕ) (x : X) → i < length xs → slice_get (slice_set xs i x) i ≡ Some x
get-set_same [] i x within = absurd (omega arith)
get-set_same (y ∷ ys) zero x within = refl
get-set_same (y ∷ ys) (suc i) x within = get-set_same ys i x (omega arith)

get-set_other : {X : Type 0} (xs : List X) (i j : ℕ) (x : X) → j ≢ i → slice_get (slice_set xs i x) j ≡ slice_get xs j
get-set_other [] i j x other = refl
get-set_other (y ∷ ys) zero zero x other = absurd (other refl)
get-set_other (y ∷ ys) zero (suc j) x other = refl
get-set_other (y ∷ ys) (suc i) zero x other = refl
get-set_other (y ∷ ys) (suc i) (suc j) x other = get-set_other ys i j x (λ same. other (ap suc same))

-- what is known of each line of a table
abbrev pub known_in : {X : Type 0} → (Option X → LineState) → List X → ℕ → Side → LineState
known_in known table call side = known (slice_get table (index_of_line call side))

others_set : {X : Type 0} (known : Option X → LineState) (table : List X) (call : ℕ) (side : Side) (x : X) →
    OthersStay (known_in known table) (known_in known (slice_set table (index_of_line call side) x)) call side
others_set known table call side x c s other =
    ap known (get-set_other table (index_of_line call side) (index_of_line c s) x (λ same. let one = same_line c call s side same in other one.0 one.1))

-- one line's place holds another value now
pub record Replaced {X : Type 0} (known : Option X → LineState) (before now : List X) (call : ℕ) (side : Side) (old new : X) : Type 0 where
  pub found : slice_get before (index_of_line call side) ≡ Some old
  pub put : now ≡ slice_set before (index_of_line call side) new
  pub was : known_in known before call side ≡ known (Some old)
  pub is : known_in known now call side ≡ known (Some new)
  pub others : OthersStay (known_in known before) (known_in known now) call side

pub replaced : {X : Type 0} (known : Option X → LineState) (before table : List X) (call : ℕ) (side : Side) (p : ℕ) (old new : X) → table ≡ before →
    length table ≡ 16388 → p ≡ index_of_line call side → p < 16388 → old ≡ get_or table p old → Replaced known before (slice_set table p new) call side old new
replaced known before table call side p old new same size place within read =
    let found : slice_get before (index_of_line call side) ≡ Some old = cc (slice_get_read table 16388 p old (sym size) within read) in
    let put : slice_set table p new ≡ slice_set before (index_of_line call side) new = cc in
    record {
      found = found;
      put = put;
      was = ap known found;
      is = ap known (ap (slice_get _) (sym place) ∙ get-set_same table p new (omega (arith, size, within)));
      others = rw put (others_set known before call side new);
    }
