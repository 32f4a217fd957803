-- Every list of bits has a list of yields: as long as bits are left, the search gives one more.
use Rattle.std.proofs.Common.{◌≡◌, ℕ, zero, suc, ◌+◌, ◌-◌, ◌≤◌, List, [], ◌∷◌, length, Option, Some, None, refl, arith, inl, inr}
use Rattle.std.specs.Option.{MatchOption}
use Rattle.std.proofs.lemmas.Bool.{cases_lt, cases_eq, cases_Bool, eq-eqb, ne_eqb}
use Rattle.trau_frame.specs.Match.{bit_in, is_match, frame_at}
use Rattle.frame_sync.specs.declared.yields.Mode.{Mode}
use Rattle.frame_sync.specs.declared.yields.Mode.TheVariants.{Hunting, Locked}
use Rattle.frame_sync.specs.declared.yields.Yield.{Yield}
use Rattle.frame_sync.specs.declared.yields.Yield.TheVariants.{Frame, Miss}
use Rattle.frame_sync.specs.Yields.{misses_to_hunt, NoMatch, Yields}
use Rattle.frame_sync.specs.Periods.{after_miss, first_match}
use Rattle.frame_sync.specs.Memory.{low_of}
use Rattle.frame_sync.proofs.Found.{FoundAt, first_match-says}
use Rattle.frame_sync.proofs.Modes.{Gives, GiveAll, NoneEnds, all-follow}

-- from a mode on the bits give these yields, and no other ends in them
record AllGiven (bits : List ℕ) (mode : Mode) : Type 0 where
  ys : List Yield
  last : Mode
  gives : GiveAll bits mode ys last
  none : NoneEnds bits (length bits) last

given-none : (bits : List ℕ) (mode : Mode) → NoneEnds bits (length bits) mode → AllGiven bits mode
given-none bits mode none = record { ys = []; last = mode; gives = refl; none = none }

-- one yield before others
given-more : (bits : List ℕ) (mode : Mode) (y : Yield) (after : Mode) → Gives bits mode y after → AllGiven bits after → AllGiven bits mode
given-more bits mode y after g rest = record { ys = y ∷ rest.ys; last = rest.last; gives = (after, g, rest.gives); none = rest.none }

-- no yield ends in the bits where none of them is behind the place from which on it is looked for
none-behind : (bits : List ℕ) (mode : Mode) → length bits ≤ low_of mode → NoneEnds bits (length bits) mode
none-behind bits (Hunting low) l = λ q a b. absurd (omega arith)
none-behind bits (Locked next misses) l = omega arith

-- how many places from `low` on a frame can begin at
abbrev begins : List ℕ → ℕ → ℕ
begins bits low = length bits - 319 - low

-- hunting, by what is found at these places
given-hunting : (bits : List ℕ) (low : ℕ) (o : Option ℕ) →
    MatchOption o (NoMatch (bit_in bits) low (low + begins bits low)) (FoundAt (bit_in bits) low (begins bits low)) →
    ((p : ℕ) → low ≤ p → AllGiven bits (Locked (p + 320) 0)) → AllGiven bits (Hunting low)
given-hunting bits low None h more = given-none bits (Hunting low) (λ q a b. h q a (omega arith))
given-hunting bits low (Some p) h more =
    let from = h.from in
    let below = h.below in
    given-more bits (Hunting low) (Frame p (frame_at (bit_in bits) p)) (Locked (p + 320) 0)
    (from, h.before, h.matches, omega arith, refl, refl) (more p from)

low-after_miss : (p misses : ℕ) → low_of (after_miss p misses) ≡ p + 320
low-after_miss p misses = elim (cases_eq (misses + 1) misses_to_hunt) [
  | inl last ↦ rw (eq-eqb (misses + 1) misses_to_hunt last) refl
  | inr less ↦ rw (ne_eqb (misses + 1) misses_to_hunt less) refl
]

-- in any mode, with at most k bits from the place on from which it goes on
given-from : (k : ℕ) (bits : List ℕ) (mode : Mode) → length bits ≤ low_of mode + k → AllGiven bits mode
given-from zero bits mode l = given-none bits mode (none-behind bits mode (omega (arith, l)))
given-from (suc k) bits (Hunting low) l =
    given-hunting bits low (first_match (bit_in bits) low (begins bits low)) (first_match-says (bit_in bits) low (begins bits low))
    (λ p a. given-from k bits (Locked (p + 320) 0) (omega arith))
given-from (suc k) bits (Locked next misses) l = elim (cases_lt (length bits) (next + 320)) [
  | inl short ↦ given-none bits (Locked next misses) short
  | inr long ↦ elim (cases_Bool (is_match (bit_in bits) next)) [
    | inl m ↦
        given-more bits (Locked next misses) (Frame next (frame_at (bit_in bits) next)) (Locked (next + 320) 0) (refl, m, long, refl, refl)
        (given-from k bits (Locked (next + 320) 0) (omega arith))
    | inr m ↦
        let low = low-after_miss next misses in
        given-more bits (Locked next misses) (Miss next) (after_miss next misses) (refl, m, long, refl)
        (given-from k bits (after_miss next misses) (omega arith))
  ]
]

pub some_yields : (bits : List ℕ) → (ys : List Yield) × Yields bits ys
some_yields bits =
    let all = given-from (length bits) bits (Hunting 0) (omega arith) in
    (all.ys, all-follow bits all.ys all.last all.gives all.none)
