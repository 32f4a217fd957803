-- Two indices, two accesses, the line of an index, and what an option has, by cases.
use Rattle.std.proofs.Common.{Result, Ok, Err, IfOk, ◌≡◌, ◌≢◌, ◌⊎◌, ℕ, zero, suc, List, [], ◌∷◌, length, Option, None, Some, IsSomeAnd}
use Rattle.std.proofs.Common.{ap, arith, inl, inr, refl}
use Rattle.trau_io.specs.declared.line.Side.{Side}
use Rattle.trau_io.specs.declared.line.Side.TheVariants.{Up, Pcm, Down, Out}
use Rattle.trau_io.specs.Indices.{index_of_line}
use Rattle.trau_files.specs.declared.trunk.bays.Access.{Access}
use Rattle.trau_files.specs.declared.trunk.bays.Access.TheVariants.{Reading, Writing}

pub same_or_other : (a b : ℕ) → (a ≡ b) ⊎ (a ≢ b)
same_or_other zero zero = inl refl
same_or_other zero (suc b) = inr (λ e. omega (arith, e))
same_or_other (suc a) zero = inr (λ e. omega (arith, e))
same_or_other (suc a) (suc b) = elim (same_or_other a b) [ inl e ↦ inl (ap suc e) | inr other ↦ inr (λ e. other (omega (arith, e))) ]

pub reads_or_writes : (a : Access) → (a ≡ Reading) ⊎ (a ≡ Writing)
reads_or_writes Reading = inl refl
reads_or_writes Writing = inr refl

pub if_ok : {T E P : Type 0} (r : Result T E) → P → IfOk r (λ _. P)
if_ok (Ok x) p = p
if_ok (Err e) p = tt

pub some_and : {X : Type 0} (P : X → Type 0) (o : Option X) → IsSomeAnd o P → (x : X) × (o ≡ Some x) × P x
some_and P None is = absurd is
some_and P (Some x) is = (x, refl, is)

pub nothing_of : (xs : List ℕ) → length xs ≡ 0 → xs ≡ []
nothing_of [] none = refl
nothing_of (x ∷ xs) none = absurd (omega (arith, none))

-- each index is a line's
pub line_with : (k : ℕ) → (c : ℕ) × (side : Side) × (index_of_line c side ≡ k)
line_with zero = (0, Up, refl)
line_with (suc zero) = (0, Pcm, refl)
line_with (suc (suc zero)) = (0, Down, refl)
line_with (suc (suc (suc zero))) = (0, Out, refl)
line_with (suc (suc (suc (suc k)))) = let line = line_with k in (suc line.0, line.1, next line.0 line.1 line.2)
  where
    next : (c : ℕ) (side : Side) → index_of_line c side ≡ k → index_of_line (suc c) side ≡ suc (suc (suc (suc k)))
    next c Up is = omega (arith, is)
    next c Pcm is = omega (arith, is)
    next c Down is = omega (arith, is)
    next c Out is = omega (arith, is)
