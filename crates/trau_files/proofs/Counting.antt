-- The lines' counts of octets.
use Rattle.std.proofs.Common.{◌≡◌, ◌≢◌, ◌⊎◌, ◌∙◌, ◌<◌, ℕ, zero, suc, List, [], ◌∷◌, length, Some}
use Rattle.std.proofs.Common.{ap, arith, slice_get, slice_index_or, slice_set, inl, inr, subst, sym}
use Rattle.trau_io.specs.declared.line.Side.{Side}
use Rattle.trau_io.specs.Indices.{index_of_line}
use Rattle.trau_io.proofs.Tables.{same_line}
use Rattle.trau_files.proofs.BayLaws.{set_place, set_there}
use Rattle.trau_files.specs.Files.{FileLine}
use Rattle.trau_files.specs.Holds.{IsCounted, line_at}
use Rattle.trau_files.proofs.Cases.{same_or_other}

-- counts after one line's changed
pub counted : (lines : List FileLine) (p k : ℕ) (l : FileLine) → p < length lines →
    ((k ≡ p) × (line_at (slice_set lines p l) k ≡ l)) ⊎ (line_at (slice_set lines p l) k ≡ line_at lines k)
counted lines p k l within = set_place lines p l (record { read = 0; written = 0; faults = 0 }) k

pub counts_after : (lines lines' : List FileLine) (call : ℕ) (side : Side) (l : FileLine) (given given' put put' : ℕ → Side → List ℕ) →
    index_of_line call side < length lines → lines' ≡ slice_set lines (index_of_line call side) l → IsCounted l (given' call side) (put' call side) →
    ((c : ℕ) (s : Side) → (c ≡ call → s ≡ side → ⊥) → given' c s ≡ given c s) → ((c : ℕ) (s : Side) → (c ≡ call → s ≡ side → ⊥) → put' c s ≡ put c s) →
    ((c : ℕ) (s : Side) → IsCounted (line_at lines (index_of_line c s)) (given c s) (put c s)) →
    (c : ℕ) (s : Side) → IsCounted (line_at lines' (index_of_line c s)) (given' c s) (put' c s)
counts_after lines lines' call side l given given' put put' within set this gave took before c s =
    elim (same_or_other (index_of_line c s) (index_of_line call side)) [
      | inl same ↦ let line = same_line c call s side same in
          subst (λ (x : ℕ). IsCounted (line_at lines' (index_of_line x s)) (given' x s) (put' x s)) (sym line.0)
          (subst (λ (x : Side). IsCounted (line_at lines' (index_of_line call x)) (given' call x) (put' call x)) (sym line.1)
          (subst (λ (x : FileLine). IsCounted x (given' call side) (put' call side)) (sym here) this))
      | inr other ↦ that other
    ]
  where
    here : line_at lines' (index_of_line call side) ≡ l
    here = ap (λ (xs : List FileLine). line_at xs (index_of_line call side)) set
        ∙ set_there lines (index_of_line call side) l (record { read = 0; written = 0; faults = 0 }) within

    that : index_of_line c s ≢ index_of_line call side → IsCounted (line_at lines' (index_of_line c s)) (given' c s) (put' c s)
    that other =
        let elsewhere : c ≡ call → s ≡ side → ⊥ = λ c' s'. other (ap (λ x. index_of_line x s) c' ∙ ap (index_of_line call) s') in
        let there : line_at lines' (index_of_line c s) ≡ line_at lines (index_of_line c s) =
        ap (λ (xs : List FileLine). line_at xs (index_of_line c s)) set ∙ elim (counted lines (index_of_line call side) (index_of_line c s) l within) [
          | inl e ↦ absurd (other e.0)
          | inr e ↦ e
        ] in
        rw (there, gave c s elsewhere, took c s elsewhere) (before c s)

-- the line that a table has
pub got : {X : Type 0} (xs : List X) (k : ℕ) (x d : X) → slice_get xs k ≡ Some x → (k < length xs) × (slice_index_or xs k d ≡ x)
got [] k x d is = let no : ⊥ = cc in absurd no
got (y ∷ ys) zero x d is = (omega arith, cc)
got (y ∷ ys) (suc k) x d is = let rest = got ys k x d is in (omega (arith, rest.0), rest.1)
