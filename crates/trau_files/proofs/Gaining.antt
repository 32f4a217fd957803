-- What lines gave and took, the bays of their files and what is known of the other lines, after one line's operation.
use Rattle.std.proofs.Common.{◌≡◌, ◌∙◌, ◌<◌, ◌+◌, ℕ, List, [], ◌∷◌, ◌++◌, length, take, drop, Option, Some}
use Rattle.std.proofs.Common.{ap, ap₂, append-nil, append_assoc, arith, length-append, take_at, take-append-drop, eq-zero-or-pos, inl, inr, refl, subst, sym}
use Rattle.trau_io.specs.declared.line.Side.{Side}
use Rattle.trau_io.specs.Indices.{index_of_line}
use Rattle.trau_io.specs.Lines.{OthersStay}
use Rattle.trau_io.proofs.Tables.{same_line}
use Rattle.trau_files.specs.declared.trunk.claims.Claim.{Claim}
use Rattle.trau_files.specs.declared.trunk.bays.Access.{Access}
use Rattle.trau_files.specs.declared.trunk.bays.Access.TheVariants.{Reading, Writing}
use Rattle.trau_files.specs.Claims.{AreApart, claim_at}
use Rattle.trau_files.specs.Files.{states_of, FileLine, IsOpenAt, IsMovedBy, OpenAfter, OpenLine, file_name, in_bay, raised}
use Rattle.trau_files.specs.Disk.{octets_if, Disk, Place}
use Rattle.trau_files.specs.Holds.{contents_of, FilesHold, Gains, IsLine, IsPlaced, IsUnwritten}
use Rattle.trau_files.proofs.Cases.{same_or_other}
use Rattle.trau_files.proofs.Honest.Noting.{Grows, placed_still}

-- octets that follow those at a list's start are at its start too
begins : (xs ys zs whole : List ℕ) → xs ≡ take (length xs) whole → drop (length xs) whole ≡ ys ++ zs → xs ++ ys ≡ take (length (xs ++ ys)) whole
begins xs ys zs whole first next =
    let all : whole ≡ (xs ++ ys) ++ zs = sym (take-append-drop (length xs) whole) ∙ ap₂ (λ (a b : List ℕ). a ++ b) (sym first) next ∙ sym (append_assoc xs ys zs) in
    sym (take_at (xs ++ ys) zs (length (xs ++ ys)) refl) ∙ ap (take (length (xs ++ ys))) (sym all)

pub gains_none : (old new : ℕ → Side → List ℕ) (call : ℕ) (side : Side) → Gains old new call side [] → (c : ℕ) (s : Side) → new c s ≡ old c s
gains_none old new call side gains c s = elim (same_or_other (index_of_line c s) (index_of_line call side)) [
  | inl same ↦ let line = same_line c call s side same in
      subst (λ (x : ℕ). new x s ≡ old x s) (sym line.0) (subst (λ (x : Side). new call x ≡ old call x) (sym line.1) (gains.this ∙ append-nil (old call side)))
  | inr other ↦ gains.others c s (λ c' s'. other (ap (λ x. index_of_line x s) c' ∙ ap (index_of_line call) s'))
]

pub same_given : (start now : Disk) (claims : List (Option Claim)) (given given' put : ℕ → Side → List ℕ) → ((c : ℕ) (s : Side) → given' c s ≡ given c s) →
    FilesHold start now claims given put → FilesHold start now claims given' put
same_given start now claims given given' put same files = record {
  names = files.names;
  newly_led = files.newly_led;
  unwritten = files.unwritten;
  lines = λ c s. subst (λ (x : List ℕ). IsLine start now (claim_at claims (index_of_line c s)) (file_name c s) x (put c s)) (sym (same c s)) (files.lines c s);
}

pub same_put : (start now : Disk) (claims : List (Option Claim)) (given put put' : ℕ → Side → List ℕ) → ((c : ℕ) (s : Side) → put' c s ≡ put c s) →
    FilesHold start now claims given put → FilesHold start now claims given put'
same_put start now claims given put put' same files = record {
  names = files.names;
  newly_led = files.newly_led;
  unwritten = files.unwritten;
  lines = λ c s. subst (λ (x : List ℕ). IsLine start now (claim_at claims (index_of_line c s)) (file_name c s) (given c s) x) (sym (same c s)) (files.lines c s);
}

-- a file that is read is written for no line
pub read_unwritten : (claims : List (Option Claim)) (p : ℕ) (c : Claim) → AreApart claims → claim_at claims p ≡ Some c → c.access ≡ Reading → IsUnwritten claims c.file
read_unwritten claims p c apart there reads k d at writes same = elim (same_or_other k p) [
  | inl here ↦
      let both : Some d ≡ Some c = sym at ∙ ap (claim_at claims) here ∙ there in
      let is : d ≡ c = cc in
      let never : ⊥ = cc in never
  | inr other ↦ let both = apart k p d c at there other same in let never : ⊥ = cc in never
]

-- each bay's file is placed, after one line's file was found, or closed
pub bays_after : {F : Type 0} (place : F → Place) (claims claims' : List (Option Claim)) (bays bays' : List (Option (OpenLine F))) (call : ℕ) (side : Side)
    (file : Option (OpenLine F)) → ((k : ℕ) (o : OpenLine F) → in_bay bays k ≡ Some o → IsPlaced place claims o) → Grows claims claims' →
    OpenAfter bays bays' call side file → ((o : OpenLine F) → file ≡ Some o → IsPlaced place claims' o) →
    (k : ℕ) (o : OpenLine F) → in_bay bays' k ≡ Some o → IsPlaced place claims' o
bays_after place claims claims' bays bays' call side file before grows after this k o there = elim (after.others k) [
  | inl same ↦ placed_still place claims claims' o grows (before k o (sym same ∙ there))
  | inr (inl none) ↦ let never : ⊥ = cc in absurd never
  | inr (inr is) ↦ this o (sym is ∙ there)
]

-- what a read moved: so many octets
pub gained : (given given' : ℕ → Side → List ℕ) (call : ℕ) (side : Side) (more : List ℕ) → Gains given given' call side more →
    length (given' call side) ≡ length (given call side) + length more
gained given given' call side more gains = ap length gains.this ∙ length-append (given call side) more

-- octets that a file began with, and those after them
pub begins_with : (xs ys zs whole : List ℕ) (at : ℕ) → at ≡ length xs → (0 < length xs → xs ≡ take (length xs) whole) → drop at whole ≡ ys ++ zs →
    xs ++ ys ≡ take (length (xs ++ ys)) whole
begins_with xs ys zs whole at is first next = begins xs ys zs whole (elim (eq-zero-or-pos (length xs)) [
  | inl none ↦ let empty : xs ≡ [] = nothing xs none in rw empty refl
  | inr some ↦ first some
]) (ap (λ (n : ℕ). drop n whole) (sym is) ∙ next)
  where
    nothing : (xs : List ℕ) → length xs ≡ 0 → xs ≡ []
    nothing [] none = refl
    nothing (x ∷ xs) none = absurd (omega (arith, none))

-- an open file that an operation moved on
pub placed_now : {F : Type 0} (place : F → Place) (claims : List (Option Claim)) (call : ℕ) (side : Side) (access : Access) (at n : ℕ) (before now : OpenLine F)
    (c : Claim) → IsOpenAt (Some before) call side access at → IsMovedBy before n now → claim_at claims (index_of_line call side) ≡ Some c →
    place now.file ≡ record { file = c.file; at = at + n } → raised at n ≡ at + n → (access ≡ Writing → (c.access ≡ Writing) × (0 < n)) → IsPlaced place claims now
placed_now place claims call side access at n before now c stands moves there placed up writes =
    let index : index_of_line now.call now.side ≡ index_of_line call side =
    ap (λ (x : ℕ). index_of_line x now.side) (moves.0 ∙ stands.0) ∙ ap (index_of_line call) (moves.1 ∙ stands.1) in
    let further : now.at ≡ at + n = moves.3 ∙ ap (λ (x : ℕ). raised x n) stands.3 ∙ up in (
      c,
      ap (claim_at claims) index ∙ there,
      placed ∙ ap (λ (x : ℕ). let p : Place = record { file = c.file; at = x } in p) (sym further),
      λ w. let both = writes (sym stands.2 ∙ sym moves.2 ∙ w) in (both.0, omega (arith, further, both.1)),
    )

-- what is known of the other lines stays
pub others_known : (start : Disk) (given given' put put' : ℕ → Side → List ℕ) (old new : List FileLine) (call : ℕ) (side : Side) →
    ((c : ℕ) (s : Side) → (c ≡ call → s ≡ side → ⊥) → given' c s ≡ given c s) → ((c : ℕ) (s : Side) → (c ≡ call → s ≡ side → ⊥) → put' c s ≡ put c s) →
    OthersStay (states_of old) (states_of new) call side → OthersStay (contents_of start given put old) (contents_of start given' put' new) call side
others_known start given given' put put' old new call side gave took stay c s other = λ i. record {
  to_come = Some (drop (length (gave c s other i)) (octets_if start (start.file_of (file_name c s))));
  written = Some (took c s other i);
  faults = (stay c s other i).faults;
}
