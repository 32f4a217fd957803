-- A read of a line notes no file for writing: what the line has for writing after it, it had before.
use Rattle.std.proofs.Common.{◌≡◌, ◌∙◌, ℕ, List, Option, Some, Result, Ok, Err, refl, sym, subst, inl, inr}
use Rattle.std.specs.declared.fs.attrs.Metadata.{Metadata}
use Rattle.trau_io.specs.declared.line.Failed.{Failed}
use Rattle.trau_io.specs.declared.line.Side.{Side}
use Rattle.trau_io.specs.Indices.{index_of_line}
use Rattle.trau_files.specs.declared.trunk.claims.Claim.{Claim}
use Rattle.trau_files.specs.declared.trunk.fault.Fault.{Fault}
use Rattle.trau_files.specs.declared.trunk.fault.Fault.TheVariants.{System, Shared}
use Rattle.trau_files.specs.declared.trunk.bays.Access.{Access}
use Rattle.trau_files.specs.declared.trunk.bays.Access.TheVariants.{Reading, Writing}
use Rattle.trau_files.specs.Claims.{NotesFile, claim_at}
use Rattle.trau_files.specs.Contents.{NotesNoWriting}
use Rattle.trau_files.specs.Files.{FileLine, OpenFiles, OpenLine}
use Rattle.trau_files.specs.Folder.{Operations}
use Rattle.trau_files.specs.Opening.{FailsToOpen, Opens, OpensOnce}
use Rattle.trau_files.specs.Trunk.{IsFound, TrunkFiles, TrunkReads}

same_notes : (old new : List (Option Claim)) (p : ℕ) → new ≡ old → NotesNoWriting old new p
same_notes old new p same c there writes = ap_claims same ∙ there
  where
    ap_claims : new ≡ old → claim_at old p ≡ claim_at new p
    ap_claims is = λ i. claim_at (sym is i) p

both_note : (a b c : List (Option Claim)) (p : ℕ) → NotesNoWriting a b p → NotesNoWriting b c p → NotesNoWriting a c p
both_note a b c p first second claim there writes = first claim (second claim there writes) writes

not_both : (a : Access) → a ≡ Reading → a ≡ Writing → ⊥
not_both a reads writes = let both : Reading ≡ Writing = sym reads ∙ writes in cc

noted_read : (old new : List (Option Claim)) (p : ℕ) (metadata : Metadata) (c : Claim) → c.access ≡ Reading → NotesFile old new p metadata c → NotesNoWriting old new p
noted_read old new p metadata c reads notes = elim notes [
  | inl (_, inl has) ↦ same_notes old new p has.1
  | inl (_, inr other) ↦ λ d there writes. let both : Some d ≡ Some c = sym there ∙ other.1 in let one : d ≡ c = cc in
      absurd (not_both d.access (subst (λ (x : Claim). x.access ≡ Reading) (sym one) reads) writes)
  | inr (_, same) ↦ same_notes old new p same
]

module _ {D F : Type 0} (does : Operations D F) (call : ℕ) (side : Side) (at : ℕ) where
  failed_read : (old new : D) (claims claims' : List (Option Claim)) (fault : Fault) → FailsToOpen does old new claims claims' call side Reading at fault →
      NotesNoWriting claims claims' (index_of_line call side)
  failed_read old new claims claims' (System e) fails = elim fails [
    | inl f ↦ same_notes claims claims' (index_of_line call side) f.0
    | inr (inl f) ↦ same_notes claims claims' (index_of_line call side) f.0
    | inr (inr f) ↦ noted_read claims claims' (index_of_line call side) f.1 _ refl f.5.noted
  ]
  failed_read old new claims claims' (Shared other) f = same_notes claims claims' (index_of_line call side) f.same_claims

  once_read : (old new : D) (claims claims' : List (Option Claim)) (result : Result F Fault) → OpensOnce does old new claims claims' call side Reading at result →
      NotesNoWriting claims claims' (index_of_line call side)
  once_read old new claims claims' (Ok file) opens = noted_read claims claims' (index_of_line call side) opens.metadata _ refl opens.claimed.noted
  once_read old new claims claims' (Err fault) opens = failed_read old new claims claims' fault opens

  opens_read : (old new : D) (claims claims' : List (Option Claim)) (result : Result F Fault) → Opens does old new claims claims' call side Reading at result →
      NotesNoWriting claims claims' (index_of_line call side)
  opens_read old new claims claims' result opens = elim opens [
    | inl once ↦ once_read old new claims claims' result once.0
    | inr again ↦ both_note claims again.claims claims' (index_of_line call side)
        (failed_read old again.folder claims again.claims again.fault again.first) (once_read again.folder new again.claims claims' result again.second)
  ]

  found_read : (old : OpenFiles D F) (now : D) (claims' : List (Option Claim)) (o : OpenLine F) → IsFound does old now claims' call side Reading at o →
      NotesNoWriting old.claims claims' (index_of_line call side)
  found_read old now claims' o found = elim found.from [
    | inl was ↦ same_notes old.claims claims' (index_of_line call side) was.same_claims
    | inr opened ↦ opens_read old.folder now old.claims claims' (Ok o.file) opened.opens
  ]

pub read_notes : {D F : Type 0} (does : Operations D F) (old new : TrunkFiles D F) (call : ℕ) (side : Side) (l : FileLine) (result : Result ℕ Failed) (buf : List ℕ) →
    TrunkReads does old new call side l result buf → NotesNoWriting old.files.claims new.files.claims (index_of_line call side)
read_notes does old new call side l (Ok n) buf reads = found_read does call side l.read old.files new.files.folder new.files.claims reads.files.0 reads.files.2.found
read_notes does old new call side l (Err e) buf reads =
    let fails = reads.files.1 in
    elim fails.1 [
      | inl opens ↦ opens_read does call side l.read old.files.folder new.files.folder old.files.claims new.files.claims (Err reads.files.0) opens.opens
      | inr gives ↦ found_read does call side l.read old.files new.files.folder new.files.claims gives.0 gives.1
    ]
