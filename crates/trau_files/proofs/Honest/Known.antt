-- What is known of the files of an honest folder from what they hold.
use Rattle.std.proofs.Common.{◌≡◌, ◌∙◌, ℕ, List, [], length, take, Option, None, Some, IfSome}
use Rattle.std.proofs.Common.{ap, eq-zero-or-pos, inl, inr, refl, subst, sym}
use Rattle.trau_io.specs.declared.line.Side.{Side}
use Rattle.trau_io.specs.Indices.{index_of_line}
use Rattle.trau_files.specs.declared.trunk.claims.Claim.{Claim}
use Rattle.trau_files.specs.declared.trunk.claims.FileIdentity.{FileIdentity}
use Rattle.trau_files.specs.declared.trunk.bays.Access.TheVariants.{Writing}
use Rattle.trau_files.specs.Claims.{claim_at}
use Rattle.trau_files.specs.Files.{file_name}
use Rattle.trau_files.specs.Disk.{octets_if, Disk}
use Rattle.trau_files.specs.Holds.{AreEmptyOrAsBefore, FilesHold, GaveTheirFiles, HasTaken, HaveWhatTheyTook}
use Rattle.trau_files.proofs.Cases.{nothing_of, some_and}

-- what each line that was only read gave
pub gave_files : (start now : Disk) (claims : List (Option Claim)) (given put : ℕ → Side → List ℕ) → FilesHold start now claims given put → GaveTheirFiles start claims given
gave_files start now claims given put files call side only = elim (eq-zero-or-pos (length (given call side))) [
  | inl none ↦ let empty : given call side ≡ [] = nothing_of (given call side) none in rw empty refl
  | inr some ↦
      let line = some_and _ (claim_at claims (index_of_line call side)) ((files.lines call side).given some) in
      let leads : now.file_of (file_name call side) ≡ Some line.0.file =
      subst (λ (x : Option Claim). IfSome x (λ d. now.file_of (file_name call side) ≡ Some d.file)) line.1 (files.lines call side).leads in
      let there = its (start.file_of (file_name call side)) refl line.0.file leads in
      subst (λ (x : List ℕ). given call side ≡ take (length (given call side)) x) there (line.2 (only line.0 line.1))
]
  where
    its : (o : Option FileIdentity) → start.file_of (file_name call side) ≡ o → (f : FileIdentity) → now.file_of (file_name call side) ≡ Some f →
        start.octets f ≡ octets_if start o
    its None is f leads = files.newly_led (file_name call side) f is leads
    its (Some g) is f leads =
        let both : Some f ≡ Some g = sym leads ∙ files.names (file_name call side) g is in
        let one : f ≡ g = cc in
        ap start.octets one

-- what the files of lines that took nothing have
pub empty_files : (start now : Disk) (claims : List (Option Claim)) (given put : ℕ → Side → List ℕ) → FilesHold start now claims given put →
    AreEmptyOrAsBefore start now claims put
empty_files start now claims given put files call side c there writes nothing =
    let line = subst (λ (x : Option Claim). IfSome x (λ d. d.access ≡ Writing → HasTaken start now d.file (put call side))) there (files.lines call side).written in
    elim (line writes) [
      | inl took ↦ inl (took ∙ nothing)
      | inr before ↦ inr before.1
    ]

-- what the files of lines that were written have
pub took_files : (start now : Disk) (claims : List (Option Claim)) (given put : ℕ → Side → List ℕ) → FilesHold start now claims given put → HaveWhatTheyTook now put
took_files start now claims given put files call side some =
    let line = some_and _ (claim_at claims (index_of_line call side)) ((files.lines call side).put some) in
    let leads : now.file_of (file_name call side) ≡ Some line.0.file =
    subst (λ (x : Option Claim). IfSome x (λ d. now.file_of (file_name call side) ≡ Some d.file)) line.1 (files.lines call side).leads in
    ap (octets_if now) leads ∙ line.2.1
