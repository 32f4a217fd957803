-- For crates above: what an honest folder's files hold after the operations of a trunk, by what is known of its lines.
use Rattle.std.proofs.Common.{◌≡◌, ◌≢◌, ◌⊎◌, ◌∙◌, ◌<◌, ℕ, zero, suc, List, [], ◌∷◌, length, drop, Option, None, Some, IfSome, ap, arith, inl, inr, refl, subst, sym}
use Rattle.trau_io.specs.declared.line.Side.{Side}
use Rattle.trau_io.specs.declared.line.Side.TheVariants.{Up, Pcm, Down, Out}
use Rattle.trau_io.specs.Indices.{index_of_line}
use Rattle.trau_files.proofs.Cases.{line_with, reads_or_writes, same_or_other}
use Rattle.trau_files.proofs.Honest.Known.{took_files}
use Rattle.trau_files.proofs.Knowing.{taken_is}
use Rattle.trau_files.specs.declared.trunk.claims.Claim.{Claim}
use Rattle.trau_files.specs.declared.trunk.claims.FileIdentity.{FileIdentity}
use Rattle.trau_files.specs.declared.trunk.bays.Access.{Access}
use Rattle.trau_files.specs.declared.trunk.bays.Access.TheVariants.{Reading, Writing}
use Rattle.trau_files.specs.Claims.{claim_at}
use Rattle.trau_files.specs.Contents.{HasFile, IsMade, IsRecorded, IsWrittenFor, Knows, rest_of, taken_of}
use Rattle.trau_files.specs.Files.{file_name, states_of}
use Rattle.trau_files.specs.Folder.{Operations}
use Rattle.trau_files.specs.Disk.{Disk, octets_if}
use Rattle.trau_files.specs.Holds.{HasTaken, IsUnwritten}
use Rattle.trau_files.specs.Honest.{IsHonest}
use Rattle.trau_files.specs.Trunk.{TrunkFiles}

-- a file that gave no octet yet has all its octets to come
pub all_to_come : (start : Disk) (file : Option FileIdentity) → rest_of start file 0 ≡ octets_if start file
all_to_come start file = none_dropped (octets_if start file)
  where
    none_dropped : (xs : List ℕ) → drop 0 xs ≡ xs
    none_dropped [] = refl
    none_dropped (x ∷ xs) = refl

-- octets that a name leads to are those of a file
file_there : (disk : Disk) (file : Option FileIdentity) (octets : List ℕ) → octets_if disk file ≡ octets → 0 < length octets →
    (f : FileIdentity) × (file ≡ Some f) × (disk.octets f ≡ octets)
file_there disk None octets is some = let none : 0 ≡ length octets = ap length is in absurd (omega (arith, none, some))
file_there disk (Some f) octets is some = (f, refl, is)

not_both : (a : Access) → a ≡ Reading → a ≡ Writing → ⊥
not_both a reads writes = let both : Reading ≡ Writing = sym reads ∙ writes in cc

same_file : (a b : FileIdentity) → (a ≡ b) ⊎ (a ≡ b → ⊥)
same_file a b = elim (same_or_other a.device b.device) [
  | inl device ↦ elim (same_or_other a.inode b.inode) [
    | inl inode ↦ inl (λ i. record { device = device i; inode = inode i })
    | inr other ↦ inr (λ same. other (ap (λ (x : FileIdentity). x.inode) same))
  ]
  | inr other ↦ inr (λ same. other (ap (λ (x : FileIdentity). x.device) same))
]

-- a line has this file for writing
abbrev HasForWriting : List (Option Claim) → FileIdentity → ℕ → Type 0
HasForWriting claims f k = (c : Claim) × (claim_at claims k ≡ Some c) × (c.access ≡ Writing) × (c.file ≡ f)

-- some line has it, or none
writer_of : (claims : List (Option Claim)) (f : FileIdentity) → ((k : ℕ) × HasForWriting claims f k) ⊎ IsUnwritten claims f
writer_of [] f = inr (λ k c there. let no : ⊥ = cc in absurd no)
writer_of (None ∷ claims) f = elim (writer_of claims f) [
  | inl found ↦ inl (suc found.0, found.1)
  | inr none ↦ inr (later claims none)
]
  where
    later : (claims : List (Option Claim)) → IsUnwritten claims f → IsUnwritten (None ∷ claims) f
    later claims none zero c there = let no : ⊥ = cc in absurd no
    later claims none (suc k) c there = none k c there
writer_of (Some held ∷ claims) f = elim (reads_or_writes held.access) [
  | inl reads ↦ others claims (writer_of claims f) (λ writes. absurd (not_both held.access reads writes))
  | inr writes ↦ elim (same_file held.file f) [
    | inl same ↦ inl (0, (held, refl, writes, same))
    | inr other ↦ others claims (writer_of claims f) (λ _. other)
  ]
]
  where
    later : (claims : List (Option Claim)) → (held.access ≡ Writing → held.file ≢ f) → IsUnwritten claims f → IsUnwritten (Some held ∷ claims) f
    later claims here none zero c there writes = let same : held ≡ c = cc in
        subst (λ (x : Claim). x.access ≡ Writing → x.file ≢ f) same here writes
    later claims here none (suc k) c there writes = none k c there writes

    others : (claims : List (Option Claim)) → ((k : ℕ) × HasForWriting claims f k) ⊎ IsUnwritten claims f → (held.access ≡ Writing → held.file ≢ f) →
        ((k : ℕ) × HasForWriting (Some held ∷ claims) f k) ⊎ IsUnwritten (Some held ∷ claims) f
    others claims (inl found) here = inl (suc found.0, found.1)
    others claims (inr none) here = inr (later claims here none)

recorded_or_made : (side : Side) → IsRecorded side ⊎ IsMade side
recorded_or_made Up = inl tt
recorded_or_made Pcm = inl tt
recorded_or_made Down = inr tt
recorded_or_made Out = inr tt

module _ {D F : Type 0} {does : Operations D F} (honest : IsHonest does) (start : Disk) (t : TrunkFiles D F) (knows : Knows honest start t) where
  -- a line that took octets has them in its file
  pub in_file : (c : ℕ) (side : Side) (octets : List ℕ) → taken_of (honest.disk t.files.folder) t.lines c side ≡ octets → 0 < length octets →
      HasFile (honest.disk t.files.folder) c side octets
  in_file c side octets took some =
      let put : knows.put c side ≡ octets = sym (taken_is does honest start knows.given knows.put t knows.holds c side) ∙ took in
      file_there (honest.disk t.files.folder) ((honest.disk t.files.folder).file_of (file_name c side)) octets
      (took_files start (honest.disk t.files.folder) t.files.claims knows.given knows.put knows.holds.files c side
      (subst (λ (xs : List ℕ). 0 < length xs) (sym put) some) ∙ put) some

  -- a file that no line used which has it for writing has its octets of the start
  pub others_keep : (f : FileIdentity) →
      ((c : ℕ) (side : Side) → IsMade side → (honest.disk t.files.folder).file_of (file_name c side) ≡ Some f →
      (taken_of (honest.disk t.files.folder) t.lines c side ≡ []) × ((states_of t.lines c side).faults ≡ 0)) →
      (honest.disk t.files.folder).octets f ≡ start.octets f
  others_keep f unused = knows.holds.files.unwritten f (λ k claim there writes same. let line = line_with k in
      written line.0 line.1 (recorded_or_made line.1) claim (subst (λ (i : ℕ). claim_at t.files.claims i ≡ Some claim) (sym line.2) there) writes same)
    where
      written : (c : ℕ) (side : Side) → IsRecorded side ⊎ IsMade side → (claim : Claim) → claim_at t.files.claims (index_of_line c side) ≡ Some claim →
          claim.access ≡ Writing → claim.file ≡ f → ⊥
      written c side (inl is) claim there writes same = not_both claim.access (knows.recorded c side is claim there) writes
      written c side (inr is) claim there writes same =
          let leads : (honest.disk t.files.folder).file_of (file_name c side) ≡ Some claim.file =
          subst (λ (x : Option Claim). IfSome x (λ (held : Claim). (honest.disk t.files.folder).file_of (file_name c side) ≡ Some held.file)) there (knows.holds.files.lines c side).leads in
          let none = unused c side is (leads ∙ ap (λ (x : FileIdentity). Some x) same) in
          elim (knows.used c side claim there writes) [
            | inl some ↦ let empty : length (knows.put c side) ≡ 0 =
                ap length (sym (taken_is does honest start knows.given knows.put t knows.holds c side) ∙ none.0) in omega (arith, some, empty)
            | inr failed ↦ omega (arith, failed, none.1)
          ]

  -- a file has its octets of the start, or it was written for a line
  pub kept_or_written : (f : FileIdentity) → ((honest.disk t.files.folder).octets f ≡ start.octets f)
      ⊎ ((c : ℕ) × (side : Side) × IsWrittenFor (honest.disk t.files.folder) t.lines f c side)
  kept_or_written f = elim (writer_of t.files.claims f) [
    | inl found ↦ let line = line_with found.0 in
        let there : claim_at t.files.claims (index_of_line line.0 line.1) ≡ Some found.1.0 = ap (claim_at t.files.claims) line.2 ∙ found.1.1 in
        written line.0 line.1 (recorded_or_made line.1) found.1.0 there found.1.2 found.1.3
    | inr none ↦ inl (knows.holds.files.unwritten f none)
  ]
    where
      written : (c : ℕ) (side : Side) → IsRecorded side ⊎ IsMade side → (claim : Claim) → claim_at t.files.claims (index_of_line c side) ≡ Some claim →
          claim.access ≡ Writing → claim.file ≡ f → ((honest.disk t.files.folder).octets f ≡ start.octets f)
          ⊎ ((c : ℕ) × (side : Side) × IsWrittenFor (honest.disk t.files.folder) t.lines f c side)
      written c side (inl is) claim there writes same = absurd (not_both claim.access (knows.recorded c side is claim there) writes)
      written c side (inr is) claim there writes same =
          let taken = sym (taken_is does honest start knows.given knows.put t knows.holds c side) in
          let line = subst (λ (x : Option Claim). IfSome x (λ (held : Claim). (honest.disk t.files.folder).file_of (file_name c side) ≡ Some held.file)
          × IfSome x (λ (held : Claim). held.access ≡ Writing → HasTaken start (honest.disk t.files.folder) held.file (knows.put c side))) there
          ((knows.holds.files.lines c side).leads, (knows.holds.files.lines c side).written) in
          elim (line.1 writes) [
            | inl took ↦ inr (
              c,
              side,
              record {
                made = is;
                leads = line.0 ∙ ap (λ (x : FileIdentity). Some x) same;
                has = sym (ap (honest.disk t.files.folder).octets same) ∙ took ∙ taken;
                used = subst (λ (xs : List ℕ). (0 < length xs) ⊎ (0 < (states_of t.lines c side).faults)) taken (knows.used c side claim there writes);
              },
            )
            | inr before ↦ inl (subst (λ (x : FileIdentity). (honest.disk t.files.folder).octets x ≡ start.octets x) same before.1)
          ]
