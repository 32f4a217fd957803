-- What the files of an honest folder hold, after names, octets or notes that lines had were kept.
use Rattle.std.proofs.Common.{◌≡◌, ◌∙◌, ℕ, List, [], length, Option, None, Some, IfSome}
use Rattle.std.proofs.Common.{ap, eq-zero-or-pos, inl, inr, refl, subst, sym}
use Rattle.std.specs.Fs.{IsFile, file_type}
use Rattle.std.specs.declared.fs.attrs.Metadata.{Metadata}
use Rattle.trau_io.specs.declared.line.Side.{Side}
use Rattle.trau_io.specs.Indices.{index_of_line}
use Rattle.trau_io.proofs.Tables.{same_line}
use Rattle.trau_files.specs.declared.trunk.claims.Claim.{Claim}
use Rattle.trau_files.specs.declared.trunk.claims.FileIdentity.{FileIdentity}
use Rattle.trau_files.specs.declared.trunk.bays.Access.{Access}
use Rattle.trau_files.specs.declared.trunk.bays.Access.TheVariants.{Writing}
use Rattle.trau_files.specs.Claims.{AreApart, Has, NotesFile, OthersKeep, claim_at}
use Rattle.trau_files.specs.Files.{OpenLine, file_name}
use Rattle.trau_files.specs.Disk.{Disk, IsNew, KeepsNames, KeepsOctets, LeadsOnToNew, Place, Stays}
use Rattle.trau_files.specs.Holds.{FilesHold, IsLine, IsPlaced, IsUnwritten}
use Rattle.trau_files.proofs.Cases.{line_with, nothing_of, same_or_other, some_and}

pub same_place : (p : Place) (f : FileIdentity) (n : ℕ) → p.file ≡ f → p.at ≡ n → p ≡ record { file = f; at = n }
same_place p f n file at = λ i. record { file = file i; at = at i }

pub keeps_names : (old new : Disk) → Stays old new → KeepsNames old new
keeps_names old new stays name f led = stays.0 name ∙ led

pub leads_on : (old new : Disk) → Stays old new → LeadsOnToNew old new
leads_on old new stays name f led = inl (sym (stays.0 name) ∙ led)

pub stays_twice : (a b c : Disk) → Stays a b → Stays b c → Stays a c
stays_twice a b c first second = (λ name. second.0 name ∙ first.0 name, λ f. second.1 f ∙ first.1 f)

-- each line that has a file has it still, and for writing if it was so
abbrev pub Grows : List (Option Claim) → List (Option Claim) → Type 0
Grows old new = (k : ℕ) (c : Claim) → claim_at old k ≡ Some c →
    (now : Claim) × (claim_at new k ≡ Some now) × (now.file ≡ c.file) × (c.access ≡ Writing → now.access ≡ Writing)

pub grows_same : (old new : List (Option Claim)) → new ≡ old → Grows old new
grows_same old new same k c there = (c, ap (λ (cs : List (Option Claim)). claim_at cs k) same ∙ there, refl, λ w. w)

pub grows_twice : (a b c : List (Option Claim)) → Grows a b → Grows b c → Grows a c
grows_twice a b c first second k x there =
    let one = first k x there in
    let two = second k one.0 one.1 in
    (two.0, two.1, two.2 ∙ one.2, λ w. two.3 (one.3 w))

unwritten_before : (old new : List (Option Claim)) (f : FileIdentity) → Grows old new → IsUnwritten new f → IsUnwritten old f
unwritten_before old new f grows none k c there writes is = let n = grows k c there in none k n.0 n.1 (n.3 writes) (n.2 ∙ is)

pub placed_still : {F : Type 0} (place : F → Place) (old new : List (Option Claim)) (o : OpenLine F) → Grows old new → IsPlaced place old o → IsPlaced place new o
placed_still place old new o grows at =
    let n = grows (index_of_line o.call o.side) at.0 at.1 in
    (n.0, n.1, at.2 ∙ ap (λ (f : FileIdentity). let p : Place = record { file = f; at = o.at } in p) (sym n.2), λ w. (n.3 (at.3 w).0, (at.3 w).1))

-- a line, after names and octets that it had were kept
line_kept : (start now new : Disk) (claim : Option Claim) (name given put : List ℕ) → KeepsNames now new → KeepsOctets now new →
    IsLine start now claim name given put → IsLine start new claim name given put
line_kept start now new None name given put names octets line = record { leads = tt; given = line.given; put = line.put; written = tt }
line_kept start now new (Some c) name given put names octets line = record {
  leads = names name c.file line.leads;
  given = line.given;
  put = λ some. let before = line.put some in (before.0, octets c.file ∙ before.1);
  written = λ w. elim (line.written w) [
    | inl took ↦ inl (octets c.file ∙ took)
    | inr before ↦ inr (before.0, octets c.file ∙ before.1)
  ];
}

-- no line has a file for writing to which no name leads
unwritten_new : (start now : Disk) (claims : List (Option Claim)) (given put : ℕ → Side → List ℕ) (f : FileIdentity) → FilesHold start now claims given put →
    IsNew now f → IsUnwritten claims f
unwritten_new start now claims given put f files fresh k c there writes same =
    let line = line_with k in
    let here : claim_at claims (index_of_line line.0 line.1) ≡ Some c = ap (claim_at claims) line.2 ∙ there in
    let led : now.file_of (file_name line.0 line.1) ≡ Some c.file =
    subst (λ (x : Option Claim). IfSome x (λ d. now.file_of (file_name line.0 line.1) ≡ Some d.file)) here (files.lines line.0 line.1).leads in
    fresh.0 (file_name line.0 line.1) (led ∙ ap Some same)

pub kept : (start now new : Disk) (claims : List (Option Claim)) (given put : ℕ → Side → List ℕ) → KeepsNames now new → LeadsOnToNew now new →
    KeepsOctets now new → FilesHold start now claims given put → FilesHold start new claims given put
kept start now new claims given put names no_others octets files = record {
  names = λ name f led. names name f (files.names name f led);
  newly_led = λ name f none leads. elim (no_others name f leads) [
    | inl before ↦ files.newly_led name f none before
    | inr fresh ↦ sym (files.unwritten f (unwritten_new start now claims given put f files fresh)) ∙ fresh.1
  ];
  unwritten = λ f none. octets f ∙ files.unwritten f none;
  lines = λ call side. line_kept start now new (claim_at claims (index_of_line call side)) (file_name call side) (given call side) (put call side) names octets (files.lines call side);
}

-- the line's file was noted for it
abbrev pub IsNoted : List (Option Claim) → ℕ → FileIdentity → Access → Type 0
IsNoted claims p f access = (c : Claim) × (claim_at claims p ≡ Some c) × (c.file ≡ f) × (access ≡ Writing → c.access ≡ Writing)

has_claim : (o : Option Claim) (c : Claim) → Has o c → (held : Claim) × (o ≡ Some held) × (held.file ≡ c.file) × (c.access ≡ Writing → held.access ≡ Writing)
has_claim None c has = absurd has
has_claim (Some held) c has = (held, refl, has.0, has.1)

pub noted : (start now : Disk) (old new : List (Option Claim)) (given put : ℕ → Side → List ℕ) (call : ℕ) (side : Side) (metadata : Metadata) (c : Claim) →
    FilesHold start now old given put → IsFile (file_type metadata) → NotesFile old new (index_of_line call side) metadata c → AreApart new →
    now.file_of (file_name call side) ≡ Some c.file →
    FilesHold start now new given put × Grows old new × IsNoted new (index_of_line call side) c.file c.access
noted start now old new given put call side metadata c files disk notes apart leads = elim notes [
  | inl (_, inl has) ↦
      let held = has_claim (claim_at old (index_of_line call side)) c has.0 in (
        subst (λ (cs : List (Option Claim)). FilesHold start now cs given put) (sym has.1) files,
        grows_same old new has.1,
        (held.0, ap (λ (cs : List (Option Claim)). claim_at cs (index_of_line call side)) has.1 ∙ held.1, held.2, held.3),
      )
  | inl (_, inr new_one) ↦ (
    record {
      names = files.names;
      newly_led = files.newly_led;
      unwritten = λ f none. files.unwritten f (unwritten_before old new f (grows new_one.0 new_one.1 new_one.2) none);
      lines = λ c' s'. elim (same_or_other (index_of_line c' s') (index_of_line call side)) [
        | inl same ↦ let line = same_line c' call s' side same in
            subst (λ (x : ℕ). IsLine start now (claim_at new (index_of_line x s')) (file_name x s') (given x s') (put x s')) (sym line.0)
            (subst (λ (x : Side). IsLine start now (claim_at new (index_of_line call x)) (file_name call x) (given call x) (put call x)) (sym line.1)
            (subst (λ (x : Option Claim). IsLine start now x (file_name call side) (given call side) (put call side)) (sym new_one.1) (this new_one.0 new_one.1 new_one.2)))
        | inr other ↦ subst (λ (x : Option Claim). IsLine start now x (file_name c' s') (given c' s') (put c' s')) (sym (new_one.2 (index_of_line c' s') other)) (files.lines c' s')
      ];
    },
    grows new_one.0 new_one.1 new_one.2,
    (c, new_one.1, refl, λ w. w),
  )
  | inr (never, _) ↦ absurd (never disk)
]
  where
    -- the file that the line had is this one
    same_file : (before : Claim) → claim_at old (index_of_line call side) ≡ Some before → c.file ≡ before.file
    same_file before there =
        let led : now.file_of (file_name call side) ≡ Some before.file =
        subst (λ (x : Option Claim). IfSome x (λ d. now.file_of (file_name call side) ≡ Some d.file)) there (files.lines call side).leads in
        let both : Some c.file ≡ Some before.file = sym leads ∙ led in
        cc

    -- so it hadn't the file for writing, nor for this access
    not_for : (before : Claim) → (Has (claim_at old (index_of_line call side)) c → ⊥) → claim_at old (index_of_line call side) ≡ Some before →
        (c.access ≡ Writing → before.access ≡ Writing) → ⊥
    not_for before lacks there writes = lacks (subst (λ (x : Option Claim). Has x c) (sym there) (sym (same_file before there), writes))

    grows : (Has (claim_at old (index_of_line call side)) c → ⊥) → claim_at new (index_of_line call side) ≡ Some c →
        OthersKeep old new (index_of_line call side) → Grows old new
    grows lacks is others k before there = elim (same_or_other k (index_of_line call side)) [
      | inl same ↦
          let here : claim_at old (index_of_line call side) ≡ Some before = ap (claim_at old) (sym same) ∙ there in
          (c, ap (claim_at new) same ∙ is, same_file before here, λ w. absurd (not_for before lacks here (λ _. w)))
      | inr other ↦ (before, others k other ∙ there, refl, λ w. w)
    ]

    -- a file that is noted for writing only now was written for no line
    unwritten : (Has (claim_at old (index_of_line call side)) c → ⊥) → claim_at new (index_of_line call side) ≡ Some c →
        OthersKeep old new (index_of_line call side) → c.access ≡ Writing → IsUnwritten old c.file
    unwritten lacks is others writes k before there written same = elim (same_or_other k (index_of_line call side)) [
      | inl here ↦ not_for before lacks (ap (claim_at old) (sym here) ∙ there) (λ _. written)
      | inr other ↦
          let both = apart k (index_of_line call side) before c (others k other ∙ there) is other same in
          let never : ⊥ = cc in never
    ]

    -- and the line took nothing
    nothing : (Has (claim_at old (index_of_line call side)) c → ⊥) → put call side ≡ []
    nothing lacks = elim (eq-zero-or-pos (length (put call side))) [
      | inl none ↦ nothing_of (put call side) none
      | inr some ↦
          let before = some_and _ (claim_at old (index_of_line call side)) ((files.lines call side).put some) in
          absurd (not_for before.0 lacks before.1 (λ _. before.2.0))
    ]

    this : (Has (claim_at old (index_of_line call side)) c → ⊥) → claim_at new (index_of_line call side) ≡ Some c →
        OthersKeep old new (index_of_line call side) → IsLine start now (Some c) (file_name call side) (given call side) (put call side)
    this lacks is others = record {
      leads = leads;
      given = λ some reads.
          let before = some_and _ (claim_at old (index_of_line call side)) ((files.lines call side).given some) in
          absurd (not_for before.0 lacks before.1 (λ w. let never : ⊥ = cc in absurd never));
      put = λ some.
          let before = some_and _ (claim_at old (index_of_line call side)) ((files.lines call side).put some) in
          absurd (not_for before.0 lacks before.1 (λ _. before.2.0));
      written = λ w. inr (nothing lacks, files.unwritten c.file (unwritten lacks is others w));
    }
