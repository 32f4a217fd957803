-- What the files of an honest folder hold, after a line's file was opened, or wasn't.
use Rattle.std.proofs.Common.{◌≡◌, ◌∙◌, ◌<◌, ℕ, Bool, true, false, List, [], ◌∷◌, length, Option, None, Some, Result, Ok, Err, MatchResult}
use Rattle.std.proofs.Common.{ap, append-nil, arith, eq-zero-or-pos, inl, inr, refl, subst, sym}
use Rattle.std.specs.Fs.{IsFile, file_type}
use Rattle.std.specs.declared.fs.attrs.Metadata.{Metadata}
use Rattle.std.specs.declared.io.Error.{Error}
use Rattle.trau_io.specs.declared.line.Side.{Side}
use Rattle.trau_io.specs.Indices.{index_of_line}
use Rattle.trau_files.specs.declared.trunk.claims.Claim.{Claim}
use Rattle.trau_files.specs.declared.trunk.claims.FileIdentity.{FileIdentity}
use Rattle.trau_files.specs.declared.trunk.bays.Access.{Access}
use Rattle.trau_files.specs.declared.trunk.bays.Access.TheVariants.{Writing}
use Rattle.trau_files.specs.Claims.{AreApart, claim_at}
use Rattle.trau_files.specs.Files.{OpenFiles, OpenLine, file_name, in_bay}
use Rattle.trau_files.specs.Trunk.{IsFound}
use Rattle.trau_files.specs.Folder.{Operations}
use Rattle.trau_files.specs.Disk.{Changes, Disk, IsNew, KeepsNames, KeepsOctets, LeadsOnToNew, Place, Stays}
use Rattle.trau_files.specs.Honest.{IsHonest}
use Rattle.trau_files.specs.Holds.{FilesHold, IsPlaced}
use Rattle.trau_files.specs.declared.trunk.fault.Fault.{Fault}
use Rattle.trau_files.specs.declared.trunk.fault.Fault.TheVariants.{System, Shared}
use Rattle.trau_files.specs.Opening.{FailsToOpen, IsClaimed, IsOpened, Opens, OpensOrMakes, Starts}
use Rattle.trau_files.proofs.Cases.{reads_or_writes}
use Rattle.trau_files.proofs.Honest.Noting.{Grows, IsNoted, grows_same, grows_twice, keeps_names, kept, leads_on, noted, same_place, stays_twice}
use Rattle.trau_files.proofs.Honest.Changing.{changed}

module _ {D F : Type 0} (does : Operations D F) (honest : IsHonest does) (call : ℕ) (side : Side) (access : Access) (at : ℕ) where
  not_opened : (old new : D) (made : Bool) (e : Error) → OpensOrMakes does old new call side access at made (Err e) → Stays (honest.disk old) (honest.disk new)
  not_opened old new false e opens = (honest.opens_none old new access false (file_name call side) e opens.0).0
  not_opened old new true e opens = stays_twice (honest.disk old) (honest.disk opens.0) (honest.disk new)
      (honest.opens_none old opens.0 access false (file_name call side) opens.1 opens.2).0 (honest.opens_none opens.0 new access true (file_name call side) e opens.4).0

  -- a line's file was opened at its first octet, and nothing but its name changed
  record Opened (old new : D) (made : Bool) (file : F) : Type 0 where
    start : (honest.place file).at ≡ 0
    leads : (honest.disk new).file_of (file_name call side) ≡ Some (honest.place file).file
    fresh : made ≡ true → IsNew (honest.disk old) (honest.place file).file
    names : KeepsNames (honest.disk old) (honest.disk new)
    no_others : LeadsOnToNew (honest.disk old) (honest.disk new)
    octets : KeepsOctets (honest.disk old) (honest.disk new)

  opened : (old new : D) (made : Bool) (file : F) → OpensOrMakes does old new call side access at made (Ok file) → Opened old new made file
  opened old new false file opens =
      let one = honest.opens old new access false (file_name call side) file opens.0 in
      record { start = one.start; leads = one.leads; fresh = λ e. let never : ⊥ = cc in absurd never; names = one.names; no_others = one.no_others; octets = one.octets }
  opened old new true file opens =
      let missing = honest.opens_none old opens.0 access false (file_name call side) opens.1 opens.2 in
      let one = honest.opens opens.0 new access true (file_name call side) file opens.4 in
      let first = keeps_names (honest.disk old) (honest.disk opens.0) missing.0 in
      let none : (honest.disk opens.0).file_of (file_name call side) ≡ None = missing.0.0 (file_name call side) ∙ missing.1 opens.3.2 in
      let new_before : (f : FileIdentity) → IsNew (honest.disk opens.0) f → IsNew (honest.disk old) f =
      λ f fresh. (λ name led. fresh.0 name (first name f led), sym (missing.0.1 f) ∙ fresh.1) in
      record {
        start = one.start;
        leads = one.leads;
        fresh = λ _. elim one.from [
          | inl led ↦ let never : ⊥ = cc in absurd never
          | inr fresh ↦ new_before (honest.place file).file fresh.1
        ];
        names = λ name f led. one.names name f (first name f led);
        no_others = λ name f led. elim (one.no_others name f led) [
          | inl before ↦ inl (sym (missing.0.0 name) ∙ before)
          | inr fresh ↦ inr (new_before f fresh)
        ];
        octets = λ f. one.octets f ∙ missing.0.1 f;
      }

  module _ (start : Disk) (given put : ℕ → Side → List ℕ) where
    claimed : (old new : D) (claims claims' : List (Option Claim)) (file : F) (metadata : Metadata) →
        FilesHold start (honest.disk old) claims given put → IsClaimed does old new claims claims' call side access at file metadata →
        FilesHold start (honest.disk new) claims' given put × Grows claims claims' × IsNoted claims' (index_of_line call side) (honest.place file).file access
        × ((honest.place file).at ≡ 0)
    claimed old new claims claims' file metadata files is =
        let one = opened old new is.made file is.seen.opened in
        let same = honest.identifies file metadata is.identity is.seen.told is.identified in
        let before = kept start (honest.disk old) (honest.disk new) claims given put one.names one.no_others one.octets files in
        let after = noted start (honest.disk new) claims claims' given put call side metadata (record { file = is.identity; access = access }) before
        (honest.tells file metadata is.seen.told) is.noted is.apart (one.leads ∙ ap Some (sym same)) in
        (after.0, after.1, (after.2.0, after.2.1, after.2.2 ∙ same, after.2.3), one.start)

    stays_files : (old new : D) (claims : List (Option Claim)) → Stays (honest.disk old) (honest.disk new) → FilesHold start (honest.disk old) claims given put →
        FilesHold start (honest.disk new) claims given put
    stays_files old new claims stays files =
        kept start (honest.disk old) (honest.disk new) claims given put (keeps_names (honest.disk old) (honest.disk new) stays)
        (leads_on (honest.disk old) (honest.disk new) stays) stays.1 files

    -- a file that didn't start was changed by nothing
    not_started : (metadata : Metadata) (before after : D) (old new : F) (e : Error) → IsFile (file_type metadata) →
        Starts does access at metadata before after old new (Err e) → Stays (honest.disk before) (honest.disk after)
    not_started metadata before after old new e disk starts = elim (eq-zero-or-pos at) [
      | inl none ↦ elim (reads_or_writes access) [
        | inl reads ↦ let never : Result.Err e ≡ Ok tt = (starts.stays none (λ w. let no : ⊥ = cc in absurd no)).2 in let no : ⊥ = cc in absurd no
        | inr writes ↦ honest.empties_none before after old new e (starts.empties none writes disk)
      ]
      | inr some ↦ let same = (starts.goes some).0 in
          subst (λ (d : D). Stays (honest.disk before) (honest.disk d)) (sym same) (λ _. refl, λ _. refl)
    ]

    -- the files, after an opening that failed
    failed : (old new : D) (claims claims' : List (Option Claim)) (fault : Fault) → FilesHold start (honest.disk old) claims given put →
        FailsToOpen does old new claims claims' call side access at fault → FilesHold start (honest.disk new) claims' given put × Grows claims claims'
    failed old new claims claims' (System e) files fails = elim fails [
      | inl f ↦ (
        subst (λ (cs : List (Option Claim)). FilesHold start (honest.disk new) cs given put) (sym f.0) (stays_files old new claims (not_opened old new f.1 e f.2) files),
        grows_same claims claims' f.0,
      )
      | inr (inl f) ↦
          let one = opened old f.3 f.2 f.1 f.4 in
          let before = kept start (honest.disk old) (honest.disk f.3) claims given put one.names one.no_others one.octets files in (
            subst (λ (cs : List (Option Claim)). FilesHold start (honest.disk new) cs given put) (sym f.0)
                (stays_files f.3 new claims (honest.closes f.3 new f.1 f.6) before),
            grows_same claims claims' f.0,
          )
      | inr (inr f) ↦
          let one = claimed old f.3 claims claims' f.0 f.1 files f.5 in
          let disk = honest.tells f.0 f.1 f.5.seen.told in
          let stays = not_started f.1 f.3 f.4 f.0 f.2 e disk f.6 in
          (stays_files f.4 new claims' (honest.closes f.4 new f.2 f.7) (stays_files f.3 f.4 claims' stays one.0), one.1)
    ]
    failed old new claims claims' (Shared other) files f =
        let one = opened old f.mid f.made f.file f.seen.opened in
        let before = kept start (honest.disk old) (honest.disk f.mid) claims given put one.names one.no_others one.octets files in
        let without = stays_files f.mid f.without claims (honest.closes f.mid f.without f.file f.closed) before in (
          subst (λ (cs : List (Option Claim)). FilesHold start (honest.disk new) cs given put) (sym f.same_claims) (elim f.left [
            | inl same ↦ subst (λ (d : D). FilesHold start (honest.disk d) claims given put) (sym same.1) without
            | inr gone ↦
                let fresh = one.fresh gone.0 in
                let closes = honest.closes f.mid f.without f.file f.closed in
                let removes = honest.removes f.without new (file_name call side) gone.2 in
                let leads : (honest.disk f.without).file_of (file_name call side) ≡ Some (honest.place f.file).file = closes.0 (file_name call side) ∙ one.leads in
                kept start (honest.disk old) (honest.disk new) claims given put
                (λ name g led. removes.names name g (closes.0 name ∙ one.names name g led)
                (λ e. let same : Some g ≡ Some (honest.place f.file).file = sym e ∙ leads in
                let is : g ≡ (honest.place f.file).file = cc in fresh.0 name (led ∙ ap Some is)))
                (λ name g led. one.no_others name g (sym (closes.0 name) ∙ removes.no_others name g led))
                (λ g. elim (removes.octets g) [
                  | inl same ↦ same ∙ closes.1 g ∙ one.octets g
                  | inr lost ↦ let both : Some g ≡ Some (honest.place f.file).file = sym lost.0 ∙ leads in
                      let is : g ≡ (honest.place f.file).file = cc in
                      lost.1 ∙ sym (ap (honest.disk old).octets is ∙ fresh.1)
                ])
                files
          ]),
          grows_same claims claims' f.same_claims,
        )

    -- the line's open file: it is the one noted for the line, and stands at the line's octet; one that is written has
    -- what the line took
    abbrev pub IsReady : Disk → List (Option Claim) → F → Type 0
    IsReady now claims file = (c : Claim) × (claim_at claims (index_of_line call side) ≡ Some c) × (honest.place file ≡ record { file = c.file; at = at })
        × (access ≡ Writing → (c.access ≡ Writing) × (now.octets c.file ≡ put call side))

    no_octets : (xs : List ℕ) → length xs ≡ 0 → xs ≡ []
    no_octets [] none = refl
    no_octets (x ∷ xs) none = absurd (omega (arith, none))

    started : (metadata : Metadata) (before after : D) (old new : F) (claims : List (Option Claim)) → IsFile (file_type metadata) → AreApart claims →
        (access ≡ Writing → at ≡ length (put call side)) → FilesHold start (honest.disk before) claims given put →
        IsNoted claims (index_of_line call side) (honest.place old).file access → (honest.place old).at ≡ 0 →
        Starts does access at metadata before after old new (Ok tt) →
        FilesHold start (honest.disk after) claims given put × IsReady (honest.disk after) claims new
    started metadata before after old new claims disk apart count files is at_start starts = elim (eq-zero-or-pos at) [
      | inl none ↦ elim (reads_or_writes access) [
        | inl reads ↦ let same = starts.stays none (λ w. let no : ⊥ = cc in absurd no) in (
          subst (λ (d : D). FilesHold start (honest.disk d) claims given put) (sym same.0) files,
          (is.0, is.1, ap honest.place same.1 ∙ place_of at_start none is.2, λ w. let no : ⊥ = cc in absurd no),
        )
        | inr writes ↦
            let changes = honest.empties before after old new (starts.empties none writes disk) in
            let empty : put call side ≡ [] = no_octets (put call side) (sym (count writes) ∙ none) in
            let this : Changes (honest.disk before) (honest.disk after) is.0.file (put call side) =
            rw (is.2, empty) changes.0 in (
              changed start (honest.disk before) (honest.disk after) claims given put put call side is.0 [] files apart is.1 (is.3 writes) this
                  (record { this = sym (append-nil (put call side)); others = λ _ _ _. refl }),
              (is.0, is.1, changes.1 ∙ place_of at_start none is.2, λ w. (is.3 w, this.this)),
            )
      ]
      | inr some ↦
          let goes = starts.goes some in (
            subst (λ (d : D). FilesHold start (honest.disk d) claims given put) (sym goes.0) files,
            (
              is.0,
              is.1,
              gone goes.1.0 goes.1.1 (Ok tt) refl goes.1.2 ∙ ap (λ (f : FileIdentity). let p : Place = record { file = f; at = at } in p) (sym is.2),
              λ w.
                  let line = (files.lines call side).put (subst (λ (n : ℕ). 0 < n) (count w) some) in
                  let here = rw is.1 at line in
                  (here.0, subst (λ (d : D). (honest.disk d).octets is.0.file ≡ put call side) (sym goes.0) here.1),
            ),
          )
    ]
      where
        place_of : (honest.place old).at ≡ 0 → at ≡ 0 → is.0.file ≡ (honest.place old).file → honest.place old ≡ record { file = is.0.file; at = at }
        place_of at_start none same = same_place (honest.place old) is.0.file at (sym same) (at_start ∙ sym none)

        gone : (moved : Result ℕ Error) → does.went old new at moved → (result : Result (Unit {0}) Error) → result ≡ Ok tt →
            MatchResult moved (λ _. result ≡ Ok tt) (λ e. result ≡ Err e) →
            honest.place new ≡ record { file = (honest.place old).file; at = at }
        gone (Ok n) went result ok same = honest.goes old new at n went
        gone (Err e) went result ok same = let no : ⊥ = cc in absurd no

    -- the files, after an opening that may have been made twice
    opens_once : (old new : D) (claims claims' : List (Option Claim)) (file : F) → AreApart claims' → (access ≡ Writing → at ≡ length (put call side)) →
        FilesHold start (honest.disk old) claims given put → IsOpened does old new claims claims' call side access at file →
        FilesHold start (honest.disk new) claims' given put × Grows claims claims' × IsReady (honest.disk new) claims' file
    opens_once old new claims claims' file apart count files is =
        let one = claimed old is.mid claims claims' is.fresh is.metadata files is.claimed in
        let two = started is.metadata is.mid new is.fresh file claims' (honest.tells is.fresh is.metadata is.claimed.seen.told) apart count one.0 one.2 one.3 is.started in
        (two.0, one.1, two.1)

    pub opens_ok : (old new : D) (claims claims' : List (Option Claim)) (file : F) → AreApart claims' → (access ≡ Writing → at ≡ length (put call side)) →
        FilesHold start (honest.disk old) claims given put → Opens does old new claims claims' call side access at (Ok file) →
        FilesHold start (honest.disk new) claims' given put × Grows claims claims' × IsReady (honest.disk new) claims' file
    opens_ok old new claims claims' file apart count files opens = elim opens [
      | inl once ↦ opens_once old new claims claims' file apart count files once.0
      | inr again ↦
          let first = failed old again.folder claims again.claims again.fault files again.first in
          let second = opens_once again.folder new again.claims claims' file apart count first.0 again.second in
          (second.0, grows_twice claims again.claims claims' first.1 second.1, second.2)
    ]

    pub opens_fault : (old new : D) (claims claims' : List (Option Claim)) (fault : Fault) → FilesHold start (honest.disk old) claims given put →
        Opens does old new claims claims' call side access at (Err fault) → FilesHold start (honest.disk new) claims' given put × Grows claims claims'
    opens_fault old new claims claims' fault files opens = elim opens [
      | inl once ↦ failed old new claims claims' fault files once.0
      | inr again ↦
          let first = failed old again.folder claims again.claims again.fault files again.first in
          let second = failed again.folder new again.claims claims' fault first.0 again.second in
          (second.0, grows_twice claims again.claims claims' first.1 second.1)
    ]

    -- the files, once the line's file is found
    pub found : (old : OpenFiles D F) (now : D) (claims' : List (Option Claim)) (o : OpenLine F) → AreApart claims' →
        (access ≡ Writing → at ≡ length (put call side)) → FilesHold start (honest.disk old.folder) old.claims given put →
        ((k : ℕ) (x : OpenLine F) → in_bay old.bays k ≡ Some x → IsPlaced honest.place old.claims x) →
        IsFound does old now claims' call side access at o →
        FilesHold start (honest.disk now) claims' given put × Grows old.claims claims' × IsReady (honest.disk now) claims' o.file
    found old now claims' o apart count files bays is = elim is.from [
      | inl was ↦
          let here = is.kept was.bay was.there in
          let placed = bays was.bay o here in
          let there : claim_at claims' (index_of_line call side) ≡ Some placed.0 =
          ap (λ (cs : List (Option Claim)). claim_at cs (index_of_line call side)) was.same_claims
          ∙ ap (λ (k : ℕ). claim_at old.claims k) (sym (ap (λ (x : ℕ). index_of_line x o.side) is.stands.0 ∙ ap (index_of_line call) is.stands.1)) ∙ placed.1 in
          let files' : FilesHold start (honest.disk now) claims' given put =
          subst (λ (d : D). FilesHold start (honest.disk d) claims' given put) (sym was.same_folder)
          (subst (λ (cs : List (Option Claim)). FilesHold start (honest.disk old.folder) cs given put) (sym was.same_claims) files) in (
            files',
            grows_same old.claims claims' was.same_claims,
            (
              placed.0,
              there,
              placed.2 ∙ ap (λ (n : ℕ). let p : Place = record { file = placed.0.file; at = n } in p) is.stands.3,
              λ w.
                  let writes = placed.3 (is.stands.2 ∙ w) in
                  let some : 0 < length (put call side) = omega (arith, writes.1, is.stands.3, count w) in
                  let line = (files'.lines call side).put some in
                  rw there at line,
            ),
          )
      | inr now_opened ↦ opens_ok old.folder now old.claims claims' o.file apart count files now_opened.opens
    ]
