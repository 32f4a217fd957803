-- Which files of incoming lines are noted, after the folder was searched.
use Rattle.std.proofs.Common.{◌≡◌, ◌≢◌, ◌⊎◌, ◌∙◌, ◌<◌, ◌+◌, ℕ, Bool, true, false, List, length, Option, None, Some, All, slice_set, ap, arith, inl, inr, refl, subst, sym}
use Rattle.call_number.specs.declared.TheConstants.{LAST_CALL}
use Rattle.trau_io.specs.declared.line.Side.{Side}
use Rattle.trau_io.specs.declared.line.Side.TheVariants.{Up, Pcm}
use Rattle.trau_io.specs.Indices.{index_of_line}
use Rattle.trau_io.proofs.Tables.{same_line}
use Rattle.trau_files.specs.declared.trunk.claims.FileIdentity.{FileIdentity}
use Rattle.trau_files.specs.Files.{file_name}
use Rattle.trau_files.specs.Folder.{Operations}
use Rattle.trau_files.specs.Recordings.{AreLed, AreRecordings, AreSearched, IsLed, IsMissing, IsNoRecording, IsRecording, LeadsNowhere, LedNowhere, noted_at}
use Rattle.trau_files.proofs.Cases.{same_or_other}
use Rattle.trau_files.proofs.BayLaws.{empty, set_place, set_there, within}

module _ {D F : Type 0} (does : Operations D F) where
  pub none_noted : (files : List (Option FileIdentity)) → All (λ (f : Option FileIdentity). f ≡ None) files → AreRecordings does files
  none_noted files none k file there = let e = empty files none k in let never : ⊥ = cc in absurd never

  pub one_forgotten : (files : List (Option FileIdentity)) (p : ℕ) → AreRecordings does files → AreRecordings does (slice_set files p None)
  one_forgotten files p are k file there = elim (set_place files p None None k) [
    | inl s ↦ let never : ⊥ = cc in absurd never
    | inr s ↦ are k file (sym s ∙ there)
  ]

  pub one_noted : (files : List (Option FileIdentity)) (p : ℕ) (found : FileIdentity) → IsRecording does p found → AreRecordings does files →
      AreRecordings does (slice_set files p (Some found))
  one_noted files p found is are k file there = elim (set_place files p (Some found) None k) [
    | inl s ↦
        let both : Some file ≡ Some found = sym there ∙ s.1 in
        let same : file ≡ found = cc in
        subst (λ (f : FileIdentity). IsRecording does k f) (sym same) (subst (λ (x : ℕ). IsRecording does x found) (sym s.0) is)
    | inr s ↦ are k file (sym s ∙ there)
  ]

  -- each noted file is one to which its name leads
  pub none_led : (Led : List ℕ → FileIdentity → Type 0) (files : List (Option FileIdentity)) → ((k : ℕ) (file : FileIdentity) → noted_at files k ≢ Some file) → AreLed Led files
  none_led Led files none k file there = absurd (none k file there)

  pub one_led : (Led : List ℕ → FileIdentity → Type 0) (files : List (Option FileIdentity)) (call : ℕ) (side : Side) (found : FileIdentity) →
      Led (file_name call side) found → AreLed Led files → AreLed Led (slice_set files (index_of_line call side) (Some found))
  one_led Led files call side found is are k file there = elim (set_place files (index_of_line call side) (Some found) None k) [
    | inl s ↦
        let both : Some file ≡ Some found = sym there ∙ s.1 in
        let same : file ≡ found = cc in
        (call, side, s.0, subst (λ (f : FileIdentity). Led (file_name call side) f) (sym same) is)
    | inr s ↦ are k file (sym s ∙ there)
  ]

  pub were_led : (folder : D) (made : Bool) (files : List (Option FileIdentity)) → made ≡ false → AreRecordings does files → AreLed (IsLed does folder made) files
  were_led folder false files older are k file there = let found = are k file there in (found.call, found.side, found.place, found.led)
  were_led folder true files older are k file there = let never : ⊥ = cc in absurd never

  pub now_cleared : (files : List (Option FileIdentity)) (place : ℕ) → place < length files →
      ((k : ℕ) (file : FileIdentity) → k < place → noted_at files k ≢ Some file) →
      (k : ℕ) (file : FileIdentity) → k < place + 1 → noted_at (slice_set files place None) k ≢ Some file
  now_cleared files place inside before k file low there = elim (same_or_other k place) [
    | inl same ↦
        let none : noted_at (slice_set files place None) place ≡ None = set_there files place None None inside in
        let some : noted_at (slice_set files place None) place ≡ Some file = ap (noted_at (slice_set files place None)) (sym same) ∙ there in
        let never : ⊥ = cc in absurd never
    | inr other ↦ elim (set_place files place None None k) [
      | inl s ↦ absurd (other s.0)
      | inr s ↦ before k file (omega (arith, low, other)) (sym s ∙ there)
    ]
  ]

  pub still_searched : (Missing : List ℕ → Type 0) (files : List (Option FileIdentity)) (p : ℕ) (found : FileIdentity) (below : ℕ) →
      AreSearched Missing files below → AreSearched Missing (slice_set files p (Some found)) below
  still_searched Missing files p found below are call side incoming low none = elim (set_place files p (Some found) None (index_of_line call side)) [
    | inl s ↦ let never : ⊥ = cc in absurd never
    | inr s ↦ are call side incoming low (sym s ∙ none)
  ]

  -- the lines of one more call were looked up
  pub one_more : (Missing : List ℕ → Type 0) (old mid new : List (Option FileIdentity)) (call : ℕ) → AreSearched Missing old call →
      (noted_at mid (index_of_line call Up) ≡ None → Missing (file_name call Up)) →
      ((k : ℕ) → k ≢ index_of_line call Up → noted_at mid k ≡ noted_at old k) →
      (noted_at new (index_of_line call Pcm) ≡ None → Missing (file_name call Pcm)) →
      ((k : ℕ) → k ≢ index_of_line call Pcm → noted_at new k ≡ noted_at mid k) → AreSearched Missing new (call + 1)
  one_more Missing old mid new call before up others_up pcm others_pcm c s incoming low none = elim (same_or_other c call) [
    | inl same ↦ elim incoming.2 [
      | inl is ↦ this_up same is
      | inr is ↦ this_pcm same is
    ]
    | inr other ↦ before c s incoming (omega (arith, low, other))
        (sym (others_up (index_of_line c s) (λ e. other (same_line c call s Up e).0))
        ∙ sym (others_pcm (index_of_line c s) (λ e. other (same_line c call s Pcm e).0)) ∙ none)
  ]
    where
      this_up : c ≡ call → s ≡ Up → Missing (file_name c s)
      this_up same is =
          let there : noted_at new (index_of_line call Up) ≡ None = ap (noted_at new) (sym (ap (λ (x : ℕ). index_of_line x s) same ∙ ap (index_of_line call) is)) ∙ none in
          rw (same, is) (up (sym (others_pcm (index_of_line call Up) (λ e. omega (arith, e))) ∙ there))

      this_pcm : c ≡ call → s ≡ Pcm → Missing (file_name c s)
      this_pcm same is =
          let there : noted_at new (index_of_line call Pcm) ≡ None = ap (noted_at new) (sym (ap (λ (x : ℕ). index_of_line x s) same ∙ ap (index_of_line call) is)) ∙ none in
          rw (same, is) (pcm there)

  pub none_searched : (Missing : List ℕ → Type 0) (files : List (Option FileIdentity)) → AreSearched Missing files 1
  none_searched Missing files call side incoming low none = absurd (omega (arith, incoming.0, low))

  -- no line before the end has the file, so no line has
  pub noted_nowhere : (files : List (Option FileIdentity)) (file : FileIdentity) (n : ℕ) → length files ≡ n →
      ((k : ℕ) → k < n → noted_at files k ≢ Some file) → (k : ℕ) → noted_at files k ≢ Some file
  noted_nowhere files file n size before k there = before k (omega (arith, within files k file there, size)) there

  pub cleared_all : (files : List (Option FileIdentity)) (n : ℕ) → length files ≡ n → ((k : ℕ) (file : FileIdentity) → k < n → noted_at files k ≢ Some file) →
      (k : ℕ) (file : FileIdentity) → noted_at files k ≢ Some file
  cleared_all files n size before k file there = before k file (omega (arith, within files k file there, size)) there

  -- a folder that is asked as it is was asked at some time
  pub were_searched : (folder : D) (files : List (Option FileIdentity)) (below : ℕ) → AreSearched (LeadsNowhere does folder) files below →
      AreSearched (LedNowhere does) files below
  were_searched folder files below searched call side incoming low none = (folder, searched call side incoming low none)

  -- so a name is missing, whether a file was made or not
  pub now_searched : (folder : D) (made : Bool) (files : List (Option FileIdentity)) (below : ℕ) → AreSearched (LeadsNowhere does folder) files below →
      AreSearched (IsMissing does folder made) files below
  now_searched folder true files below searched = searched
  now_searched folder false files below searched = were_searched folder files below searched

  -- no incoming line's name led to a file that is noted for none
  pub no_recording : (folder : D) (made : Bool) (files : List (Option FileIdentity)) (file : FileIdentity) → AreLed (IsLed does folder made) files →
      AreSearched (IsMissing does folder made) files (LAST_CALL + 1) → ((k : ℕ) → noted_at files k ≢ Some file) → IsNoRecording does folder made file
  no_recording folder made files file are searched none call side incoming = elsewhere (noted_at files (index_of_line call side)) refl
    where
      elsewhere : (o : Option FileIdentity) → noted_at files (index_of_line call side) ≡ o →
          IsMissing does folder made (file_name call side) ⊎ ((other : FileIdentity) × IsLed does folder made (file_name call side) other × (other ≢ file))
      elsewhere None is = inl (searched call side incoming (omega (arith, incoming.1)) is)
      elsewhere (Some other) is =
          let found = are (index_of_line call side) other is in
          let line = same_line call found.0 side found.1 found.2 in
          inr (
            other,
            subst (λ (x : ℕ). IsLed does folder made (file_name x side) other) (sym line.0)
                (subst (λ (x : Side). IsLed does folder made (file_name found.0 x) other) (sym line.1) found.3),
            λ same. none (index_of_line call side) (is ∙ ap Some same),
          )
