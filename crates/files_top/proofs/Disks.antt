-- What a run leaves in the files of an honest folder, from what it leaves on the lines.
use Rattle.std.proofs.Common.{◌≡◌, ◌⊎◌, ◌∙◌, ◌<◌, ℕ, Bool, true, false, List, [], length, take, drop, Option, Some, ap, arith, inl, inr, length-take-le, refl, subst, sym, take-append-drop}
use Rattle.std.specs.Io.KnownBytes.{Appends}
use Rattle.std.specs.Prelude.{is_some}
use Rattle.trau_io.specs.declared.line.Side.{Side}
use Rattle.trau_io.specs.declared.line.Side.TheVariants.{Up, Pcm, Down, Out}
use Rattle.trau_io.specs.Indices.{index_of_line}
use Rattle.trau_io.specs.Lines.{LineState}
use Rattle.trau_orders.specs.declared.order.Order.{Order}
use Rattle.switchboard.specs.Calls.{opened_at}
use Rattle.run_spec.specs.Run.{IsOpened, Run, done_in}
use Rattle.farm_run.specs.Runs.{AreFailures, HasWritten, IsGiven, IsRunOver}
use Rattle.trau_files.proofs.Leaving.{all_to_come, in_file, kept_or_written, others_keep}
use Rattle.trau_files.specs.declared.trunk.claims.FileIdentity.{FileIdentity}
use Rattle.trau_files.specs.Contents.{IsMade, Knows, contents_if, first_if, line_of, rest_of, taken_of}
use Rattle.trau_files.specs.Disk.{Disk, octets_if}
use Rattle.trau_files.specs.Files.{file_name, states_of}
use Rattle.trau_files.specs.Folder.{Operations}
use Rattle.trau_files.specs.Holds.{line_at}
use Rattle.trau_files.specs.Honest.{IsHonest}
use Rattle.trau_files.specs.Trunk.{TrunkFiles}
use Rattle.files_top.specs.OnDisk.{AreGiven, AreTaken, AreTakenOn, FilesStay, HasOctets, KeepsRecordings, LeftOnDisk, given_by, run_on}

true_or_not : (b : Bool) → (b ≡ true) ⊎ (b ≡ true → ⊥)
true_or_not true = inl refl
true_or_not false = inr (λ is. cc)

-- an incoming line's octets are those of its file at the start; those of a line that failed are the first n
given_is : (start : Disk) (file : Option FileIdentity) (fails : Bool) (n : ℕ) (before now : LineState) → before.to_come ≡ Some (rest_of start file 0) →
    now.to_come ≡ Some (rest_of start file n) → IsGiven fails before now (given_by fails n (octets_if start file))
given_is start file false n before now was is = was ∙ ap Some (all_to_come start file)
given_is start file true n before now was is = (
  drop n (octets_if start file),
  was ∙ ap Some (all_to_come start file ∙ sym (take-append-drop n (octets_if start file))),
  is,
)

-- a line that was made, and isn't changed, took nothing and didn't fail
unused_of : (start : Disk) (side : Side) (file : Option FileIdentity) (gave : ℕ) (took : List ℕ) (faults : ℕ) → IsMade side →
    line_of start side file gave took faults ≡ line_of start side file 0 [] 0 → (took ≡ []) × (faults ≡ 0)
unused_of start Up file gave took faults made same = absurd made
unused_of start Pcm file gave took faults made same = absurd made
unused_of start Down file gave took faults made same =
    let both : Some took ≡ Some [] = ap (λ (l : LineState). l.written) same in let one : took ≡ [] = cc in (one, ap (λ (l : LineState). l.faults) same)
unused_of start Out file gave took faults made same =
    let both : Some took ≡ Some [] = ap (λ (l : LineState). l.written) same in let one : took ≡ [] = cc in (one, ap (λ (l : LineState). l.faults) same)

-- a line whose fault count rose failed
failed_line : (start : Disk) (side : Side) (file : Option FileIdentity) (gave : ℕ) (took : List ℕ) (faults : ℕ) (fails : Bool) → IsMade side →
    (fails ≡ false → (line_of start side file gave took faults).faults ≡ (line_of start side file 0 [] 0).faults) → 0 < faults → fails ≡ true
failed_line start side file gave took faults true made kept some = refl
failed_line start Up file gave took faults false made kept some = absurd made
failed_line start Pcm file gave took faults false made kept some = absurd made
failed_line start Down file gave took faults false made kept some = let is : faults ≡ 0 = kept refl in absurd (omega (arith, some, is))
failed_line start Out file gave took faults false made kept some = let is : faults ≡ 0 = kept refl in absurd (omega (arith, some, is))

-- a line to which nothing was written has what it gained
appended : (old new : Option (List ℕ)) (took octets : List ℕ) → old ≡ Some [] → new ≡ Some took → Appends old new octets → took ≡ octets
appended old new took octets was is more = subst (λ (x : Option (List ℕ)). Appends (Some []) x octets) is (subst (λ (x : Option (List ℕ)). Appends x new octets) was more)

-- what a line took that nothing was written to before
took_all : (fails : Bool) (octets took : List ℕ) (before now : LineState) → before.written ≡ Some [] → now.written ≡ Some took →
    HasWritten fails before now octets → AreTaken fails octets took
took_all false octets took before now was is wrote = appended before.written now.written took octets was is wrote
took_all true octets took before now was is wrote = (wrote.0, wrote.1, appended before.written now.written took (take wrote.0 octets) was is wrote.2)

module _ {D F : Type 0} {does : Operations D F} (honest : IsHonest does) (start : Disk) (t : TrunkFiles D F) (knows : Knows honest start t) where
  -- the run over the files is the run over the lines
  pub over_lines : (orders : List Order) (periods : ℕ) (fails : ℕ → Side → Bool) →
      IsRunOver orders periods fails (first_if (Some honest) start) (contents_if (Some honest) start t)
      (run_on orders periods start fails (λ c s. (line_at t.lines (index_of_line c s)).read))
  over_lines orders periods fails = record {
    same_orders = refl;
    same_periods = refl;
    up = λ c opened. given_is start (start.file_of (file_name c Up)) (fails c Up) (line_at t.lines (index_of_line c Up)).read
        (first_if (Some honest) start c Up) (contents_if (Some honest) start t c Up) refl refl;
    pcm = λ c opened. given_is start (start.file_of (file_name c Pcm)) (fails c Pcm) (line_at t.lines (index_of_line c Pcm)).read
        (first_if (Some honest) start c Pcm) (contents_if (Some honest) start t c Pcm) refl refl;
    up_failed = λ c. refl;
    pcm_failed = λ c. refl;
  }

  -- what each incoming line gave
  pub are_given : AreGiven start (λ c s. (line_at t.lines (index_of_line c s)).read) (contents_if (Some honest) start t)
  are_given c Up recorded = refl
  are_given c Pcm recorded = refl
  are_given c Down recorded = absurd recorded
  are_given c Out recorded = absurd recorded

  has_octets : (fails : Bool) (c : ℕ) (side : Side) (octets : List ℕ) (before now : LineState) → before.written ≡ Some [] →
      now.written ≡ Some (taken_of (honest.disk t.files.folder) t.lines c side) → HasWritten fails before now octets →
      HasOctets fails (honest.disk t.files.folder) c side octets
  has_octets false c side octets before now was is wrote =
      λ some. in_file honest start t knows c side octets (appended before.written now.written (taken_of (honest.disk t.files.folder) t.lines c side) octets was is wrote) some
  has_octets true c side octets before now was is wrote = (
    wrote.0,
    wrote.1,
    λ some. in_file honest start t knows c side (take wrote.0 octets)
        (appended before.written now.written (taken_of (honest.disk t.files.folder) t.lines c side) (take wrote.0 octets) was is wrote.2)
        (let long : length (take wrote.0 octets) ≡ wrote.0 = length-take-le wrote.0 octets (omega (arith, wrote.1)) in omega (arith, long, some)),
  )

  -- what the lines of the run's calls have, their files have
  pub left_on_disk : (fails : ℕ → Side → Bool) (r : Run) (outs downs : ℕ → List ℕ) →
      AreFailures fails (first_if (Some honest) start) (contents_if (Some honest) start t) →
      ((c : ℕ) → IsOpened r c → HasWritten (fails c Out) (first_if (Some honest) start c Out) (contents_if (Some honest) start t c Out) (outs c)) →
      ((c : ℕ) → IsOpened r c → HasWritten (fails c Down) (first_if (Some honest) start c Down) (contents_if (Some honest) start t c Down) (downs c)) →
      ((c : ℕ) (s : Side) → (IsOpened r c → ⊥) → contents_if (Some honest) start t c s ≡ first_if (Some honest) start c s) →
      LeftOnDisk start (honest.disk t.files.folder) fails r outs downs
  left_on_disk fails r outs downs told out down others = record {
    out_file = λ c opened. has_octets (fails c Out) c Out (outs c) (first_if (Some honest) start c Out) (contents_if (Some honest) start t c Out) refl refl (out c opened);
    down_file = λ c opened. has_octets (fails c Down) c Down (downs c) (first_if (Some honest) start c Down) (contents_if (Some honest) start t c Down) refl refl (down c opened);
    changed = λ f. elim (kept_or_written honest start t knows f) [
      | inl kept ↦ inl kept
      | inr is ↦ elim (true_or_not (is_some (opened_at is.0 (done_in r)))) [
        | inl opened ↦ inr (record {
          call = is.0;
          side = is.1;
          opened = opened;
          leads = is.2.leads;
          has = subst (λ (xs : List ℕ). AreTakenOn is.1 (fails is.0 is.1) (outs is.0) (downs is.0) xs) (sym is.2.has) (taken_on is.0 is.1 is.2.made opened);
          used = elim is.2.used [
            | inl some ↦ inl (subst (λ (xs : List ℕ). 0 < length xs) (sym is.2.has) some)
            | inr failed ↦ inr (failed_line start is.1 (start.file_of (file_name is.0 is.1)) (line_at t.lines (index_of_line is.0 is.1)).read
                (taken_of (honest.disk t.files.folder) t.lines is.0 is.1) (states_of t.lines is.0 is.1).faults (fails is.0 is.1) is.2.made
                (told.kept is.0 is.1) failed)
          ];
        })
        | inr not ↦
            let none = unused_of start is.1 (start.file_of (file_name is.0 is.1)) (line_at t.lines (index_of_line is.0 is.1)).read
            (taken_of (honest.disk t.files.folder) t.lines is.0 is.1) (states_of t.lines is.0 is.1).faults is.2.made (others is.0 is.1 not) in
            let empty : length (taken_of (honest.disk t.files.folder) t.lines is.0 is.1) ≡ 0 = ap length none.0 in
            absurd (elim is.2.used [ inl some ↦ omega (arith, some, empty) | inr failed ↦ omega (arith, failed, none.1) ])
      ]
    ];
    others = λ f apart. others_keep honest start t knows f (λ c side made leads. elim (true_or_not (is_some (opened_at c (done_in r)))) [
      | inl opened ↦ absurd (apart c side made opened leads)
      | inr not ↦ unused_of start side (start.file_of (file_name c side)) (line_at t.lines (index_of_line c side)).read
          (taken_of (honest.disk t.files.folder) t.lines c side) (states_of t.lines c side).faults made (others c side not)
    ]);
    names = knows.holds.files.names;
  }
    where
      taken_on : (c : ℕ) (side : Side) → IsMade side → IsOpened r c →
          AreTakenOn side (fails c side) (outs c) (downs c) (taken_of (honest.disk t.files.folder) t.lines c side)
      taken_on c Up made opened = absurd made
      taken_on c Pcm made opened = absurd made
      taken_on c Down made opened = took_all (fails c Down) (downs c) (taken_of (honest.disk t.files.folder) t.lines c Down)
          (first_if (Some honest) start c Down) (contents_if (Some honest) start t c Down) refl refl (down c opened)
      taken_on c Out made opened = took_all (fails c Out) (outs c) (taken_of (honest.disk t.files.folder) t.lines c Out)
          (first_if (Some honest) start c Out) (contents_if (Some honest) start t c Out) refl refl (out c opened)

  -- lines that are unchanged leave the files so
  pub files_stay : ((c : ℕ) (s : Side) → contents_if (Some honest) start t c s ≡ first_if (Some honest) start c s) → FilesStay start (honest.disk t.files.folder)
  files_stay stay = (
    knows.holds.files.names,
    λ f. others_keep honest start t knows f (λ c side made leads.
        unused_of start side (start.file_of (file_name c side)) (line_at t.lines (index_of_line c side)).read
        (taken_of (honest.disk t.files.folder) t.lines c side) (states_of t.lines c side).faults made (stay c side)),
  )

  -- no operation changes a file that no outgoing line's name leads to
  pub keeps_recordings : KeepsRecordings start (honest.disk t.files.folder)
  keeps_recordings f apart = others_keep honest start t knows f (λ c side made leads. absurd (apart c side made leads))
