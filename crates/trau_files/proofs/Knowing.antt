-- A trunk over a folder that is known to be honest: what is known of its lines' octets, operation by operation.
use Rattle.std.proofs.Common.{◌≡◌, ◌⊎◌, ◌∙◌, ◌<◌, ◌≤◌, ◌+◌, ℕ, zero, suc, All, List, [], ◌∷◌, ◌++◌, length, take, Option, None, Some, Result, Ok, Err, IfOk, ap, arith, eq-zero-or-pos, length-append, length-take-le, slice_get, slice_set, inl, inr, refl, subst, sym}
use Rattle.std.specs.Io.{ReadsAtMost}
use Rattle.std.specs.Io.KnownBytes.{ReadConsumes, WriteAppends}
use Rattle.trau_io.specs.declared.line.Side.{Side}
use Rattle.trau_io.specs.declared.line.Side.TheVariants.{Up, Pcm, Down, Out}
use Rattle.trau_io.specs.declared.line.Failed.{Failed}
use Rattle.trau_io.specs.Indices.{index_of_line}
use Rattle.trau_io.specs.Lines.{HasCause, LineState, OthersStay, Reads, Rose, Writes}
use Rattle.trau_io.proofs.Tables.{same_line}
use Rattle.trau_files.proofs.Counting.{counted, got}
use Rattle.trau_files.proofs.Cases.{nothing_of, reads_or_writes, same_or_other}
use Rattle.trau_files.proofs.Honest.Known.{took_files}
use Rattle.trau_files.proofs.BayLaws.{empty}
use Rattle.trau_files.specs.declared.trunk.claims.Claim.{Claim}
use Rattle.trau_files.specs.declared.trunk.claims.FileIdentity.{FileIdentity}
use Rattle.trau_files.specs.Claims.{OthersKeep, claim_at}
use Rattle.trau_files.specs.Contents.{CountsStay, HaveUsedThem, IsAtStart, IsForReading, IsMade, IsRecorded, Knows, KnowsIf, NotesNoWriting, contents_if, contents_in, first_if, line_of, rest_of, taken_of}
use Rattle.trau_files.specs.Files.{FileLine, OpenFiles, OpenLine, file_name, in_bay, known_line, states_of}
use Rattle.trau_files.specs.Folder.{Operations}
use Rattle.trau_files.specs.Disk.{Disk, octets_if}
use Rattle.trau_files.specs.Honest.{IsHonest}
use Rattle.trau_files.specs.Holds.{FilesHold, Gains, Holds, HoldsAtFirst, IsPlaced, ReadsHold, WritesHold, line_at, moved}
use Rattle.trau_files.specs.Trunk.{TrunkFiles}

-- one of two lists, by a choice
abbrev pick : {X Y : Type 0} → X ⊎ Y → List ℕ → List ℕ → List ℕ
pick (inl x) a b = a
pick (inr y) a b = b

picked_first : {X Y : Type 0} (choice : X ⊎ Y) (a b : List ℕ) → (Y → ⊥) → pick choice a b ≡ a
picked_first (inl x) a b never = refl
picked_first (inr y) a b never = absurd (never y)

picked_second : {X Y : Type 0} (choice : X ⊎ Y) (a b : List ℕ) → (X → ⊥) → pick choice a b ≡ b
picked_second (inl x) a b never = absurd (never x)
picked_second (inr y) a b never = refl

-- the octets of all lines, one line's more by these
abbrev gained_of : (ℕ → Side → List ℕ) → ℕ → Side → List ℕ → ℕ → Side → List ℕ
gained_of old call side more c s = pick (same_or_other (index_of_line c s) (index_of_line call side)) (old c s ++ more) (old c s)

gains_of : (old : ℕ → Side → List ℕ) (call : ℕ) (side : Side) (more : List ℕ) → Gains old (gained_of old call side more) call side more
gains_of old call side more = record {
  this = picked_first (same_or_other (index_of_line call side) (index_of_line call side)) (old call side ++ more) (old call side) (λ other. other refl);
  others = λ c s other. picked_second (same_or_other (index_of_line c s) (index_of_line call side)) (old c s ++ more) (old c s)
      (λ same. let one = same_line c call s side same in other one.0 one.1);
}

-- of octets that aren't known a read says nothing
free : (result : Result ℕ Failed) (buf : List ℕ) → ReadConsumes None None result buf
free (Ok n) buf = (tt, λ _ _. tt)
free (Err e) buf = tt

line_reads : (start : Disk) (side : Side) (file : Option FileIdentity) (gave gave' : ℕ) (took : List ℕ) (faults faults' : ℕ) (result : Result ℕ Failed) (buf : List ℕ) →
    ReadsAtMost result buf → HasCause faults faults' result →
    (IsRecorded side → ReadConsumes (Some (rest_of start file gave)) (Some (rest_of start file gave')) result buf) →
    Reads (line_of start side file gave took faults) (line_of start side file gave' took faults') result buf
line_reads start Up file gave gave' took faults faults' result buf bound cause next = record { bound = bound; to_come = next tt; written = refl; cause = cause }
line_reads start Pcm file gave gave' took faults faults' result buf bound cause next = record { bound = bound; to_come = next tt; written = refl; cause = cause }
line_reads start Down file gave gave' took faults faults' result buf bound cause next = record { bound = bound; to_come = free result buf; written = refl; cause = cause }
line_reads start Out file gave gave' took faults faults' result buf bound cause next = record { bound = bound; to_come = free result buf; written = refl; cause = cause }

line_writes : (start : Disk) (side : Side) (file : Option FileIdentity) (gave : ℕ) (took took' : List ℕ) (faults faults' : ℕ) (result : Result ℕ Failed) (bytes : List ℕ) →
    IsMade side → IfOk result (λ n. 0 < n) → IfOk result (λ n. n ≤ length bytes) → HasCause faults faults' result → WriteAppends (Some took) (Some took') result bytes →
    Writes (line_of start side file gave took faults) (line_of start side file gave took' faults') result bytes
line_writes start Up file gave took took' faults faults' result bytes made some bound cause put = absurd made
line_writes start Pcm file gave took took' faults faults' result bytes made some bound cause put = absurd made
line_writes start Down file gave took took' faults faults' result bytes made some bound cause put =
    record { some = some; bound = bound; written = put; to_come = refl; cause = cause }
line_writes start Out file gave took took' faults faults' result bytes made some bound cause put =
    record { some = some; bound = bound; written = put; to_come = refl; cause = cause }

line_refused : (start : Disk) (side : Side) (file : Option FileIdentity) (gave : ℕ) (took : List ℕ) (faults faults' : ℕ) (e : Failed) (bytes : List ℕ) →
    IsRecorded side → HasCause {T = ℕ} faults faults' (Err e) →
    Writes (line_of start side file gave took faults) (line_of start side file gave took faults') (Err e) bytes
line_refused start Up file gave took faults faults' e bytes read cause = record { some = tt; bound = tt; written = tt; to_come = refl; cause = cause }
line_refused start Pcm file gave took faults faults' e bytes read cause = record { some = tt; bound = tt; written = tt; to_come = refl; cause = cause }
line_refused start Down file gave took faults faults' e bytes read cause = absurd read
line_refused start Out file gave took faults faults' e bytes read cause = absurd read

pub recorded_or_made : (side : Side) → IsRecorded side → IsMade side → ⊥
recorded_or_made Up read made = made
recorded_or_made Pcm read made = made
recorded_or_made Down read made = read
recorded_or_made Out read made = read

-- ---- which lines have a file for writing

still_reading : (old new : List (Option Claim)) (k : ℕ) → NotesNoWriting old new k → IsForReading old k → IsForReading new k
still_reading old new k notes reads c there = elim (reads_or_writes c.access) [ inl is ↦ is | inr writes ↦ reads c (notes c there writes) ]

kept_notes : (old new : List (Option Claim)) (k : ℕ) → claim_at new k ≡ claim_at old k → NotesNoWriting old new k
kept_notes old new k same c there writes = sym same ∙ there

all_notes : (old new : List (Option Claim)) (p : ℕ) → NotesNoWriting old new p → OthersKeep old new p → (k : ℕ) → NotesNoWriting old new k
all_notes old new p notes kept k = elim (same_or_other k p) [
  | inl same ↦ subst (λ (i : ℕ). NotesNoWriting old new i) (sym same) notes
  | inr other ↦ kept_notes old new k (kept k other)
]

rose_some : (before now : ℕ) → Rose before now → 0 < now
rose_some before now rose = omega (arith, rose)

-- a line's fault count doesn't fall
later_all : (old new : ℕ → Side → LineState) (call : ℕ) (side : Side) → (old call side).faults ≤ (new call side).faults → OthersStay old new call side →
    (c : ℕ) (s : Side) → (old c s).faults ≤ (new c s).faults
later_all old new call side later others c s = elim (same_or_other (index_of_line c s) (index_of_line call side)) [
  | inl same ↦ let line = same_line c call s side same in
      subst (λ (x : ℕ). (old x s).faults ≤ (new x s).faults) (sym line.0)
      (subst (λ (x : Side). (old call x).faults ≤ (new call x).faults) (sym line.1) later)
  | inr other ↦ let same : (new c s).faults ≡ (old c s).faults =
      ap (λ (x : LineState). x.faults) (others c s (λ one two. other (λ i. index_of_line (one i) (two i)))) in omega (arith, same)
]

-- lines that have no other file for writing than before have used those that they have
used_still : (old new : List (Option Claim)) (put : ℕ → Side → List ℕ) (lines lines' : List FileLine) → HaveUsedThem old put lines → ((k : ℕ) → NotesNoWriting old new k) →
    ((c : ℕ) (s : Side) → (states_of lines c s).faults ≤ (states_of lines' c s).faults) → HaveUsedThem new put lines'
used_still old new put lines lines' used notes later c s claim there writes = elim (used c s claim (notes (index_of_line c s) claim there writes) writes) [
  | inl some ↦ inl some
  | inr failed ↦ inr (omega (arith, failed, later c s))
]

-- the line that is written used its file; the others' are as before
used_now : (old new : List (Option Claim)) (put put' : ℕ → Side → List ℕ) (lines lines' : List FileLine) (call : ℕ) (side : Side) (result : Result ℕ Failed) (bytes : List ℕ) →
    HaveUsedThem old put lines → OthersKeep old new (index_of_line call side) → Gains put put' call side (moved result bytes) →
    Writes (states_of lines call side) (states_of lines' call side) result bytes → OthersStay (states_of lines) (states_of lines') call side → HaveUsedThem new put' lines'
used_now old new put put' lines lines' call side result bytes used kept gains writes others c s claim there for_writing =
    elim (same_or_other (index_of_line c s) (index_of_line call side)) [
      | inl same ↦ let line = same_line c call s side same in
          subst (λ (x : ℕ). (0 < length (put' x s)) ⊎ (0 < (states_of lines' x s).faults)) (sym line.0)
          (subst (λ (x : Side). (0 < length (put' call x)) ⊎ (0 < (states_of lines' call x).faults)) (sym line.1)
          (this result writes.some writes.bound gains.this writes.cause))
      | inr other ↦
          let apart : c ≡ call → s ≡ side → ⊥ = λ one two. other (λ i. index_of_line (one i) (two i)) in
          elim (used c s claim (sym (kept (index_of_line c s) other) ∙ there) for_writing) [
            | inl some ↦ inl (subst (λ (xs : List ℕ). 0 < length xs) (sym (gains.others c s apart)) some)
            | inr failed ↦ inr (subst (λ (x : LineState). 0 < x.faults) (sym (others c s apart)) failed)
          ]
    ]
  where
    this : (r : Result ℕ Failed) → IfOk r (λ n. 0 < n) → IfOk r (λ n. n ≤ length bytes) → put' call side ≡ put call side ++ moved r bytes →
        HasCause (states_of lines call side).faults (states_of lines' call side).faults r →
        (0 < length (put' call side)) ⊎ (0 < (states_of lines' call side).faults)
    this (Ok n) some bound more cause =
        let size : length (take n bytes) ≡ n = length-take-le n bytes bound in
        let long : length (put' call side) ≡ length (put call side) + length (take n bytes) = ap length more ∙ length-append (put call side) (take n bytes) in
        inl (omega (arith, some, size, long))
    this (Err e) some bound more cause = inr (rose_some (states_of lines call side).faults (states_of lines' call side).faults cause.failed)

module _ {D F : Type 0} (does : Operations D F) (honest : IsHonest does) (start : Disk) where
  -- what a line took is in its file
  pub taken_is : (given put : ℕ → Side → List ℕ) (t : TrunkFiles D F) → Holds honest start given put t → (c : ℕ) (s : Side) →
      taken_of (honest.disk t.files.folder) t.lines c s ≡ put c s
  taken_is given put t holds c s = elim (eq-zero-or-pos (length (put c s))) [
    | inl none ↦
        ap (λ (n : ℕ). take n (octets_if (honest.disk t.files.folder) ((honest.disk t.files.folder).file_of (file_name c s)))) ((holds.counts c s).1 ∙ none)
        ∙ sym (nothing_of (put c s) none)
    | inr some ↦
        ap (take (line_at t.lines (index_of_line c s)).written) (took_files start (honest.disk t.files.folder) t.files.claims given put holds.files c s some)
        ∙ ap (λ (n : ℕ). take n (put c s)) (holds.counts c s).1 ∙ whole (put c s)
  ]
    where
      whole : (xs : List ℕ) → take (length xs) xs ≡ xs
      whole [] = refl
      whole (x ∷ xs) = ap (λ (ys : List ℕ). x ∷ ys) (whole xs)

  -- what is known of a line, by what it gave and took
  contents_is : (given put : ℕ → Side → List ℕ) (t : TrunkFiles D F) → Holds honest start given put t → (c : ℕ) (s : Side) →
      contents_in start (honest.disk t.files.folder) t.lines c s
      ≡ line_of start s (start.file_of (file_name c s)) (length (given c s)) (put c s) (states_of t.lines c s).faults
  contents_is given put t holds c s =
      λ i. line_of start s (start.file_of (file_name c s)) ((holds.counts c s).0 i) (taken_is given put t holds c s i) (states_of t.lines c s).faults

  -- the other lines stay
  others_stay : (given given' put put' : ℕ → Side → List ℕ) (old new : TrunkFiles D F) (call : ℕ) (side : Side) →
      Holds honest start given put old → Holds honest start given' put' new → OthersStay (states_of old.lines) (states_of new.lines) call side →
      ((c : ℕ) (s : Side) → (c ≡ call → s ≡ side → ⊥) → given' c s ≡ given c s) → ((c : ℕ) (s : Side) → (c ≡ call → s ≡ side → ⊥) → put' c s ≡ put c s) →
      OthersStay (contents_in start (honest.disk old.files.folder) old.lines) (contents_in start (honest.disk new.files.folder) new.lines) call side
  others_stay given given' put put' old new call side before after stay gave took c s other =
      contents_is given' put' new after c s
      ∙ (λ i. line_of start s (start.file_of (file_name c s)) (length (gave c s other i)) (took c s other i) (stay c s other i).faults)
      ∙ sym (contents_is given put old before c s)

-- a trunk before its first operation
pub known_at_first : {D F : Type 0} {does : Operations D F} (honest : Option (IsHonest does)) (start : Disk) (t : TrunkFiles D F) →
    HoldsAtFirst does t.files.folder t → IsAtStart honest start t.files.folder → All (λ (claim : Option Claim). claim ≡ None) t.files.claims → KnowsIf honest start t
known_at_first None start t first is none = tt
known_at_first (Some honest) start t first is none = subst (λ (d : Disk). Knows honest d t) is (record {
  given = λ _ _. [];
  put = λ _ _. [];
  holds = first honest;
  recorded = λ c s read claim there. let no = empty t.files.claims none (index_of_line c s) in let never : ⊥ = cc in absurd never;
  used = λ c s claim there writes. let no = empty t.files.claims none (index_of_line c s) in let never : ⊥ = cc in absurd never;
})

unfailed : (lines : List FileLine) → All (λ (l : FileLine). l ≡ record { read = 0; written = 0; faults = 0 }) lines → (k : ℕ) → (known_line (slice_get lines k)).faults ≡ 0
unfailed [] none k = refl
unfailed (l ∷ ls) none zero = ap (λ (x : FileLine). x.faults) (none 0 l (omega arith))
unfailed (l ∷ ls) none (suc k) = unfailed ls (λ j d within. none (suc j) d (omega arith)) k

unknown : (lines : List FileLine) (k : ℕ) → known_line (slice_get lines k) ≡ record { to_come = None; written = None; faults = (known_line (slice_get lines k)).faults }
unknown [] k = refl
unknown (l ∷ ls) zero = refl
unknown (l ∷ ls) (suc k) = unknown ls k

-- the lines of a trunk before its first operation
pub first_lines : {D F : Type 0} {does : Operations D F} (honest : Option (IsHonest does)) (start : Disk) (t : TrunkFiles D F) →
    HoldsAtFirst does t.files.folder t → IsAtStart honest start t.files.folder →
    All (λ (l : FileLine). l ≡ record { read = 0; written = 0; faults = 0 }) t.lines → contents_if honest start t ≡ first_if honest start
first_lines None start t first is none = λ i c s.
    (unknown t.lines (index_of_line c s) ∙ ap (λ (n : ℕ). record { to_come = None; written = None; faults = n }) (unfailed t.lines none (index_of_line c s))) i
first_lines {D = D} {F = F} {does = does} (Some honest) start t first is none =
    subst (λ (d : Disk). contents_if (Some honest) d t ≡ first_if (Some honest) d) is (λ i c s.
    (contents_is does honest (honest.disk t.files.folder) (λ _ _. []) (λ _ _. []) t (first honest) c s
    ∙ ap (line_of (honest.disk t.files.folder) s ((honest.disk t.files.folder).file_of (file_name c s)) 0 []) (unfailed t.lines none (index_of_line c s))) i)

-- what an operation leaves: what is known, this line, and the others
abbrev pub KeepsKnown : {D F : Type 0} {does : Operations D F} → Option (IsHonest does) → Disk → TrunkFiles D F → TrunkFiles D F → ℕ → Side →
    (LineState → LineState → Type 0) → Type 0
KeepsKnown honest start old new call side Moves =
    KnowsIf honest start new × Moves (contents_if honest start old call side) (contents_if honest start new call side)
    × OthersStay (contents_if honest start old) (contents_if honest start new) call side

pub read_known : {D F : Type 0} {does : Operations D F} (honest : Option (IsHonest does)) (start : Disk) (old new : TrunkFiles D F) (call : ℕ) (side : Side)
    (result : Result ℕ Failed) (buf : List ℕ) → Reads (states_of old.lines call side) (states_of new.lines call side) result buf →
    OthersStay (states_of old.lines) (states_of new.lines) call side → ReadsHold does old new call side result buf →
    OthersKeep old.files.claims new.files.claims (index_of_line call side) → NotesNoWriting old.files.claims new.files.claims (index_of_line call side) →
    KnowsIf honest start old → KeepsKnown honest start old new call side (λ a b. Reads a b result buf)
read_known None start old new call side result buf known others holds kept notes knows = (tt, known, others)
read_known {does = does} (Some honest) start old new call side result buf known others holds kept notes knows =
    let given' : ℕ → Side → List ℕ = gained_of knows.given call side (moved result buf) in
    let no_more = all_notes old.files.claims new.files.claims (index_of_line call side) notes kept in
    let gains = gains_of knows.given call side (moved result buf) in
    let keeps = holds honest start knows.given given' knows.put gains knows.holds in
    let before = contents_is does honest start knows.given knows.put old knows.holds call side in
    let after = contents_is does honest start given' knows.put new keeps.holds call side in (
      record {
        given = given';
        put = knows.put;
        holds = keeps.holds;
        recorded = λ c s is. still_reading old.files.claims new.files.claims (index_of_line c s) (no_more (index_of_line c s)) (knows.recorded c s is);
        used = used_still old.files.claims new.files.claims knows.put old.lines new.lines knows.used no_more
            (later_all (states_of old.lines) (states_of new.lines) call side known.cause.later others);
      },
      subst (λ (x : LineState). Reads x (contents_in start (honest.disk new.files.folder) new.lines call side) result buf) (sym before)
          (subst (λ (x : LineState). Reads (line_of start side (start.file_of (file_name call side)) (length (knows.given call side)) (knows.put call side)
          (states_of old.lines call side).faults) x result buf) (sym after)
          (line_reads start side (start.file_of (file_name call side)) (length (knows.given call side)) (length (given' call side)) (knows.put call side)
          (states_of old.lines call side).faults (states_of new.lines call side).faults result buf known.bound known.cause
          (λ read. (keeps.this (knows.recorded call side read)).to_come))),
      others_stay does honest start knows.given given' knows.put knows.put old new call side knows.holds keeps.holds others gains.others (λ _ _ _. refl),
    )

pub write_known : {D F : Type 0} {does : Operations D F} (honest : Option (IsHonest does)) (start : Disk) (old new : TrunkFiles D F) (call : ℕ) (side : Side)
    (result : Result ℕ Failed) (bytes : List ℕ) → IsMade side → Writes (states_of old.lines call side) (states_of new.lines call side) result bytes →
    OthersStay (states_of old.lines) (states_of new.lines) call side → WritesHold does old new call side result bytes →
    OthersKeep old.files.claims new.files.claims (index_of_line call side) → KnowsIf honest start old →
    KeepsKnown honest start old new call side (λ a b. Writes a b result bytes)
write_known None start old new call side result bytes made known others holds kept knows = (tt, known, others)
write_known {does = does} (Some honest) start old new call side result bytes made known others holds kept knows =
    let put' : ℕ → Side → List ℕ = gained_of knows.put call side (moved result bytes) in
    let gains = gains_of knows.put call side (moved result bytes) in
    let keeps = holds honest start knows.given knows.put put' gains knows.holds in
    let before = contents_is does honest start knows.given knows.put old knows.holds call side in
    let after = contents_is does honest start knows.given put' new keeps.holds call side in (
      record {
        given = knows.given;
        put = put';
        holds = keeps.holds;
        recorded = λ c s is. still_reading old.files.claims new.files.claims (index_of_line c s)
            (kept_notes old.files.claims new.files.claims (index_of_line c s)
            (kept (index_of_line c s) (λ same. recorded_or_made side (subst (λ (x : Side). IsRecorded x) (same_line c call s side same).1 is) made)))
            (knows.recorded c s is);
        used = used_now old.files.claims new.files.claims knows.put put' old.lines new.lines call side result bytes knows.used kept gains known others;
      },
      subst (λ (x : LineState). Writes x (contents_in start (honest.disk new.files.folder) new.lines call side) result bytes) (sym before)
          (subst (λ (x : LineState). Writes (line_of start side (start.file_of (file_name call side)) (length (knows.given call side)) (knows.put call side)
          (states_of old.lines call side).faults) x result bytes) (sym after)
          (line_writes start side (start.file_of (file_name call side)) (length (knows.given call side)) (knows.put call side) (put' call side)
          (states_of old.lines call side).faults (states_of new.lines call side).faults result bytes made known.some known.bound known.cause keeps.this.written)),
      others_stay does honest start knows.given knows.given knows.put put' old new call side knows.holds keeps.holds others (λ _ _ _. refl) gains.others,
    )

pub refuse_known : {D F : Type 0} {does : Operations D F} (honest : Option (IsHonest does)) (start : Disk) (old new : TrunkFiles D F) (call : ℕ) (side : Side)
    (e : Failed) (bytes : List ℕ) → IsRecorded side → Writes (states_of old.lines call side) (states_of new.lines call side) (Err e) bytes →
    OthersStay (states_of old.lines) (states_of new.lines) call side → CountsStay old.lines new.lines → new.files ≡ old.files → KnowsIf honest start old →
    KeepsKnown honest start old new call side (λ a b. Writes a b (Err e) bytes)
refuse_known None start old new call side e bytes read known others counts same knows = (tt, known, others)
refuse_known {D = D} {F = F} {does = does} (Some honest) start old new call side e bytes read known others counts same knows =
    let holds : Holds honest start knows.given knows.put new = record {
      files = subst (λ (fs : OpenFiles D F). FilesHold start (honest.disk fs.folder) fs.claims knows.given knows.put) (sym same) knows.holds.files;
      bays = subst (λ (fs : OpenFiles D F). (k : ℕ) (o : OpenLine F) → in_bay fs.bays k ≡ Some o → IsPlaced honest.place fs.claims o) (sym same) knows.holds.bays;
      counts = λ c s. let was = knows.holds.counts c s in let is = counts (index_of_line c s) in (is.0 ∙ was.0, is.1 ∙ was.1, was.2, was.3);
    } in
    let before = contents_is does honest start knows.given knows.put old knows.holds call side in
    let after = contents_is does honest start knows.given knows.put new holds call side in (
      record {
        given = knows.given;
        put = knows.put;
        holds = holds;
        recorded = λ c s is. subst (λ (fs : OpenFiles D F). IsForReading fs.claims (index_of_line c s)) (sym same) (knows.recorded c s is);
        used = subst (λ (fs : OpenFiles D F). HaveUsedThem fs.claims knows.put new.lines) (sym same)
            (used_still old.files.claims old.files.claims knows.put old.lines new.lines knows.used (λ k c there writes. there)
            (later_all (states_of old.lines) (states_of new.lines) call side known.cause.later others));
      },
      subst (λ (x : LineState). Writes x (contents_in start (honest.disk new.files.folder) new.lines call side) (Err e) bytes) (sym before)
          (subst (λ (x : LineState). Writes (line_of start side (start.file_of (file_name call side)) (length (knows.given call side)) (knows.put call side)
          (states_of old.lines call side).faults) x (Err e) bytes) (sym after)
          (line_refused start side (start.file_of (file_name call side)) (length (knows.given call side)) (knows.put call side)
          (states_of old.lines call side).faults (states_of new.lines call side).faults e bytes read known.cause)),
      others_stay does honest start knows.given knows.given knows.put knows.put old new call side knows.holds holds others (λ _ _ _. refl) (λ _ _ _. refl),
    )

-- a line's fault count changed, and no count of octets
pub counts_stay : (old new : List FileLine) (p : ℕ) (l : FileLine) → slice_get old p ≡ Some l → (faults : ℕ) →
    new ≡ slice_set old p (record l { faults = faults }) → CountsStay old new
counts_stay old new p l there faults set k =
    let here = got old p l (record { read = 0; written = 0; faults = 0 }) there in
    elim (counted old p k (record l { faults = faults }) here.0) [
      | inl e ↦
          let is : line_at new k ≡ record l { faults = faults } = ap (λ (xs : List FileLine). line_at xs k) set ∙ e.1 in
          let was : line_at old k ≡ l = ap (line_at old) e.0 ∙ here.1 in
          (ap (λ (x : FileLine). x.read) is ∙ sym (ap (λ (x : FileLine). x.read) was), ap (λ (x : FileLine). x.written) is ∙ sym (ap (λ (x : FileLine). x.written) was))
      | inr e ↦
          let same : line_at new k ≡ line_at old k = ap (λ (xs : List FileLine). line_at xs k) set ∙ e in
          (ap (λ (x : FileLine). x.read) same, ap (λ (x : FileLine). x.written) same)
    ]
