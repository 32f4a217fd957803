-- What the files of an honest folder hold, after a read of a line.
use Rattle.std.proofs.Common.{◌≡◌, ◌∙◌, ◌<◌, ◌+◌, ◌^◌, ℕ, List, ◌++◌, length, take, drop, Option, None, Some, Result, Ok, Err, IfSome}
use Rattle.std.proofs.Common.{ap, arith, length-append, length-drop, slice_get, inl, inr, refl, subst, sym}
use Rattle.std.specs.Io.{ReadsAtMost}
use Rattle.trau_io.specs.declared.line.Side.{Side}
use Rattle.std.specs.Io.KnownBytes.{ReadConsumes}
use Rattle.trau_io.specs.Indices.{index_of_line}
use Rattle.trau_io.specs.Lines.{OthersStay, Reads}
use Rattle.trau_io.specs.declared.line.Failed.{Failed}
use Rattle.trau_files.proofs.OnlyRead.{still_read}
use Rattle.trau_files.specs.declared.trunk.claims.Claim.{Claim}
use Rattle.trau_files.specs.declared.trunk.claims.FileIdentity.{FileIdentity}
use Rattle.trau_files.specs.declared.trunk.bays.Access.TheVariants.{Reading}
use Rattle.trau_files.specs.Claims.{AreApart, claim_at}
use Rattle.trau_files.specs.Files.{states_of, FileLine, after_read, file_name, raised}
use Rattle.trau_files.specs.Trunk.{TrunkFiles, TrunkReads}
use Rattle.trau_files.specs.Folder.{Operations}
use Rattle.trau_files.specs.Disk.{GivesOctets, octets_if, Disk}
use Rattle.trau_files.specs.Honest.{IsHonest}
use Rattle.trau_files.specs.Holds.{IsOnlyRead, contents_of, FilesHold, Gains, Holds, IsPlaced, ReadsHold, line_at, moved}
use Rattle.trau_files.proofs.Honest.Noting.{Grows}
use Rattle.trau_files.proofs.Honest.Changing.{read_on}
use Rattle.trau_files.proofs.Honest.Opening.{found, opens_fault}
use Rattle.trau_files.proofs.Gaining.{begins_with, gained, gains_none, others_known, placed_now, read_unwritten, same_given, bays_after}
use Rattle.trau_files.proofs.Honest.Tries.{gave_some}
use Rattle.trau_files.proofs.Counting.{counts_after, got}

module _ {D F : Type 0} (does : Operations D F) (honest : IsHonest does) (start : Disk) (given given' put : ℕ → Side → List ℕ) (old new : TrunkFiles D F)
    (call : ℕ) (side : Side) (l : FileLine) (buf : List ℕ) where
  -- an honest folder, after a read of a line
  reads_hold : (result : Result ℕ Failed) → ReadsAtMost result buf → index_of_line call side < length old.lines → line_at old.lines (index_of_line call side) ≡ l →
      AreApart new.files.claims → TrunkReads does old new call side l result buf → Gains given given' call side (moved result buf) →
      Holds honest start given put old → Holds honest start given' put new
  reads_hold (Ok n) bound within is apart reads gains holds =
      let counts = holds.counts call side in
      let at : l.read ≡ length (given call side) = sym (ap (λ (x : FileLine). x.read) is) ∙ counts.0 in
      let before = reads.files.0 in
      let now = reads.files.1 in
      let moves = reads.files.2 in
      let find = found does honest call side Reading l.read start given put old.files new.files.folder new.files.claims before apart (λ w. let no : ⊥ = cc in absurd no)
      holds.files holds.bays moves.found in
      let claim = find.2 in
      let gave = gave_some does honest new.files.folder before.file now.file n buf claim.0.file l.read reads.files.3 claim.2 in
      let size : length (take n buf) ≡ n = sym bound.1 in
      let total : length (given' call side) ≡ length (given call side) + n = gained given given' call side (take n buf) gains ∙ ap (λ (x : ℕ). length (given call side) + x) size in
      let low : l.read + n < 2 ^ 63 = below claim.0.file l.read n gave.0.0 size (omega (arith, at, counts.2)) in
      let up : raised l.read n ≡ l.read + n = exact l.read n low in
      record {
        files = read_on start (honest.disk new.files.folder) new.files.claims given given' put call side claim.0 (take n buf) find.0 claim.1
            (λ r.
            let unwritten = find.0.unwritten claim.0.file (read_unwritten new.files.claims (index_of_line call side) claim.0 apart claim.1 r) in
            let first : 0 < length (given call side) → given call side ≡ take (length (given call side)) (start.octets claim.0.file) =
            λ some. let began = (find.0.lines call side).given some in (rw claim.1 at began) r in
            rw gains.this (begins_with (given call side) (take n buf) _ (start.octets claim.0.file) l.read at first (rw unwritten at gave.0.0)))
            gains;
        bays = bays_after honest.place old.files.claims new.files.claims old.files.bays new.files.bays call side (Some now) holds.bays find.1 moves.still
            (λ o same. let it : o ≡ now = cc in subst (IsPlaced honest.place new.files.claims) (sym it) (placed_now honest.place new.files.claims call side Reading l.read n before now claim.0
            moves.found.stands moves.moved claim.1 gave.1 up (λ w. let no : ⊥ = cc in absurd no)));
        counts = counts_after old.lines new.lines call side (after_read l (Ok n)) given given' put put within reads.lines
            (up ∙ omega (arith, at, total), sym (ap (λ (x : FileLine). x.written) is) ∙ counts.1, omega (arith, total, at, low), counts.3)
            gains.others (λ _ _ _. refl) holds.counts;
      }
    where
      below : (f : FileIdentity) (at n : ℕ) → drop at ((honest.disk new.files.folder).octets f) ≡ take n buf ++ drop (at + n) ((honest.disk new.files.folder).octets f) →
          length (take n buf) ≡ n → at < 2 ^ 63 → at + n < 2 ^ 63
      below f at n next size low =
          let octets = (honest.disk new.files.folder).octets f in
          let long = sym (length-drop at octets) ∙ ap length next ∙ length-append (take n buf) (drop (at + n) octets) in
          omega (arith, long, size, honest.size new.files.folder f, low)

      exact : (at n : ℕ) → at + n < 2 ^ 63 → raised at n ≡ at + n
      exact at n low = omega (arith, low)
  reads_hold (Err e) bound within is apart reads gains holds =
      let same = gains_none given given' call side gains in
      let fails = reads.files.1 in
      let after = elim fails.1 as (λ _. FilesHold start (honest.disk new.files.folder) new.files.claims given put × Grows old.files.claims new.files.claims) [
        | inl opens ↦ opens_fault does honest call side Reading l.read start given put old.files.folder new.files.folder old.files.claims new.files.claims reads.files.0
            holds.files opens.opens
        | inr gives ↦
            let find = found does honest call side Reading l.read start given put old.files new.files.folder new.files.claims gives.0 apart
            (λ w. let no : ⊥ = cc in absurd no) holds.files holds.bays gives.1 in
            (find.0, find.1)
      ] in
      let counts = holds.counts call side in
      record {
        files = same_given start (honest.disk new.files.folder) new.files.claims given given' put same after.0;
        bays = bays_after honest.place old.files.claims new.files.claims old.files.bays new.files.bays call side None holds.bays after.1 fails.0
            (λ o never. let no : ⊥ = cc in absurd no);
        counts = counts_after old.lines new.lines call side (after_read l (Err e)) given given' put put within reads.lines
            (rw (same call side, sym is) counts) gains.others (λ _ _ _. refl) holds.counts;
      }

-- the octets that a read of a line gave, if the line was only read
gives_next : {D F : Type 0} (does : Operations D F) (honest : IsHonest does) (start : Disk) (given given' put : ℕ → Side → List ℕ) (old new : TrunkFiles D F)
    (call : ℕ) (side : Side) (l : FileLine) (buf : List ℕ) (result : Result ℕ Failed) → ReadsAtMost result buf →
    line_at old.lines (index_of_line call side) ≡ l → AreApart new.files.claims → TrunkReads does old new call side l result buf →
    Gains given given' call side (moved result buf) → Holds honest start given put old → IsOnlyRead new.files.claims call side →
    ReadConsumes (contents_of start given put old.lines call side).to_come (contents_of start given' put new.lines call side).to_come result buf
gives_next does honest start given given' put old new call side l buf (Ok n) bound is apart reads gains holds only =
    let counts = holds.counts call side in
    let at : l.read ≡ length (given call side) = sym (ap (λ (x : FileLine). x.read) is) ∙ counts.0 in
    let before = reads.files.0 in
    let now = reads.files.1 in
    let find = found does honest call side Reading l.read start given put old.files new.files.folder new.files.claims before apart (λ w. let no : ⊥ = cc in absurd no)
    holds.files holds.bays reads.files.2.found in
    let claim = find.2 in
    let gave = gave_some does honest new.files.folder before.file now.file n buf claim.0.file l.read reads.files.3 claim.2 in
    let total : length (given' call side) ≡ length (given call side) + n =
    gained given given' call side (take n buf) gains ∙ ap (λ (x : ℕ). length (given call side) + x) (sym bound.1) in
    let reading = only claim.0 claim.1 in
    let unwritten = find.0.unwritten claim.0.file (read_unwritten new.files.claims (index_of_line call side) claim.0 apart claim.1 reading) in
    let leads : (honest.disk new.files.folder).file_of (file_name call side) ≡ Some claim.0.file = leads_to claim.0 claim.1 find.0 in
    let same : (honest.disk new.files.folder).octets claim.0.file ≡ octets_if start (start.file_of (file_name call side)) =
    unwritten ∙ its (start.file_of (file_name call side)) refl claim.0.file leads find.0 in
    let next : GivesOctets (drop l.read (octets_if start (start.file_of (file_name call side)))) (drop (l.read + n) (octets_if start (start.file_of (file_name call side)))) n buf =
    subst (λ (x : List ℕ). GivesOctets (drop l.read x) (drop (l.read + n) x) n buf) same gave.0 in
    subst (λ (x : ℕ). GivesOctets (drop (length (given call side)) (octets_if start (start.file_of (file_name call side))))
    (drop x (octets_if start (start.file_of (file_name call side)))) n buf) (sym total)
    (subst (λ (x : ℕ). GivesOctets (drop x (octets_if start (start.file_of (file_name call side)))) (drop (x + n) (octets_if start (start.file_of (file_name call side)))) n buf) at next)
  where
    leads_to : (c : Claim) → claim_at new.files.claims (index_of_line call side) ≡ Some c →
        FilesHold start (honest.disk new.files.folder) new.files.claims given put → (honest.disk new.files.folder).file_of (file_name call side) ≡ Some c.file
    leads_to c there files =
        subst (λ (x : Option Claim). IfSome x (λ d. (honest.disk new.files.folder).file_of (file_name call side) ≡ Some d.file)) there (files.lines call side).leads

    its : (o : Option FileIdentity) → start.file_of (file_name call side) ≡ o → (f : FileIdentity) → (honest.disk new.files.folder).file_of (file_name call side) ≡ Some f →
        FilesHold start (honest.disk new.files.folder) new.files.claims given put → start.octets f ≡ octets_if start o
    its None is f leads files = files.newly_led (file_name call side) f is leads
    its (Some g) is f leads files =
        let both : Some f ≡ Some g = sym leads ∙ files.names (file_name call side) g is in
        let one : f ≡ g = cc in
        ap start.octets one
gives_next does honest start given given' put old new call side l buf (Err e) bound is apart reads gains holds only =
    ap (λ (x : List ℕ). drop (length x) (octets_if start (start.file_of (file_name call side)))) (gains_none given given' call side gains call side)

pub read_holds : {D F : Type 0} (does : Operations D F) (old new : TrunkFiles D F) (call : ℕ) (side : Side) (l : FileLine) (result : Result ℕ Failed) (buf : List ℕ) →
    slice_get old.lines (index_of_line call side) ≡ Some l → Reads (states_of old.lines call side) (states_of new.lines call side) result buf →
    OthersStay (states_of old.lines) (states_of new.lines) call side → AreApart new.files.claims →
    TrunkReads does old new call side l result buf → ReadsHold does old new call side result buf
read_holds does old new call side l result buf is known others apart reads honest start given given' put gains holds =
    let here = got old.lines (index_of_line call side) l (record { read = 0; written = 0; faults = 0 }) is in
    record {
      holds = reads_hold does honest start given given' put old new call side l buf result known.bound here.0 here.1 apart reads gains holds;
      only = still_read does old new call side l result buf reads;
      this = λ only. record {
        bound = known.bound;
        to_come = gives_next does honest start given given' put old new call side l buf result known.bound here.1 apart reads gains holds
            (still_read does old new call side l result buf reads only);
        written = refl;
        cause = known.cause;
      };
      others = others_known start given given' put put old.lines new.lines call side gains.others (λ _ _ _. refl) others;
    }
