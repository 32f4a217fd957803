-- What the files of an honest folder hold, after a write of a line.
use Rattle.std.proofs.Common.{◌≡◌, ◌⊎◌, ◌∙◌, ◌<◌, ◌≤◌, ◌+◌, ◌^◌, ℕ, List, [], length, take, Option, None, Some, Result, Ok, Err, IfOk, IfSome}
use Rattle.std.proofs.Common.{ap, append-nil, arith, length-take-le, slice_get, inl, inr, refl, subst, sym}
use Rattle.trau_io.specs.declared.line.Side.{Side}
use Rattle.std.specs.Io.KnownBytes.{WriteAppends}
use Rattle.trau_io.specs.Indices.{index_of_line}
use Rattle.trau_io.specs.Lines.{OthersStay, Writes}
use Rattle.trau_io.specs.declared.line.Failed.{Failed}
use Rattle.trau_files.specs.declared.trunk.bays.Access.TheVariants.{Writing}
use Rattle.trau_files.specs.Claims.{AreApart}
use Rattle.trau_files.specs.declared.trunk.claims.Claim.{Claim}
use Rattle.trau_files.specs.Files.{states_of, FileLine, after_write, file_name, raised}
use Rattle.trau_files.specs.Trunk.{IsNowOpened, TrunkFiles, TrunkWrites}
use Rattle.trau_files.specs.Folder.{Operations}
use Rattle.trau_files.specs.Disk.{Changes, Disk, Place, octets_if}
use Rattle.trau_files.specs.Honest.{IsHonest}
use Rattle.trau_files.specs.Holds.{FilesHold, Gains, Holds, IsPlaced, WasNotOpened, WritesHold, line_at, moved}
use Rattle.trau_files.proofs.Honest.Noting.{Grows}
use Rattle.trau_files.proofs.Honest.Changing.{changed}
use Rattle.trau_files.proofs.Honest.Known.{took_files}
use Rattle.trau_files.proofs.Honest.Opening.{found, opens_fault}
use Rattle.trau_files.proofs.Gaining.{gained, gains_none, others_known, placed_now, same_put, bays_after}
use Rattle.trau_files.proofs.Honest.Tries.{took_none, took_some}
use Rattle.trau_files.proofs.Counting.{counts_after, got}

module _ {D F : Type 0} (does : Operations D F) (honest : IsHonest does) (start : Disk) (given put put' : ℕ → Side → List ℕ) (old new : TrunkFiles D F)
    (call : ℕ) (side : Side) (l : FileLine) (bytes : List ℕ) where
  -- an honest folder, after a write of a line
  writes_hold : (result : Result ℕ Failed) → IfOk result (λ n. 0 < n) → IfOk result (λ n. n ≤ length bytes) → index_of_line call side < length old.lines →
      line_at old.lines (index_of_line call side) ≡ l → AreApart new.files.claims → TrunkWrites does old new call side l result bytes →
      Gains put put' call side (moved result bytes) → Holds honest start given put old → Holds honest start given put' new
  writes_hold (Ok n) some bound within is apart writes gains holds =
      let counts = holds.counts call side in
      let at : l.written ≡ length (put call side) = sym (ap (λ (x : FileLine). x.written) is) ∙ counts.1 in
      let folder = writes.files.0 in
      let before = writes.files.1 in
      let now = writes.files.2 in
      let moves = writes.files.3 in
      let find = found does honest call side Writing l.written start given put old.files folder new.files.claims before apart (λ _. at)
      holds.files holds.bays moves.found in
      let claim = find.2 in
      let written = claim.3 refl in
      let took = took_some does honest folder new.files.folder before.file now.file n bytes claim.0.file (put call side) writes.files.4
      (claim.2 ∙ ap (λ (x : ℕ). let p : Place = record { file = claim.0.file; at = x } in p) at) written.1 in
      let size : length (take n bytes) ≡ n = length-take-le n bytes bound in
      let total : length (put' call side) ≡ length (put call side) + n = gained put put' call side (take n bytes) gains ∙ ap (λ (x : ℕ). length (put call side) + x) size in
      let this : Changes (honest.disk folder) (honest.disk new.files.folder) claim.0.file (put' call side) = rw gains.this took.0 in
      let low : length (put' call side) < 2 ^ 63 = subst (λ (x : List ℕ). length x < 2 ^ 63) this.this (honest.size new.files.folder claim.0.file) in
      let up : raised l.written n ≡ l.written + n = exact l.written n (length (put' call side)) (omega (arith, total, at)) low in
      record {
        files = changed start (honest.disk folder) (honest.disk new.files.folder) new.files.claims given put put' call side claim.0 (take n bytes) find.0 apart
            claim.1 written.0 this gains;
        bays = bays_after honest.place old.files.claims new.files.claims old.files.bays new.files.bays call side (Some now) holds.bays find.1 moves.still
            (λ o same. let it : o ≡ now = cc in subst (IsPlaced honest.place new.files.claims) (sym it)
            (placed_now honest.place new.files.claims call side Writing l.written n before now claim.0 moves.found.stands moves.moved claim.1
            (took.1 ∙ ap (λ (x : ℕ). let p : Place = record { file = claim.0.file; at = x + n } in p) (sym at)) up (λ _. (written.0, some))));
        counts = counts_after old.lines new.lines call side (after_write l (Ok n)) given given put put' within writes.lines
            (sym (ap (λ (x : FileLine). x.read) is) ∙ counts.0, up ∙ omega (arith, at, total), counts.2, low)
            (λ _ _ _. refl) gains.others holds.counts;
      }
    where
      exact : (at n all : ℕ) → all ≡ at + n → all < 2 ^ 63 → raised at n ≡ at + n
      exact at n all is low = omega (arith, is, low)
  writes_hold (Err e) some bound within is apart writes gains holds =
      let counts = holds.counts call side in
      let at : l.written ≡ length (put call side) = sym (ap (λ (x : FileLine). x.written) is) ∙ counts.1 in
      let same = gains_none put put' call side gains in
      let fails = writes.files.1 in
      let after = elim fails.1 as (λ _. FilesHold start (honest.disk new.files.folder) new.files.claims given put × Grows old.files.claims new.files.claims) [
        | inl opens ↦ opens_fault does honest call side Writing l.written start given put old.files.folder new.files.folder old.files.claims new.files.claims writes.files.0
            holds.files opens.opens
        | inr takes ↦
            let find = found does honest call side Writing l.written start given put old.files takes.0 new.files.claims takes.1 apart (λ _. at)
            holds.files holds.bays takes.2 in
            let claim = find.2 in
            let written = claim.3 refl in
            let took = took_none does honest takes.0 new.files.folder takes.1.file takes.3.0 takes.3.1 bytes claim.0.file (put call side) takes.3.3
            (claim.2 ∙ ap (λ (x : ℕ). let p : Place = record { file = claim.0.file; at = x } in p) at) written.1 in (
              changed start (honest.disk takes.0) (honest.disk new.files.folder) new.files.claims given put put call side claim.0 [] find.0 apart
                  claim.1 written.0 took (record { this = sym (append-nil (put call side)); others = λ _ _ _. refl }),
              find.1,
            )
      ] in
      record {
        files = same_put start (honest.disk new.files.folder) new.files.claims given put put' same after.0;
        bays = bays_after honest.place old.files.claims new.files.claims old.files.bays new.files.bays call side None holds.bays after.1 fails.0
            (λ o never. let no : ⊥ = cc in absurd no);
        counts = counts_after old.lines new.lines call side (after_write l (Err e)) given given put put' within writes.lines
            (rw (same call side, sym is) counts) (λ _ _ _. refl) gains.others holds.counts;
      }

  -- the line's file wasn't opened, or has what the line took
  wrote_file : (result : Result ℕ Failed) → IfOk result (λ n. 0 < n) → IfOk result (λ n. n ≤ length bytes) → line_at old.lines (index_of_line call side) ≡ l →
      AreApart new.files.claims → TrunkWrites does old new call side l result bytes → Gains put put' call side (moved result bytes) →
      Holds honest start given put old → Holds honest start given put' new → WasNotOpened does old new call side
      ⊎ (octets_if (honest.disk new.files.folder) ((honest.disk new.files.folder).file_of (file_name call side)) ≡ put' call side)
  wrote_file (Ok n) some bound is apart writes gains before after =
      let size : length (take n bytes) ≡ n = length-take-le n bytes bound in
      let total : length (put' call side) ≡ length (put call side) + length (take n bytes) = gained put put' call side (take n bytes) gains in
      inr (took_files start (honest.disk new.files.folder) new.files.claims given put' after.files call side (omega (arith, total, size, some)))
  wrote_file (Err e) some bound is apart writes gains before after =
      let at : l.written ≡ length (put call side) = sym (ap (λ (x : FileLine). x.written) is) ∙ (before.counts call side).1 in
      let fails = writes.files.1 in
      elim fails.1 as (λ _. WasNotOpened does old new call side
      ⊎ (octets_if (honest.disk new.files.folder) ((honest.disk new.files.folder).file_of (file_name call side)) ≡ put' call side)) [
        | inl opens ↦ inl (
          writes.files.0,
          subst (λ (x : FileLine). IsNowOpened does old.files new.files.folder new.files.claims call side Writing x.written (Err writes.files.0)) (sym is) opens,
        )
        | inr takes ↦
            let find = found does honest call side Writing l.written start given put old.files takes.0 new.files.claims takes.1 apart (λ _. at)
            before.files before.bays takes.2 in
            let claim = find.2 in
            let took = took_none does honest takes.0 new.files.folder takes.1.file takes.3.0 takes.3.1 bytes claim.0.file (put call side) takes.3.3
            (claim.2 ∙ ap (λ (x : ℕ). let p : Place = record { file = claim.0.file; at = x } in p) at) (claim.3 refl).1 in
            let led : (honest.disk takes.0).file_of (file_name call side) ≡ Some claim.0.file =
            subst (λ (x : Option Claim). IfSome x (λ d. (honest.disk takes.0).file_of (file_name call side) ≡ Some d.file)) claim.1 (find.0.lines call side).leads in
            inr (ap (octets_if (honest.disk new.files.folder)) (took.names (file_name call side) ∙ led) ∙ took.this
            ∙ sym (gains_none put put' call side gains call side))
      ]

pub write_holds : {D F : Type 0} (does : Operations D F) (old new : TrunkFiles D F) (call : ℕ) (side : Side) (l : FileLine) (result : Result ℕ Failed) (bytes : List ℕ) →
    slice_get old.lines (index_of_line call side) ≡ Some l → Writes (states_of old.lines call side) (states_of new.lines call side) result bytes →
    OthersStay (states_of old.lines) (states_of new.lines) call side → AreApart new.files.claims →
    TrunkWrites does old new call side l result bytes → WritesHold does old new call side result bytes
write_holds does old new call side l result bytes is known others apart writes honest start given put put' gains holds =
    let here = got old.lines (index_of_line call side) l (record { read = 0; written = 0; faults = 0 }) is in
    let after = writes_hold does honest start given put put' old new call side l bytes result known.some known.bound here.0 here.1 apart writes gains holds in
    record {
      holds = after;
      file = wrote_file does honest start given put put' old new call side l bytes result known.some known.bound here.1 apart writes gains holds after;
      this = record {
        some = known.some;
        bound = known.bound;
        written = appended result gains;
        to_come = refl;
        cause = known.cause;
      };
      others = others_known start given given put put' old.lines new.lines call side (λ _ _ _. refl) gains.others others;
    }
  where
    appended : (result : Result ℕ Failed) → Gains put put' call side (moved result bytes) → WriteAppends (Some (put call side)) (Some (put' call side)) result bytes
    appended (Ok n) gains = gains.this
    appended (Err e) gains = gains.this ∙ append-nil (put call side)
