-- One read or one write of an open file of an honest folder, made again if it was interrupted.
use Rattle.std.proofs.Common.{◌≡◌, ◌∙◌, ◌≤◌, ◌+◌, ℕ, zero, suc, List, ◌++◌, length, take, drop, Ok, Err}
use Rattle.std.proofs.Common.{ap, ap₂, append-nil, arith, drop_of_length-le, take_all, inl, inr, refl, subst, sym}
use Rattle.std.specs.declared.io.Error.{Error}
use Rattle.trau_files.specs.declared.trunk.claims.FileIdentity.{FileIdentity}
use Rattle.trau_files.specs.Folder.{OneGive, OneTake, Operations}
use Rattle.trau_files.specs.Tries.{GivesOnce, Interruptions, IsOfLastTry, TakesOnce}
use Rattle.trau_files.specs.Disk.{GivesOctets, Changes, Place, Stays, written_at}
use Rattle.trau_files.specs.Honest.{IsHonest}
use Rattle.trau_files.proofs.Honest.Noting.{stays_twice}

-- octets written at the end
at_end : (xs ys : List ℕ) → written_at xs (length xs) ys ≡ xs ++ ys
at_end xs ys = ap₂ (λ (a b : List ℕ). a ++ b) (take_all (length xs) xs (omega arith))
    (ap (λ (z : List ℕ). ys ++ z) (drop_of_length-le xs (omega arith)) ∙ append-nil ys)

module _ {D F : Type 0} (does : Operations D F) (honest : IsHonest does) where
  read_tries : (d : D) (n : ℕ) (old new : F) → Interruptions (OneGive does d) n old new → honest.place new ≡ honest.place old
  read_tries d zero old new same = ap honest.place same
  read_tries d (suc n) old new tries = honest.gives_none d tries.0 new tries.1 tries.2 tries.4.gave ∙ read_tries d n old tries.0 tries.3

  write_tries : (n : ℕ) (old new : D × F) → Interruptions (OneTake does) n old new →
      Stays (honest.disk old.0) (honest.disk new.0) × (honest.place new.1 ≡ honest.place old.1)
  write_tries zero old new same =
      (subst (λ (p : D × F). Stays (honest.disk old.0) (honest.disk p.0)) (sym same) (λ _. refl, λ _. refl), ap (λ (p : D × F). honest.place p.1) same)
  write_tries (suc n) old new tries =
      let before = write_tries n old tries.0 tries.3 in
      let last = honest.takes_none tries.0.0 new.0 tries.0.1 new.1 tries.1 tries.2 tries.4.took in
      (stays_twice (honest.disk old.0) (honest.disk tries.0.0) (honest.disk new.0) before.0 last.0, last.1 ∙ before.1)

  -- a read, made again if it was interrupted, gives the octets at the file's place
  pub gave_some : (d : D) (old new : F) (n : ℕ) (buf : List ℕ) (f : FileIdentity) (at : ℕ) → GivesOnce does d old new (Ok n) buf →
      honest.place old ≡ record { file = f; at = at } →
      GivesOctets (drop at ((honest.disk d).octets f)) (drop (at + n) ((honest.disk d).octets f)) n buf × (honest.place new ≡ record { file = f; at = at + n })
  gave_some d old new n buf f at gives place =
      let mid : honest.place gives.1 ≡ record { file = f; at = at } = read_tries d gives.0 old gives.1 gives.2 ∙ place in
      subst (λ (p : Place). GivesOctets (drop p.at ((honest.disk d).octets p.file)) (drop (p.at + n) ((honest.disk d).octets p.file)) n buf
      × (honest.place new ≡ record { file = p.file; at = p.at + n })) mid (honest.gives d gives.1 new n buf gives.3.gave)

  -- a write puts octets after those that the file has
  took_last : (before after : D) (old new : F) (n : ℕ) (bytes : List ℕ) (f : FileIdentity) (had : List ℕ) → IsOfLastTry (OneTake does) (before, old) (after, new) (Ok n) bytes →
      honest.place old ≡ record { file = f; at = length had } → (honest.disk before).octets f ≡ had →
      Changes (honest.disk before) (honest.disk after) f (had ++ take n bytes) × (honest.place new ≡ record { file = f; at = length had + n })
  took_last before after old new n bytes f had tries place holds =
      let mid = tries.1 in
      let first = write_tries tries.0 (before, old) mid tries.2 in
      let at_mid : honest.place mid.1 ≡ record { file = f; at = length had } = first.1 ∙ place in
      let has_mid : (honest.disk mid.0).octets f ≡ had = first.0.1 f ∙ holds in
      let room : (honest.place mid.1).at ≤ length ((honest.disk mid.0).octets (honest.place mid.1).file) =
      subst (λ (p : Place). p.at ≤ length ((honest.disk mid.0).octets p.file)) (sym at_mid) (omega (arith, ap length has_mid)) in
      let last = subst (λ (p : Place). Changes (honest.disk mid.0) (honest.disk after) p.file (written_at ((honest.disk mid.0).octets p.file) p.at (take n bytes))
      × (honest.place new ≡ record { file = p.file; at = p.at + n })) at_mid (honest.takes mid.0 after mid.1 new n bytes tries.3.took room) in (
        record {
          names = λ name. last.0.names name ∙ first.0.0 name;
          this = last.0.this ∙ ap (λ (x : List ℕ). written_at x (length had) (take n bytes)) has_mid ∙ at_end had (take n bytes);
          others = λ g other. last.0.others g other ∙ first.0.1 g;
        },
        last.1,
      )

  pub took_some : (before after : D) (old new : F) (n : ℕ) (bytes : List ℕ) (f : FileIdentity) (had : List ℕ) → TakesOnce does before after old new (Ok n) bytes →
      honest.place old ≡ record { file = f; at = length had } → (honest.disk before).octets f ≡ had →
      Changes (honest.disk before) (honest.disk after) f (had ++ take n bytes) × (honest.place new ≡ record { file = f; at = length had + n })
  took_some before after old new n bytes f had takes place holds = elim takes.last [
    | inl tries ↦ took_last before after old new n bytes f had tries place holds
    | inr never ↦ absurd never.0
  ]

  pub took_none : (before after : D) (old new : F) (e : Error) (bytes : List ℕ) (f : FileIdentity) (had : List ℕ) → TakesOnce does before after old new (Err e) bytes →
      honest.place old ≡ record { file = f; at = length had } → (honest.disk before).octets f ≡ had →
      Changes (honest.disk before) (honest.disk after) f had
  took_none before after old new e bytes f had takes place holds = elim takes.last [
    | inl tries ↦
        let mid = tries.1 in
        let first = write_tries tries.0 (before, old) mid tries.2 in
        let last = honest.takes_none mid.0 after mid.1 new e bytes tries.3.took in
        let all = stays_twice (honest.disk before) (honest.disk mid.0) (honest.disk after) first.0 last.0 in
        record { names = all.0; this = all.1 f ∙ holds; others = λ g _. all.1 g }
    | inr zero_taken ↦
        let last = (took_last before after old new 0 bytes f had zero_taken.1 place holds).0 in
        record { names = last.names; this = last.this ∙ append-nil had; others = last.others }
  ]
