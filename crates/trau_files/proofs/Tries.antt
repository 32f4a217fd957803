-- Operations that are made again: what the interrupted ones leave.
use Rattle.std.proofs.Common.{◌≡◌, ℕ, zero, suc, ◌+◌, arith, List, Option, None, Some, Result, Ok, Err, refl, sym, subst, ◌∙◌, take, ◌++◌, inl, inr, rules}
use Rattle.std.proofs.lemmas.Grind.{common_steps}
use Rattle.std.specs.Io.KnownBytes.{Keeps, ReadConsumes, WriteAppends}
use Rattle.std.specs.IoError.{error_kind}
use Rattle.std.specs.declared.io.Error.{Error}
use Rattle.std.specs.declared.io.ErrorKind.TheVariants.{WriteZero}
use Rattle.trau_files.specs.Folder.{OneRead, OneTake, OneWrite, Operations, ReadOperation, WriteOperation}
use Rattle.trau_files.specs.Tries.{Interruptions, IsOfLastTry, ReadsOnce, TakesOnce, WasInterrupted, WritesOnce}

-- one more try was interrupted
pub interrupted_again : {F : Type 0} (gave : F → F → Result ℕ Error → List ℕ → Type 0) (old mid new : F) (result : Result ℕ Error) (buf : List ℕ) (tries : ℕ) →
    Interruptions gave tries old mid → gave mid new result buf → WasInterrupted result → Interruptions gave (tries + 1) old new
interrupted_again gave old mid new (Ok n) buf tries before now is = absurd is
interrupted_again gave old mid new (Err e) buf tries before now is =
    let next : suc tries ≡ tries + 1 = omega arith in subst (λ (k : ℕ). Interruptions gave k old new) next (mid, e, buf, before, now, is)

keeps_twice : (a b c : Option (List ℕ)) → Keeps a b → Keeps b c → Keeps a c
keeps_twice None b c first second = tt
keeps_twice (Some a) None c first second = absurd first
keeps_twice (Some a) (Some b) None first second = absurd second
keeps_twice (Some a) (Some b) (Some c) first second = second ∙ first

keeps_same : (a : Option (List ℕ)) → Keeps a a
keeps_same None = tt
keeps_same (Some a) = refl

-- known octets stay while tries are interrupted
kept : {F : Type 0} (known : F → Option (List ℕ)) (gave : F → F → Result ℕ Error → List ℕ → Type 0) →
    ((old new : F) (e : Error) (buf : List ℕ) → gave old new (Err e) buf → Keeps (known old) (known new)) →
    (n : ℕ) (old new : F) → Interruptions gave n old new → Keeps (known old) (known new)
kept known gave keeps zero old new same = subst (λ f. Keeps (known old) (known f)) (sym same) (keeps_same (known old))
kept known gave keeps (suc n) old new tries =
    keeps_twice (known old) (known tries.0) (known new) (kept known gave keeps n old tries.0 tries.3) (keeps tries.0 new tries.1 tries.2 tries.4)

reads_kept : (a b c : Option (List ℕ)) (result : Result ℕ Error) (buf : List ℕ) → Keeps a b → ReadConsumes b c result buf → ReadConsumes a c result buf
reads_kept a b c (Err e) buf first second = keeps_twice a b c first second
reads_kept None b c (Ok n) buf first second = (tt, second.1)
reads_kept (Some a) None c (Ok n) buf first second = absurd first
reads_kept (Some a) (Some b) None (Ok n) buf first second = absurd second.0
reads_kept (Some a) (Some b) (Some c) (Ok n) buf first second = (sym first ∙ second.0, second.1)

writes_kept : (a b c : Option (List ℕ)) (result : Result ℕ Error) (bytes : List ℕ) → Keeps a b → WriteAppends b c result bytes → WriteAppends a c result bytes
writes_kept a b c (Err e) bytes first second = keeps_twice a b c first second
writes_kept None b c (Ok n) bytes first second = tt
writes_kept (Some a) None c (Ok n) bytes first second = absurd first
writes_kept (Some a) (Some b) None (Ok n) bytes first second = absurd second
writes_kept (Some a) (Some b) (Some c) (Ok n) bytes first second = subst (λ (x : List ℕ). c ≡ x ++ take n bytes) first second

-- the last read's octets are those of all tries
pub reads_once : {F : Type 0} (reading : ReadOperation F) (old new : F) (result : Result ℕ Error) (buf : List ℕ) →
    IsOfLastTry (OneRead reading) old new result buf → ReadsOnce reading old new result buf
reads_once reading old new result buf tries = record {
  last = tries;
  octets = reads_kept (reading.to_come old) (reading.to_come tries.1) (reading.to_come new) result buf
      (kept reading.to_come (OneRead reading) (λ _ _ _ _ one. one.octets) tries.0 old tries.1 tries.2) tries.3.octets;
}

-- so are the last write's
appends : {F : Type 0} (writing : WriteOperation F) (old new : F) (result : Result ℕ Error) (bytes : List ℕ) →
    IsOfLastTry (OneWrite writing) old new result bytes → WriteAppends (writing.contents old) (writing.contents new) result bytes
appends writing old new result bytes tries =
    writes_kept (writing.contents old) (writing.contents tries.1) (writing.contents new) result bytes
    (kept writing.contents (OneWrite writing) (λ _ _ _ _ one. one.octets) tries.0 old tries.1 tries.2) tries.3.octets

pub writes_once : {F : Type 0} (writing : WriteOperation F) (old new : F) (result : Result ℕ Error) (bytes : List ℕ) →
    IsOfLastTry (OneWrite writing) old new result bytes → WritesOnce writing old new result bytes
writes_once writing old new result bytes tries = record { last = inl tries; octets = appends writing old new result bytes tries }

nothing_taken : (a b : Option (List ℕ)) (bytes : List ℕ) → WriteAppends {E = Error} a b (Ok 0) bytes → Keeps a b
nothing_taken None b bytes is = tt
nothing_taken (Some a) None bytes is = absurd is
nothing_taken (Some a) (Some b) bytes is = search (rules, common_steps)

-- a write that took nothing is an error
pub writes_nothing : {F : Type 0} (writing : WriteOperation F) (old new : F) (n : ℕ) (e : Error) (bytes : List ℕ) →
    n ≡ 0 → IsOfLastTry (OneWrite writing) old new (Ok n) bytes → error_kind e ≡ WriteZero → WritesOnce writing old new (Err e) bytes
writes_nothing writing old new n e bytes none last is = let tries = subst (λ k. IsOfLastTry (OneWrite writing) old new (Ok k) bytes) none last in record {
  last = inr (is, tries);
  octets = nothing_taken (writing.contents old) (writing.contents new) bytes (appends writing old new (Ok 0) bytes tries);
}

-- so is one to an open file of a folder
pub takes_nothing : {D F : Type 0} (does : Operations D F) (before after : D) (old new : F) (n : ℕ) (e : Error) (bytes : List ℕ) →
    n ≡ 0 → IsOfLastTry (OneTake does) (before, old) (after, new) (Ok n) bytes → error_kind e ≡ WriteZero → TakesOnce does before after old new (Err e) bytes
takes_nothing does before after old new n e bytes none last is =
    record { last = inr (is, subst (λ k. IsOfLastTry (OneTake does) (before, old) (after, new) (Ok k) bytes) none last) }
