-- Faults of files, passed on.
use Rattle.std.proofs.Common.{◌≡◌, List, ℕ, Option, Some, Err, IfSome, refl}
use Rattle.std.specs.declared.io.Error.{Error}
use Rattle.trau_files.specs.declared.trunk.fault.Fault.TheVariants.{System}
use Rattle.trau_files.specs.Files.{FileGives, FileTakes, OpenLine}
use Rattle.trau_files.specs.Folder.{Operations}
use Rattle.trau_files.specs.Tries.{GivesOnce, TakesOnce}

pub gives_fault : {D F : Type 0} (does : Operations D F) (folder : D) (bay : Option (OpenLine F)) (o : OpenLine F) (file : Option (OpenLine F)) (e : Error) (new : F)
    (buf : List ℕ) → bay ≡ Some o → GivesOnce does folder o.file new (Err e) buf → IfSome bay (λ o. FileGives does folder o file (Err (System e)) buf)
gives_fault does folder bay o file e new buf is once = rw is (new, e, refl, once)

pub takes_fault : {D F : Type 0} (does : Operations D F) (before after : D) (bay : Option (OpenLine F)) (o : OpenLine F) (file : Option (OpenLine F)) (e : Error) (new : F)
    (bytes : List ℕ) → bay ≡ Some o → TakesOnce does before after o.file new (Err e) bytes →
    IfSome bay (λ o. FileTakes does before after o file (Err (System e)) bytes)
takes_fault does before after bay o file e new bytes is once = rw is (new, e, refl, once)
