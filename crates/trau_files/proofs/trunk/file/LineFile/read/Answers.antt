use Rattle.std.proofs.Common.{ap, sym}
use Rattle.trau_files.specs.Files.{FileLine}
use Rattle.trau_files.proofs.trunk.file.LineFile.read.Goals as goal

pub returns-in-Ok-clause-place : goal.returns-in-Ok-clause-place
returns-in-Ok-clause-place g c = rw (sym (ap (λ (l : FileLine). l.read) c.self.view_is)) c.in-Ok.ensures.file

pub returns-in-Err-clause-place : goal.returns-in-Err-clause-place
returns-in-Err-clause-place g c =
    (c.in-Err.fault, rw (c.fail.ensures.files, sym (ap (λ (l : FileLine). l.read) c.self.view_is)) c.in-Err.ensures.file)
