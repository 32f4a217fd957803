use Rattle.std.proofs.Common.{ap, sym, rules}
use Rattle.trau_files.specs.Files.{FileLine}
use Rattle.trau_files.proofs.trunk.file.LineFile.write.Goals as goal

pub returns-in-Ok-clause-after : goal.returns-in-Ok-clause-after
returns-in-Ok-clause-after g c = search rules

pub returns-in-Ok-clause-place : goal.returns-in-Ok-clause-place
returns-in-Ok-clause-place g c = rw (sym (ap (λ (l : FileLine). l.written) c.self.view_is)) c.in-Ok.ensures.file

pub returns-in-Err-clause-place : goal.returns-in-Err-clause-place
returns-in-Err-clause-place g c =
    (c.in-Err.fault, rw (c.fail.ensures.files, sym (ap (λ (l : FileLine). l.written) c.self.view_is)) c.in-Err.ensures.file)
