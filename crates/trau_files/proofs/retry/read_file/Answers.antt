use Rattle.std.proofs.Common.{◌≡◌, ◌+◌, arith, refl}
use Rattle.trau_files.specs.Folder.{OneGive}
use Rattle.trau_files.specs.Tries.{WasInterrupted}
use Rattle.trau_files.proofs.Tries.{interrupted_again}
use Rattle.trau_files.proofs.retry.read_file.Goals as goal
use Rattle.trau_files.proofs.retry.read_file.Goals.{then-tries-eq-TRIES-via-then-tries-eq-TRIES, then-tries-eq-TRIES-via-else-tries-eq-TRIES+then-not-was_interrupted}

pub loop-tries-init : goal.loop-tries-init
loop-tries-init g c = record { bound = omega arith; before = refl }

pub loop-tries-preserved : goal.loop-tries-preserved
loop-tries-preserved g c = record {
  bound = omega (arith, c.loop-tries.invariant.bound, c.if-tries-eq-TRIES.false);
  before = interrupted_again (OneGive g.D.Folder.does c.args.folder.now) c.args.file.now c.loop-tries.file c.read-done.new.file c.read-done.result
      c.read-done.new.buf c.loop-tries.tries c.loop-tries.invariant.before (record { gave = c.read-done.ensures.gave; bound = c.read-done.ensures.bound })
      (c.was_interrupted.ensures.interrupted c.if-not-was_interrupted.false);
}

pub returns-then-tries-eq-TRIES-clause-once : goal.returns-then-tries-eq-TRIES-clause-once
returns-then-tries-eq-TRIES-clause-once g c =
    let last : WasInterrupted c.read-done.result → c.loop-tries.tries + 1 ≡ 1000 = elim c.then-tries-eq-TRIES.branch [
      | then-tries-eq-TRIES-via-then-tries-eq-TRIES w ↦ λ is. w.if-tries-eq-TRIES.true
      | then-tries-eq-TRIES-via-else-tries-eq-TRIES+then-not-was_interrupted w ↦ λ is. absurd (w.was_interrupted.ensures.other w.if-not-was_interrupted.true is)
    ] in
    (c.loop-tries.tries, c.loop-tries.file, c.loop-tries.invariant.before, record { gave = c.read-done.ensures.gave; bound = c.read-done.ensures.bound }, last)
