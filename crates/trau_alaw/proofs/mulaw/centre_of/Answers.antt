use Rattle.std.proofs.Common.{◌≡◌, ℕ, ◌+◌, ◌-◌, ◌*◌, ◌%◌, ◌^◌, ◌<◌, ◌≤◌, arith}
use Rattle.trau_alaw.specs.Mulaw.{mulaw_centre}
use Rattle.trau_alaw.proofs.MuSegments.{shifted_centre}
use Rattle.trau_alaw.proofs.mulaw.centre_of.Goals as goal

record IsShifted (segment step n : ℕ) : Type 0 where
  enough : 132 ≤ (2 * n + 33) * 2 ^ (segment + 2) % 65536
  value : (2 * n + 33) * 2 ^ (segment + 2) % 65536 - 132 ≡ mulaw_centre segment step
  below : (2 * n + 33) * 2 ^ (segment + 2) % 65536 - 132 < 32768

shifted : (segment step n : ℕ) → segment < 8 → step < 16 → n ≡ step → IsShifted segment step n
shifted segment step n l m e =
    let r = shifted_centre segment step l m in
    let a = r.0 in
    let b = r.1 in
    let v = r.2 in
    let w = r.3 in
    rw e (record { enough = omega arith; value = omega arith; below = omega arith })

pub overflow_sub-result : goal.overflow_sub-result
overflow_sub-result c = (shifted c.args.segment c.args.step c.from.result c.requires.segment c.requires.step c.from.ensures).enough

pub returns-clause-value : goal.returns-clause-value
returns-clause-value c = (shifted c.args.segment c.args.step c.from.result c.requires.segment c.requires.step c.from.ensures).value

pub returns-clause-below : goal.returns-clause-below
returns-clause-below c = (shifted c.args.segment c.args.step c.from.result c.requires.segment c.requires.step c.from.ensures).below
