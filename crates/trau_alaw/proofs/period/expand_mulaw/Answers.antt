use Rattle.std.proofs.Common.{sym, refl, rules, arith, FitsSigned, w16}
use Rattle.std.proofs.lemmas.Int.{to_z-of_z}
use Rattle.trau_alaw.specs.Companding.{middle}
use Rattle.trau_alaw.specs.Mulaw.{mulaw}
use Rattle.trau_alaw.specs.Period.{expanded}
use Rattle.trau_alaw.proofs.Mapping.{run_next, run_end}
use Rattle.trau_alaw.proofs.period.expand_mulaw.Goals as goal

pub loop-k-init : goal.loop-k-init
loop-k-init c = record { count = sym c.told-octets; done = refl }

pub loop-k-preserved : goal.loop-k-preserved
loop-k-preserved c =
    let fits : FitsSigned w16 c.expand.result = search rules in
    simp to_z-of_z (run_next (λ octet. middle (mulaw octet)) c.args.octets.now c.loop-k.x c.loop-k.k 0 c.expand.result
    (omega arith) c.loop-k.invariant c.expand.ensures)

pub returns : goal.returns
unfolding expanded
returns c = run_end (λ octet. middle (mulaw octet)) c.args.octets.now c.loop-k.x c.loop-k.k (omega arith) c.loop-k.invariant
