use Rattle.std.proofs.Common.{◌∙◌, sym, refl, rules, arith, get_or, pos, FitsSigned, w16}
use Rattle.std.proofs.lemmas.Int.{to_z-of_z}
use Rattle.trau_alaw.specs.Companding.{octet_of}
use Rattle.trau_alaw.specs.Mulaw.{mulaw}
use Rattle.trau_alaw.specs.Period.{compressed}
use Rattle.trau_alaw.proofs.Mapping.{run_next, run_end}
use Rattle.trau_alaw.proofs.period.compress_mulaw.Goals as goal

pub loop-k-init : goal.loop-k-init
loop-k-init c = record { count = c.told-octets ∙ sym c.told-x; done = refl }

pub loop-k-preserved : goal.loop-k-preserved
loop-k-preserved c =
    let fx : FitsSigned w16 (get_or c.args.x.now c.loop-k.k (pos 0)) = search rules in
    let e = simp to_z-of_z at c.compress.ensures.value in
    run_next (octet_of mulaw) c.args.x.now c.loop-k.octets c.loop-k.k (pos 0) c.compress.result (omega arith) c.loop-k.invariant e

pub returns : goal.returns
unfolding compressed
returns c = run_end (octet_of mulaw) c.args.x.now c.loop-k.octets c.loop-k.k (omega arith) c.loop-k.invariant
