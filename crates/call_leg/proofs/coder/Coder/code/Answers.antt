use Rattle.std.proofs.Common.{rules, FitsSigned, w16}
use Rattle.std.proofs.lemmas.Int.{to_z-of_z}
use Rattle.call_leg.specs.Memory.{coder_memory}
use Rattle.call_leg.proofs.Downlink.Stepping.{code-step}
use Rattle.call_leg.proofs.coder.Coder.code.Goals as goal

pub returns-clause-bits : goal.returns-clause-bits
returns-clause-bits c = c.to_bits.ensures.bits

pub returns-clause-step : goal.returns-clause-step
returns-clause-step c =
    let f : FitsSigned w16 c.encode-peak.result.2 = search rules in
    let g : FitsSigned w16 c.args.level = search rules in
    let s = simp to_z-of_z at c.send-sp.ensures.step in
    code-step c.args.law (coder_memory c.args.self.now) c.args.octets.now c.args.level c.args.on c.expand_all.result c.encode-peak.result.0 c.send-sp.result.0
    c.encode-peak.result.1 c.encode-peak.result.2 c.send-sp.result.1
    c.to_bits.new.bits c.encode-peak.new.self c.send-sp.new.self c.encode-peak.ensures.step c.expand_all.ensures s c.to_bits.ensures.value
