use Rattle.std.proofs.Common.{ap, ◌∙◌, not, ◌&&◌, length}
use Rattle.std.specs.Prelude.{◌==◌}
use Rattle.call_leg.specs.Memory.{LegMemory}
use Rattle.call_leg.proofs.Downlink.Bridges.{drains, queue-short}
use Rattle.call_leg.proofs.leg.Leg.draining.Goals as goal

pub returns-clause-memory : goal.returns-clause-memory
returns-clause-memory c = c.draining.ensures ∙ ap (λ (m : LegMemory). not m.down.bridged && not (length m.down.waiting == 0)) c.self.view_is

pub returns-clause-value : goal.returns-clause-value
returns-clause-value c = λ who ts now h. returns-clause-memory c ∙ drains who ts now c.args.self.now.down h.down

pub returns-clause-one : goal.returns-clause-one
returns-clause-one c = λ who ts now h. queue-short ts c.args.self.now.down.waiting h.down.history h.down.waits
