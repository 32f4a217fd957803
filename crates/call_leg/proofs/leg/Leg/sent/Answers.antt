use Rattle.std.proofs.Common.{ap, ◌∙◌, subst, ◌≤◌, arith}
use Rattle.frame_sync.specs.Memory.{SyncMemory}
use Rattle.call_leg.specs.Settings.{epoch_now}
use Rattle.call_leg.specs.Places.{sent_now}
use Rattle.call_leg.specs.Memory.{LegMemory}
use Rattle.call_leg.proofs.Downlink.Bounds.{carried-at_most, exact_u32}
use Rattle.call_leg.proofs.Heard.{length-ups_of}
use Rattle.call_leg.proofs.leg.Leg.sent.Goals as goal

pub returns-clause-memory : goal.returns-clause-memory
returns-clause-memory c = c.sent.ensures ∙ ap (λ (m : LegMemory). m.down.sent) c.self.view_is

pub returns-clause-history : goal.returns-clause-history
returns-clause-history c = λ who ts now h.
    let count = ap (λ (m : SyncMemory). m.periods) h.search.after in
    let most = subst (λ (m : LegMemory). m.search.periods ≤ 4294967295) c.self.view_is c.periods_are_few.ensures in
    let long = length-ups_of ts in
    let few = carried-at_most (epoch_now ts now) ts in
    returns-clause-memory c ∙ exact_u32 c.args.self.now.down.sent (sent_now ts now) h.down.sent (omega arith)
