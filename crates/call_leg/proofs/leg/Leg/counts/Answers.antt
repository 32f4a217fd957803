use Rattle.std.proofs.Common.{ap, ◌∙◌, subst, ◌≤◌, length, arith}
use Rattle.trau_io.specs.declared.ends.Counts.{Counts}
use Rattle.frame_sync.specs.Memory.{SyncMemory}
use Rattle.call_leg.specs.Counted.{sightings_counted}
use Rattle.call_leg.specs.Down.{frames_of}
use Rattle.call_leg.specs.Memory.{LegMemory}
use Rattle.call_leg.proofs.Downlink.Bounds.{frames-at_most, exact_u64}
use Rattle.call_leg.proofs.Heard.{length-ups_of}
use Rattle.call_leg.proofs.leg.Leg.counts.Goals as goal

pub returns-clause-memory : goal.returns-clause-memory
returns-clause-memory c =
    ap (λ (n : Counts). record n { made = c.made.result }) c.counts.ensures ∙ ap (λ k. record c.self.inside.up.counts { made = k }) c.made.ensures
    ∙ ap (λ (m : LegMemory). record m.counts { made = m.down.made }) c.self.view_is

pub returns-clause-history : goal.returns-clause-history
returns-clause-history c = λ who ts now h.
    let made = c.args.self.now.down.made in
    let count = ap (λ (m : SyncMemory). m.periods) h.search.after in
    let most = subst (λ (m : LegMemory). m.search.periods ≤ 4294967295) c.self.view_is c.periods_are_few.ensures in
    let long = length-ups_of ts in
    let few = frames-at_most ts in
    returns-clause-memory c ∙ ap (λ (n : Counts). record n { made = made }) h.counts
    ∙ ap (λ k. record (sightings_counted ts) { made = k }) (exact_u64 made (length (frames_of ts)) h.down.made (omega arith))
