use Rattle.std.proofs.Common.{◌≡◌, ℕ, ap, ◌∙◌, length, arith}
use Rattle.trau_io.specs.declared.ends.Counts.{Counts}
use Rattle.frame_sync.specs.Memory.{SyncMemory}
use Rattle.call_leg.specs.Settings.{epoch_now}
use Rattle.call_leg.specs.Counted.{call_counts, sightings_counted}
use Rattle.call_leg.specs.Places.{sent_now}
use Rattle.call_leg.specs.Down.{frames_of}
use Rattle.call_leg.proofs.Downlink.Bounds.{frames-at_most, carried-at_most, exact_u32, exact_u64}
use Rattle.call_leg.proofs.Heard.{length-ups_of}
use Rattle.farm_rounds.specs.declared.tally.Tally.{Tally}
use Rattle.farm_rounds.proofs.open.OpenCall.tally.Goals as goal

abbrev tally : Counts → ℕ → Tally
tally counts sent = record { counts = counts; sent = sent }

pub returns : goal.returns
returns c = λ who ts now h.
    let count = ap (λ (m : SyncMemory). m.periods) h.search.after in
    let most = c.counts.ensures.periods in
    let long = length-ups_of ts in
    let few = frames-at_most ts in
    let carried = carried-at_most (epoch_now ts now) ts in
    let made = c.args.self.now.job.down.made in
    let counts : c.counts.result ≡ call_counts ts = c.counts.ensures.memory ∙ ap (λ (n : Counts). record n { made = made }) h.counts
    ∙ ap (λ k. record (sightings_counted ts) { made = k }) (exact_u64 made (length (frames_of ts)) h.down.made (omega arith)) in
    let sent : c.sent.result ≡ sent_now ts now = c.sent.ensures.memory ∙ exact_u32 c.args.self.now.job.down.sent (sent_now ts now) h.down.sent (omega arith) in
    ap (λ (n : Counts). tally n c.sent.result) counts ∙ ap (λ (n : ℕ). tally (call_counts ts) n) sent
