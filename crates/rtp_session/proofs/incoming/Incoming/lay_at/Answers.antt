use Rattle.std.proofs.Common.{ℕ, length, subst}
use Rattle.std.specs.Prelude.{◌==◌}
use Rattle.rtp_session.specs.Datagram.{LaysOver}
use Rattle.rtp_session.proofs.Taken.{counted_laid}
use Rattle.rtp_session.proofs.incoming.Incoming.lay_at.Goals as goal

pub returns-clause-laid : goal.returns-clause-laid
returns-clause-laid g c =
    subst (λ (p : ℕ). LaysOver c.args.self.now.stream.buffer c.lay-laid.new.buffer c.args.tick c.args.period p c.args.payload.now (c.args.behind == 0))
    c.octet-part.ensures.value
    (record {
      laid = c.lay-laid.ensures.laid;
      everywhere = c.lay-laid.ensures.everywhere;
      stands = c.lay-laid.ensures.stands;
      newest = c.lay-laid.ensures.newest;
      pace = c.lay-laid.ensures.told;
    })

pub returns-clause-counts : goal.returns-clause-counts
returns-clause-counts g c =
    counted_laid c.args.self.now.stream.buffer c.args.tick c.args.period _ c.octet-part.result (length c.args.payload.now) c.lay-laid.result.late
    c.lay-laid.result.doubled c.args.self.now.counts c.octet-part.ensures.value c.lay-laid.ensures.late c.lay-laid.ensures.doubled
