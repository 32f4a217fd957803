use Rattle.std.proofs.Common.{ap, ◌∙◌}
use Rattle.rtp_stream.specs.declared.source.Sources.{Sources}
use Rattle.rtp_stream.specs.declared.source.Verdict.{Verdict}
use Rattle.rtp_stream.specs.declared.stream.Stream.{Stream}
use Rattle.rtp_stream.specs.Stream.{judged_in, placed_in}
use Rattle.rtp_session.specs.Datagram.{track_by}
use Rattle.rtp_session.proofs.Judged.{stranger, kept, candidate_of}
use Rattle.rtp_session.proofs.Taken.{begins_if, received_if, by_verdict}
use Rattle.rtp_session.proofs.incoming.Incoming.arrive.Goals as goal

pub returns-clause-only : goal.returns-clause-only
returns-clause-only g c n =
    let judged = stranger c.args.self.now.stream c.args.header.now c.args.tick n in
    let waits = c.arrive.ensures.on_probation (ap (λ (x : Sources × Verdict). x.1) judged) in (
      waits.0,
      ap (λ (s : Stream g.row.N). record c.args.self.now { stream = s })
          (kept c.args.self.now.stream c.arrive.new.self
          (candidate_of c.args.self.now.stream.sources c.args.header.now.source c.args.header.now.sequence_number c.args.tick) waits.1
          (c.arrive.ensures.sources ∙ ap (λ (x : Sources × Verdict). x.0) judged)),
    )

pub returns-clause-arrives : goal.returns-clause-arrives
returns-clause-arrives g c = record {
  at = λ place is. let all = c.arrive.ensures.at place is in (all.0, all.1, all.2, all.3);
  begins = λ is.
      begins_if (judged_in c.args.self.now.stream c.args.header.now c.args.tick).1 c.arrive.result
      (placed_in c.args.self.now.stream c.args.header.now c.args.samples c.args.tick c.args.behind).1
      (λ v. (c.arrive.ensures.on_probation v).0) (λ v. let all = c.arrive.ensures.new_source v in (all.3, all.4)) (λ v. (c.arrive.ensures.heard v).0) is;
  jumps = λ is. c.arrive.ensures.jump is;
}

pub returns-clause-reception : goal.returns-clause-reception
returns-clause-reception g c =
    received_if (judged_in c.args.self.now.stream c.args.header.now c.args.tick).1 c.args.self.now.stream c.args.header.now c.args.tick c.args.behind
    c.arrive.new.self.reception (λ v. ap (λ (s : Stream g.row.N). s.reception) (c.arrive.ensures.on_probation v).1)
    (λ v. (c.arrive.ensures.new_source v).1) (λ v. (c.arrive.ensures.heard v).1)

pub returns-clause-track : goal.returns-clause-track
returns-clause-track g c =
    by_verdict (λ (v : Verdict). track_by v c.args.self.now.stream c.args.header.now c.args.samples c.args.tick c.args.behind)
    (judged_in c.args.self.now.stream c.args.header.now c.args.tick).1 c.arrive.new.self.track
    (λ v. ap (λ (s : Stream g.row.N). s.track) (c.arrive.ensures.on_probation v).1) (λ v. (c.arrive.ensures.new_source v).2)
    (λ v. (c.arrive.ensures.heard v).2)

pub returns-clause-sources : goal.returns-clause-sources
returns-clause-sources g c = c.arrive.ensures.sources

pub returns-clause-others : goal.returns-clause-others
returns-clause-others g c = ap (λ (s : Stream g.row.N). record c.args.self.now { stream = s }) c.arrive.ensures.others
