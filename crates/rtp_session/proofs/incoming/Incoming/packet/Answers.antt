use Rattle.std.proofs.Common.{◌≡◌, ◌≤◌, ◌-◌, ℕ, List, length, drop, refl, sym, ◌∙◌, arith, length-take, length-drop}
use Rattle.std.specs.Prelude.{slice_range}
use Rattle.rtp_session.proofs.Taken.{packet_taken}
use Rattle.rtp_session.proofs.incoming.Incoming.packet.Goals as goal

size : (xs : List ℕ) (from until : ℕ) → until ≤ length xs → length (slice_range xs from until) ≡ until - from
size xs from until within = omega (arith, length-take (until - from) (drop from xs), length-drop from xs)

pub returns-in-Ok-clause-takes : goal.returns-in-Ok-clause-takes
returns-in-Ok-clause-takes g c =
    packet_taken c.args.self.now c.judge_packet.new.self c.args.datagram.now (slice_range c.args.datagram.now c.in-Ok.packet.from c.in-Ok.packet.until)
    c.in-Ok.packet c.args.tick c.args.behind c.judge_packet.result (sym c.parse.ensures.value ∙ c.in-Ok.is) refl
    (size c.args.datagram.now c.in-Ok.packet.from c.in-Ok.packet.until c.in-Ok.ensures.within) c.judge_packet.ensures.outcome
    c.judge_packet.ensures.refusal c.judge_packet.ensures.reception c.judge_packet.ensures.sources c.judge_packet.ensures.track
    c.judge_packet.ensures.latest c.judge_packet.ensures.settings c.judge_packet.ensures.lays

pub returns-in-Ok-clause-only : goal.returns-in-Ok-clause-only
returns-in-Ok-clause-only g c n =
    c.judge_packet.ensures.only (λ type heard. n (record { packet = c.in-Ok.packet; is_packet = c.in-Ok.ensures.taken; payload_type = type; source = heard }))
