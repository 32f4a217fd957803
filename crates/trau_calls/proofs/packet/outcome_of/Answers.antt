use Rattle.std.specs.Prelude.{◌≢◌}
use Rattle.rtp_session.specs.declared.incoming.Outcome.TheVariants.{Taken}
use Rattle.trau_calls.specs.Packet.{SideTakes, IsStrangers, SidePlaysTheSame, IsOfSide}
use Rattle.trau_calls.proofs.Steps.{by_suc}
use Rattle.trau_calls.proofs.packet.outcome_of.Goals as goal

pub returns-else-side-eq0-clause-takes : goal.returns-else-side-eq0-clause-takes
returns-else-side-eq0-clause-takes c = by_suc
    (λ n. SideTakes n c.args.call.now c.packet_from_exchange.new.self c.args.datagram.now c.args.tick c.args.behind c.packet_from_exchange.result)
    c.args.side c.if-side-eq0.false (λ m. c.packet_from_exchange.ensures.takes)

pub returns-else-side-eq0-clause-only : goal.returns-else-side-eq0-clause-only
returns-else-side-eq0-clause-only c = by_suc (λ n. IsStrangers n c.args.call.now c.packet_from_exchange.new.self c.args.datagram.now c.args.tick)
    c.args.side c.if-side-eq0.false (λ m. c.packet_from_exchange.ensures.only)

pub returns-else-side-eq0-clause-refused : goal.returns-else-side-eq0-clause-refused
returns-else-side-eq0-clause-refused c = by_suc (λ n. c.packet_from_exchange.result ≢ Taken → SidePlaysTheSame n c.args.call.now c.packet_from_exchange.new.self)
    c.args.side c.if-side-eq0.false (λ m. c.packet_from_exchange.ensures.refused)

pub returns-else-side-eq0-clause-others : goal.returns-else-side-eq0-clause-others
returns-else-side-eq0-clause-others c = by_suc (λ n. IsOfSide n c.args.call.now c.packet_from_exchange.new.self)
    c.args.side c.if-side-eq0.false (λ m. c.packet_from_exchange.ensures.others)
