-- The call and both senders stay ready.
use Rattle.rtp_session.specs.Outgoing.{IsMedia}
use Rattle.rtp_call.specs.Call.{IsReady}
use Rattle.packet_tests.proofs.rtp_call_tests.periods.Given as goal

abbrev pub invariant-loop-tick : goal.invariant-loop-tick
invariant-loop-tick l = record {
  call : IsReady l.call;
  station : IsMedia l.station.payload_type;
  exchange : IsMedia l.exchange.payload_type;
}
