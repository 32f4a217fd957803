use Rattle.std.proofs.Common.{◌≤◌}
use Rattle.rtp_packet.specs.Reception.{most_jitter}
use Rattle.packet_tests.proofs.rtp_packet_tests.counted.Given as goal

abbrev pub invariant-loop-n : goal.invariant-loop-n
invariant-loop-n l = l.reception.jitter ≤ most_jitter
