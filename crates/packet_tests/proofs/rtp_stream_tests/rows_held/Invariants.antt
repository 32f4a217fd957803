use Rattle.std.proofs.Common.{◌<◌, ◌≤◌}
use Rattle.rtp_packet.specs.Reception.{most_jitter}
use Rattle.rtp_stream.specs.Places.{period_samples}
use Rattle.packet_tests.proofs.rtp_stream_tests.rows_held.Given as goal

abbrev pub invariant-loop-n : goal.invariant-loop-n
invariant-loop-n g l = record {
  smooth : l.stream.reception.jitter ≤ most_jitter;
  sample : l.stream.track.newest.place.sample < period_samples;
  offset : l.stream.track.offset < period_samples;
}
