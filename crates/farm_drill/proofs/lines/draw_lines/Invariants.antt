use Rattle.std.proofs.Common.{◌≡◌}
use Rattle.std.specs.List.{range_with_len, flat_map}
use Rattle.farm_drill.specs.Draws.{draw_state, first_draw}
use Rattle.farm_drill.specs.Uplink.{up_octets}
use Rattle.farm_drill.specs.Lines.{pcm_octets}
use Rattle.farm_drill.proofs.lines.draw_lines.Given as goal

abbrev pub invariant-loop-period : goal.invariant-loop-period
invariant-loop-period l = record {
  now : l.generator.x ≡ draw_state l.seed l.call (first_draw l.period);
  up : l.up_octets.items ≡ flat_map (up_octets l.seed l.call) (range_with_len 0 l.period);
  pcm : l.pcm_octets.items ≡ flat_map (pcm_octets l.seed l.call) (range_with_len 0 l.period);
}
