use Rattle.std.proofs.Common.{◌≡◌, take}
use Rattle.std.specs.List.{flat_map}
use Rattle.trau_bits.specs.Bits.{bits_of, octets_of}
use Rattle.farm_report.specs.Sums.{sum_of}
use Rattle.farm_live.specs.Whole.{outs_of}
use Rattle.live_run.proofs.sums.sums_of.Given as goal

abbrev pub invariant-loop-entry : goal.invariant-loop-entry
invariant-loop-entry l = record {
  out : l.sums.out ≡ sum_of (outs_of (take l.entry-index l.entries));
  down : l.sums.down ≡ sum_of (flat_map (λ e. octets_of (bits_of e.down)) (take l.entry-index l.entries));
}
