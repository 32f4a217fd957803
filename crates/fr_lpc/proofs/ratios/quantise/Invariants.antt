use Rattle.std.proofs.Common.{ℕ, ◌<◌, ◌^◌, get_or}
use Rattle.trau_num.proofs.Fill.{Filled}
use Rattle.trau_num.specs.Num.{entry}
use Rattle.trau_params.specs.Ratios.{offsets, least_ratios}
use Rattle.trau_params.specs.Widths.{larc_widths}
use Rattle.fr_lpc.specs.Ratios.{ratio_code, gains, most}
use Rattle.fr_lpc.proofs.ratios.quantise.Given as goal

abbrev pub invariant-loop-i : goal.invariant-loop-i
invariant-loop-i l = record {
  filled : Filled 0 (λ k. ratio_code (entry gains k) (entry offsets k) (entry least_ratios k) (entry most k) (entry l.lar k)) l.larc 8 l.i;
  widths : (k : ℕ) → k < l.i → get_or l.larc k 0 < 2 ^ get_or larc_widths k 0;
}
