use Rattle.std.proofs.Common.{sym, ap, ◌∙◌, arith}
use Rattle.std.proofs.lemmas.List.{get_or_default}
use Rattle.trau_bits.proofs.BitList.{bits_of-below}
use Rattle.trau_bits.proofs.Octets.{octets_of-bits_of}
use Rattle.farm_report.specs.Sums.{sum_of}
use Rattle.live_run.proofs.sums.sum_down.Goals as goal

pub returns : goal.returns
returns c =
    let octets = c.args.down.now in
    c.sum.ensures ∙ ap sum_of (sym (octets_of-bits_of octets (λ k d below. omega (arith, get_or_default octets k d 0 below, c.fits-down k))
    (bits_of-below octets)))
