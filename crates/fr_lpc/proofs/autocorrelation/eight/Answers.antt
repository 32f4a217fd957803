use Rattle.std.proofs.Common.{sym, subst, ap, ◌∙◌, map, to_z, of_z, FitsSigned, w16, w32}
use Rattle.std.specs.Simd.Lanes.{chunk, Each1}
use Rattle.trau_lanes.proofs.Eight.{lanes_kept}
use Rattle.fr_lpc.proofs.Dots.{small_words, small_longs}
use Rattle.fr_lpc.proofs.autocorrelation.eight.Goals as goal

pub wide-requires : goal.wide-requires
wide-requires c =
    let words = small_words c.args.samples.now c.args.at c.requires.scaled in
    subst (Each1 (FitsSigned w16)) (sym (lanes_kept w16 (chunk c.args.at 8 c.args.samples.now) words)) words

pub returns : goal.returns
returns c =
    let words = small_words c.args.samples.now c.args.at c.requires.scaled in
    ap (λ xs. map (to_z w32) (map (of_z w32) xs)) (c.wide.ensures ∙ lanes_kept w16 (chunk c.args.at 8 c.args.samples.now) words) ∙
    lanes_kept w32 (chunk c.args.at 8 c.args.samples.now) (small_longs c.args.samples.now c.args.at c.requires.scaled)
