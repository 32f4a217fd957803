use Rattle.std.proofs.lemmas.Simd.{Each1-weaker}
use Rattle.std.proofs.lemmas.Int.{ints}
use Rattle.std.proofs.Common.{◌≡◌, arith, map, to_z, of_z, ap, sym, subst, ◌∙◌, FitsSigned, w16, w32}
use Rattle.std.specs.Simd.Lanes.{chunk, Each1}
use Rattle.trau_lanes.proofs.Eight.{lanes_kept}
use Rattle.trau_lanes.proofs.LaneDots.{Within}
use Rattle.fr_long.proofs.Lanes.{chunk_words, word_numbers}
use Rattle.fr_long.proofs.correlations.eight.Goals as goal

pub wide-requires : goal.wide-requires
wide-requires c =
    let words = chunk_words c.args.samples.now c.args.at 8 c.requires.words in
    subst (Each1 (FitsSigned w16)) (sym (lanes_kept w16 (chunk c.args.at 8 c.args.samples.now) words)) words

pub returns-clause-value : goal.returns-clause-value
returns-clause-value c =
    let words = chunk_words c.args.samples.now c.args.at 8 c.requires.words in
    ap (λ xs. map (to_z w32) (map (of_z w32) xs)) (c.wide.ensures ∙ lanes_kept w16 (chunk c.args.at 8 c.args.samples.now) words) ∙
    word_numbers (chunk c.args.at 8 c.args.samples.now) words

pub returns-clause-words : goal.returns-clause-words
returns-clause-words c =
    let words = chunk_words c.args.samples.now c.args.at 8 c.requires.words in
    let value : map (to_z w32) (map (of_z w32) c.wide.result) ≡ chunk c.args.at 8 c.args.samples.now =
    ap (λ xs. map (to_z w32) (map (of_z w32) xs)) (c.wide.ensures ∙ lanes_kept w16 (chunk c.args.at 8 c.args.samples.now) words) ∙
    word_numbers (chunk c.args.at 8 c.args.samples.now) words in
    subst (Each1 (Within 32768)) (sym value) (Each1-weaker (FitsSigned w16) (Within 32768) (λ x f. omega (arith, ints)) _ words)
