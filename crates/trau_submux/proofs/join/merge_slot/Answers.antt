use Rattle.std.proofs.Common.{◌≡◌, ◌-◌, ◌∷◌, [], ◌∙◌, get_or, refl, arith}
use Rattle.trau_io.specs.declared.line.Side.TheVariants.{Up, Out}
use Rattle.trau_submux.specs.Lines.{channel_lines}
use Rattle.trau_submux.proofs.Channels.{for_four}
use Rattle.trau_submux.proofs.Last.{at_last}
use Rattle.trau_submux.proofs.Merging.{ended, on_failed, on_whole}
use Rattle.trau_submux.proofs.Pieces.{at_start}
use Rattle.trau_submux.proofs.join.merge_slot.Goals as goal

pub loop-block-init : goal.loop-block-init
loop-block-init g c = record {
  so_far = at_start (channel_lines (g.T.Trunk.lines c.args.trunk.now) c.args.call Up) (g.T.Trunk.lines c.args.trunk.now c.args.call Out);
  others = λ n s e f. refl;
}

pub overflow_add-octets : goal.overflow_add-octets
overflow_add-octets g c = omega (arith, c.loop-block.invariant.so_far.octets_are, c.loop-block-test.true)

pub overflow_add-result : goal.overflow_add-result
overflow_add-result g c =
    omega (arith, c.loop-block.invariant.so_far.octets_are, c.loop-block-test.true, c.fewest-used.ensures.least 0 (omega arith), c.in-Ended.ensures.block)

pub loop-block-preserved : goal.loop-block-preserved
loop-block-preserved g c = record {
  so_far = on_whole _ _ _ _ _ _ c.args.call _ _ c.loop-block.invariant.so_far c.in-Whole.ensures.block;
  others = λ n s e f. c.in-Whole.ensures.others n s e f ∙ c.loop-block.invariant.others n s e f;
}

pub returns-in-Ended-clause-merges : goal.returns-in-Ended-clause-merges
returns-in-Ended-clause-merges g c =
    let one = c.in-Ended.ensures.block in
    let used = c.fewest-used.result in
    let count = get_or c.in-Ended.counts in
    ended _ _ _ _ _ _ c.args.call _ _ c.loop-block.invariant.so_far one.0 c.in-Ended.counts
    ((count 0 0 - used) ∷ (count 1 0 - used) ∷ (count 2 0 - used) ∷ (count 3 0 - used) ∷ []) used (omega arith) one.1 one.2 one.3
    c.fewest-used.ensures.least c.fewest-used.ensures.one
    (for_four (λ j. get_or ((count 0 0 - used) ∷ (count 1 0 - used) ∷ (count 2 0 - used) ∷ (count 3 0 - used) ∷ []) j 0 ≡ count j 0 - used) refl refl refl refl)

pub returns-in-Ended-clause-others : goal.returns-in-Ended-clause-others
returns-in-Ended-clause-others g c = λ n s e f. c.in-Ended.ensures.others n s e f ∙ c.loop-block.invariant.others n s e f

pub returns-in-Failed-clause-merges : goal.returns-in-Failed-clause-merges
returns-in-Failed-clause-merges g c =
    on_failed _ _ _ _ _ _ c.args.call _ _ c.loop-block.invariant.so_far (omega arith) c.in-Failed.line c.in-Failed.ensures.block

pub returns-in-Failed-clause-others : goal.returns-in-Failed-clause-others
returns-in-Failed-clause-others g c = λ n s e f. c.in-Failed.ensures.others n s e f ∙ c.loop-block.invariant.others n s e f

pub returns-clause-merges : goal.returns-clause-merges
returns-clause-merges g c =
    at_last _ _ _ _ c.args.call _ _ _ c.loop-block.invariant.so_far (omega arith) (for_four (λ j. get_or (0 ∷ 0 ∷ 0 ∷ 0 ∷ []) j 0 ≡ 0) refl refl refl refl)
