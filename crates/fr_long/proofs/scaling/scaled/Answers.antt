use Rattle.std.proofs.Common.{◌≤◌, get_or, pos, rules, arith, refl, unsigned_abs, FitsSigned, w16}
use Rattle.std.proofs.lemmas.Int.{to_z-of_z}
use Rattle.trau_num.specs.Num.{floor_shr}
use Rattle.trau_num.proofs.Fill.{fill_next, fill_all, each_next}
use Rattle.fr_long.specs.Scaling.{scaled_block}
use Rattle.fr_long.proofs.Blocks.{small_word, shifted_within}
use Rattle.fr_long.proofs.scaling.scaled.Goals as goal

pub loop-k-preserved : goal.loop-k-preserved
loop-k-preserved c =
    let x : FitsSigned w16 (get_or c.args.d.now c.loop-k.k (pos 0)) = search rules in
    let count = c.loop-k.invariant.filled.count in
    let small = shifted_within (get_or c.args.d.now c.loop-k.k (pos 0)) c.args.peak c.args.scal x
    (c.requires.peak c.loop-k.k c.loop-k-test.true) c.requires.room in
    let f : FitsSigned w16 (floor_shr (get_or c.args.d.now c.loop-k.k (pos 0)) c.args.scal) =
    small_word (floor_shr (get_or c.args.d.now c.loop-k.k (pos 0)) c.args.scal) (omega (arith, small)) in
    simp to_z-of_z (record {
      filled = fill_next (pos 0) _ c.loop-k.wt 40 c.loop-k.k _ c.loop-k-test.true c.loop-k.invariant.filled refl;
      scaled = each_next (λ k w. unsigned_abs w ≤ 512) (pos 0) c.loop-k.wt c.loop-k.k _ (omega arith) small c.loop-k.invariant.scaled;
    })

pub returns-clause-value : goal.returns-clause-value
unfolding scaled_block
returns-clause-value c = fill_all (pos 0) _ c.loop-k.wt 40 c.loop-k.k (omega arith) c.loop-k.invariant.filled

pub returns-clause-scaled : goal.returns-clause-scaled
returns-clause-scaled c = λ k l. c.loop-k.invariant.scaled k (omega arith)
