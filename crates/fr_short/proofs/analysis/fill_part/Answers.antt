use Rattle.std.proofs.Common.{get_or, pos, refl, arith}
use Rattle.std.proofs.lemmas.Bool.{cond_below, cond_above}
use Rattle.std.proofs.lemmas.Int.{to_z-of_z}
use Rattle.trau_num.proofs.Fill.{fill_next}
use Rattle.fr_short.specs.Reflection.{part_start}
use Rattle.fr_short.proofs.Parts.{front_ends}
use Rattle.fr_short.proofs.analysis.fill_part.Goals as goal

pub loop-k-init : goal.loop-k-init
loop-k-init c = record {
  count = c.told-rs;
  each = λ k l. cond_below k (part_start c.args.part) (get_or c.args.rs.now k (pos 0)) _ (omega (arith, c.part_start-k.ensures.value));
}

pub loop-k-preserved : goal.loop-k-preserved
loop-k-preserved c =
    fill_next (pos 0) _ c.loop-k.rs 40 c.loop-k.k _ (omega (arith, c.part_start-k-end.ensures.value, front_ends c.args.part c.requires)) c.loop-k.invariant
    (cond_above c.loop-k.k (part_start c.args.part) (get_or c.args.rs.now c.loop-k.k (pos 0)) _ _ (omega (arith, c.part_start-k.ensures.value)) refl)

pub returns : goal.returns
returns c =
    let r = c.ranges.r in
    let each = simp to_z-of_z at c.loop-k.invariant.each in
    λ k l. each k (omega (arith, c.part_start-k-end.ensures.value))

pub bounds-rs-k : goal.bounds-rs-k
bounds-rs-k c = omega (arith, c.part_start-k-end.ensures.value, front_ends c.args.part c.requires)
