use Rattle.std.proofs.Common.{◌+◌, pos, get_or, replicate, refl, rules, FitsSigned, w16, w32}
use Rattle.std.proofs.lemmas.Int.{to_z-of_z}
use Rattle.fr_pre.proofs.Shifted.{shifted_start, shifted_next}
use Rattle.fr_pre.proofs.passes.compensate.Goals as goal

pub loop-k-init : goal.loop-k-init
loop-k-init c = shifted_start _ _ (replicate 161 (pos 0)) 160 refl

pub loop-k-preserved : goal.loop-k-preserved
loop-k-preserved c =
    let f1 : FitsSigned w16 (get_or c.args.so.now (c.loop-k.k + 1) (pos 0)) = search rules in
    let f2 : FitsSigned w32 (get_or c.args.offsets.now c.loop-k.k (pos 0)) = search rules in
    let f3 : FitsSigned w16 c.without_offset.result = record { sfits = c.without_offset.type_inv } in
    let value = rw (to_z-of_z w16 _ f1, to_z-of_z w32 _ f2) at c.without_offset.ensures in
    rw (to_z-of_z w16 _ f3) (shifted_next _ _ c.loop-k.sof 160 c.loop-k.k c.without_offset.result c.loop-k-test.true c.loop-k.invariant value)
