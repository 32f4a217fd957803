use Rattle.std.proofs.Common.{◌≡◌, ◌+◌, pos, map, to_z, of_z, w32, FitsSigned, sym, subst, ap, ◌∙◌, arith, rules}
use Rattle.std.proofs.lemmas.Int.{to_z-of_z}
use Rattle.std.proofs.lemmas.Simd.{Each1-get_or}
use Rattle.std.specs.Int.{int_max}
use Rattle.std.specs.Simd.Lanes.{zip2, chunk}
use Rattle.trau_num.specs.Num.{entry}
use Rattle.trau_lanes.proofs.Eight.{lanes_kept}
use Rattle.fr_long.proofs.Tops.{AreTops, start_of, tops_next, lane_next, top_is, ord_max_is}
use Rattle.fr_long.proofs.lag.greatest.Goals as goal

pub loop-group-preserved : goal.loop-group-preserved
loop-group-preserved c =
    let xs = c.args.correlations.now in
    let tops = map (to_z w32) c.loop-group.tops in
    let next = tops_next xs tops c.loop-group.group c.told-correlations c.requires c.loop-group.invariant in
    let place : c.min.result ≡ start_of c.loop-group.group = search rules in
    let row = lanes_kept w32 c.eight.result c.eight.ensures.longs ∙ c.eight.ensures.value ∙ ap (λ n. chunk n 8 xs) place in
    let e : c.greater-tops.result ≡ zip2 int_max tops (chunk (start_of c.loop-group.group) 8 xs) = c.greater-tops.ensures ∙ ap (zip2 int_max tops) row in
    let kept = ap (λ zs. map (to_z w32) (map (of_z w32) zs)) e ∙ lanes_kept w32 _ next.longs in
    subst (λ zs. AreTops xs zs (c.loop-group.group + 1)) (sym kept) next

pub loop-lane-preserved : goal.loop-lane-preserved
loop-lane-preserved c =
    let tops = map (to_z w32) c.loop-group.tops in
    let are = c.loop-group.invariant in
    let eight = are.eight in
    let lane : FitsSigned w32 (entry tops c.loop-lane.lane) = Each1-get_or (FitsSigned w32) tops c.loop-lane.lane (pos 0) (omega arith) are.longs in
    let r : FitsSigned w32 c.max-top.result = search rules in
    let e = to_z-of_z w32 c.max-top.result r ∙ c.max-top.ensures ∙
    ord_max_is (to_z w32 c.loop-lane.top-bits) (to_z w32 (of_z w32 (entry tops c.loop-lane.lane))) ∙
    ap (int_max (to_z w32 c.loop-lane.top-bits)) (to_z-of_z w32 (entry tops c.loop-lane.lane) lane) in
    lane_next c.args.correlations.now tops
    (to_z w32 c.loop-lane.top-bits) c.loop-lane.lane c.loop-group.group _ c.loop-lane-test.true are c.loop-lane.invariant e

pub returns : goal.returns
returns c = top_is c.args.correlations.now _ _ c.loop-lane.lane c.loop-group.group c.loop-lane-test.false c.loop-group-test.false c.loop-group.invariant
    c.loop-lane.invariant
