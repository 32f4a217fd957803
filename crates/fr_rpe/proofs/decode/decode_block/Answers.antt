use Rattle.std.proofs.Common.{◌≡◌, ◌<◌, get_or, pos, arith, rules, ap, ◌∙◌, FitsSigned, w16}
use Rattle.std.proofs.lemmas.Int.{to_z-of_z}
use Rattle.std.proofs.lemmas.List.FromFn.{fill_by_all, get_or-map-range_with_len}
use Rattle.fr_rpe.specs.Scale.{scale_of}
use Rattle.fr_rpe.specs.Pulses.{on_grid, pulse_of, block_of}
use Rattle.fr_rpe.proofs.Grid.{place_start, place_next}
use Rattle.fr_rpe.proofs.decode.decode_block.Goals as goal

pub loop-i-init : goal.loop-i-init
loop-i-init c = place_start c.args.mc _

pub loop-i-preserved : goal.loop-i-preserved
loop-i-preserved c =
    let code : get_or c.args.xmc.now c.loop-i.i 0 < 8 = search rules in
    let pulse : FitsSigned w16 (get_or c.pulses_by_code-pulses.result (get_or c.args.xmc.now c.loop-i.i 0) (pos 0)) = search rules in
    place_next c.args.mc c.loop-i.i _ c.loop-i.ep _ c.requires.grid c.loop-i-test.true c.loop-i.invariant
    (simp to_z-of_z
    (ap (λ xs. get_or xs (get_or c.args.xmc.now c.loop-i.i 0) (pos 0)) c.pulses_by_code-pulses.ensures ∙
    get_or-map-range_with_len (pulse_of (scale_of c.args.xmaxc)) 0 8 (get_or c.args.xmc.now c.loop-i.i 0) (get_or c.args.xmc.now c.loop-i.i 0) (pos 0) code
    (omega arith)))

pub returns : goal.returns
unfolding block_of
returns c =
    fill_by_all (on_grid c.args.mc (λ i. pulse_of (scale_of c.args.xmaxc) (get_or c.args.xmc.now i 0))) c.loop-i.ep 40 (pos 0) c.loop-i.invariant.count
    (let e : c.loop-i.i ≡ 13 = omega arith in let h = rw e at c.loop-i.invariant in h.each)
