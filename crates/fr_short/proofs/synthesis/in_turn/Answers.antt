use Rattle.std.proofs.Common.{◌≡◌, arith, map, to_z, of_z, w16, refl, sym, ap, ◌∙◌, FitsSigned, get_or, pos}
use Rattle.std.proofs.lemmas.Int.{to_z-of_z}
use Rattle.std.proofs.lemmas.Simd.{Each1-get_or}
use Rattle.trau_num.specs.Num.{sub_of}
use Rattle.trau_lanes.proofs.Eight.{words_kept, words_passed}
use Rattle.fr_short.specs.Lanes.{words_behind}
use Rattle.fr_short.proofs.Behind.{found_next, found_all, behind_eight}
use Rattle.fr_short.proofs.synthesis.in_turn.Goals as goal

pub loop-i-init : goal.loop-i-init
loop-i-init c = record { long = sym (words_passed c.args.steps c.requires).eight; found = refl }

pub loop-i-preserved : goal.loop-i-preserved
loop-i-preserved c =
    let passed = words_passed c.args.steps c.requires in
    let steps = map (to_z w16) (map (of_z w16) c.args.steps) in
    let eight = passed.eight in
    let step : FitsSigned w16 (get_or steps c.loop-i.i (pos 0)) = Each1-get_or (FitsSigned w16) steps c.loop-i.i (pos 0) (omega arith) passed.words in
    let r : FitsSigned w16 c.sub-s.result = record { sfits = c.sub-s.type_inv } in
    let e = to_z-of_z w16 c.sub-s.result r ∙ c.sub-s.ensures ∙ ap (sub_of (to_z w16 c.loop-i.s-bits)) (to_z-of_z w16 (get_or steps c.loop-i.i (pos 0)) step) in
    found_next _ steps c.loop-i.words (to_z w16 c.loop-i.s-bits) _ c.loop-i.i (omega arith) c.loop-i.invariant e

pub returns : goal.returns
returns c =
    let passed = words_passed c.args.steps c.requires in
    let eight = passed.eight in
    let all = found_all _ _ c.loop-i.words _ c.loop-i.i (omega arith) c.loop-i.invariant in
    let s = to_z-of_z w16 c.args.sample c.ranges.sample in
    let steps = words_kept c.args.steps c.requires in
    let e : c.loop-i.words ≡ words_behind c.args.sample c.args.steps = all ∙ (λ i. words_behind (s i) (steps i)) in
    ap (λ zs. map (to_z w16) (map (of_z w16) zs)) e ∙ words_kept _ (behind_eight c.args.sample c.args.steps c.requires.eight)
