use Rattle.std.proofs.Common.{◌≡◌, ◌+◌, ◌<◌, ◌≤◌, ap, sym, subst, arith, ◌∙◌, reverse, length, get_or, pos, refl, FitsSigned, w16, to_z, of_z, rules, ℕ, ℤ}
use Rattle.std.proofs.Common.{List}
use Rattle.std.proofs.lemmas.Int.{to_z-of_z}
use Rattle.std.proofs.lemmas.List.{reverse-reverse, length-map}
use Rattle.trau_lanes.specs.Lanes.{EightFactors}
use Rattle.trau_lanes.proofs.Eight.{words_kept, words_passed, factors_passed}
use Rattle.fr_short.specs.Reflection.{coefficients_of, coefficients_at, part_of, part_start}
use Rattle.fr_short.specs.Synthesis.{filtered_samples}
use Rattle.fr_short.specs.Deemphasis.{last_of}
use Rattle.fr_short.specs.Stepped.{stepped_through}
use Rattle.fr_short.specs.Words.{AreEightFactors}
use Rattle.fr_short.proofs.Behind.{turned_factors, turned_back}
use Rattle.fr_short.proofs.Parts.{in_part, parts_follow, frame_ends}
use Rattle.fr_short.proofs.Runs.{Run, run_start, run_next, run_end}
use Rattle.fr_short.proofs.synthesis.filter_by.Goals as goal

eight : (old new : List ℤ) (p : ℕ) → length (coefficients_of old new p) ≡ 8
unfolding coefficients_of
eight old new p = refl

-- the coefficients of a part, turned and turned back
factors_of : (xs rs ys : List ℤ) → xs ≡ ys → length ys ≡ 8 → AreEightFactors xs → rs ≡ reverse xs → EightFactors rs
factors_of xs rs ys e l f er = subst EightFactors (sym er) (turned_factors xs (ap length e ∙ l) f)

pub loop-part-init : goal.loop-part-init
unfolding part_start
loop-part-init g c =
    let e = ap reverse (words_kept c.backwards-vs.result c.backwards-vs.ensures.words ∙ c.backwards-vs.ensures.value) ∙ reverse-reverse c.args.sections.now in
    record {
      run = subst (λ vs. Run g.S.Step.next (coefficients_at c.args.old.now c.args.new.now) c.args.sections.now c.args.d.now
          (to_z w16 (of_z w16 c.args.before)) vs (to_z w16 (of_z w16 c.args.before)) c.args.made.now 0) (sym e)
          (run_start _ _ _ _ _ _ (c.told-made ∙ sym c.told-d));
      words = words_passed _ c.backwards-vs.ensures.words;
    }

pub loop-k-init : goal.loop-k-init
loop-k-init g c = record { run = rw c.part_start-k.ensures.value c.loop-part.invariant.run; words = c.loop-part.invariant.words }

pub pass-requires-clause-factors : goal.pass-requires-clause-factors
pass-requires-clause-factors g c =
    let p = c.loop-part.part in
    let l = c.loop-part-test.true in
    factors_passed c.backwards-rs.result (factors_of _ _ _ (c.parts-parts.ensures.value p l) (eight _ _ p)
    (c.parts-parts.ensures.factors p l) c.backwards-rs.ensures.value)

pub pass-requires-clause-words : goal.pass-requires-clause-words
pass-requires-clause-words g c = c.loop-k.invariant.words

pub loop-k-preserved : goal.loop-k-preserved
loop-k-preserved g c =
    let low : part_start c.loop-part.part ≤ c.loop-k.k = omega arith in
    let high : c.loop-k.k < part_start (c.loop-part.part + 1) = omega arith in
    let here : part_of c.loop-k.k ≡ c.loop-part.part = in_part c.loop-part.part c.loop-k.k c.loop-part-test.true low high in
    let r = ap reverse (words_kept c.backwards-rs.result c.backwards-rs.ensures.words ∙ c.backwards-rs.ensures.value) ∙ reverse-reverse _ ∙
    c.parts-parts.ensures.value c.loop-part.part c.loop-part-test.true ∙ ap (coefficients_of c.args.old.now c.args.new.now) (sym here) in
    let fx : FitsSigned w16 (get_or c.args.d.now c.loop-k.k (pos 0)) = search rules in
    let fp : FitsSigned w16 c.pass.result = search rules in
    let y = to_z-of_z w16 (get_or c.args.d.now c.loop-k.k (pos 0)) fx in
    let x = to_z-of_z w16 c.pass.result fp ∙ c.pass.ensures.value in
    let vs = ap reverse (words_kept c.pass.new.vs c.pass.ensures.words) ∙ c.pass.ensures.sections in
    let fd : FitsSigned w16 c.next-last.result = search rules in
    let m = to_z-of_z w16 c.next-last.result fd ∙ c.next-last.ensures in
    record {
      run = run_next _ _ _ c.args.d.now _ _ _ c.loop-k.made _ c.loop-k.k _ _ _ _ (omega arith) c.loop-k.invariant.run r y x vs m;
      words = words_passed _ c.pass.ensures.words;
    }

pub loop-part-preserved : goal.loop-part-preserved
loop-part-preserved g c =
    let follow : part_start c.loop-part.part ≤ part_start (c.loop-part.part + 1) = parts_follow c.loop-part.part c.loop-part-test.true in
    let end : c.loop-k.k ≡ part_start (c.loop-part.part + 1) = omega arith in
    record { run = rw (← end) c.loop-k.invariant.run; words = c.loop-k.invariant.words }

pub returns-clause-samples : goal.returns-clause-samples
returns-clause-samples g c =
    let end = frame_ends c.loop-part.part c.loop-part-test.false in
    let out : List ℤ = (filtered_samples (coefficients_at c.args.old.now c.args.new.now) 0 c.args.sections.now c.args.d.now).0 in
    (run_end _ _ _ c.args.d.now _ _ _ _ _ (omega arith) c.loop-part.invariant.run).0 ∙
    ap (λ b. stepped_through g.S.Step.next b out) (to_z-of_z w16 c.args.before c.ranges.before)

pub returns-clause-sections : goal.returns-clause-sections
returns-clause-sections g c =
    let end = frame_ends c.loop-part.part c.loop-part-test.false in
    let long : length c.loop-part.vs ≡ 8 = sym (length-map c.loop-part.vs (to_z w16)) ∙ c.loop-part.invariant.words.eight in
    turned_back c.loop-part.vs long ∙ (run_end _ _ _ c.args.d.now _ _ _ _ _ (omega arith) c.loop-part.invariant.run).2

pub returns-clause-last : goal.returns-clause-last
returns-clause-last g c =
    let end = frame_ends c.loop-part.part c.loop-part-test.false in
    let out : List ℤ = (filtered_samples (coefficients_at c.args.old.now c.args.new.now) 0 c.args.sections.now c.args.d.now).0 in
    (run_end _ _ _ c.args.d.now _ _ _ _ _ (omega arith) c.loop-part.invariant.run).1 ∙
    ap (λ b. last_of b (stepped_through g.S.Step.next b out)) (to_z-of_z w16 c.args.before c.ranges.before)
