use Rattle.std.proofs.Common.{◌≡◌, ◌+◌, ◌-◌, pos, arith, ap, sym, subst, ◌∙◌, ◌*ℤ◌, ◌++◌, get_or, add-zero, length}
use Rattle.std.specs.Simd.Lanes.{Each1}
use Rattle.std.proofs.lemmas.List.{length-map}
use Rattle.fr_long.specs.Lag.{correlation_of}
use Rattle.trau_lanes.specs.Lanes.{sums_of_pairs}
use Rattle.trau_lanes.proofs.LaneDots.{Within}
use Rattle.fr_long.proofs.Lanes.{kept, both_passed, both_is, both_within, both_length, four_totals, four_lanes}
use Rattle.fr_long.proofs.correlations.four.Goals as goal

pub both-front-requires-clause-small : goal.both-front-requires-clause-small
both-front-requires-clause-small c = both_passed 167772160 _ _ (omega arith) c.lag_sums-first.ensures.small c.lag_sums-second.ensures.small

pub both-back-requires-clause-small : goal.both-back-requires-clause-small
both-back-requires-clause-small c = both_passed 167772160 _ _ (omega arith) c.lag_sums-third.ensures.small c.lag_sums-fourth.ensures.small

pub both-requires-clause-small : goal.both-requires-clause-small
both-requires-clause-small c =
    let front = both_is 167772160 c.lag_sums-first.result c.lag_sums-second.result c.both-front.result
    (omega arith) c.lag_sums-first.ensures.small c.lag_sums-second.ensures.small c.both-front.ensures in
    let back = both_is 167772160 c.lag_sums-third.result c.lag_sums-fourth.result c.both-back.result
    (omega arith) c.lag_sums-third.ensures.small c.lag_sums-fourth.ensures.small c.both-back.ensures in
    both_passed 335544320 c.both-front.result c.both-back.result (omega arith)
    (both_within 167772160 _ _ _ c.lag_sums-first.ensures.small c.lag_sums-second.ensures.small front)
    (both_within 167772160 _ _ _ c.lag_sums-third.ensures.small c.lag_sums-fourth.ensures.small back)

pub returns-clause-small : goal.returns-clause-small
returns-clause-small c =
    let front = both_is 167772160 c.lag_sums-first.result c.lag_sums-second.result c.both-front.result
    (omega arith) c.lag_sums-first.ensures.small c.lag_sums-second.ensures.small c.both-front.ensures in
    let back = both_is 167772160 c.lag_sums-third.result c.lag_sums-fourth.result c.both-back.result
    (omega arith) c.lag_sums-third.ensures.small c.lag_sums-fourth.ensures.small c.both-back.ensures in
    let fw = both_within 167772160 _ _ _ c.lag_sums-first.ensures.small c.lag_sums-second.ensures.small front in
    let bw = both_within 167772160 _ _ _ c.lag_sums-third.ensures.small c.lag_sums-fourth.ensures.small back in
    let whole = both_is 335544320 c.both-front.result c.both-back.result c.both.result (omega arith) fw bw c.both.ensures in
    let ww = both_within 335544320 _ _ _ fw bw whole in
    subst (Each1 (Within 671088640)) (sym (kept 671088640 c.both.result (omega arith) ww)) ww

pub returns-clause-length : goal.returns-clause-length
returns-clause-length c =
    let front = both_is 167772160 c.lag_sums-first.result c.lag_sums-second.result c.both-front.result
    (omega arith) c.lag_sums-first.ensures.small c.lag_sums-second.ensures.small c.both-front.ensures in
    let back = both_is 167772160 c.lag_sums-third.result c.lag_sums-fourth.result c.both-back.result
    (omega arith) c.lag_sums-third.ensures.small c.lag_sums-fourth.ensures.small c.both-back.ensures in
    let fw = both_within 167772160 _ _ _ c.lag_sums-first.ensures.small c.lag_sums-second.ensures.small front in
    let bw = both_within 167772160 _ _ _ c.lag_sums-third.ensures.small c.lag_sums-fourth.ensures.small back in
    let whole = both_is 335544320 c.both-front.result c.both-back.result c.both.result (omega arith) fw bw c.both.ensures in
    let ww = both_within 335544320 _ _ _ fw bw whole in
    ap length (kept 671088640 c.both.result (omega arith) ww) ∙
    both_length c.both-front.result c.both-back.result c.both.result (both_length _ _ _ c.lag_sums-first.ensures.length c.lag_sums-second.ensures.length front)
    (both_length _ _ _ c.lag_sums-third.ensures.length c.lag_sums-fourth.ensures.length back) whole

pub returns-clause-value : goal.returns-clause-value
returns-clause-value c =
    let front = both_is 167772160 c.lag_sums-first.result c.lag_sums-second.result c.both-front.result
    (omega arith) c.lag_sums-first.ensures.small c.lag_sums-second.ensures.small c.both-front.ensures in
    let back = both_is 167772160 c.lag_sums-third.result c.lag_sums-fourth.result c.both-back.result
    (omega arith) c.lag_sums-third.ensures.small c.lag_sums-fourth.ensures.small c.both-back.ensures in
    let fw = both_within 167772160 _ _ _ c.lag_sums-first.ensures.small c.lag_sums-second.ensures.small front in
    let bw = both_within 167772160 _ _ _ c.lag_sums-third.ensures.small c.lag_sums-fourth.ensures.small back in
    let whole = both_is 335544320 c.both-front.result c.both-back.result c.both.result (omega arith) fw bw c.both.ensures in
    let ww = both_within 335544320 _ _ _ fw bw whole in
    let totals = kept 671088640 c.both.result (omega arith) ww ∙ whole ∙ ap (λ zs. sums_of_pairs (zs ++ c.both-back.result)) front ∙
    ap (λ zs. sums_of_pairs (sums_of_pairs (c.lag_sums-first.result ++ c.lag_sums-second.result) ++ zs)) back ∙
    four_totals c.lag_sums-first.result c.lag_sums-second.result c.lag_sums-third.result c.lag_sums-fourth.result c.lag_sums-first.ensures.length
    c.lag_sums-second.ensures.length c.lag_sums-third.ensures.length c.lag_sums-fourth.ensures.length in
    let w = c.args.wt.now in
    let e = c.args.earlier.now in
    let one : 120 - (c.args.start - 1) ≡ 120 - c.args.start + 1 = omega arith in
    let two : 120 - (c.args.start - 2) ≡ 120 - c.args.start + 2 = omega arith in
    let three : 120 - (c.args.start - 3) ≡ 120 - c.args.start + 3 = omega arith in
    λ k h. subst (λ zs. get_or zs k (pos 0) *ℤ pos 2 ≡ correlation_of w e (120 - c.args.start + k)) (sym totals)
    (four_lanes (λ k v. v *ℤ pos 2 ≡ correlation_of w e (120 - c.args.start + k)) _ _ _ _
    (c.lag_sums-first.ensures.value ∙ ap (correlation_of w e) (sym (add-zero (120 - c.args.start))))
    (c.lag_sums-second.ensures.value ∙ ap (correlation_of w e) one) (c.lag_sums-third.ensures.value ∙ ap (correlation_of w e) two)
    (c.lag_sums-fourth.ensures.value ∙ ap (correlation_of w e) three) k h)

pub lag_sums-first-requires : goal.lag_sums-first-requires
lag_sums-first-requires c = record { scaled = c.requires.scaled; words = c.requires.words; at_most = omega arith }

pub lag_sums-second-requires : goal.lag_sums-second-requires
lag_sums-second-requires c = record { scaled = c.requires.scaled; words = c.requires.words; at_most = omega arith }

pub lag_sums-third-requires : goal.lag_sums-third-requires
lag_sums-third-requires c = record { scaled = c.requires.scaled; words = c.requires.words; at_most = omega arith }

pub lag_sums-fourth-requires : goal.lag_sums-fourth-requires
lag_sums-fourth-requires c = record { scaled = c.requires.scaled; words = c.requires.words; at_most = omega arith }

pub both-front-requires-clause-length_a : goal.both-front-requires-clause-length_a
both-front-requires-clause-length_a c = simp length-map c.lag_sums-first.ensures.length

pub both-front-requires-clause-length_b : goal.both-front-requires-clause-length_b
both-front-requires-clause-length_b c = simp length-map c.lag_sums-second.ensures.length

pub both-back-requires-clause-length_a : goal.both-back-requires-clause-length_a
both-back-requires-clause-length_a c = simp length-map c.lag_sums-third.ensures.length

pub both-back-requires-clause-length_b : goal.both-back-requires-clause-length_b
both-back-requires-clause-length_b c = simp length-map c.lag_sums-fourth.ensures.length

pub both-requires-clause-length_a : goal.both-requires-clause-length_a
both-requires-clause-length_a c =
    let front = both_is 167772160 c.lag_sums-first.result c.lag_sums-second.result c.both-front.result
    (omega arith) c.lag_sums-first.ensures.small c.lag_sums-second.ensures.small c.both-front.ensures in
    simp length-map (both_length c.lag_sums-first.result c.lag_sums-second.result c.both-front.result c.lag_sums-first.ensures.length
    c.lag_sums-second.ensures.length front)

pub both-requires-clause-length_b : goal.both-requires-clause-length_b
both-requires-clause-length_b c =
    let back = both_is 167772160 c.lag_sums-third.result c.lag_sums-fourth.result c.both-back.result
    (omega arith) c.lag_sums-third.ensures.small c.lag_sums-fourth.ensures.small c.both-back.ensures in
    simp length-map (both_length c.lag_sums-third.result c.lag_sums-fourth.result c.both-back.result c.lag_sums-third.ensures.length
    c.lag_sums-fourth.ensures.length back)
