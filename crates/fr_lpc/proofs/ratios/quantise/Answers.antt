use Rattle.std.proofs.Common.{ℕ, ◌<◌, ◌^◌, get_or, refl, arith, rules, FitsSigned, w16}
use Rattle.std.proofs.lemmas.Int.{to_z-of_z}
use Rattle.trau_num.proofs.Fill.{fill_none, fill_next, fill_all, each_next}
use Rattle.trau_num.specs.Num.{entry}
use Rattle.trau_params.specs.Widths.{larc_widths}
use Rattle.fr_lpc.specs.Ratios.{ratio_codes}
use Rattle.fr_lpc.proofs.ratios.quantise.Goals as goal

pub loop-i-init : goal.loop-i-init
loop-i-init c = record { filled = fill_none 0 _ _ 8 refl; widths = λ k l. absurd (omega arith) }

pub loop-i-preserved : goal.loop-i-preserved
loop-i-preserved c =
    let old = c.loop-i.invariant in
    let ratio : FitsSigned w16 (entry c.args.lar.now c.loop-i.i) = search rules in
    let value = rw (to_z-of_z w16 _ ratio) at c.code_at.ensures.value in
    record {
      filled = fill_next 0 _ c.loop-i.larc 8 c.loop-i.i _ c.loop-i-test.true old.filled value;
      widths = each_next (λ (k code : ℕ). code < 2 ^ get_or larc_widths k 0) 0 c.loop-i.larc c.loop-i.i c.code_at.result
          (omega (arith, old.filled.count)) c.code_at.ensures.width old.widths;
    }

pub returns-clause-value : goal.returns-clause-value
unfolding ratio_codes
returns-clause-value c = fill_all 0 _ c.loop-i.larc 8 c.loop-i.i c.loop-i-test.false c.loop-i.invariant.filled

pub returns-clause-widths : goal.returns-clause-widths
returns-clause-widths c = λ k l. c.loop-i.invariant.widths k (omega arith)
