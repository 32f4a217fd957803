use Rattle.std.proofs.Common.{sym, ap, ◌∙◌, ◌*◌, length}
use Rattle.trau_bits.specs.Bits.{octets_of}
use Rattle.run_spec.specs.Run.{who_in}
use Rattle.call_leg.specs.Out.{out_line}
use Rattle.call_spec.specs.Whole.{periods_of_call}
use Rattle.run_spec.specs.Lines.{down_octets}
use Rattle.call_leg.proofs.LineLaws.{length-down_line}
use Rattle.run_spec.proofs.Parts.LongerLines.{length-periods_to}
use Rattle.run_calls_spec.specs.Whole.{count_in, whole_call}
use Rattle.run_calls_spec.proofs.Periods.{is_whole, history_same}
use Rattle.run_calls_spec.proofs.laws.lines_are_of_whole_calls.Goals as goal

pub returns-clause-out : goal.returns-clause-out
returns-clause-out g = λ r c a o.
    ap (out_line (who_in r c)) (sym (history_same r c a)) ∙ g.a_call_by_its_periods.ensures.out (whole_call r c) (is_whole r c a o)

pub returns-clause-down : goal.returns-clause-down
returns-clause-down g = λ r c a o.
    ap (down_octets (who_in r c)) (sym (history_same r c a)) ∙ ap octets_of (g.a_call_by_its_periods.ensures.down (whole_call r c) (is_whole r c a o))

pub returns-clause-long : goal.returns-clause-long
returns-clause-long g = λ r c a o.
    ap length (sym (g.a_call_by_its_periods.ensures.down (whole_call r c) (is_whole r c a o)))
    ∙ length-down_line (who_in r c) (periods_of_call (whole_call r c)) ∙ ap (λ ts. 320 * length ts) (history_same r c a)
    ∙ ap (λ n. 320 * n) (length-periods_to r c (count_in r c))
