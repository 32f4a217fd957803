use Rattle.std.proofs.Common.{◌<◌, ◌≤◌, ◌^◌, get_or, sym, subst, ◌∙◌, arith}
use Rattle.trau_params.specs.Widths.{larc_widths}
use Rattle.trau_num.proofs.Fill.{fill_all}
use Rattle.rx_noise.specs.Mix.{mixture}
use Rattle.rx_noise.proofs.Mixing.{mixture-below, mixtures_by_places}
use Rattle.rx_noise.proofs.approach.ratios.Goals as goal

pub returns-clause-value : goal.returns-clause-value
returns-clause-value c =
    fill_all 0 (λ j. mixture c.args.i (get_or c.args.old.now j 0) (get_or c.args.new.now j 0))
    c.loop-j.larc 8 c.loop-j.j (omega arith) c.loop-j.invariant
    ∙ sym (mixtures_by_places c.args.i c.args.old.now c.args.new.now 8 c.told-old c.told-new)

pub returns-clause-fit : goal.returns-clause-fit
returns-clause-fit c = λ k h.
    let stop : 8 ≤ c.loop-j.j = omega arith in
    subst (λ v. v < 2 ^ get_or larc_widths k 0) (sym (c.loop-j.invariant.each k (omega arith)))
    (mixture-below c.args.i (get_or c.args.old.now k 0) (get_or c.args.new.now k 0) (2 ^ get_or larc_widths k 0) c.requires.steps
    (c.requires.old k h) (c.requires.new k h))
