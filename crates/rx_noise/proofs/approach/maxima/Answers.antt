use Rattle.std.proofs.Common.{◌<◌, ◌≤◌, get_or, sym, subst, ◌∙◌, arith}
use Rattle.std.proofs.lemmas.List.Elements.{All-from_get_or}
use Rattle.trau_num.proofs.Fill.{fill_all}
use Rattle.rx_noise.specs.Mix.{mixture}
use Rattle.rx_noise.proofs.Mixing.{mixture-below, mixtures_by_places}
use Rattle.rx_noise.proofs.approach.maxima.Goals as goal

pub returns-clause-value : goal.returns-clause-value
returns-clause-value c =
    fill_all 0 (λ j. mixture c.args.i (get_or c.args.old.now j 0) (get_or c.args.new.now j 0))
    c.loop-j.xmaxc 4 c.loop-j.j (omega arith) c.loop-j.invariant
    ∙ sym (mixtures_by_places c.args.i c.args.old.now c.args.new.now 4 c.told-old c.told-new)

pub returns-clause-fit : goal.returns-clause-fit
returns-clause-fit c =
    let count = c.loop-j.invariant.count in
    let stop : 4 ≤ c.loop-j.j = omega arith in
    let old = c.told-old in
    let new = c.told-new in
    All-from_get_or (λ v. v < 64) c.loop-j.xmaxc 0
    (λ k h. subst (λ v. v < 64) (sym (c.loop-j.invariant.each k (omega arith)))
    (mixture-below c.args.i (get_or c.args.old.now k 0) (get_or c.args.new.now k 0) 64 c.requires.steps
    (c.requires.old k 0 (omega arith)) (c.requires.new k 0 (omega arith))))
