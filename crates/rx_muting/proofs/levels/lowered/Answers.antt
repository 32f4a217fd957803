use Rattle.std.proofs.Common.{◌-◌, ◌*◌, ◌<◌, ◌≤◌, get_or, sym, ◌∙◌, arith, rules}
use Rattle.std.proofs.lemmas.List.Elements.{All-from_get_or}
use Rattle.trau_num.proofs.Fill.{fill_all}
use Rattle.rx_muting.specs.Muting.{muting_step}
use Rattle.rx_muting.proofs.Maxima.{lowered_by_places}
use Rattle.rx_muting.proofs.levels.lowered.Goals as goal

pub returns-clause-value : goal.returns-clause-value
returns-clause-value c =
    fill_all 0 (λ j. get_or c.args.xmaxc.now j 0 - muting_step * c.args.steps) c.loop-j.maxima 4 c.loop-j.j (omega arith) c.loop-j.invariant
    ∙ sym (lowered_by_places c.args.steps c.args.xmaxc.now 4 c.told-xmaxc)

pub returns-clause-fit : goal.returns-clause-fit
returns-clause-fit c =
    let count = c.loop-j.invariant.count in
    let stop : 4 ≤ c.loop-j.j = omega arith in
    let told = c.told-xmaxc in
    All-from_get_or (λ v. v < 64) c.loop-j.maxima 0
    (λ k h. let e = c.loop-j.invariant.each k (omega arith) in let f = c.requires.fit k 0 (omega arith) in omega arith)

pub loop-j-preserved : goal.loop-j-preserved
loop-j-preserved c = search rules
