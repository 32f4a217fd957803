use Rattle.std.proofs.Common.{ap, ◌∙◌, subst, List, ℕ}
use Rattle.call_pair.specs.Memory.{IoMemory}
use Rattle.round_lines.specs.Portions.{Drains, portion_from}
use Rattle.farm_rounds.proofs.open.drain_io.Goals as goal

pub returns-clause-drains : goal.returns-clause-drains
returns-clause-drains g c =
    let io = c.args.io.now in
    let was = c.args.lines.now in
    let stands = c.drain.new.self in
    let a = g.T.Trunk.lines c.args.trunk.now was.call in
    let b = g.T.Trunk.lines c.drain.new.trunk was.call in
    let down = c.deref.ensures.value ∙ ap (λ (i : IoMemory). i.down) c.io.view_is in
    let out = c.deref-2.ensures.value ∙ ap (λ (i : IoMemory). i.out) c.io.view_is in
    subst (λ (ds : List ℕ). Drains a b (portion_from was io.up io.pcm ds io.out) (portion_from stands io.up io.pcm ds io.out)) down
    (subst (λ (os : List ℕ). Drains a b (portion_from was io.up io.pcm c.deref.result.now os) (portion_from stands io.up io.pcm c.deref.result.now os)) out
    (c.drain.ensures.drains io.up io.pcm))
