use Rattle.std.proofs.Common.{sym, ap, ◌∙◌, not, ◌&&◌, length}
use Rattle.std.specs.Prelude.{◌==◌}
use Rattle.call_leg.specs.Memory.{DownMemory}
use Rattle.call_leg.proofs.halves.DownLeg.draining.Goals as goal

pub returns-then-not-self : goal.returns-then-not-self
returns-then-not-self c =
    ap not c.is_empty.ensures ∙ sym (ap (λ z. not z && not (length c.self.inside.side.waiting.items == 0)) c.if-not-self.true)
    ∙ ap (λ (d : DownMemory). not d.bridged && not (length d.waiting == 0)) c.self.view_is
