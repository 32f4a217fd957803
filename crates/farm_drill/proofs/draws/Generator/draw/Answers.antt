use Rattle.std.proofs.Common.{◌/◌, ◌^◌, sym, ap, ◌∙◌}
use Rattle.farm_drill.specs.Draws.{next}
use Rattle.farm_drill.proofs.Drawing.{state-more, wrapped-next}
use Rattle.farm_drill.proofs.draws.Generator.draw.Goals as goal

pub returns-clause-now : goal.returns-clause-now
returns-clause-now c = λ seed call n e. wrapped-next c.args.self.now.x ∙ ap next e ∙ sym (state-more seed call n)

pub returns-clause-draw : goal.returns-clause-draw
returns-clause-draw c =
    λ seed call n e. ap (λ x. x / 2 ^ 24) (wrapped-next c.args.self.now.x ∙ ap next e ∙ sym (state-more seed call n))
