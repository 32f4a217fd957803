use Rattle.std.proofs.Common.{rules, ap, ◌∙◌}
use Rattle.std.specs.Global.{Box}
use Rattle.std.proofs.lemmas.List.Elements.{filter_from_retain}
use Rattle.farm_rounds.specs.declared.open.OpenCall.{OpenCall}
use Rattle.farm_rounds.specs.Opens.{opens_in, goes_on_open}
use Rattle.farm_rounds.proofs.Places.Boxes.{kept_values}
use Rattle.farm_rounds.proofs.calls.keep.Goals as goal

pub returns-clause-calls : goal.returns-clause-calls
returns-clause-calls c =
    ap opens_in (filter_from_retain _ (λ (b : Box OpenCall). goes_on_open b.value) (λ p x b q r. search rules) _ _ _ c.retain.ensures.filtered)
    ∙ kept_values c.args.calls.now.items
