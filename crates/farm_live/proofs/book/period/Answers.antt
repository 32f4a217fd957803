use Rattle.std.proofs.Common.{refl}
use Rattle.call_leg.specs.Settings.{new_settings}
use Rattle.farm_live.proofs.book.period.Goals as goal

pub returns-clause-worked : goal.returns-clause-worked
returns-clause-worked c who ts stands = (
  c.period.ensures.history who ts new_settings stands refl,
  c.period.ensures.out who ts new_settings stands refl,
  c.period.ensures.down who ts new_settings stands refl,
)
