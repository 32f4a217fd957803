use Rattle.std.proofs.Common.{◌∙◌, ap, sym, subst, List, ℕ}
use Rattle.std.specs.Prelude.{is_some}
use Rattle.farm_rounds.specs.Memory.{FarmMemory}
use Rattle.farm_rounds.specs.Numbers.{IsRising, is_among}
use Rattle.farm_rounds.specs.Calls.{call_in}
use Rattle.farm_rounds.specs.Opens.{opens_in}
use Rattle.farm_rounds.proofs.Orders.Acts.{among_open}
use Rattle.farm_rounds.proofs.farm.Farm.live_calls.Goals as goal

pub returns-clause-calls : goal.returns-clause-calls
returns-clause-calls c d =
    ap (λ (ns : List ℕ). is_among ns d) (c.as_slice.ensures.value ∙ c.self.invariant.0.listed)
    ∙ among_open (opens_in c.self.inside.calls.open.items) d
    ∙ ap (λ (f : FarmMemory). is_some (call_in f.calls d)) c.self.view_is

pub returns-clause-rising : goal.returns-clause-rising
returns-clause-rising c = subst IsRising (sym c.as_slice.ensures.value) c.self.invariant.0.rising
