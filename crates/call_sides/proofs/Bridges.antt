-- Bridges that have periods.
use Rattle.std.proofs.Common.{◌≡◌, sym, ap, ◌∙◌, true, false, if◌then◌else◌, None, is_some, List, ◌∷◌, length, filter, inl, inr}
use Rattle.std.proofs.lemmas.Bool.{cases_Bool, true≢false}
use Rattle.std.proofs.lemmas.List.Elements.{All-head}
use Rattle.call_leg.specs.Periods.{CallPeriod, bridges_begun}
use Rattle.call_sides.specs.Received.{BridgesHavePeriods}

-- at a period outside of bridges none starts
pub starts-none : (t : CallPeriod) (past : List CallPeriod) → BridgesHavePeriods (t ∷ past) → t.handed ≡ None → t.starts ≡ false
starts-none t past h none = elim (cases_Bool t.starts) [
  | inl begins ↦ absurd (true≢false (sym (All-head (λ t. t.starts ≡ true → is_some t.handed ≡ true) t past h begins) ∙ ap is_some none))
  | inr ends ↦ ends
]

-- so as many have started after it as before it
pub begun-past : (t : CallPeriod) (past : List CallPeriod) → BridgesHavePeriods (t ∷ past) → t.handed ≡ None → bridges_begun (t ∷ past) ≡ bridges_begun past
begun-past t past h none =
    ap (λ b. length (if b then t ∷ filter (λ t. t.starts) past else filter (λ t. t.starts) past)) (starts-none t past h none)
