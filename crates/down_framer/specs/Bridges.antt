-- The periods that a call with bridges can have. Lists of periods have the newest first.
use Rattle.std.specs.Prelude.{◌≡◌, ◌||◌, true, Bool, false, None, List, [], ◌∷◌}
use Rattle.down_framer.specs.Made.{Period, handed_due, made_frames}

-- whether the newest period lies in a bridge
abbrev pub in_bridge : {A : Type 0} → List (Period A) → Bool
in_bridge [] = false
in_bridge (p ∷ past) = p.bridged

-- a bridge starts only when no handed frame waits, and goes on without a gap
abbrev pub IsHistory : {A : Type 0} → List (Period A) → Type 0
IsHistory [] = Unit {0}
IsHistory (p ∷ past) =
    IsHistory past × (p.starts ≡ true → handed_due past (made_frames past) ≡ None) × (p.bridged ≡ true → (p.starts || in_bridge past) ≡ true)

-- a period lies between any two bridges: a bridge starts only after a period outside of bridges, and goes on without a
-- gap
abbrev pub LeavePeriodsBetween : {A : Type 0} → List (Period A) → Type 0
LeavePeriodsBetween [] = Unit {0}
LeavePeriodsBetween (p ∷ past) =
    LeavePeriodsBetween past × (p.starts ≡ true → in_bridge past ≡ false) × (p.bridged ≡ true → (p.starts || in_bridge past) ≡ true)
