-- The finished jobs of a round, by the history of their calls.
use Rattle.std.specs.Prelude.{◌≡◌}
use Rattle.call_leg.specs.Settings.{settings_at}
use Rattle.call_pair.specs.Memory.{HalfMemory, Job, One, Two}
use Rattle.call_pair.specs.History.{Start, settings_past, alone_periods, bridged_periods, HasWorked}

-- a half has processed all places of its call, which lies in no bridge
abbrev pub HasWorkedAlone : Start → HalfMemory → Type 0
HasWorkedAlone s h =
    HasWorked s s.io.given (alone_periods s.io.given s) (settings_at s.io.given s.now) h

-- a half has processed all places of call a, whose partner is b
abbrev pub HasWorkedBridged : Start → Start → HalfMemory → Type 0
HasWorkedBridged a b h = HasWorked a a.io.given (bridged_periods a.io.given a b)
    (settings_past a.io.given b.io.given a.now) h

-- the finished job of one call
pub record OneWorked (s : Start) (job : Job) : Type 0 where
  pub half : HalfMemory
  pub is_one : job ≡ One half
  pub worked : HasWorkedAlone s half

-- the finished job of the two calls of a bridge
pub record TwoWorked (a b : Start) (job : Job) : Type 0 where
  pub first : HalfMemory
  pub second : HalfMemory
  pub are_two : job ≡ Two first second
  pub first_worked : HasWorkedBridged a b first
  pub second_worked : HasWorkedBridged b a second
