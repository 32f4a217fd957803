-- The Out line of a call by the receive side of the C library. Lists have the newest period first.
use Rattle.std.specs.Prelude.{◌≡◌, ℕ, Bool, true, is_some, All, List, [], ◌∷◌, ◌++◌}
use Rattle.trau_alaw.specs.Period.{compressed}
use Rattle.rx_handler.specs.Heard.{Heard}
use Rattle.fr_sides.specs.Receiving.{ReceiverPeriod, samples_now}
use Rattle.call_leg.specs.Who.{Who}
use Rattle.call_leg.specs.Uplink.{heard_as}
use Rattle.call_leg.specs.Periods.{CallPeriod, sighting_after}

-- what is heard in a period, and whether it lies in a bridge
abbrev pub receiver_period : Heard → Bool → ReceiverPeriod
receiver_period heard handed = record { heard = heard; handed = handed }

-- what the receive side gets in each period
abbrev pub receiver_periods : List CallPeriod → List ReceiverPeriod
receiver_periods [] = []
receiver_periods (t ∷ past) = receiver_period (heard_as (sighting_after past t.up)) (is_some t.handed) ∷ receiver_periods past

-- Each bridge has a period at least: the one at which it starts. (Without one it only resets the codecs, for which the
-- receive side has no operation.)
abbrev pub BridgesHavePeriods : List CallPeriod → Type 0
BridgesHavePeriods ts = All (λ t. t.starts ≡ true → is_some t.handed ≡ true) ts

-- the octets of the newest period, by the call's law
abbrev pub octets_received : Who → List CallPeriod → List ℕ
octets_received who ts = compressed who.law (samples_now who.number (receiver_periods ts))

-- the whole line
abbrev pub line_received : Who → List CallPeriod → List ℕ
line_received who [] = []
line_received who (t ∷ past) = line_received who past ++ octets_received who (t ∷ past)
