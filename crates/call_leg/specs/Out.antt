-- The Out line of a call: its uplink, decoded (GSM 06.10; when nothing is decoded is this project's profile). Lists
-- have the newest period first.
use Rattle.std.specs.Prelude.{ℕ, Bool, if◌then◌else◌, not, ◌&&◌, ◌==◌, is_some, List, [], ◌∷◌, ◌++◌, replicate}
use Rattle.trau_alaw.specs.declared.Law.{Law}
use Rattle.trau_alaw.specs.Laws.{idle_of}
use Rattle.trau_alaw.specs.Period.{compressed}
use Rattle.trau_params.specs.Fields.{Fields}
use Rattle.fr_decoder.specs.Decoded.{samples_of}
use Rattle.rx_handler.specs.Origin.{EffectiveFields, Quiet, Speech, Made}
use Rattle.call_leg.specs.Who.{Who}
use Rattle.call_leg.specs.Periods.{CallPeriod, effective_now, bridges_begun}

-- The stretch up to a period: `before` and this frame if the period is plain, else empty. It is plain if it isn't quiet
-- and `same` holds: it lies in no bridge, and none has started since.
abbrev pub plain_with : EffectiveFields → Bool → List Fields → List Fields
plain_with Quiet same before = []
plain_with (Speech p) same before = if same then p ∷ before else []
plain_with (Made p) same before = if same then p ∷ before else []

-- the frames of the periods after the last one that isn't plain, and since the start of the latest bridge; `epoch`
-- bridges have started
abbrev pub plain_stretch : ℕ → ℕ → List CallPeriod → List Fields
plain_stretch call epoch [] = []
plain_stretch call epoch (t ∷ past) =
    plain_with (effective_now call (t ∷ past)) (not (is_some t.handed) && bridges_begun (t ∷ past) == epoch) (plain_stretch call epoch past)

-- the octets of a period in which a line with this law is idle (this project's profile)
abbrev pub idle_octets : Law → List ℕ
idle_octets law = replicate 160 (idle_of law)

-- the octets of the newest frame of a stretch, decoded from the reset state over the whole stretch; idle if there is
-- none
abbrev pub decoded_octets : Law → List Fields → List ℕ
decoded_octets law [] = idle_octets law
decoded_octets law (p ∷ before) = compressed law (samples_of p before)

-- the 160 octets of the newest period: decoded if it is plain, else idle by the call's law
abbrev pub out_of : Who → List CallPeriod → List ℕ
out_of who ts = decoded_octets who.law (plain_stretch who.number (bridges_begun ts) ts)

-- the Out line of a call after these periods, the first octet first
abbrev pub out_line : Who → List CallPeriod → List ℕ
out_line who [] = []
out_line who (t ∷ past) = out_line who past ++ out_of who (t ∷ past)
