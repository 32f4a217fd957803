-- The Down line of a call by the transmit side of the C library. Lists have the newest period and the newest frame
-- first.
use Rattle.std.specs.Prelude.{◌≡◌, ℕ, ◌*◌, pos, Bool, true, not, ◌&&◌, if◌then◌else◌, Option, Some, None, is_none, IfSome, option_map, All, List, [], ◌∷◌}
use Rattle.std.specs.Prelude.{◌++◌, length, map, replicate}
use Rattle.trau_alaw.specs.declared.Law.{Law}
use Rattle.trau_alaw.specs.Period.{expanded}
use Rattle.trau_frame.specs.declared.frames.DownFrame.{DownFrame}
use Rattle.trau_frame.specs.declared.frames.DownFrame.TheVariants as down
use Rattle.trau_frame.specs.DownFrame.{down_bits}
use Rattle.time_align.specs.Shift.{shift_of}
use Rattle.down_framer.specs.Bridges.{IsHistory}
use Rattle.rx_handler.specs.Origin.{is_quiet}
use Rattle.fr_sides.specs.Receiving.{effective_now}
use Rattle.fr_sides.specs.Sending.{SenderPeriod, sender_period, sent_now}
use Rattle.call_leg.specs.Who.{Who}
use Rattle.call_leg.specs.Periods.{CallPeriod, quiet_now, handed_in, bridges_begun, dtx_now, level_now}
use Rattle.call_leg.specs.Down.{CallFrame, down_periods, samples_of, coded_stretch, speech}
use Rattle.call_sides.specs.Received.{receiver_periods, BridgesHavePeriods}

-- ---- frame by frame

-- what the transmit side gets of a made frame: its samples, and the level and DTX in force
abbrev pub period_of_frame : Law → CallFrame → SenderPeriod
period_of_frame law f = sender_period (samples_of law f) (level_now f.load) (dtx_now f.load)

-- The newest frame: its handed bits with SP 1, if it carries some; else idle, if its period is quiet; else what the
-- transmit side, from home on over the coded frames of its stretch, sends for it.
abbrev pub frame_sent : Who → List CallFrame → DownFrame
frame_sent who [] = down.Idle
frame_sent who (f ∷ fs) = elim f.carries [
  | Some h ↦ down.Speech (handed_in h f.load) true
  | None ↦ if quiet_now who.number f.load then down.Idle else speech
      (sent_now (period_of_frame who.law f) (map (period_of_frame who.law) (coded_stretch who.number f.epoch fs)))
]

-- ---- period by period, if no shift is asked for

-- an alignment field that asks for no shift, or none
abbrev pub AsksNoShift : Option ℕ → Type 0
AsksNoShift field = IfSome field (λ a. shift_of a ≡ None)

-- Each period has 160 octets of the Pcm line, no alignment field asks for a shift, and bridges go on without a gap and
-- have periods.
pub record AreUnshifted (ts : List CallPeriod) : Type 0 where
  pub pcms : All (λ t. length t.pcm ≡ 160) ts
  pub fields : All AsksNoShift (map (λ p. p.field) (down_periods ts))
  pub bridges : IsHistory (down_periods ts)
  pub begun : BridgesHavePeriods ts

-- the frame that a period makes: of the period's own octets, or with what is handed over in it
abbrev pub period_frame : CallPeriod → List CallPeriod → CallFrame
period_frame t past = record {
  start = 160 * length past;
  period = length past;
  shift = pos 0;
  carries = option_map (λ item. length past) t.handed;
  epoch = bridges_begun (t ∷ past);
  load = t ∷ past;
}

abbrev pub frames_by_period : List CallPeriod → List CallFrame
frames_by_period [] = []
frames_by_period (t ∷ past) = period_frame t past ∷ frames_by_period past

-- whether the receive side is quiet after a period
abbrev pub is_quiet_in : Who → CallPeriod → List CallPeriod → Bool
is_quiet_in who t past = is_quiet (effective_now who.number (receiver_periods (t ∷ past)))

-- what the transmit side gets of a period: its octets of the Pcm line, expanded by the call's law, and the level and
-- DTX in force
abbrev pub own_period : Law → CallPeriod → List CallPeriod → SenderPeriod
own_period law t past = sender_period (expanded law t.pcm) t.level (dtx_now (t ∷ past))

-- The periods since the transmit side was at home. It is at home before the first period, and after each one that is
-- quiet or lies in a bridge.
abbrev pub sender_periods : Who → List CallPeriod → List SenderPeriod
sender_periods who [] = []
sender_periods who (t ∷ past) =
    if is_none t.handed && not (is_quiet_in who t past) then own_period who.law t past ∷ sender_periods who past else []

-- The frame of a period: what is handed over in it, with SP 1; else idle, if it is quiet; else what the transmit side
-- sends.
abbrev pub frame_in : Who → CallPeriod → List CallPeriod → DownFrame
frame_in who t past = elim t.handed [
  | Some item ↦ down.Speech item true
  | None ↦ if is_quiet_in who t past then down.Idle else speech (sent_now (own_period who.law t past) (sender_periods who past))
]

-- the bits of the frames of all periods, the first bit first
abbrev pub bits_sent : Who → List CallPeriod → List ℕ
bits_sent who [] = []
bits_sent who (t ∷ past) = bits_sent who past ++ down_bits (frame_in who t past)

-- the whole line: 320 ones, and then the frame of each period but the newest
abbrev pub line_sent : Who → List CallPeriod → List ℕ
line_sent who [] = []
line_sent who (t ∷ past) = replicate 320 1 ++ bits_sent who past
