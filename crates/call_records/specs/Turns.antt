-- A live call as its host records it, turn by turn, and the periods that these turns are for `trau run`. Lists have the
-- newest first.
use Rattle.std.specs.Prelude.{ℕ, ℤ, Bool, false, not, ◌&&◌, if◌then◌else◌, Option, Some, None, is_some, option_map, List, [], ◌∷◌, ◌++◌, map}
use Rattle.trau_orders.specs.declared.order.DtxMode.{DtxMode}
use Rattle.trau_orders.specs.declared.order.DtxMode.TheVariants.{On, Off}
use Rattle.call_leg.specs.Periods.{CallPeriod}
use Rattle.call_coders.specs.declared.coders.Record.{Record}
use Rattle.call_coders.specs.Lines.{OutAndDown}
use Rattle.run_spec.specs.Run.{item_of}

-- the partner of a turn in a bridge: its number, and the recorded octets of its Up line up to this period
pub record Partner : Type 0 where
  pub number : ℕ
  pub ups : List (List ℕ)

-- a turn: what is recorded of its period, the level and the DTX that it had, and its partner, if it was one of a pair
pub record Turn : Type 0 where
  pub recorded : Record
  pub level : ℤ
  pub dtx : Bool
  pub partner : Option Partner

-- the recorded octets of the Up line, period by period
abbrev pub ups_of_turns : List Turn → List (List ℕ)
ups_of_turns past = map (λ t. t.recorded.up) past

-- a turn outside of bridges
abbrev pub alone : Record → ℤ → Bool → Turn
alone recorded level dtx = record { recorded = recorded; level = level; dtx = dtx; partner = None }

-- One of a pair. The partner has this number and this record of the period, after its turns before.
abbrev pub paired : Record → ℤ → Bool → ℕ → Record → List Turn → Turn
paired recorded level dtx number other before = record {
  recorded = recorded;
  level = level;
  dtx = dtx;
  partner = Some (record { number = number; ups = other.up ∷ ups_of_turns before });
}

-- ---- as periods of `trau run`

-- whether the newest turn was one of a pair
abbrev pub is_paired : List Turn → Bool
is_paired [] = false
is_paired (t ∷ past) = is_some t.partner

-- a bridge starts with a pair's first turn
abbrev pub starts_bridge : Turn → List Turn → Bool
starts_bridge t past = is_some t.partner && not (is_paired past)

abbrev pub mode_of : Bool → DtxMode
mode_of dtx = if dtx then On else Off

-- In its bridge a turn is handed what a call of `trau run` with the partner's number and Up line hands over.
abbrev pub period_of_turn : Turn → List Turn → CallPeriod
period_of_turn t past = record {
  up = t.recorded.up;
  pcm = t.recorded.pcm;
  level = t.level;
  mode = mode_of t.dtx;
  starts = starts_bridge t past;
  handed = option_map (λ p. item_of p.number p.ups) t.partner;
}

abbrev pub periods_of : List Turn → List CallPeriod
periods_of [] = []
periods_of (t ∷ past) = period_of_turn t past ∷ periods_of past

-- ---- as whole lines, the first octet first

abbrev pub recorded_up : List Turn → List ℕ
recorded_up [] = []
recorded_up (t ∷ past) = recorded_up past ++ t.recorded.up

abbrev pub recorded_pcm : List Turn → List ℕ
recorded_pcm [] = []
recorded_pcm (t ∷ past) = recorded_pcm past ++ t.recorded.pcm

-- what is recorded of the outgoing lines
abbrev pub outgoing : List Turn → List OutAndDown
outgoing past = map (λ t. record { out = t.recorded.out; down = t.recorded.down }) past
