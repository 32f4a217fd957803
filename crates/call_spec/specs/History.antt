-- The call of a history of periods. A history has the newest period first.
use Rattle.std.specs.Prelude.{◌≡◌, ℕ, ◌+◌, if◌then◌else◌, Option, Some, None, List, [], ◌∷◌, ◌++◌, length, reverse, All}
use Rattle.down_framer.specs.Bridges.{IsHistory}
use Rattle.call_leg.specs.Who.{Who}
use Rattle.call_leg.specs.Periods.{CallPeriod, pcm_of}
use Rattle.call_leg.specs.Down.{down_periods}
use Rattle.call_spec.specs.Call.{Call, Setting, Span}

-- each period has 40 octets of the Up line and 160 of the Pcm line; a bridge starts only while no handed frame waits,
-- and goes on without a gap
pub record IsCallHistory (ts : List CallPeriod) : Type 0 where
  pub ups : All (λ t. length t.up ≡ 40) ts
  pub pcms : All (λ t. length t.pcm ≡ 160) ts
  pub bridges : IsHistory (down_periods ts)

-- the Up line so far
abbrev pub up_in_history : List CallPeriod → List ℕ
up_in_history [] = []
up_in_history (t ∷ past) = up_in_history past ++ t.up

-- the settings in force in each period, the oldest first
abbrev pub setting_of : CallPeriod → Setting
setting_of t = record { level = t.level; mode = t.mode }

abbrev pub settings_of : List CallPeriod → List Setting
settings_of [] = []
settings_of (t ∷ past) = settings_of past ++ setting_of t ∷ []

-- a span that starts at period k, with what is handed over in it
abbrev pub new_span : ℕ → Option (List ℕ) → Span
new_span k None = record { from = k; to = k; items = [] }
new_span k (Some item) = record { from = k; to = k + 1; items = item ∷ [] }

-- the latest span continues if an item is handed over
abbrev pub go_on : Option (List ℕ) → List Span → List Span
go_on None spans = spans
go_on (Some item) [] = []
go_on (Some item) (span ∷ before) = record { from = span.from; to = span.to + 1; items = span.items ++ item ∷ [] } ∷ before

-- the spans, the latest first: one starts where the history says so, and continues while items are handed over
abbrev pub spans_in_history : List CallPeriod → List Span
spans_in_history [] = []
spans_in_history (t ∷ past) = if t.starts then new_span (length past) t.handed ∷ spans_in_history past else go_on t.handed (spans_in_history past)

-- the call with this number, law and history
abbrev pub call_of_history : Who → List CallPeriod → Call
call_of_history who ts = record { who = who; up = up_in_history ts; pcm = pcm_of ts; settings = settings_of ts; spans = reverse (spans_in_history ts) }
