-- The runs of a leg's two halves over n places, each with the octets of one period. If the leg is bridged, its bridge
-- ends at place m. The uplink half's run has the octets of the Up line, and gives notes. The downlink half's run has
-- notes, and no octets of the Up line. Lists of periods have the newest first.
use Rattle.std.specs.Prelude.{◌≡◌, ℕ, zero, suc, ◌<◌, ◌&&◌, nat_lt, if◌then◌else◌, Option, Some, None, is_some, List, [], ◌∷◌, ◌++◌, length, get_or}
use Rattle.trau_bits.specs.Bits.{octets_of}
use Rattle.trau_params.specs.Bits260.{bits260}
use Rattle.rx_handler.specs.Origin.{EffectiveFields, Quiet}
use Rattle.call_leg.specs.Who.{Who}
use Rattle.call_leg.specs.Uplink.{handed_fields}
use Rattle.call_leg.specs.Periods.{CallPeriod}
use Rattle.call_leg.specs.Settings.{Settings, settings_at, period_with}
use Rattle.call_leg.specs.Out.{out_of}
use Rattle.call_leg.specs.Down.{down_now}
use Rattle.call_leg.specs.Halves.{Note, note_in}
use Rattle.call_leg.specs.Noted.{NotedPeriod, noted_with, noted_periods}
use Rattle.call_leg.specs.Noted as by_notes

-- the history of a leg: its call, its periods so far, and the settings for the next one
pub record LegHistory : Type 0 where
  pub who : Who
  pub past : List CallPeriod
  pub now : Settings

-- the periods after the first k places, with these octets of the incoming lines and these bits handed over in each
abbrev pub periods_run : LegHistory → (ℕ → List ℕ) → (ℕ → List ℕ) → (ℕ → Option (List ℕ)) → ℕ → List CallPeriod
periods_run h ups pcms handed zero = h.past
periods_run h ups pcms handed (suc k) = period_with (settings_at k h.now) (ups k) (pcms k) (handed k) ∷ periods_run h ups pcms handed k

-- their octets of the Out line, the oldest first
abbrev pub outs_run : LegHistory → (ℕ → List ℕ) → (ℕ → List ℕ) → (ℕ → Option (List ℕ)) → ℕ → List ℕ
outs_run h ups pcms handed zero = []
outs_run h ups pcms handed (suc k) = outs_run h ups pcms handed k ++ out_of h.who (periods_run h ups pcms handed (suc k))

-- their octets of the Down line, the oldest first
abbrev pub downs_run : LegHistory → (ℕ → List ℕ) → (ℕ → List ℕ) → (ℕ → Option (List ℕ)) → ℕ → List ℕ
downs_run h ups pcms handed zero = []
downs_run h ups pcms handed (suc k) = downs_run h ups pcms handed k ++ octets_of (down_now h.who (periods_run h ups pcms handed (suc k)))

-- ---- the uplink half

-- If the leg is bridged, bits are handed over in each place before m; otherwise, and from m on, none are.
abbrev pub EndsAt : LegHistory → ℕ → ℕ → (ℕ → Option (List ℕ)) → Type 0
EndsAt h m n handed = (k : ℕ) → k < n → is_some (handed k) ≡ (h.now.bridged && nat_lt k m)

-- The run of an uplink half: the n notes and the Out octets for these octets of the Up line after the leg's history,
-- whatever its Pcm line has and whatever frames are handed over.
pub record UpRun (h : LegHistory) (ups : ℕ → List ℕ) (m n : ℕ) (notes : List Note) (octets : List ℕ) : Type 0 where
  pub all : length notes ≡ n
  pub told : (pcms : ℕ → List ℕ) (handed : ℕ → Option (List ℕ)) → EndsAt h m n handed → (k : ℕ) (none : Note) → k < n →
      get_or notes k none ≡ note_in h.who.number (periods_run h ups pcms handed k) (ups k)
  pub out : (pcms : ℕ → List ℕ) (handed : ℕ → Option (List ℕ)) → EndsAt h m n handed → octets ≡ outs_run h ups pcms handed n

-- ---- the downlink half

-- What is handed over in place k: the bits of its item, if the leg is bridged. The bridge ends at the place after the
-- last item's.
abbrev pub handed_run : LegHistory → List EffectiveFields → ℕ → Option (List ℕ)
handed_run h items k = if h.now.bridged && nat_lt k (length items) then Some (bits260 (handed_fields (get_or items k Quiet))) else None

-- the default where there is no note
abbrev pub no_note : Note
no_note = record { eff = Quiet; ask = 0; dtx = None }

-- the periods of the downlink half after the first k places, with the note of each
abbrev pub noted_run : LegHistory → List Note → List EffectiveFields → (ℕ → List ℕ) → ℕ → List NotedPeriod
noted_run h notes items pcms zero = noted_periods h.who.number h.past
noted_run h notes items pcms (suc k) = noted_with (settings_at k h.now) (get_or notes k no_note) (pcms k) (handed_run h items k)
    ∷ noted_run h notes items pcms k

-- the octets of the Down line that these periods give, the oldest first
abbrev pub noted_downs : LegHistory → List Note → List EffectiveFields → (ℕ → List ℕ) → ℕ → List ℕ
noted_downs h notes items pcms zero = []
noted_downs h notes items pcms (suc k) = noted_downs h notes items pcms k
    ++ octets_of (by_notes.down_now h.who.law (noted_run h notes items pcms (suc k)))

-- The run of a downlink half: the Down octets for these n notes, items and octets of the Pcm line after the leg's
-- history.
pub record DownRun (h : LegHistory) (notes : List Note) (items : List EffectiveFields) (pcms : ℕ → List ℕ) (n : ℕ) (octets : List ℕ) : Type 0 where
  pub all : length notes ≡ n
  pub down : octets ≡ noted_downs h notes items pcms n

-- ---- both halves

-- the notes are those of these octets of the Up line, as an uplink half's run has them
abbrev pub AreNotes : LegHistory → (ℕ → List ℕ) → (ℕ → List ℕ) → List EffectiveFields → ℕ → List Note → Type 0
AreNotes h ups pcms items n notes = (k : ℕ) (none : Note) → k < n → get_or notes k none ≡ note_in h.who.number (periods_run h ups pcms (handed_run h items) k)
    (ups k)
