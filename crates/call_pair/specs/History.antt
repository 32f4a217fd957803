-- What a round adds to the history of a call. Lists have the newest period first.
use Rattle.std.specs.Prelude.{◌≡◌, ℕ, zero, suc, ◌*◌, nat_lt, if◌then◌else◌, Option, Some, None, List, [], ◌∷◌, ◌++◌, drop}
use Rattle.trau_alaw.specs.declared.Law.{Law}
use Rattle.trau_bits.specs.Bits.{octets_of}
use Rattle.trau_params.specs.Bits260.{bits260}
use Rattle.call_leg.specs.Who.{Who}
use Rattle.call_leg.specs.Uplink.{handed_fields}
use Rattle.call_leg.specs.Periods.{CallPeriod, effective_now}
use Rattle.call_leg.specs.Settings.{Settings, settings_at, without_bridge, period_with}
use Rattle.call_leg.specs.Out.{out_of}
use Rattle.call_leg.specs.Down.{down_now}
use Rattle.call_leg.specs.Stands.{Stands}
use Rattle.call_pair.specs.Memory.{IoMemory, HalfMemory, IsIo}
use Rattle.call_pair.specs.Periods.{up_at, pcm_at}

-- a call at the start of a round: its law, its periods so far, the settings for the next one, and its octets
pub record Start : Type 0 where
  pub law : Law
  pub past : List CallPeriod
  pub now : Settings
  pub io : IoMemory

-- the number and law of a call
abbrev pub who_of : Start → Who
who_of s = record { number = s.io.call; law = s.law }

-- the period of place k, with the bits that are handed over in it
abbrev pub period_at : ℕ → Start → Option (List ℕ) → CallPeriod
period_at k s handed = period_with (settings_at k s.now) (up_at k s.io) (pcm_at k s.io) handed

-- ---- a call that lies in no bridge

-- the periods of such a call after the first k places
abbrev pub alone_periods : ℕ → Start → List CallPeriod
alone_periods zero s = s.past
alone_periods (suc k) s = period_at k s None ∷ alone_periods k s

-- ---- a call with a partner

-- What a call hands over in place k, after these periods: the bits of its effective frame, if it has that place. The
-- effective frame depends on the octets of the Up line alone, so the period is taken with nothing handed to it.
abbrev pub handed_at : ℕ → Start → List CallPeriod → Option (List ℕ)
handed_at k s ts = if nat_lt k s.io.given
    then Some (bits260 (handed_fields (effective_now s.io.call (period_at k s None ∷ ts))))
    else None

-- the periods of call a, whose partner is b, after its first k places
abbrev pub bridged_periods : ℕ → Start → Start → List CallPeriod
bridged_periods zero a b = a.past
bridged_periods (suc k) a b =
    period_at k a (handed_at k b (bridged_periods k b a)) ∷ bridged_periods k a b

-- the settings after k places, where the partner has `others`: the bridge is off once k is greater
abbrev pub settings_past : ℕ → ℕ → Settings → Settings
settings_past k others now =
    if nat_lt others k then without_bridge (settings_at k now) else settings_at k now

-- ---- the octets

-- the octets of the Out line in the newest k of these periods, the oldest first
abbrev pub outs_of : Who → ℕ → List CallPeriod → List ℕ
outs_of who zero ts = []
outs_of who (suc k) [] = []
outs_of who (suc k) (t ∷ past) = outs_of who k past ++ out_of who (t ∷ past)

-- the octets of the Down line
abbrev pub downs_of : Who → ℕ → List CallPeriod → List ℕ
downs_of who zero ts = []
downs_of who (suc k) [] = []
downs_of who (suc k) (t ∷ past) = downs_of who k past ++ octets_of (down_now who (t ∷ past))

-- The octets of this call after its first k places, whose periods are the newest of these: Out and Down begin with the
-- octets of the periods, and are unchanged after them.
abbrev pub io_after : Who → ℕ → List CallPeriod → IoMemory → IoMemory
io_after who k ts io = record {
  call = io.call;
  up = io.up;
  pcm = io.pcm;
  out = outs_of who k ts ++ drop (160 * k) io.out;
  down = downs_of who k ts ++ drop (40 * k) io.down;
  given = io.given;
  done = k;
}

-- ---- a half

-- a half at the beginning of a round
pub record Begins (s : Start) (h : HalfMemory) : Type 0 where
  pub octets : IsIo s.io
  pub none_done : s.io.done ≡ 0
  pub io : h.io ≡ s.io
  pub leg : Stands (who_of s) s.past s.now h.leg

-- a half has processed k places, after which the call has these periods
pub record HasWorked (s : Start) (k : ℕ) (ts : List CallPeriod) (now : Settings)
    (h : HalfMemory) : Type 0 where
  pub io : h.io ≡ io_after (who_of s) k ts s.io
  pub leg : Stands (who_of s) ts now h.leg
