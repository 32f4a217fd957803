-- For crates above: two halves that stand for one history make a leg that stands for it (`join-stands`).
-- The halves of a leg's period, on any memory that stands.
use Rattle.std.proofs.Common.{◌≡◌, sym, ap, subst, ℕ, Option, Some, None, is_some, List, ◌∷◌, length}
use Rattle.trau_params.specs.Bits260.{bits260}
use Rattle.rx_handler.specs.Origin.{EffectiveFields}
use Rattle.call_leg.specs.Who.{Who}
use Rattle.call_leg.specs.Uplink.{handed_fields}
use Rattle.call_leg.specs.Periods.{CallPeriod, effective_now}
use Rattle.call_leg.specs.Settings.{Settings, settings_later, period_with}
use Rattle.call_leg.specs.Out.{out_of}
use Rattle.call_leg.specs.Down.{down_now}
use Rattle.call_leg.specs.Memory.{DownMemory, LegMemory}
use Rattle.call_leg.specs.Places.{Halfway, Between}
use Rattle.call_leg.specs.Stands.{Stands, Midway}
use Rattle.call_leg.specs.Step.{with_down, after_handing, down_worked}
use Rattle.call_leg.specs.Halves.{UpMemory, up_of, joined, Note, up_turned, noted, up_worked, UpStands}
use Rattle.call_leg.proofs.Downlink.Laws.{half-stands}
use Rattle.call_leg.proofs.HalfLaws.{turn-stands, turn-note, turn-plays, noted-stands, handed-stands}

-- halves that stand at one period are a leg that stands there
pub join-stands : (who : Who) (ts : List CallPeriod) (now : Settings) (u : UpMemory) (d : DownMemory) → UpStands who ts now u → Between who ts now d →
    Stands who ts now (joined u d)
join-stands who ts now u d h k =
    record { up = record { law = h.law; search = h.search; rx = h.rx; decoder = h.decoder; counts = h.counts; bridged = k.bridged }; down = k }

-- **After the uplink half of a period the leg stands midway.**
pub up-stands : (who : Who) (ts : List CallPeriod) (now : Settings) (up : List ℕ) (m : LegMemory) → length up ≡ 40 → Stands who ts now m →
    Midway who ts now up None (up_worked m up).2
unfolding up_worked up_turned
up-stands who ts now up m l h = record {
  later = λ pcm given b. turn-stands who ts now up pcm given (up_of m) l b h.up;
  down = subst (λ (n : Note). Halfway who ts now up None (noted m.down n)) (sym (turn-note who ts now up (up_of m) l h.up))
      (noted-stands who ts now up m.down h.down);
}

-- the uplink half gives the call's effective frame
pub up-effective : (who : Who) (ts : List CallPeriod) (now : Settings) (up pcm : List ℕ) (handed : Option (List ℕ)) (m : LegMemory) → length up ≡ 40 →
    Stands who ts now m →
    (up_worked m up).0 ≡ effective_now who.number (period_with now up pcm handed ∷ ts)
unfolding up_worked
up-effective who ts now up pcm handed m l h = ap (λ (n : Note). n.eff) (turn-note who ts now up (up_of m) l h.up)

-- the uplink half gives the call's octets on Out
pub up-plays : (who : Who) (ts : List CallPeriod) (now : Settings) (up pcm : List ℕ) (handed : Option (List ℕ)) (m : LegMemory) → length up ≡ 40 →
    is_some handed ≡ now.bridged →
    Stands who ts now m → (up_worked m up).1 ≡ out_of who (period_with now up pcm handed ∷ ts)
unfolding up_worked
up-plays who ts now up pcm handed m l b h = turn-plays who ts now up pcm handed (up_of m) l b h.up

-- **The handing over of a partner's frame.**
pub handing-stands : (who : Who) (ts : List CallPeriod) (now : Settings) (up : List ℕ) (e : EffectiveFields) (m : LegMemory) → Midway who ts now up None m →
    Midway who ts now up (Some (bits260 (handed_fields e))) (with_down m (after_handing m.down e))
handing-stands who ts now up e m h = record { later = h.later; down = handed-stands who ts now up e m.down h.down }

-- **The downlink half of a period.**
pub down-stands : (who : Who) (ts : List CallPeriod) (now : Settings) (up pcm : List ℕ) (handed : Option (List ℕ)) (m : LegMemory) → length pcm ≡ 160 →
    is_some handed ≡ now.bridged →
    Midway who ts now up handed m → Stands who (period_with now up pcm handed ∷ ts) (settings_later now) (with_down m (down_worked m.down pcm).1)
    × ((down_worked m.down pcm).0 ≡ down_now who (period_with now up pcm handed ∷ ts))
down-stands who ts now up pcm handed m l b h =
    let half = half-stands who ts now up pcm handed m.down l b h.down in
    (join-stands who (period_with now up pcm handed ∷ ts) (settings_later now) (up_of m) (down_worked m.down pcm).1 (h.later pcm handed b) half.0, half.1)
