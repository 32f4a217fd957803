-- For crates above: a downlink half that runs by the uplink's notes gives the octets of the call's Down line
-- (`run-downs`).
-- The runs of the halves of a leg: what the notes of the one make of the other.
use Rattle.std.proofs.Common.{◌≡◌, refl, ap, ◌∙◌, ◌&&◌, ℕ, zero, suc, ◌≤◌, nat_lt, Bool, true, false, if◌then◌else◌, Some, None, is_some}
use Rattle.std.proofs.Common.{List, ◌∷◌, ◌++◌, length, get_or, arith}
use Rattle.trau_bits.specs.Bits.{octets_of}
use Rattle.trau_params.specs.Bits260.{bits260}
use Rattle.rx_handler.specs.Origin.{EffectiveFields, Quiet}
use Rattle.call_leg.specs.Uplink.{handed_fields}
use Rattle.call_leg.specs.Settings.{settings_at}
use Rattle.call_leg.specs.Halves.{Note, note_in}
use Rattle.call_leg.specs.Noted.{NotedPeriod, noted_with, noted_periods}
use Rattle.call_leg.specs.Noted as by_notes
use Rattle.call_leg.specs.Runs.{LegHistory, EndsAt, UpRun, AreNotes, periods_run, outs_run, downs_run, handed_run, no_note, noted_run, noted_downs}
use Rattle.call_leg.proofs.Noted.{down-noted}

-- ---- the bridge of a downlink half ends at the place that is the number of items

pub run-ends : (h : LegHistory) (items : List EffectiveFields) (n : ℕ) → EndsAt h (length items) n (handed_run h items)
run-ends h items n k l = if-some (h.now.bridged && nat_lt k (length items)) (bits260 (handed_fields (get_or items k Quiet)))
  where
    if-some : (b : Bool) (x : List ℕ) → is_some (if b then Some x else None) ≡ b
    if-some true x = refl
    if-some false x = refl

-- an uplink half's run has the notes that its octets give
pub run-notes : (h : LegHistory) (ups pcms : ℕ → List ℕ) (items : List EffectiveFields) (n : ℕ) (notes : List Note) (outs : List ℕ) →
    UpRun h ups (length items) n notes outs → AreNotes h ups pcms items n notes
run-notes h ups pcms items n notes outs u = u.told pcms (handed_run h items) (run-ends h items n)

-- an uplink half's run has the octets of the call's Out line
pub run-outs : (h : LegHistory) (ups pcms : ℕ → List ℕ) (items : List EffectiveFields) (n : ℕ) (notes : List Note) (outs : List ℕ) →
    UpRun h ups (length items) n notes outs → outs ≡ outs_run h ups pcms (handed_run h items) n
run-outs h ups pcms items n notes outs u = u.out pcms (handed_run h items) (run-ends h items n)

-- ---- the downlink half

module _ (h : LegHistory) (ups pcms : ℕ → List ℕ) (items : List EffectiveFields) (n : ℕ) (notes : List Note) (a : AreNotes h ups pcms items n notes) where
  -- its periods are those of the call, with these octets of the Up line
  run-periods : (k : ℕ) → k ≤ n → noted_run h notes items pcms k ≡ noted_periods h.who.number (periods_run h ups pcms (handed_run h items) k)
  run-periods zero le = refl
  run-periods (suc k) le =
      ap (λ (note : Note). noted_with (settings_at k h.now) note (pcms k) (handed_run h items k) ∷ noted_run h notes items pcms k)
      (a k no_note (omega arith))
      ∙ ap (λ (ts : List NotedPeriod). noted_with (settings_at k h.now) (note_in h.who.number (periods_run h ups pcms (handed_run h items) k) (ups k)) (pcms k)
      (handed_run h items k) ∷ ts) (run-periods k (omega arith))

  -- a downlink half's run has the octets of the call's Down line
  pub run-downs : (k : ℕ) → k ≤ n → noted_downs h notes items pcms k ≡ downs_run h ups pcms (handed_run h items) k
  run-downs zero le = refl
  run-downs (suc k) le =
      let before = downs_run h ups pcms (handed_run h items) k in
      ap (λ (xs : List ℕ). xs ++ octets_of (by_notes.down_now h.who.law (noted_run h notes items pcms (suc k)))) (run-downs k (omega arith))
      ∙ ap (λ (ts : List NotedPeriod). before ++ octets_of (by_notes.down_now h.who.law ts)) (run-periods (suc k) le)
      ∙ ap (λ (bits : List ℕ). before ++ octets_of bits) (down-noted h.who (periods_run h ups pcms (handed_run h items) (suc k)))
