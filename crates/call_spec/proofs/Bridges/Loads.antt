-- For crates above: each made frame is placed in a period of its history (`ArePlaced`, `placed`).
use Rattle.std.proofs.Common.{◌≡◌, refl, sym, ◌∙◌, subst, inl, inr, ℕ, ◌+◌, ◌*◌, ◌<◌, ◌≤◌, Bool, true, false, if◌then◌else◌, nat_le, Option, Some, None, List}
use Rattle.std.proofs.Common.{[], ◌∷◌, ◌++◌, length, arith, append_assoc}
use Rattle.std.proofs.lemmas.Bool.{cases_lt, cond_both, leb-true}
use Rattle.down_framer.specs.Made.{Period, MadeFrame, next_start, latest_start, hands_at, made_from, handed_due, next_frame, grown}
use Rattle.down_framer.specs.ByNumber.{when}
use Rattle.down_framer.proofs.Timing.{AreMade-made_frames, next_start-grown}
use Rattle.down_framer.proofs.Due.{hands_at-late}
use Rattle.call_leg.specs.Periods.{CallPeriod, bridges_begun}
use Rattle.call_leg.specs.Down.{CallFrame, down_period, down_periods, frames_of}
use Rattle.call_leg.proofs.Downlink.Enter.{length-down_periods}
use Rattle.call_leg.proofs.Downlink.Step.{begun-same}
use Rattle.call_spec.proofs.Ranges.{IsPeriod}

-- the frame is made in the period that brings its last octet, has that period as its load and carries an item up to it
pub record IsPlaced (ts : List CallPeriod) (f : CallFrame) : Type 0 where
  pub period : CallPeriod
  pub past : List CallPeriod
  pub is_period : IsPeriod ts period past
  pub load : f.load ≡ period ∷ past
  pub at : when f.start ≡ length past
  pub epoch : f.epoch ≡ bridges_begun (period ∷ past)
  pub item : (h : ℕ) → f.carries ≡ Some h → h ≤ length past

abbrev pub ArePlaced : List CallPeriod → List CallFrame → Type 0
ArePlaced ts [] = Unit {0}
ArePlaced ts (f ∷ fs) = IsPlaced ts f × ArePlaced ts fs

-- what is due is of a period so far
due-below : {A : Type 0} (ps : List (Period A)) (fs : List (MadeFrame A)) (h : ℕ) → handed_due ps fs ≡ Some h → h < length ps
due-below ps fs h e = by (latest_start ps) e
  where
    some_if : (b : Bool) (k : ℕ) → (if b then Some k else None) ≡ Some h → (b ≡ true) × (k ≡ h)
    some_if true k e = (refl, let q : k ≡ h = cc in q)
    some_if false k e = let q : None ≡ Some h = e in cc

    by : (o : Option ℕ) → (elim o as (λ x. Option ℕ) [ None ↦ None | Some s ↦ let h = s + made_from s fs in if hands_at h ps then Some h else None ]) ≡ Some h →
        h < length ps
    by None e = cc
    by (Some s) e =
        let found = some_if (hands_at (s + made_from s fs) ps) (s + made_from s fs) e in
        elim (cases_lt h (length ps)) [
          | inl below ↦ below
          | inr above ↦
              let same = found.1 in
              let none = hands_at-late ps (s + made_from s fs) (omega arith) in
              let q : true ≡ false = sym found.0 ∙ none in cc
        ]

placed-next : (ts : List CallPeriod) (t : CallPeriod) (past : List CallPeriod) (fs : List CallFrame) → IsPeriod ts t past →
    160 * length past < next_start fs + 160 → next_start fs ≤ 160 * length past → IsPlaced ts (next_frame (down_period t past) (down_periods past) fs)
placed-next ts t past fs p low up =
    let n = length-down_periods past in
    record {
      period = t;
      past = past;
      is_period = p;
      load = refl;
      at = omega arith;
      epoch = begun-same (t ∷ past);
      item = λ h e. let below = due-below (down_periods (t ∷ past)) fs h e in omega arith;
    }

placed-grown : (ts : List CallPeriod) (t : CallPeriod) (past : List CallPeriod) (fs : List CallFrame) → IsPeriod ts t past →
    160 * length past < next_start fs + 160 → ArePlaced ts fs → ArePlaced ts (grown (down_period t past) (down_periods past) fs)
placed-grown ts t past fs p low h =
    let n = length-down_periods past in
    cond_both (nat_le (next_start fs) (160 * length (down_periods past))) (next_frame (down_period t past) (down_periods past) fs ∷ fs) fs (ArePlaced ts)
    (λ yes. let up = leb-true (next_start fs) (160 * length (down_periods past)) yes in (placed-next ts t past fs p low (omega arith), h))
    (λ no. h)

placed-so_far : (later ts : List CallPeriod) → ArePlaced (later ++ ts) (frames_of ts)
placed-so_far later [] = tt
placed-so_far later (t ∷ past) =
    let a = AreMade-made_frames (down_periods past) in
    let low = a.low in
    let n = length-down_periods past in
    let next = next_start-grown (down_period t past) (down_periods past) (frames_of past) in
    let p : IsPeriod (later ++ t ∷ past) t past = (later, refl) in
    let before : ArePlaced (later ++ t ∷ past) (frames_of past) =
    subst (λ us. ArePlaced us (frames_of past)) (append_assoc later (t ∷ []) past) (placed-so_far (later ++ t ∷ []) past) in
    placed-grown (later ++ t ∷ past) t past (grown (down_period t past) (down_periods past) (frames_of past)) p (omega arith)
    (placed-grown (later ++ t ∷ past) t past (frames_of past) p (omega arith) before)

pub placed : (ts : List CallPeriod) → ArePlaced ts (frames_of ts)
placed ts = placed-so_far [] ts
