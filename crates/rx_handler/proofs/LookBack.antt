-- A look back over numbered periods finds what a history with the newest period first tells.
use Rattle.std.proofs.Common.{◌≡◌, refl, ap, ◌∙◌, sym, ℕ, ◌+◌, ◌-◌, ◌≤◌, min, zero, suc, Bool, true, false, if◌then◌else◌, Option, Some, None, List, [], ◌∷◌}
use Rattle.std.proofs.Common.{◌++◌, length, arith, inl, inr}
use Rattle.std.specs.Prelude.{◌==◌, slice_get, reverse}
use Rattle.std.specs.Option.{option_map_or}
use Rattle.std.proofs.lemmas.Bool.{cases_lt}
use Rattle.std.proofs.lemmas.List.{length-reverse}
use Rattle.std.proofs.lemmas.Option.{slice_get-get_or, slice_get_past}
use Rattle.std.proofs.lemmas.Grind.{reverse_onto}
use Rattle.std.proofs.Math.Seq.{get_or-append_seam}
use mathlib.Core.List.{reverse_aux}
use Rattle.trau_params.specs.Fields.{Fields}
use Rattle.rx_muting.specs.Draws.{draws_from}
use Rattle.rx_subst.specs.Lost.{silent_from_lost}
use Rattle.rx_noise.specs.Mix.{approach_steps, mix_of}
use Rattle.rx_noise.specs.Noise.{silent_from_fall}
use Rattle.rx_handler.specs.Profile.{fall_from_missed}
use Rattle.rx_handler.specs.Heard.{Heard, Good, Sid, Idle, Lost}
use Rattle.rx_handler.specs.Origin.{GoodFrame, LostFrame, NoFrame, NoiseFrame, frame_of, draws_of}
use Rattle.rx_handler.specs.Effective.{is_anchor, latest_anchor, missed_since, fall_at, approached_at, start_after, approach_start_at, origin_after, origin_at, draws_before}
use Rattle.rx_handler.specs.Effective.{effective_at, heard_in}
use Rattle.rx_handler.specs.Past.{Anchor, AtGood, anchor_of, periods_of_fall, approached_of, start_from, approach_start_of, origin_from, origin_of, draw_count, effective_of}
use Rattle.rx_handler.proofs.Missed.{Counted, begun_same}
use Rattle.rx_handler.proofs.Anchors.{periods_before, Since, TellsAt, Tells, tells}

-- ---- what the frame is made from

-- the fall
fall_same : (k : ℕ) (since : List Heard) (missed : List ℕ) → Counted k since missed →
    option_map_or (λ t. min (k - t + 1) silent_from_fall) (slice_get missed (fall_from_missed - 1)) 0 ≡
    min (periods_of_fall since) silent_from_fall
fall_same k since missed s = elim (cases_lt (length missed) fall_from_missed) [
  | inl few ↦
      let fall = s.before few in
      let none = slice_get_past missed (fall_from_missed - 1) (omega arith) in
      rw none (omega arith)
  | inr enough ↦
      let fall = s.from enough in
      let periods = fall.0 in
      let some = slice_get-get_or missed (fall_from_missed - 1) 0 (omega arith) in
      rw some (ap (λ n. min n silent_from_fall) (sym periods))
]

-- the frame of a good speech frame's row
good_same : (p : Fields) (k g : ℕ) (since : List Heard) → g ≤ k → length since ≡ k - g →
    (old : Fields → Fields) → (if g == k then GoodFrame p else LostFrame p (min (k - g) silent_from_lost)) ≡ origin_from old (AtGood p since)
good_same p k g [] h e old = let same : (g == k) ≡ true = grind arith in rw same
good_same p k g (y ∷ since) h e old =
    let other : (g == k) ≡ false = grind arith in
    let count : k - g ≡ suc (length since) = sym e in rw (other, count)

-- how far the noise has moved
moved_same : (old q : Fields) (k g : ℕ) (since : List Heard) → length since ≡ k - g → approached_at old q g k ≡ approached_of old q since
moved_same old q k g since e = ap (λ n. mix_of old q (min (n + 1) approach_steps)) (sym e)

-- from where a further descriptor is approached, by the anchor before
start_same_at : (heard : ℕ → Heard) (k : ℕ) (now past : Fields → Fields) (q : Fields) (g : ℕ) (y : Heard) (a : Anchor) → ((r : Fields) → now r ≡ past r) →
    TellsAt heard k g y a → start_after heard k now q g y ≡ start_from a past q
unfolding TellsAt fall_at
start_same_at heard k now past q g (Good p) a e t = ap (λ a. start_from a past q) (sym t.1)
start_same_at heard k now past q g (Sid r) a e t =
    let since : Since heard k g t.0 = t.2 in
    ap (λ f. if f == 0 then approached_at (now r) r g k else q) (fall_same k t.0 (missed_since heard g k) since.counted) ∙
    ap (λ b. if b then approached_at (now r) r g k else q) (begun_same (periods_of_fall t.0)) ∙
    ap (λ old. if periods_of_fall t.0 == 0 then approached_at old r g k else q) (e r) ∙
    ap (λ base. if periods_of_fall t.0 == 0 then base else q) (moved_same (past r) r k g t.0 since.count) ∙
    ap (λ a. start_from a past q) (sym t.1)
start_same_at heard k now past q g Idle a e t = ap (λ a. start_from a past q) (sym t)
start_same_at heard k now past q g (Lost missed) a e t = absurd t

start_same : (heard : ℕ → Heard) (k : ℕ) (now past : Fields → Fields) (q : Fields) (o : Option ℕ) (a : Anchor) → ((r : Fields) → now r ≡ past r) →
    Tells heard k o a → option_map_or (λ g. start_after heard k now q g (heard g)) o q ≡ start_from a past q
unfolding Tells
start_same heard k now past q None a e t = ap (λ a. start_from a past q) (sym t)
start_same heard k now past q (Some g) a e t = start_same_at heard k now past q g (heard g) a e t.1

-- by cases
both : (b : Bool) (s t u v : Fields) → s ≡ t → u ≡ v → (if b then s else u) ≡ (if b then t else v)
both true s t u v e f = e
both false s t u v e f = f

either : (b : Bool) (s : Fields) → s ≡ (if b then s else s)
either true s = refl
either false s = refl

-- from where the latest descriptor is approached
pub old-history : (heard : ℕ → Heard) (k : ℕ) (q : Fields) → approach_start_at heard k q ≡ approach_start_of (periods_before heard (suc k)) q
unfolding approach_start_at approach_start_of anchor_of
old-history heard zero q = either (is_anchor (heard 0)) q
old-history heard (suc k) q =
    both (is_anchor (heard (suc k))) _ _ _ _
    (start_same heard k (λ r. approach_start_at heard k r) (λ r. approach_start_of (periods_before heard (suc k)) r) q (latest_anchor heard k)
    (anchor_of (periods_before heard (suc k)))
    (old-history heard k) (tells heard k))
    (old-history heard k q)

-- what the frame of a period is made from
origin_same_at : (heard : ℕ → Heard) (k g : ℕ) (y : Heard) (old : Fields → Fields) (a : Anchor) → ((q : Fields) → approach_start_at heard k q ≡ old q) →
    g ≤ k → TellsAt heard k g y a → origin_after heard k g y ≡ origin_from old a
unfolding TellsAt fall_at
origin_same_at heard k g (Good p) old a e h t = let since : Since heard k g t.0 = t.2 in good_same p k g t.0 h since.count old ∙ ap (origin_from old) (sym t.1)
origin_same_at heard k g (Sid q) old a e h t =
    let since : Since heard k g t.0 = t.2 in
    ap (NoiseFrame (approached_at (approach_start_at heard k q) q g k)) (fall_same k t.0 (missed_since heard g k) since.counted) ∙
    ap (λ o. NoiseFrame (approached_at o q g k) (min (periods_of_fall t.0) silent_from_fall)) (e q) ∙
    ap (λ base. NoiseFrame base (min (periods_of_fall t.0) silent_from_fall)) (moved_same (old q) q k g t.0 since.count) ∙
    ap (origin_from old) (sym t.1)
origin_same_at heard k g Idle old a e h t = ap (origin_from old) (sym t)
origin_same_at heard k g (Lost missed) old a e h t = absurd t

origin_same : (heard : ℕ → Heard) (k : ℕ) (old : Fields → Fields) (o : Option ℕ) (a : Anchor) → ((q : Fields) → approach_start_at heard k q ≡ old q) →
    Tells heard k o a → option_map_or (λ g. origin_after heard k g (heard g)) o NoFrame ≡ origin_from old a
unfolding Tells
origin_same heard k old None a e t = ap (origin_from old) (sym t)
origin_same heard k old (Some g) a e t = origin_same_at heard k g (heard g) old a e t.0 t.1

pub origin-history : (heard : ℕ → Heard) (k : ℕ) → origin_at heard k ≡ origin_of (periods_before heard (suc k))
unfolding origin_at
origin-history heard k =
    origin_same heard k (λ q. approach_start_of (periods_before heard (suc k)) q) (latest_anchor heard k) (anchor_of (periods_before heard (suc k)))
    (old-history heard k) (tells heard k)

-- the draws before a period
drawn-history : (heard : ℕ → Heard) (k : ℕ) → draws_before heard k ≡ draw_count (periods_before heard k)
unfolding draws_before draw_count
drawn-history heard zero = refl
drawn-history heard (suc k) = ap (λ n. n + draws_of (origin_at heard k)) (drawn-history heard k) ∙
    ap (λ o. draw_count (periods_before heard k) + draws_of o) (origin-history heard k)

-- so the effective frame
effective-periods : (call : ℕ) (heard : ℕ → Heard) (k : ℕ) → effective_at call heard k ≡ effective_of call (periods_before heard (suc k))
unfolding effective_at effective_of
effective-periods call heard k =
    ap (λ o. frame_of o (draws_from call (draws_before heard k))) (origin-history heard k) ∙
    ap (λ n. frame_of (origin_of (periods_before heard (suc k))) (draws_from call n)) (drawn-history heard k)

-- ---- the periods of a list

-- what the newest period of a history heard
heard_last : (y : Heard) (past rest : List Heard) → heard_in (reverse_aux past (y ∷ rest)) (length past) ≡ y
heard_last y past rest =
    ap (λ ys. heard_in ys (length past)) (reverse_onto past y rest) ∙
    ap (λ n. heard_in (reverse past ++ (y ∷ rest)) n) (sym (length-reverse past)) ∙
    get_or-append_seam (reverse past) y rest (Lost false)

pub periods_before-history : (past rest : List Heard) → periods_before (heard_in (reverse_aux past rest)) (length past) ≡ past
periods_before-history [] rest = refl
periods_before-history (y ∷ past) rest = ap (λ x. x ∷ periods_before (heard_in (reverse_aux past (y ∷ rest))) (length past)) (heard_last y past rest) ∙
    ap (λ ys. y ∷ ys) (periods_before-history past (y ∷ rest))

-- **The effective frame by looking back over a list is that of its history.**
pub effective-history : (call : ℕ) (y : Heard) (past rest : List Heard) →
    effective_at call (heard_in (reverse_aux past (y ∷ rest))) (length past) ≡ effective_of call (y ∷ past)
effective-history call y past rest =
    effective-periods call (heard_in (reverse_aux past (y ∷ rest))) (length past) ∙ ap (effective_of call) (periods_before-history (y ∷ past) rest)
