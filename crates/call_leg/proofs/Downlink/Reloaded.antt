-- Made frames with other loads. Where each period has another load, and field 0 in place of none, the same frames are
-- made but for their loads, and the downlink is the same where the frames' bits are.
use Rattle.std.proofs.Common.{◌≡◌, refl, ap, ◌∙◌, ℕ, ◌+◌, ◌-◌, ◌*◌, zero, suc, ℤ, pos, Bool, true, false, if◌then◌else◌, nat_le, Option, Some, None}
use Rattle.std.proofs.Common.{unwrap_or, List, [], ◌∷◌, ◌++◌, length, map, filter, take, drop}
use Rattle.std.specs.Prelude.{◌==◌, find, is_none}
use Rattle.std.proofs.lemmas.List.{length-map}
use Rattle.time_align.specs.Shift.{shift_of, asked_then, latest_ask, latest_shift}
use Rattle.down_framer.specs.Made.{Period, MadeFrame, next_start, latest_start, hands_at, made_from, handed_due, counted_fields, epoch_of, shift_due}
use Rattle.down_framer.specs.Made.{next_frame, grown, made_frames, frame_on_line, downlink_of, down_of}

abbrev pub reseen : {A B : Type 0} → (A → B) → Period A → Period B
reseen g p = record { field = Some (unwrap_or p.field 0); starts = p.starts; bridged = p.bridged; load = g p.load }

abbrev pub reloaded : {A B : Type 0} → (A → B) → MadeFrame A → MadeFrame B
reloaded g f = record { start = f.start; period = f.period; shift = f.shift; carries = f.carries; epoch = f.epoch; load = g f.load }

-- ---- what is handed over

start-reseen : {A B : Type 0} (g : A → B) (ps : List (Period A)) → latest_start (map (reseen g) ps) ≡ latest_start ps
start-reseen g [] = refl
start-reseen g (p ∷ past) =
    ap (λ (n : ℕ). if p.starts then Some n else latest_start (map (reseen g) past)) (length-map past (reseen g))
    ∙ ap (λ (o : Option ℕ). if p.starts then Some (length past) else o) (start-reseen g past)

hands-reseen : {A B : Type 0} (g : A → B) (k : ℕ) (ps : List (Period A)) → hands_at k (map (reseen g) ps) ≡ hands_at k ps
hands-reseen g k [] = refl
hands-reseen g k (p ∷ past) =
    ap (λ (n : ℕ). if k == n then p.bridged else hands_at k (map (reseen g) past)) (length-map past (reseen g))
    ∙ ap (λ (b : Bool). if k == length past then p.bridged else b) (hands-reseen g k past)

from-reloaded : {A B : Type 0} (g : A → B) (s : ℕ) (fs : List (MadeFrame A)) → made_from s (map (reloaded g) fs) ≡ made_from s fs
from-reloaded g s [] = refl
from-reloaded g s (f ∷ fs) = by (nat_le s f.period) (from-reloaded g s fs)
  where
    by : (b : Bool) → made_from s (map (reloaded g) fs) ≡ made_from s fs →
        length (if b then reloaded g f ∷ filter (λ f. nat_le s f.period) (map (reloaded g) fs) else filter (λ f. nat_le s f.period) (map (reloaded g) fs))
        ≡ length (if b then f ∷ filter (λ f. nat_le s f.period) fs else filter (λ f. nat_le s f.period) fs)
    by true e = ap suc e
    by false e = e

epoch-reseen : {A B : Type 0} (g : A → B) (ps : List (Period A)) → epoch_of (map (reseen g) ps) ≡ epoch_of ps
epoch-reseen g [] = refl
epoch-reseen g (p ∷ past) = by p.starts (epoch-reseen g past)
  where
    by : (b : Bool) → epoch_of (map (reseen g) past) ≡ epoch_of past →
        length (if b then reseen g p ∷ filter (λ p. p.starts) (map (reseen g) past) else filter (λ p. p.starts) (map (reseen g) past))
        ≡ length (if b then p ∷ filter (λ p. p.starts) past else filter (λ p. p.starts) past)
    by true e = ap suc e
    by false e = e

due-reloaded : {A B : Type 0} (g : A → B) (ps : List (Period A)) (fs : List (MadeFrame A)) → handed_due (map (reseen g) ps) (map (reloaded g) fs)
    ≡ handed_due ps fs
due-reloaded g ps fs =
    ap (λ (o : Option ℕ). elim o as (λ x. Option ℕ) [
      | None ↦ None
      | Some s ↦ let h = s + made_from s (map (reloaded g) fs) in if hands_at h (map (reseen g) ps) then Some h else None
    ]) (start-reseen g ps) ∙ by (latest_start ps)
  where
    by : (o : Option ℕ) →
        (elim o as (λ x. Option ℕ) [
          | None ↦ None
          | Some s ↦ let h = s + made_from s (map (reloaded g) fs) in if hands_at h (map (reseen g) ps) then Some h else None
        ])
        ≡ (elim o as (λ x. Option ℕ) [ None ↦ None | Some s ↦ let h = s + made_from s fs in if hands_at h ps then Some h else None ])
    by None = refl
    by (Some s) =
        ap (λ (n : ℕ). if hands_at (s + n) (map (reseen g) ps) then Some (s + n) else None) (from-reloaded g s fs)
        ∙ ap (λ (b : Bool). if b then Some (s + made_from s fs) else None) (hands-reseen g (s + made_from s fs) ps)

-- ---- the shifts

abbrev fields : {A : Type 0} → List (Period A) → List (Option ℕ)
fields ps = map (λ p. p.field) ps

-- field 0 asks for nothing
ask-zero : (before : Option ℤ) → asked_then 0 before ≡ before
unfolding shift_of
ask-zero before = refl

ask-more : (field : Option ℕ) (new old : List (Option ℕ)) → latest_ask new ≡ latest_ask old → latest_ask (Some (unwrap_or field 0) ∷ new)
    ≡ latest_ask (field ∷ old)
ask-more None new old e = ask-zero (latest_ask new) ∙ e
ask-more (Some n) new old e = ap (λ (a : Option ℤ). asked_then n a) e

ask-all : {A B : Type 0} (g : A → B) (ps : List (Period A)) → latest_ask (fields (map (reseen g) ps)) ≡ latest_ask (fields ps)
ask-all g [] = refl
ask-all g (p ∷ ps) = ask-more p.field (fields (map (reseen g) ps)) (fields ps) (ask-all g ps)

ask-first : {A B : Type 0} (g : A → B) (n : ℕ) (ps : List (Period A)) → latest_ask (take n (fields (map (reseen g) ps))) ≡ latest_ask (take n (fields ps))
ask-first g zero ps = refl
ask-first g (suc n) [] = refl
ask-first g (suc n) (p ∷ ps) = ask-more p.field (take n (fields (map (reseen g) ps))) (take n (fields ps)) (ask-first g n ps)

ask-reloaded : {A B : Type 0} (g : A → B) (ps : List (Period A)) (fs : List (MadeFrame A)) →
    latest_ask (counted_fields (map (reseen g) ps) (map (reloaded g) fs)) ≡ latest_ask (counted_fields ps fs)
ask-reloaded g ps [] = ask-all g ps
ask-reloaded g ps (f ∷ fs) = by (is_none f.carries) (ask-reloaded g ps fs)
  where
    by : (b : Bool) → latest_ask (counted_fields (map (reseen g) ps) (map (reloaded g) fs)) ≡ latest_ask (counted_fields ps fs) →
        latest_ask (elim (if b then Some (reloaded g f) else find (λ f. is_none f.carries) (map (reloaded g) fs)) as (λ o. List (Option ℕ)) [
          | None ↦ map (λ p. p.field) (map (reseen g) ps)
          | Some m ↦ take (length (map (reseen g) ps) - (m.period + 1)) (map (λ p. p.field) (map (reseen g) ps))
        ])
        ≡ latest_ask (elim (if b then Some f else find (λ f. is_none f.carries) fs) as (λ o. List (Option ℕ)) [
          | None ↦ map (λ p. p.field) ps
          | Some m ↦ take (length ps - (m.period + 1)) (map (λ p. p.field) ps)
        ])
    by true e =
        ap (λ (n : ℕ). latest_ask (take (n - (f.period + 1)) (fields (map (reseen g) ps)))) (length-map ps (reseen g))
        ∙ ask-first g (length ps - (f.period + 1)) ps
    by false e = e

shift-reloaded : {A B : Type 0} (g : A → B) (ps : List (Period A)) (fs : List (MadeFrame A)) → shift_due (map (reseen g) ps) (map (reloaded g) fs)
    ≡ shift_due ps fs
shift-reloaded g ps fs =
    ap (λ (o : Option ℕ). elim o as (λ x. ℤ) [ None ↦ latest_shift (counted_fields (map (reseen g) ps) (map (reloaded g) fs)) | Some h ↦ pos 0 ])
    (due-reloaded g ps fs)
    ∙ ap (λ (a : Option ℤ). elim (handed_due ps fs) as (λ x. ℤ) [ None ↦ unwrap_or a (pos 0) | Some h ↦ pos 0 ]) (ask-reloaded g ps fs)

-- ---- the frames

next_start-reloaded : {A B : Type 0} (g : A → B) (fs : List (MadeFrame A)) → next_start (map (reloaded g) fs) ≡ next_start fs
next_start-reloaded g [] = refl
next_start-reloaded g (f ∷ fs) = refl

abbrev frame_with : {B : Type 0} → B → ℕ → ℕ → ℤ → Option ℕ → ℕ → MadeFrame B
frame_with load start period shift carries epoch =
    record { start = start; period = period; shift = shift; carries = carries; epoch = epoch; load = load }

next-reloaded : {A B : Type 0} (g : A → B) (p : Period A) (past : List (Period A)) (fs : List (MadeFrame A)) →
    next_frame (reseen g p) (map (reseen g) past) (map (reloaded g) fs) ≡ reloaded g (next_frame p past fs)
next-reloaded g p past fs =
    let new = map (reseen g) (p ∷ past) in
    let made = map (reloaded g) fs in
    ap (λ (n : ℕ). frame_with (g p.load) n (length (map (reseen g) past)) (shift_due new made) (handed_due new made) (epoch_of new))
    (next_start-reloaded g fs)
    ∙ ap (λ (n : ℕ). frame_with (g p.load) (next_start fs) n (shift_due new made) (handed_due new made) (epoch_of new)) (length-map past (reseen g))
    ∙ ap (λ (v : ℤ). frame_with (g p.load) (next_start fs) (length past) v (handed_due new made) (epoch_of new)) (shift-reloaded g (p ∷ past) fs)
    ∙ ap (λ (o : Option ℕ). frame_with (g p.load) (next_start fs) (length past) (shift_due (p ∷ past) fs) o (epoch_of new)) (due-reloaded g (p ∷ past) fs)
    ∙ ap (λ (e : ℕ). frame_with (g p.load) (next_start fs) (length past) (shift_due (p ∷ past) fs) (handed_due (p ∷ past) fs) e)
    (epoch-reseen g (p ∷ past))

grown-reloaded : {A B : Type 0} (g : A → B) (p : Period A) (past : List (Period A)) (fs : List (MadeFrame A)) →
    grown (reseen g p) (map (reseen g) past) (map (reloaded g) fs) ≡ map (reloaded g) (grown p past fs)
grown-reloaded g p past fs =
    let made = map (reloaded g) fs in
    let next = next_frame (reseen g p) (map (reseen g) past) made in
    ap (λ (n : ℕ). if nat_le n (160 * length (map (reseen g) past)) then next ∷ made else made) (next_start-reloaded g fs)
    ∙ ap (λ (n : ℕ). if nat_le (next_start fs) (160 * n) then next ∷ made else made) (length-map past (reseen g))
    ∙ ap (λ (f : MadeFrame _). if nat_le (next_start fs) (160 * length past) then f ∷ made else made) (next-reloaded g p past fs)
    ∙ by (nat_le (next_start fs) (160 * length past))
  where
    by : (b : Bool) → (if b then reloaded g (next_frame p past fs) ∷ map (reloaded g) fs else map (reloaded g) fs)
        ≡ map (reloaded g) (if b then next_frame p past fs ∷ fs else fs)
    by true = refl
    by false = refl

pub made-reloaded : {A B : Type 0} (g : A → B) (ps : List (Period A)) → made_frames (map (reseen g) ps) ≡ map (reloaded g) (made_frames ps)
made-reloaded g [] = refl
made-reloaded g (p ∷ past) =
    ap (λ (fs : List (MadeFrame _)). grown (reseen g p) (map (reseen g) past) (grown (reseen g p) (map (reseen g) past) fs)) (made-reloaded g past)
    ∙ ap (λ (fs : List (MadeFrame _)). grown (reseen g p) (map (reseen g) past) fs) (grown-reloaded g p past (made_frames past))
    ∙ grown-reloaded g p past (grown p past (made_frames past))

-- ---- the line

downlink-reloaded : {A B : Type 0} (g : A → B) (old : List (MadeFrame A) → List ℕ) (new : List (MadeFrame B) → List ℕ) →
    ((fs : List (MadeFrame A)) → new (map (reloaded g) fs) ≡ old fs) →
    (fs : List (MadeFrame A)) → downlink_of new (map (reloaded g) fs) ≡ downlink_of old fs
downlink-reloaded g old new e [] = refl
downlink-reloaded g old new e (f ∷ fs) =
    ap (λ (xs : List ℕ). xs ++ frame_on_line f.shift (new (map (reloaded g) (f ∷ fs)))) (downlink-reloaded g old new e fs)
    ∙ ap (λ (xs : List ℕ). downlink_of old fs ++ frame_on_line f.shift xs) (e (f ∷ fs))

pub down_of-reloaded : {A B : Type 0} (g : A → B) (old : List (MadeFrame A) → List ℕ) (new : List (MadeFrame B) → List ℕ) →
    ((fs : List (MadeFrame A)) → new (map (reloaded g) fs) ≡ old fs) →
    (ps : List (Period A)) → down_of new (map (reseen g) ps) ≡ down_of old ps
down_of-reloaded g old new e [] = refl
down_of-reloaded g old new e (p ∷ past) =
    ap (λ (n : ℕ). take 320 (drop (320 * n) (downlink_of new (made_frames (map (reseen g) (p ∷ past)))))) (length-map past (reseen g))
    ∙ ap (λ (fs : List (MadeFrame _)). take 320 (drop (320 * length past) (downlink_of new fs))) (made-reloaded g (p ∷ past))
    ∙ ap (λ (xs : List ℕ). take 320 (drop (320 * length past) xs)) (downlink-reloaded g old new e (made_frames (p ∷ past)))
