-- For crates above: a job's first phase ends after its last place (`first-finished`, `first_after`), with one note for
-- each (`length-notes`).
-- The two phases of a job, and the run place by place.
use Rattle.std.proofs.Common.{◌≡◌, ℕ, zero, suc, ◌+◌, ◌-◌, ◌<◌, ◌≤◌, min, max, true, None, List, [], ◌∷◌, ◌++◌, length, take, get_or, length-append, refl, sym}
use Rattle.std.proofs.Common.{ap, ◌∙◌, ⊎_elim, arith}
use Rattle.std.proofs.lemmas.Bool.{cases_lt}
use Rattle.std.proofs.lemmas.List.{get_or-take, get_or-map}
use Rattle.std.proofs.Math.ListN.{get_or-append}
use Rattle.std.proofs.Math.Seq.{get_or-append_seam}
use Rattle.trau_bits.specs.Bits.{octets_of}
use Rattle.rx_handler.specs.Origin.{EffectiveFields, Quiet}
use Rattle.call_leg.specs.Halves.{Note, down_turned}
use Rattle.call_pair.specs.Memory.{HalfMemory, One, Two}
use Rattle.call_pair.specs.Periods.{pcm_at, with_period, has_period}
use Rattle.call_pair.specs.Turn.{effective, half_place_if}
use Rattle.call_pair.specs.Jobs.{job_left, after_job_places, finished_job}
use Rattle.call_pair.specs.Phases.{CallMemory, down_before, item_if, effective_in, call_place, after_call_places, periods_left, job_at_phase_end, turn_down}
use Rattle.call_pair.specs.Phases.{job_at_start, with_partner, half_in, frames_in, first_phase}
use Rattle.call_pair.specs.declared.call_job.Phase.TheVariants.{First, Second}
use Rattle.call_pair.proofs.Places.{is_below}
use Rattle.call_pair.proofs.Turns.{call_place_is}
use Rattle.call_pair.proofs.Sequences.{ups, told, outs, downs, lines, io_from, half_after, half_after-zero, effective-at, step}

-- ---- a half after both phases

-- a half at the end of its second phase, with these frames of its partner
abbrev pub second_phase : ℕ → List EffectiveFields → HalfMemory → CallMemory
second_phase m frames h = job_at_phase_end (turn_down (with_partner frames (first_phase m h)))

-- the effective frames of a half's first m places
abbrev pub first_effective : ℕ → HalfMemory → List EffectiveFields
first_effective m h = take m (frames_in (first_phase m h).notes)

-- a half after both phases, with these frames of its partner
abbrev pub half_run : ℕ → List EffectiveFields → HalfMemory → HalfMemory
half_run m frames h = half_in (second_phase m frames h)

-- ---- notes

unfoldable pub notes : ℕ → HalfMemory → ℕ → List Note
notes m h zero = []
notes m h (suc k) = notes m h k ++ (told m h k).0 ∷ []

pub length-notes : (m : ℕ) (h : HalfMemory) (k : ℕ) → length (notes m h k) ≡ k
unfolding notes
length-notes m h zero = refl
length-notes m h (suc k) = length-append (notes m h k) ((told m h k).0 ∷ []) ∙ (let i = length-notes m h k in omega arith)

-- each note is that of its place
pub note-is : (m : ℕ) (h : HalfMemory) (k j : ℕ) (d : Note) → j < k → get_or (notes m h k) j d ≡ (told m h j).0
unfolding notes
note-is m h zero j d l = absurd (omega arith)
note-is m h (suc k) j d l =
    let n = length-notes m h k in
    ⊎_elim (λ (b : j < k). get_or-append (notes m h k) ((told m h k).0 ∷ []) d j (omega arith) ∙ note-is m h k j d b)
    (λ (g : k ≤ j).
    let e : j ≡ length (notes m h k) = omega arith in
    let f : k ≡ j = omega arith in
    ap (λ i. get_or (notes m h (suc k)) i d) e ∙ get_or-append_seam (notes m h k) (told m h k).0 [] d ∙ ap (λ i. (told m h i).0) f)
    (cases_lt j k)

-- ---- the first phase

abbrev pub first_after : ℕ → HalfMemory → ℕ → CallMemory
first_after m h
    k = record { up = ups m h k; down = h.leg.down; io = io_from h (outs m h k) h.io.down k; notes = notes m h k; partner = []; bridge_end = m; phase = First }

-- a turn of the first phase is one place more of the uplink half
first-step : (m : ℕ) (h : HalfMemory) (k : ℕ) → k < h.io.given → call_place (first_after m h k) ≡ first_after m h (suc k)
unfolding ups outs notes
first-step m h k l =
    let next : k + 1 ≡ suc k = omega arith in
    call_place_is (first_after m h k) true (is_below k h.io.given l)
    ∙ ap (λ (n : ℕ). record (first_after m h (suc k)) { io = io_from h (outs m h (suc k)) h.io.down n }) next

-- n turns of the first phase are n places
first-run : (m : ℕ) (h : HalfMemory) (n k : ℕ) → k + n ≡ h.io.given → after_call_places n (first_after m h k) ≡ first_after m h h.io.given
first-run m h zero k e = let f : k ≡ h.io.given = omega arith in ap (first_after m h) f
first-run m h (suc n) k e = ap (after_call_places n) (first-step m h k (omega arith)) ∙ first-run m h n (suc k) (omega arith)

-- The first phase ends after its last place.
pub first-finished : (m : ℕ) (h : HalfMemory) → h.io.done ≡ 0 → job_at_phase_end (job_at_start m h) ≡ first_after m h h.io.given
unfolding ups outs notes
first-finished m h e =
    let n : periods_left (job_at_start m h) ≡ h.io.given = omega arith in
    ap (λ (i : ℕ). after_call_places i (job_at_start m h)) n
    ∙ ap (λ (i : ℕ). after_call_places h.io.given (record (job_at_start m h) { io = io_from h h.io.out h.io.down i })) e
    ∙ first-run m h h.io.given 0 (omega arith)

-- ---- the second

abbrev pub frame_at : List EffectiveFields → ℕ → EffectiveFields
frame_at frames k = effective_in k frames

abbrev pub second_after : ℕ → List EffectiveFields → HalfMemory → ℕ → CallMemory
second_after m frames h k = record {
  up = ups m h h.io.given;
  down = downs m (frame_at frames) h k;
  io = io_from h (outs m h h.io.given) (lines m (frame_at frames) h k) k;
  notes = notes m h h.io.given;
  partner = frames;
  bridge_end = m;
  phase = Second;
}

-- a turn of the second phase is one place more of the downlink half
second-step : (m : ℕ) (frames : List EffectiveFields) (h : HalfMemory) (k : ℕ) → k < h.io.given → call_place (second_after m frames h k)
    ≡ second_after m frames h (suc k)
unfolding downs lines
second-step m frames h k l =
    let next : k + 1 ≡ suc k = omega arith in
    let c = down_before m k (downs m (frame_at frames) h k) in
    call_place_is (second_after m frames h k) true (is_below k h.io.given l)
    ∙ ap (λ (note : Note).
    let w = down_turned c note (item_if c.bridged (effective_in k frames)) (pcm_at k h.io) in
    record (second_after m frames h k) { down = w.1; io = with_period (io_from h (outs m h h.io.given) (lines m (frame_at frames) h k) k) (octets_of w.0) })
    (note-is m h h.io.given k (record { eff = Quiet; ask = 0; dtx = None }) l)
    ∙ ap (λ (n : ℕ). record (second_after m frames h (suc k)) { io = io_from h (outs m h h.io.given) (lines m (frame_at frames) h (suc k)) n }) next

second-run : (m : ℕ) (frames : List EffectiveFields) (h : HalfMemory) (n k : ℕ) → k + n ≡ h.io.given → after_call_places n (second_after m frames h k)
    ≡ second_after m frames h h.io.given
second-run m frames h zero k e = let f : k ≡ h.io.given = omega arith in ap (second_after m frames h) f
second-run m frames h (suc n) k e = ap (after_call_places n) (second-step m frames h k (omega arith)) ∙ second-run m frames h n (suc k) (omega arith)

-- ---- both

pub second-finished : (m : ℕ) (frames : List EffectiveFields) (h : HalfMemory) → h.io.done ≡ 0 →
    second_phase m frames h ≡ second_after m frames h h.io.given
unfolding downs lines
second-finished m frames h e =
    let n : h.io.given - 0 ≡ h.io.given = omega arith in
    ap (λ (j : CallMemory). job_at_phase_end (turn_down (with_partner frames j))) (first-finished m h e)
    ∙ ap (λ (i : ℕ). after_call_places i (second_after m frames h 0)) n
    ∙ second-run m frames h h.io.given 0 (omega arith)

-- the two phases are the places of both halves
pub run-is : (m : ℕ) (frames : List EffectiveFields) (h : HalfMemory) → h.io.done ≡ 0 →
    half_run m frames h ≡ half_after m (frame_at frames) h h.io.given
run-is m frames h e = ap half_in (second-finished m frames h e)

-- the frames that a half tells
pub first_frames-are : (m : ℕ) (h : HalfMemory) (k : ℕ) → h.io.done ≡ 0 → m ≤ h.io.given → k < m →
    frame_at (first_effective m h) k ≡ (told m h k).0.eff
first_frames-are m h k e le l =
    let ns = notes m h h.io.given in
    let n = length-notes m h h.io.given in
    ap (λ (j : CallMemory). get_or (take m (frames_in j.notes)) k Quiet) (first-finished m h e)
    ∙ get_or-take m (frames_in ns) k Quiet l
    ∙ get_or-map (λ (x : Note). x.eff) ns k (told m h k).0 Quiet (omega arith)
    ∙ ap (λ (x : Note). x.eff) (note-is m h h.io.given k (told m h k).0 (omega arith))

-- ---- one call

-- the job of one call, place by place
one-run : (items : ℕ → EffectiveFields) (h : HalfMemory) (n k : ℕ) → k + n ≡ h.io.given →
    after_job_places n (One (half_after 0 items h (min k h.io.given))) ≡ One (half_after 0 items h h.io.given)
one-run items h zero k e = let f : min k h.io.given ≡ h.io.given = omega arith in ap (λ (i : ℕ). One (half_after 0 items h i)) f
one-run items h (suc n) k e = ap (λ (x : HalfMemory). after_job_places n (One x)) (step 0 items h k Quiet (λ l. absurd (omega arith)))
    ∙ one-run items h n (suc k) (omega arith)

-- The finished job of one call is its two phases.
pub one-phased : (h : HalfMemory) → h.io.done ≡ 0 → finished_job (One h) ≡ One (half_run 0 [] h)
one-phased h e =
    let items = frame_at [] in
    let z : 0 ≡ min 0 h.io.given = omega arith in
    let n : h.io.given - h.io.done ≡ h.io.given = omega arith in
    ap (λ (i : ℕ). after_job_places i (One h)) n
    ∙ ap (λ (x : HalfMemory). after_job_places h.io.given (One x)) (half_after-zero 0 items h e ∙ ap (half_after 0 items h) z)
    ∙ one-run items h h.io.given 0 (omega arith)
    ∙ ap One (sym (run-is 0 [] h e))

-- ---- two calls

-- the job of two calls, place by place, each with the other's frames
two-run : (p q : ℕ → EffectiveFields) (g h : HalfMemory) → let m = min g.io.given h.io.given in
    ((k : ℕ) → k < m → p k ≡ (told m h k).0.eff) → ((k : ℕ) → k < m → q k ≡ (told m g k).0.eff) → (n k : ℕ) → k + n ≡ max g.io.given h.io.given →
    after_job_places n (Two (half_after m p g (min k g.io.given)) (half_after m q h (min k h.io.given))) ≡ Two (half_after m p g g.io.given)
    (half_after m q h h.io.given)
two-run p q g h ep eq zero k e =
    let m = min g.io.given h.io.given in
    let f : min k g.io.given ≡ g.io.given = omega arith in
    let f' : min k h.io.given ≡ h.io.given = omega arith in
    ap (λ (i : ℕ). Two (half_after m p g i) (half_after m q h (min k h.io.given))) f ∙ ap (λ (i : ℕ). Two (half_after m p g g.io.given) (half_after m q h i)) f'
two-run p q g h ep eq (suc n) k e =
    let m = min g.io.given h.io.given in
    let a = half_after m p g (min k g.io.given) in
    let b = half_after m q h (min k h.io.given) in
    let told-b = λ (l : k < m).
    let here : min k h.io.given ≡ k = omega arith in
    ap (λ (i : ℕ). effective m (half_after m q h i)) here ∙ effective-at m q h k ∙ sym (ep k l) in
    let told-a = λ (l : k < m).
    let here : min k g.io.given ≡ k = omega arith in
    ap (λ (i : ℕ). effective m (half_after m p g i)) here ∙ effective-at m p g k ∙ sym (eq k l) in
    ap (λ (x : HalfMemory). after_job_places n (Two x (half_place_if (has_period b.io) m (effective m a) b))) (step m p g k (effective m b) told-b)
    ∙ ap (λ (x : HalfMemory). after_job_places n (Two (half_after m p g (min (suc k) g.io.given)) x)) (step m q h k (effective m a) told-a)
    ∙ two-run p q g h ep eq n (suc k) (omega arith)

pub two-phased : (g h : HalfMemory) → g.io.done ≡ 0 → h.io.done ≡ 0 → let m = min g.io.given h.io.given in
    finished_job (Two g h) ≡ Two (half_run m (first_effective m h) g) (half_run m (first_effective m g) h)
two-phased g h e f =
    let m = min g.io.given h.io.given in
    let p = frame_at (first_effective m h) in
    let q = frame_at (first_effective m g) in
    let z : 0 ≡ min 0 g.io.given = omega arith in
    let z' : 0 ≡ min 0 h.io.given = omega arith in
    let n : job_left (Two g h) ≡ max g.io.given h.io.given = omega arith in
    ap (λ (i : ℕ). after_job_places i (Two g h)) n
    ∙ ap (λ (x : HalfMemory). after_job_places (max g.io.given h.io.given) (Two x h)) (half_after-zero m p g e ∙ ap (half_after m p g) z)
    ∙ ap (λ (x : HalfMemory). after_job_places (max g.io.given h.io.given) (Two (half_after m p g (min 0 g.io.given)) x)) (half_after-zero m q h f ∙ ap (half_after m q h) z')
    ∙ two-run p q g h (λ k l. first_frames-are m h k f (omega arith) l) (λ k l. first_frames-are m g k e (omega arith) l) (max g.io.given h.io.given) 0 (omega arith)
    ∙ ap (λ (x : HalfMemory). Two x (half_after m q h h.io.given)) (sym (run-is m (first_effective m h) g e))
    ∙ ap (Two (half_run m (first_effective m h) g)) (sym (run-is m (first_effective m g) h f))
