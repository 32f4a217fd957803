-- What the places of a round's calls say of the lines that failed before it, in each step of the round.
use Rattle.std.proofs.Common.{◌≡◌, refl, sym, ap, ◌∙◌, subst, ℕ, ◌<◌, Bool, true, false, Some, List, length, map, get_or, arith, inl, inr}
use Rattle.std.specs.Option.{option_map}
use Rattle.std.specs.Global.{Box}
use Rattle.std.proofs.lemmas.Bool.{cases_Bool, true≢false, false≢true}
use Rattle.std.proofs.lemmas.List.Elements.{All-map, All-weaker, All-from_get_or, All-get_or}
use Rattle.trau_io.specs.declared.line.Line.{Line}
use Rattle.trau_io.specs.declared.line.Side.{Side}
use Rattle.trau_io.specs.declared.line.Side.TheVariants.{Up, Pcm, Down, Out}
use Rattle.trau_io.specs.Lines.{LineState}
use Rattle.round_lines.specs.declared.transfer.Outlet.{Outlet}
use Rattle.round_lines.specs.declared.transfer.Outlet.TheVariants.{Sound, FailedBefore, FailedNow}
use Rattle.round_lines.specs.Transfer.{LineGives, has_failed}
use Rattle.round_lines.specs.Memory.{outlet_before}
use Rattle.round_lines.specs.Portions.{PortionMemory, Fills, Drains}
use Rattle.round_lines.specs.Rounds.{Each, portion_at}
use Rattle.farm_rounds.specs.declared.open.OpenCall.{OpenCall}
use Rattle.farm_rounds.specs.Calls.{Kept, call_in}
use Rattle.farm_rounds.specs.Numbers.{IsRising}
use Rattle.farm_rounds.specs.Opens.{IsOpenCall, AreOpen, opens_in, kept_of, portions_of, open_planned, same_portion}
use Rattle.farm_rounds.specs.Opened.{no_open, same_portions}
use Rattle.farm_rounds.specs.Rounds.{EndsShort}
use Rattle.farm_rounds.specs.Working.{IsRound}
use Rattle.farm_rounds.specs.Failed.{is_listed, was_failed, KnowsLines, KnowsCallLines, AreFailed, AreFailedBefore}
use Rattle.farm_rounds.proofs.Places.Boxes.{opens_long}
use Rattle.farm_rounds.proofs.Places.Found.{find_at, kept_by}
use Rattle.farm_rounds.proofs.Work.Portions.{is_short, portion_read_at}
use Rattle.farm_rounds.proofs.Fill.{same_long, same_at, portion_fits}
use Rattle.farm_rounds.proofs.Work.Phases.{done_keeps}
use Rattle.farm_rounds.proofs.Work.Halves.{ends, all_told, done, all_done}

-- a call whose place knows its lines
abbrev Knows : List Line → OpenCall → Type 0
Knows lines o = KnowsCallLines lines o.lines

-- ---- the round is planned

marks : (b : Bool) → was_failed (outlet_before b) ≡ b
marks true = refl
marks false = refl

knows_planned : (lines : List Line) (n : ℕ) (o : OpenCall) → KnowsLines lines o.lines.call (kept_of o).call → Knows lines (open_planned n o)
knows_planned lines n o h = record {
  up = h.0;
  pcm = h.1;
  down = marks (has_failed o.lines.down) ∙ h.2;
  out = marks (has_failed o.lines.out) ∙ h.3;
  short = (λ e. absurd (false≢true e), λ e. absurd (false≢true e));
}

pub known_planned : (most n : ℕ) (live : List ℕ) (os : List OpenCall) (lines : List Line) → AreOpen most live os → AreFailed lines (map kept_of os) →
    AreFailedBefore lines (map (open_planned n) os)
known_planned most n live os lines a f = record {
  once = f.once;
  known = All-map (Knows lines) (open_planned n) os (All-from_get_or (λ o. Knows lines (open_planned n o)) os no_open one);
}
  where
    one : (k : ℕ) → k < length os → Knows lines (open_planned n (get_or os k no_open))
    one k l =
        let o = get_or os k no_open in
        let place : o.lines.call ≡ o.job.io.call = (All-get_or (IsOpenCall most) os k no_open l a.each).lines in
        let found : call_in (map kept_of os) o.job.io.call ≡ Some (kept_of o).call =
        ap (λ x. option_map (λ (y : Kept). y.call) x) (kept_by os o.job.io.call)
        ∙ ap (λ x. option_map (λ (y : Kept). y.call) (option_map kept_of x)) (find_at os k (subst IsRising a.listed a.rising) l) in
        knows_planned lines n o (subst (λ (c : ℕ). KnowsLines lines c (kept_of o).call) (sym place) (f.known o.job.io.call (kept_of o).call found))

-- ---- its lines are read

knows_filled : (lines : List Line) (n o : OpenCall) → same_portion n ≡ same_portion o → EndsShort n.lines → Knows lines o → Knows lines n
knows_filled lines n o s short h = record {
  up = ap (λ (x : OpenCall). is_listed lines x.lines.call Up) s ∙ h.up;
  pcm = ap (λ (x : OpenCall). is_listed lines x.lines.call Pcm) s ∙ h.pcm;
  down = ap (λ (x : OpenCall). was_failed x.lines.down) s ∙ h.down ∙ sym (ap (λ (x : OpenCall). is_listed lines x.lines.call Down) s);
  out = ap (λ (x : OpenCall). was_failed x.lines.out) s ∙ h.out ∙ sym (ap (λ (x : OpenCall). is_listed lines x.lines.call Out) s);
  short = short;
}

pub known_filled : (start ended : ℕ) (live : List ℕ) (lines : List Line) (a b : ℕ → Side → LineState) (new old : List (Box OpenCall)) →
    IsRound start ended live (opens_in old) → same_portions new ≡ same_portions old → Each Fills a b (portions_of old) (portions_of new) (length old) →
    AreFailedBefore lines (opens_in old) → AreFailedBefore lines (opens_in new)
known_filled start ended live lines a b new old i same fills h = record {
  once = h.once;
  known = All-from_get_or (Knows lines) (opens_in new) no_open one;
}
  where
    one : (k : ℕ) → k < length (opens_in new) → Knows lines (get_or (opens_in new) k no_open)
    one k l =
        let was : k < length (opens_in old) = omega (arith, l, same_long (opens_in new) (opens_in old) same) in
        let at : k < length old = omega (arith, was, opens_long old) in
        let short : EndsShort (get_or (opens_in new) k no_open).lines =
        subst (λ (s : PortionMemory). EndsShort s.lines) (portion_read_at (opens_in new) k l)
        (is_short _ _ (portion_at (portions_of old) k) (portion_at (portions_of new) k) (fills k at) (portion_fits start ended live (opens_in old) k i was)) in
        knows_filled lines (get_or (opens_in new) k no_open) (get_or (opens_in old) k no_open) (same_at (opens_in new) (opens_in old) k same was) short
        (All-get_or (Knows lines) (opens_in old) k no_open was h.known)

-- ---- it is worked

pub known_done : (lines : List Line) (os : List OpenCall) → AreFailedBefore lines os → AreFailedBefore lines (all_done os)
known_done lines os h = record {
  once = h.once;
  known = All-map (Knows lines) (done os) os (All-weaker (Knows lines) (λ o. Knows lines (done os o))
      (λ o k. subst (KnowsCallLines lines) (sym (done_keeps (all_told os) (ends os o) o).lines) k) os h.known);
}

-- ---- its lines are written

-- a line that is given octets failed before the round where it had
still_sound : (o : Outlet) → has_failed o ≡ false → was_failed o ≡ false
still_sound Sound e = refl
still_sound FailedBefore e = absurd (true≢false e)
still_sound FailedNow e = refl

mark_kept : (before now : LineState) (was stands : Outlet) (octets : List ℕ) →
    LineGives before now was stands octets → was_failed stands ≡ was_failed was
mark_kept before now Sound stands octets g = elim (cases_Bool (has_failed stands)) [
  | inl e ↦ ap was_failed (g.fault refl e).0
  | inr e ↦ still_sound stands e
]
mark_kept before now FailedBefore stands octets g = ap was_failed (g.passed refl).1
mark_kept before now FailedNow stands octets g = ap was_failed (g.passed refl).1

knows_drained : (lines : List Line) (a b : Side → LineState) (s t : PortionMemory) → Drains a b s t →
    KnowsCallLines lines s.lines → KnowsCallLines lines t.lines
knows_drained lines a b s t d h =
    let call : t.lines.call ≡ s.lines.call = ap (λ (x : PortionMemory). x.lines.call) d.kept in
    record {
      up = ap (λ (c : ℕ). is_listed lines c Up) call ∙ h.up;
      pcm = ap (λ (c : ℕ). is_listed lines c Pcm) call ∙ h.pcm;
      down = mark_kept _ _ s.lines.down t.lines.down _ d.down ∙ h.down ∙ sym (ap (λ (c : ℕ). is_listed lines c Down) call);
      out = mark_kept _ _ s.lines.out t.lines.out _ d.out ∙ h.out ∙ sym (ap (λ (c : ℕ). is_listed lines c Out) call);
      short = subst EndsShort (sym (ap (λ (x : PortionMemory). x.lines) d.kept)) h.short;
    }

pub known_drained : (lines : List Line) (a b : ℕ → Side → LineState) (new old : List (Box OpenCall)) → length new ≡ length old →
    Each Drains a b (portions_of old) (portions_of new) (length old) → AreFailedBefore lines (opens_in old) → AreFailedBefore lines (opens_in new)
known_drained lines a b new old long drains h = record {
  once = h.once;
  known = All-from_get_or (Knows lines) (opens_in new) no_open one;
}
  where
    one : (k : ℕ) → k < length (opens_in new) → Knows lines (get_or (opens_in new) k no_open)
    one k l =
        let at : k < length old = omega (arith, l, opens_long new, long) in
        let was : k < length (opens_in old) = omega (arith, at, opens_long old) in
        subst (λ (s : PortionMemory). KnowsCallLines lines s.lines) (portion_read_at (opens_in new) k l)
        (knows_drained lines _ _ (portion_at (portions_of old) k) (portion_at (portions_of new) k) (drains k at)
        (subst (λ (s : PortionMemory). KnowsCallLines lines s.lines) (sym (portion_read_at (opens_in old) k was))
        (All-get_or (Knows lines) (opens_in old) k no_open was h.known)))
