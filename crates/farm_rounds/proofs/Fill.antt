-- A round whose incoming lines were read: its calls are as they were, but for their octets and the marks of these
-- lines.
use Rattle.std.proofs.Common.{◌≡◌, sym, ap, ◌∙◌, subst, ℕ, ◌+◌, ◌*◌, ◌<◌, ◌≤◌, List, length, get_or, arith}
use Rattle.std.specs.Prelude.{if◌then◌else◌, is_some, map}
use Rattle.std.specs.List.{All}
use Rattle.std.specs.Global.{Box}
use Rattle.std.proofs.lemmas.List.{length-map, get_or-map}
use Rattle.std.proofs.lemmas.List.Elements.{All-from_get_or, All-get_or}
use Rattle.std.proofs.lemmas.Simd.{map-map}
use Rattle.call_number.specs.CallNumber.{IsCallNumber}
use Rattle.trau_io.specs.declared.line.Side.{Side}
use Rattle.trau_io.specs.Lines.{LineState}
use Rattle.round_lines.specs.Portions.{PortionMemory, Fills}
use Rattle.round_lines.specs.Rounds.{Rising, Each, portion_at}
use Rattle.farm_rounds.specs.declared.open.OpenCall.{OpenCall}
use Rattle.farm_rounds.specs.Numbers.{IsRising}
use Rattle.farm_rounds.specs.Opens.{IsOpenCall, AreMutual, opens_in, kept_of, portion_of_open, portions_of, same_portion}
use Rattle.farm_rounds.specs.Opened.{HasBuffers, no_open, same_portions}
use Rattle.farm_rounds.specs.Working.{IsInRound, IsRound}
use Rattle.farm_rounds.proofs.Places.Found.{number_of}
use Rattle.farm_rounds.proofs.Places.Boxes.{opens_long}
use Rattle.farm_rounds.proofs.Work.Portions.{portions_rising, portion_read_at}

-- ---- when the lines can be read

pub round_rising : (start ended : ℕ) (live : List ℕ) (os : List OpenCall) → IsRound start ended live os → Rising (map portion_of_open os)
round_rising start ended live os i =
    portions_rising os (subst IsRising i.opened.listed i.opened.rising)
    (All-from_get_or (λ o. o.lines.call ≡ o.job.io.call) os no_open (λ k l. (All-get_or (IsInRound start ended) os k no_open l i.each).call.lines))

pub round_fits : (start ended : ℕ) (live : List ℕ) (os : List OpenCall) → IsRound start ended live os → All HasBuffers os
round_fits start ended live os i = All-from_get_or HasBuffers os no_open (λ k l. (All-get_or (IsInRound start ended) os k no_open l i.each).fits)

-- ---- what stays

pub same_long : (xs ys : List OpenCall) → map same_portion xs ≡ map same_portion ys → length xs ≡ length ys
same_long xs ys e = sym (length-map xs same_portion) ∙ ap length e ∙ length-map ys same_portion

pub same_kept : (xs ys : List OpenCall) → map same_portion xs ≡ map same_portion ys → map kept_of xs ≡ map kept_of ys
same_kept xs ys e = sym (map-map kept_of same_portion xs) ∙ ap (map kept_of) e ∙ map-map kept_of same_portion ys

same_numbers : (xs ys : List OpenCall) → map same_portion xs ≡ map same_portion ys → map number_of xs ≡ map number_of ys
same_numbers xs ys e = sym (map-map number_of same_portion xs) ∙ ap (map number_of) e ∙ map-map number_of same_portion ys

pub same_at : (xs ys : List OpenCall) (k : ℕ) → map same_portion xs ≡ map same_portion ys → k < length ys →
    same_portion (get_or xs k no_open) ≡ same_portion (get_or ys k no_open)
same_at xs ys k e l =
    sym (get_or-map same_portion xs k no_open no_open (omega (arith, l, same_long xs ys e))) ∙ ap (λ (os : List OpenCall). get_or os k no_open) e
    ∙ get_or-map same_portion ys k no_open no_open l

still_open : (most : ℕ) (n o : OpenCall) → same_portion n ≡ same_portion o → IsOpenCall most o → IsOpenCall most n
still_open most n o s h = record {
  number = subst IsCallNumber (sym (ap (λ (x : OpenCall). x.job.io.call) s)) h.number;
  lines = ap (λ (x : OpenCall). x.lines.call) s ∙ h.lines ∙ sym (ap (λ (x : OpenCall). x.job.io.call) s);
  worked = subst (λ (p : ℕ). p ≤ most) (sym (ap (λ (x : OpenCall). x.job.up.search.periods) s)) h.worked;
  first = ap (λ (x : OpenCall). x.job.phase) s ∙ h.first;
  none = ap (λ (x : OpenCall). x.job.io.done) s ∙ h.none;
  up = ap (λ (x : OpenCall). x.job.up.bridged) s ∙ h.up ∙ sym (ap (λ (x : OpenCall). is_some x.partner) s);
  down = ap (λ (x : OpenCall). x.job.down.bridged) s ∙ h.down ∙ sym (ap (λ (x : OpenCall). is_some x.partner) s);
}

still_in : (start ended : ℕ) (n o : OpenCall) → same_portion n ≡ same_portion o →
    length n.job.io.up ≡ length o.job.io.up → length n.job.io.pcm ≡ length o.job.io.pcm → IsInRound start ended o → IsInRound start ended n
still_in start ended n o s up pcm r =
    let forty : 40 * o.lines.periods ≡ 40 * n.lines.periods = sym (ap (λ (x : OpenCall). 40 * x.lines.periods) s) in
    let more : 160 * o.lines.periods ≡ 160 * n.lines.periods = sym (ap (λ (x : OpenCall). 160 * x.lines.periods) s) in
    record {
      call = still_open start n o s r.call;
      periods = ap (λ (x : OpenCall). start + x.lines.periods) s ∙ r.periods;
      given = ap (λ (x : OpenCall). x.job.io.given) s ∙ r.given ∙ sym (ap (λ (x : OpenCall). x.lines.periods) s);
      fresh = ap (λ (x : OpenCall). x.job.notes) s ∙ r.fresh;
      alone = ap (λ (x : OpenCall). x.job.partner) s ∙ r.alone;
      bridge = ap (λ (x : OpenCall). x.job.bridge_end) s ∙ r.bridge ∙ sym (ap (λ (x : OpenCall). if is_some x.partner then x.lines.periods else 0) s);
      fits = record {
        up = up ∙ r.fits.up ∙ forty;
        pcm = pcm ∙ r.fits.pcm ∙ more;
        down = ap (λ (x : OpenCall). length x.job.io.down) s ∙ r.fits.down ∙ forty;
        out = ap (λ (x : OpenCall). length x.job.io.out) s ∙ r.fits.out ∙ more;
      };
    }

-- buffers as long as before
pub record AreAsLong (xs ys : List OpenCall) : Type 0 where
  pub up : (k : ℕ) → k < length ys → length (get_or xs k no_open).job.io.up ≡ length (get_or ys k no_open).job.io.up
  pub pcm : (k : ℕ) → k < length ys → length (get_or xs k no_open).job.io.pcm ≡ length (get_or ys k no_open).job.io.pcm

pub filled : (start ended : ℕ) (live : List ℕ) (xs ys : List OpenCall) →
    map same_portion xs ≡ map same_portion ys → AreAsLong xs ys → IsRound start ended live ys → IsRound start ended live xs
filled start ended live xs ys e long i =
    let inside : (k : ℕ) → k < length xs → k < length ys = λ k l. omega (arith, l, same_long xs ys e) in
    record {
      opened = record {
        listed = i.opened.listed ∙ sym (same_numbers xs ys e);
        rising = i.opened.rising;
        each = All-from_get_or (IsOpenCall start) xs no_open (λ k l.
            still_open start (get_or xs k no_open) (get_or ys k no_open) (same_at xs ys k e (inside k l))
            (All-get_or (IsOpenCall start) ys k no_open (inside k l) i.opened.each));
        both = subst AreMutual (sym (same_kept xs ys e)) i.opened.both;
      };
      each = All-from_get_or (IsInRound start ended) xs no_open (λ k l.
          still_in start ended (get_or xs k no_open) (get_or ys k no_open) (same_at xs ys k e (inside k l)) (long.up k (inside k l)) (long.pcm k (inside k l))
          (All-get_or (IsInRound start ended) ys k no_open (inside k l) i.each));
      last = i.last;
    }

-- ---- in their boxes

pub same_boxes : (new old : List (Box OpenCall)) → same_portions new ≡ same_portions old → length new ≡ length old
same_boxes new old e = sym (opens_long new) ∙ same_long (opens_in new) (opens_in old) e ∙ opens_long old

pub as_long : (a b : ℕ → Side → LineState) (new old : List (Box OpenCall)) → same_portions new ≡ same_portions old →
    Each Fills a b (portions_of old) (portions_of new) (length old) → AreAsLong (opens_in new) (opens_in old)
as_long a b new old e fills =
    let at_new : (k : ℕ) → k < length (opens_in old) → portion_at (portions_of new) k ≡ portion_of_open (get_or (opens_in new) k no_open) =
    λ k l. portion_read_at (opens_in new) k (omega (arith, l, same_long (opens_in new) (opens_in old) e)) in
    let at_old : (k : ℕ) → k < length (opens_in old) → portion_at (portions_of old) k ≡ portion_of_open (get_or (opens_in old) k no_open) =
    λ k l. portion_read_at (opens_in old) k l in
    record {
      up = λ k l. sym (ap (λ (s : PortionMemory). length s.up) (at_new k l)) ∙ (fills k (omega (arith, l, opens_long old))).up_length
          ∙ ap (λ (s : PortionMemory). length s.up) (at_old k l);
      pcm = λ k l. sym (ap (λ (s : PortionMemory). length s.pcm) (at_new k l)) ∙ (fills k (omega (arith, l, opens_long old))).pcm_length
          ∙ ap (λ (s : PortionMemory). length s.pcm) (at_old k l);
    }

-- the buffers of the incoming lines have the round's length
pub portion_fits : (start ended : ℕ) (live : List ℕ) (os : List OpenCall) (k : ℕ) → IsRound start ended live os → k < length os →
    (length (portion_at (map portion_of_open os) k).up ≡ 40 * (portion_at (map portion_of_open os) k).lines.periods)
    × (length (portion_at (map portion_of_open os) k).pcm ≡ 160 * (portion_at (map portion_of_open os) k).lines.periods)
portion_fits start ended live os k i l =
    let r = All-get_or (IsInRound start ended) os k no_open l i.each in
    subst (λ (s : PortionMemory). (length s.up ≡ 40 * s.lines.periods) × (length s.pcm ≡ 160 * s.lines.periods)) (sym (portion_read_at os k l)) (r.fits.up, r.fits.pcm)
