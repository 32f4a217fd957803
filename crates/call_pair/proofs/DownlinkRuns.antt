-- What the second phase gives, for every history of its call.
use Rattle.std.proofs.Common.{◌≡◌, ◌&&◌, ℕ, zero, suc, ◌+◌, ◌*◌, ◌<◌, ◌≤◌, ltb, Bool, true, false, if◌then◌else◌, Option, Some, None, is_some, length}
use Rattle.std.proofs.Common.{length-append, List, [], ◌∷◌, ◌++◌, drop, refl, sym, ap, subst, ◌∙◌, arith}
use Rattle.trau_bits.specs.Bits.{octets_of}
use Rattle.trau_params.specs.Bits260.{bits260}
use Rattle.rx_handler.specs.Origin.{EffectiveFields}
use Rattle.call_leg.specs.Memory.{DownMemory}
use Rattle.call_leg.specs.Uplink.{handed_fields}
use Rattle.call_leg.specs.Periods.{CallPeriod}
use Rattle.call_leg.specs.Settings.{Settings, settings_later, settings_at, period_with}
use Rattle.call_leg.specs.Step.{bridge_over}
use Rattle.call_leg.specs.Down.{down_now}
use Rattle.call_leg.specs.Places.{Between}
use Rattle.call_leg.specs.Halves.{note_in, down_turned, handed_bits}
use Rattle.call_leg.specs.Runs.{EndsAt, AreNotes, UpRun, DownRun, periods_run, downs_run, handed_run}
use Rattle.call_leg.proofs.HalfLaws.{down_turn-stands, down_off-stands}
use Rattle.call_leg.proofs.NotedRuns.{run-downs}
use Rattle.call_pair.specs.Memory.{IoMemory, HalfMemory}
use Rattle.call_pair.specs.Periods.{pcm_at, buffer_with}
use Rattle.call_pair.specs.History.{Start, who_of, settings_past, Begins}
use Rattle.call_pair.specs.Phases.{CallMemory, down_before, item_if, effective_in, first_phase}
use Rattle.call_pair.specs.Told.{HalfRuns, history_of, ups_in, pcms_in}
use Rattle.call_pair.proofs.Lengths.{length-down_octets}
use Rattle.call_pair.proofs.Octets.{written-seam}
use Rattle.call_pair.proofs.Places.{length-pcm_at, not_below}
use Rattle.call_pair.proofs.Runs.{set-past}
use Rattle.call_pair.proofs.Sequences.{told, outs, made_from, downs, lines}
use Rattle.call_pair.proofs.Phased.{half_run, notes, length-notes, note-is, frame_at, run-is}
use Rattle.call_pair.proofs.BridgeEnd.{set_for, set-flag, set-next, set-period, ready}
use Rattle.call_pair.proofs.UplinkRuns.{outs_told, note-told, given-is, none-done, up-run, outs-line, first-is}

-- ---- the downlink half

-- the octets that are said, place by place
abbrev downs_said : ℕ → (ℕ → EffectiveFields) → HalfMemory → ℕ → List ℕ
downs_said m items h zero = []
downs_said m items h (suc k) = downs_said m items h k ++ octets_of (made_from m items h k (downs m items h k)).0

module _ (s : Start) (h : HalfMemory) (m : ℕ) (b : Begins s h) where
  module _ (frames : List EffectiveFields) (long : length frames ≡ m) where
    abbrev given_to : ℕ → Option (List ℕ)
    given_to k = handed_run (history_of s) frames k

    items-end : EndsAt (history_of s) m s.io.given given_to
    items-end k l = if-some (s.now.bridged && ltb k (length frames)) (bits260 (handed_fields (effective_in k frames)))
        ∙ ap (λ (n : ℕ). s.now.bridged && ltb k n) long
      where
        if-some : (b : Bool) (x : List ℕ) → is_some (if b then Some x else None) ≡ b
        if-some true x = refl
        if-some false x = refl

    module _ (heard : ℕ → List ℕ) (n : (k : ℕ) → k < s.io.given → (told m h k).0 ≡ note_in s.io.call (periods_run (history_of s) heard (pcms_in s) given_to k)
        (heard k)) where
      abbrev had : ℕ → List CallPeriod
      had k = periods_run (history_of s) heard (pcms_in s) given_to k

      abbrev half_at : ℕ → DownMemory
      half_at k = down_before m k (downs m (frame_at frames) h k)

      down-ready : (k : ℕ) → Between (who_of s) (had k) (settings_past k m s.now) (downs m (frame_at frames) h k) →
          Between (who_of s) (had k) (set_for m k s.now) (half_at k)
      down-ready k w =
          ready (λ (d : DownMemory). d.bridged) bridge_over (λ (set : Settings) (d : DownMemory). Between (who_of s) (had k) set d) (λ set d x. x.bridged)
          (λ set d f x. down_off-stands (who_of s) (had k) set d f x) m k s.now (downs m (frame_at frames) h k) w

      abbrev item : ℕ → Option EffectiveFields
      item k = item_if (half_at k).bridged (frame_at frames k)

      item-bits : (b : Bool) (f : EffectiveFields) → handed_bits (item_if b f) ≡ (if b then Some (bits260 (handed_fields f)) else None)
      item-bits true f = refl
      item-bits false f = refl

      item-some : (b : Bool) (f : EffectiveFields) → is_some (item_if b f) ≡ b
      item-some true f = refl
      item-some false f = refl

      bits-are : (k : ℕ) → Between (who_of s) (had k) (set_for m k s.now) (half_at k) → handed_bits (item k) ≡ given_to k
      bits-are k r =
          item-bits (half_at k).bridged (frame_at frames k)
          ∙ ap (λ (b : Bool). if b then Some (bits260 (handed_fields (frame_at frames k))) else None) (r.bridged ∙ set-flag m k s.now
          ∙ ap (λ (i : ℕ). s.now.bridged && ltb k i) (sym long))

      period-is : (k : ℕ) → Between (who_of s) (had k) (set_for m k s.now) (half_at k) → period_with (set_for m k s.now) (heard k) (pcm_at k s.io)
          (handed_bits (item k)) ≡ period_with (settings_at k s.now) (heard k) (pcm_at k s.io) (given_to k)
      period-is k r = ap (λ (x : Option (List ℕ)). period_with (set_for m k s.now) (heard k) (pcm_at k s.io) x) (bits-are k r)
          ∙ set-period m k s.now (heard k) (pcm_at k s.io) (given_to k)

      down-turn : (k : ℕ) → k < s.io.given → Between (who_of s) (had k) (set_for m k s.now) (half_at k) →
          let t = down_turned (half_at k) (told m h k).0 (item k) (pcm_at k h.io) in Between (who_of s) (had (suc k)) (settings_past (suc k) m s.now) t.1
          × (t.0 ≡ down_now (who_of s) (had (suc k)))
      down-turn k l r =
          let t = down_turn-stands (who_of s) (had k) (set_for m k s.now) (heard k) (pcm_at k s.io) (told m h k).0 (item k) (half_at k)
          (length-pcm_at s.io k b.octets l) r (n k l) (item-some (half_at k).bridged (frame_at frames k) ∙ r.bridged) in
          subst (λ (io : IoMemory). let w = down_turned (half_at k) (told m h k).0 (item k) (pcm_at k io) in Between (who_of s) (had (suc k))
          (settings_past (suc k) m s.now) w.1 × (w.0 ≡ down_now (who_of s) (had (suc k)))) (sym b.io)
          (subst (λ (set : Settings). let w = down_turned (half_at k) (told m h k).0 (item k) (pcm_at k s.io) in Between (who_of s) (had (suc k)) set w.1
          × (w.0 ≡ down_now (who_of s) (had (suc k)))) (set-next m k s.now)
          (subst (λ (p : CallPeriod). let w = down_turned (half_at k) (told m h k).0 (item k) (pcm_at k s.io) in Between (who_of s) (p ∷ had k)
          (settings_later (set_for m k s.now)) w.1 × (w.0 ≡ down_now (who_of s) (p ∷ had k))) (period-is k r) t))

      downs-stand : (k : ℕ) → k ≤ s.io.given → Between (who_of s) (had k) (settings_past k m s.now) (downs m (frame_at frames) h k)
      unfolding downs
      downs-stand zero le =
          subst (λ (set : Settings). Between (who_of s) s.past set (downs m (frame_at frames) h 0)) (sym (set-past 0 m s.now false (not_below m 0 (omega arith))))
          b.leg.down
      downs-stand (suc k) le = (down-turn k (omega arith) (down-ready k (downs-stand k (omega arith)))).0

      said : (k : ℕ) → k < s.io.given → (made_from m (frame_at frames) h k (downs m (frame_at frames) h k)).0 ≡ down_now (who_of s) (had (suc k))
      said k l = (down-turn k l (down-ready k (downs-stand k (omega arith)))).1

      downs-run : (k : ℕ) → k ≤ s.io.given → downs_said m (frame_at frames) h k ≡ downs_run (history_of s) heard (pcms_in s) given_to k
      downs-run zero le = refl
      downs-run (suc k) le =
          ap (λ (xs : List ℕ). xs ++ octets_of (made_from m (frame_at frames) h k (downs m (frame_at frames) h k)).0) (downs-run k (omega arith))
          ∙ ap (λ (xs : List ℕ). downs_run (history_of s) heard (pcms_in s) given_to k ++ octets_of xs) (said k (omega arith))

      long-said : (k : ℕ) → k ≤ s.io.given → length (downs_said m (frame_at frames) h k) ≡ 40 * k
      long-said zero le = refl
      long-said (suc k) le =
          let one = ap (λ (xs : List ℕ). length (octets_of xs)) (said k (omega arith)) ∙ length-down_octets (who_of s) _ (had k) in
          omega (
            arith,
            length-append (downs_said m (frame_at frames) h k) (octets_of (made_from m (frame_at frames) h k (downs m (frame_at frames) h k)).0),
            long-said k
                (omega arith),
            one,
          )

      lines-said : (k : ℕ) → k ≤ s.io.given → lines m (frame_at frames) h k ≡ downs_said m (frame_at frames) h k ++ drop (40 * k) s.io.down
      unfolding lines
      lines-said zero le = ap (λ (io : IoMemory). io.down) b.io
      lines-said (suc k) le =
          let o = octets_of (made_from m (frame_at frames) h k (downs m (frame_at frames) h k)).0 in
          let one : length o ≡ 40 = ap (λ (xs : List ℕ). length (octets_of xs)) (said k (omega arith)) ∙ length-down_octets (who_of s) _ (had k) in
          let end : 40 * k + 40 ≡ 40 * suc k = omega arith in
          ap (λ (xs : List ℕ). buffer_with xs (40 * k) o) (lines-said k (omega arith))
          ∙ written-seam (downs_said m (frame_at frames) h k) s.io.down o (40 * k) 40 (long-said k (omega arith)) one
          ∙ ap (λ (i : ℕ). (downs_said m (frame_at frames) h k ++ o) ++ drop i s.io.down) end

    -- the notes are those of the call's own Up octets
    own-notes : (k : ℕ) → k < s.io.given →
        (told m h k).0 ≡ note_in s.io.call (periods_run (history_of s) (ups_in s) (pcms_in s) given_to k) (ups_in s k)
    own-notes k l = note-told s h m b (pcms_in s) given_to items-end k l

    own-are : AreNotes (history_of s) (ups_in s) (pcms_in s) frames s.io.given (notes m h h.io.given)
    own-are k none l = note-is m h h.io.given k none (omega (arith, l, (given-is s h m b))) ∙ own-notes k l

    down-run : DownRun (history_of s) (notes m h h.io.given) frames (pcms_in s) s.io.given (downs_said m (frame_at frames) h s.io.given)
    down-run = record {
      all = length-notes m h h.io.given ∙ given-is s h m b;
      down = downs-run (ups_in s) own-notes s.io.given (omega arith)
          ∙ sym (run-downs (history_of s) (ups_in s) (pcms_in s) frames s.io.given (notes m h h.io.given) own-are s.io.given (omega arith));
    }

    lines-line : lines m (frame_at frames) h h.io.given ≡ downs_said m (frame_at frames) h s.io.given ++ drop (40 * s.io.given) s.io.down
    lines-line = ap (λ (i : ℕ). lines m (frame_at frames) h i) (given-is s h m b) ∙ lines-said (ups_in s) own-notes s.io.given (omega arith)

    pub half-runs : HalfRuns s m (first_phase m h).notes frames (half_run m frames h)
    half-runs = record {
      outs = outs_told m h s.io.given;
      downs = downs_said m (frame_at frames) h s.io.given;
      up = subst (λ (j : CallMemory). UpRun (history_of s) (ups_in s) m s.io.given j.notes (outs_told m h s.io.given)) (sym (first-is s h m b))
          (up-run s h m b);
      down = subst (λ (j : CallMemory). DownRun (history_of s) j.notes frames (pcms_in s) s.io.given (downs_said m (frame_at frames) h s.io.given))
          (sym (first-is s h m b)) down-run;
      io = ap (λ (x : HalfMemory). x.io) (run-is m frames h (none-done s h m b))
          ∙ ap (λ (io : IoMemory).
          record {
            call = io.call;
            up = io.up;
            pcm = io.pcm;
            out = outs m h h.io.given;
            down = lines m (frame_at frames) h h.io.given;
            given = io.given;
            done = io.given;
          }) b.io
          ∙ ap (λ (xs : List ℕ).
          record {
            call = s.io.call;
            up = s.io.up;
            pcm = s.io.pcm;
            out = xs;
            down = lines m (frame_at frames) h h.io.given;
            given = s.io.given;
            done = s.io.given;
          }) (outs-line s h m b)
          ∙ ap (λ (xs : List ℕ).
          record {
            call = s.io.call;
            up = s.io.up;
            pcm = s.io.pcm;
            out = outs_told m h s.io.given ++ drop (160 * s.io.given) s.io.out;
            down = xs;
            given = s.io.given;
            done = s.io.given;
          }) lines-line;
    }
