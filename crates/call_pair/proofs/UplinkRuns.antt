-- What the first phase gives, for every history of its call.
use Rattle.std.proofs.Common.{◌≡◌, ◌&&◌, ℕ, zero, suc, ◌+◌, ◌*◌, ◌<◌, ◌≤◌, ltb, Bool, true, false, Option, Some, None, is_some, length, length-append, List, []}
use Rattle.std.proofs.Common.{◌∷◌, ◌++◌, drop, refl, sym, ap, subst, ◌∙◌, arith}
use Rattle.call_leg.specs.Periods.{CallPeriod}
use Rattle.call_leg.specs.Settings.{Settings, settings_later}
use Rattle.call_leg.specs.Out.{out_of}
use Rattle.call_leg.specs.Halves.{UpMemory, note_in, up_turned, up_unbridged, UpStands}
use Rattle.call_leg.specs.Runs.{EndsAt, UpRun, periods_run, outs_run}
use Rattle.call_leg.proofs.HalfLaws.{turn-stands, turn-note, turn-plays, up_off-stands}
use Rattle.call_leg.proofs.LineLaws.{length-out_of}
use Rattle.call_pair.specs.Memory.{IoMemory, HalfMemory}
use Rattle.call_pair.specs.Periods.{up_at, buffer_with}
use Rattle.call_pair.specs.History.{Start, who_of, settings_past, Begins}
use Rattle.call_pair.specs.Phases.{up_before, first_phase}
use Rattle.call_pair.specs.Told.{history_of, ups_in, pcms_in}
use Rattle.call_pair.proofs.Octets.{written-seam}
use Rattle.call_pair.proofs.Places.{length-up_at, not_below}
use Rattle.call_pair.proofs.Runs.{set-past}
use Rattle.call_pair.proofs.Sequences.{ups, told, outs}
use Rattle.call_pair.proofs.Phased.{notes, length-notes, note-is, first_after, first-finished}
use Rattle.call_pair.proofs.BridgeEnd.{set_for, set-flag, set-next, set-period, ready}

-- ---- the uplink half

-- the octets that are told, place by place
abbrev pub outs_told : ℕ → HalfMemory → ℕ → List ℕ
outs_told m h zero = []
outs_told m h (suc k) = outs_told m h k ++ (told m h k).1

-- something, if the test says so
abbrev some_of : Bool → Option (List ℕ)
some_of true = Some []
some_of false = None

some-if : (b : Bool) → is_some (some_of b) ≡ b
some-if true = refl
some-if false = refl

module _ (s : Start) (h : HalfMemory) (m : ℕ) (b : Begins s h) where
  module _ (pcms : ℕ → List ℕ) (handed : ℕ → Option (List ℕ)) (e : EndsAt (history_of s) m s.io.given handed) where
    abbrev seen : ℕ → List CallPeriod
    seen k = periods_run (history_of s) (ups_in s) pcms handed k

    up-ready : (k : ℕ) → UpStands (who_of s) (seen k) (settings_past k m s.now) (ups m h k) → UpStands (who_of s) (seen k) (set_for m k s.now)
        (up_before m k (ups m h k))
    up-ready k w =
        ready (λ (u : UpMemory). u.bridged) up_unbridged (λ (set : Settings) (u : UpMemory). UpStands (who_of s) (seen k) set u) (λ set u x. x.bridged)
        (λ set u f x. up_off-stands (who_of s) (seen k) set u x) m k s.now (ups m h k) w

    up-flag : (k : ℕ) → k < s.io.given → is_some (handed k) ≡ (set_for m k s.now).bridged
    up-flag k l = e k l ∙ sym (set-flag m k s.now)

    ups-stand : (k : ℕ) → k ≤ s.io.given → UpStands (who_of s) (seen k) (settings_past k m s.now) (ups m h k)
    unfolding ups
    ups-stand zero le =
        subst (λ (set : Settings). UpStands (who_of s) s.past set (ups m h 0)) (sym (set-past 0 m s.now false (not_below m 0 (omega arith))))
        b.leg.up
    ups-stand (suc k) le =
        let u = up_before m k (ups m h k) in
        let r = up-ready k (ups-stand k (omega arith)) in
        let t = turn-stands (who_of s) (seen k) (set_for m k s.now) (up_at k s.io) (pcms k) (handed k) u (length-up_at s.io k b.octets (omega arith))
        (up-flag k (omega arith)) r in
        subst (λ (io : IoMemory). UpStands (who_of s) (seen (suc k)) (settings_past (suc k) m s.now) (up_turned u (up_at k io)).2) (sym b.io)
        (subst (λ (set : Settings). UpStands (who_of s) (seen (suc k)) set (up_turned u (up_at k s.io)).2) (set-next m k s.now)
        (subst (λ (p : CallPeriod). UpStands (who_of s) (p ∷ seen k) (settings_later (set_for m k s.now)) (up_turned u (up_at k s.io)).2)
        (set-period m k s.now (up_at k s.io) (pcms k) (handed k)) t))

    pub note-told : (k : ℕ) → k < s.io.given → (told m h k).0 ≡ note_in s.io.call (seen k) (up_at k s.io)
    note-told k l =
        let u = up_before m k (ups m h k) in
        ap (λ (io : IoMemory). (up_turned u (up_at k io)).0) b.io
        ∙ turn-note (who_of s) (seen k) (set_for m k s.now) (up_at k s.io) u (length-up_at s.io k b.octets l) (up-ready k (ups-stand k (omega arith)))

    out-told : (k : ℕ) → k < s.io.given → (told m h k).1 ≡ out_of (who_of s) (seen (suc k))
    out-told k l =
        let u = up_before m k (ups m h k) in
        ap (λ (io : IoMemory). (up_turned u (up_at k io)).1) b.io
        ∙ turn-plays (who_of s) (seen k) (set_for m k s.now) (up_at k s.io) (pcms k) (handed k) u (length-up_at s.io k b.octets l) (up-flag k l)
        (up-ready k (ups-stand k (omega arith)))
        ∙ ap (λ (p : CallPeriod). out_of (who_of s) (p ∷ seen k)) (set-period m k s.now (up_at k s.io) (pcms k) (handed k))

    outs-run : (k : ℕ) → k ≤ s.io.given → outs_told m h k ≡ outs_run (history_of s) (ups_in s) pcms handed k
    outs-run zero le = refl
    outs-run (suc k) le =
        ap (λ (xs : List ℕ). xs ++ (told m h k).1) (outs-run k (omega arith)) ∙ ap (λ (xs : List ℕ). outs_run (history_of s) (ups_in s) pcms handed k ++ xs)
        (out-told k (omega arith))

    long-told : (k : ℕ) → k ≤ s.io.given → length (outs_told m h k) ≡ 160 * k
    long-told zero le = refl
    long-told (suc k) le =
        let one = ap length (out-told k (omega arith)) ∙ length-out_of (who_of s) (seen (suc k)) in
        omega (arith, length-append (outs_told m h k) (told m h k).1, long-told k (omega arith), one)

    outs-told : (k : ℕ) → k ≤ s.io.given → outs m h k ≡ outs_told m h k ++ drop (160 * k) s.io.out
    unfolding outs
    outs-told zero le = ap (λ (io : IoMemory). io.out) b.io
    outs-told (suc k) le =
        let one = ap length (out-told k (omega arith)) ∙ length-out_of (who_of s) (seen (suc k)) in
        let end : 160 * k + 160 ≡ 160 * suc k = omega arith in
        ap (λ (xs : List ℕ). buffer_with xs (160 * k) (told m h k).1) (outs-told k (omega arith))
        ∙ written-seam (outs_told m h k) s.io.out (told m h k).1 (160 * k) 160 (long-told k (omega arith)) one
        ∙ ap (λ (n : ℕ). (outs_told m h k ++ (told m h k).1) ++ drop n s.io.out) end

  pub given-is : h.io.given ≡ s.io.given
  given-is = ap (λ (io : IoMemory). io.given) b.io

  pub none-done : h.io.done ≡ 0
  none-done = ap (λ (io : IoMemory). io.done) b.io ∙ b.none_done

  -- something that may be handed over
  abbrev some_handed : ℕ → Option (List ℕ)
  some_handed k = some_of (s.now.bridged && ltb k m)

  some-ends : EndsAt (history_of s) m s.io.given some_handed
  some-ends k l = some-if (s.now.bridged && ltb k m)

  pub up-run : UpRun (history_of s) (ups_in s) m s.io.given (notes m h h.io.given) (outs_told m h s.io.given)
  up-run = record {
    all = length-notes m h h.io.given ∙ given-is;
    told = λ pcms handed e k none l. note-is m h h.io.given k none (omega (arith, l, given-is)) ∙ note-told pcms handed e k l;
    out = λ pcms handed e. outs-run pcms handed e s.io.given (omega arith);
  }

  pub outs-line : outs m h h.io.given ≡ outs_told m h s.io.given ++ drop (160 * s.io.given) s.io.out
  outs-line = ap (λ (n : ℕ). outs m h n) given-is ∙ outs-told (pcms_in s) some_handed some-ends s.io.given (omega arith)

  pub first-is : first_phase m h ≡ first_after m h h.io.given
  first-is = first-finished m h none-done
