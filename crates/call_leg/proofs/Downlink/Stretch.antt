-- For crates above: the newest frame carries handed bits, is coded, or is idle (`frame-carries`, `frame-coded`,
-- `frame-quiet`).
-- Stretches with one more frame.
use Rattle.std.proofs.Common.{◌≡◌, refl, ap, ◌∙◌, ℕ, Bool, true, false, not, ◌&&◌, if◌then◌else◌, Option, Some, None, is_none, List, [], ◌∷◌, eq-eqb}
use Rattle.std.specs.Prelude.{◌==◌}
use Rattle.std.proofs.lemmas.Bool.{cond-true, cond-false}
use Rattle.trau_frame.specs.declared.frames.DownFrame.{DownFrame}
use Rattle.trau_frame.specs.declared.frames.DownFrame.TheVariants as down
use Rattle.call_leg.specs.Who.{Who}
use Rattle.call_leg.specs.Periods.{quiet_now, handed_in}
use Rattle.tx_dtx.specs.Sent.{sent_of}
use Rattle.call_leg.specs.Down.{CallFrame, is_coded, coded_stretch, coded_after, coded_frames, speech, frame_now}

both : (a b d : Bool) → a ≡ true → b ≡ true → d ≡ true → ((a && b) && d) ≡ true
both a b d p q r = ap (λ x. (x && b) && d) p ∙ ap (λ x. (true && x) && d) q ∙ r

-- a coded frame goes on with its epoch's stretch
pub stretch-coded : (c : ℕ) (f : CallFrame) (fs : List CallFrame) → f.carries ≡ None → quiet_now c f.load ≡ false →
    coded_stretch c f.epoch (f ∷ fs) ≡ f ∷ coded_stretch c f.epoch fs
stretch-coded c f fs e q =
    cond-true (is_coded c f && f.epoch == f.epoch) (f ∷ coded_stretch c f.epoch fs) []
    (both (is_none f.carries) (not (quiet_now c f.load)) (f.epoch == f.epoch) (ap is_none e) (ap not q) (eq-eqb f.epoch f.epoch refl))

-- the newest frame is coded, carries handed bits, or is idle
pub frame-coded : (who : Who) (f : CallFrame) (fs : List CallFrame) → f.carries ≡ None → quiet_now who.number f.load ≡ false →
    frame_now who (f ∷ fs) ≡ speech (sent_of (coded_after who.law f (coded_stretch who.number f.epoch fs))
    (coded_frames who.law (coded_stretch who.number f.epoch fs)))
frame-coded who f fs e q =
    ap (λ (o : Option ℕ). elim o as (λ x. DownFrame) [
      | Some h ↦ down.Speech (handed_in h f.load) true
      | None ↦ if quiet_now who.number f.load then down.Idle else speech (sent_of (coded_after who.law f (coded_stretch who.number f.epoch fs))
          (coded_frames who.law (coded_stretch who.number f.epoch fs)))
    ]) e ∙
    cond-false (quiet_now who.number f.load) down.Idle
    (speech (sent_of (coded_after who.law f (coded_stretch who.number f.epoch fs)) (coded_frames who.law (coded_stretch who.number f.epoch fs)))) q

-- a frame that carries another one's ends it
pub stretch-carries : (c epoch h : ℕ) (f : CallFrame) (fs : List CallFrame) → f.carries ≡ Some h → coded_stretch c epoch (f ∷ fs) ≡ []
stretch-carries c epoch h f fs e =
    ap (λ (o : Option ℕ). if (is_none o && not (quiet_now c f.load)) && f.epoch == epoch then f ∷ coded_stretch c epoch fs else []) e

pub frame-carries : (who : Who) (h : ℕ) (f : CallFrame) (fs : List CallFrame) → f.carries ≡ Some h → frame_now who (f ∷ fs)
    ≡ down.Speech (handed_in h f.load) true
frame-carries who h f fs e =
    ap (λ (o : Option ℕ). elim o as (λ x. DownFrame) [
      | Some h ↦ down.Speech (handed_in h f.load) true
      | None ↦ if quiet_now who.number f.load then down.Idle else speech (sent_of (coded_after who.law f (coded_stretch who.number f.epoch fs))
          (coded_frames who.law (coded_stretch who.number f.epoch fs)))
    ]) e

-- a quiet period's frame ends it too
pub stretch-quiet : (c epoch : ℕ) (f : CallFrame) (fs : List CallFrame) → quiet_now c f.load ≡ true → coded_stretch c epoch (f ∷ fs) ≡ []
stretch-quiet c epoch f fs q =
    ap (λ b. if (is_none f.carries && not b) && f.epoch == epoch then f ∷ coded_stretch c epoch fs else []) q ∙ none (is_none f.carries) (f.epoch == epoch)
  where
    none : (a b : Bool) → (if (a && not true) && b then f ∷ coded_stretch c epoch fs else []) ≡ []
    none true b = refl
    none false b = refl

pub frame-quiet : (who : Who) (f : CallFrame) (fs : List CallFrame) → f.carries ≡ None → quiet_now who.number f.load ≡ true → frame_now who (f ∷ fs) ≡ down.Idle
frame-quiet who f fs e q =
    ap (λ (o : Option ℕ). elim o as (λ x. DownFrame) [
      | Some h ↦ down.Speech (handed_in h f.load) true
      | None ↦ if quiet_now who.number f.load then down.Idle else speech (sent_of (coded_after who.law f (coded_stretch who.number f.epoch fs))
          (coded_frames who.law (coded_stretch who.number f.epoch fs)))
    ]) e ∙
    cond-true (quiet_now who.number f.load) down.Idle
    (speech (sent_of (coded_after who.law f (coded_stretch who.number f.epoch fs)) (coded_frames who.law (coded_stretch who.number f.epoch fs)))) q
