-- The recorded outgoing lines are those of `trau run`'s call.
use Rattle.std.proofs.Common.{◌≡◌, ℕ, List, [], ◌∷◌, ◌++◌, All, map, replicate, refl, sym, ap, ◌∙◌}
use Rattle.down_framer.proofs.FrameLaws.{apart}
use Rattle.trau_bits.specs.Bits.{bits_of}
use Rattle.trau_frame.specs.DownFrame.{down_bits}
use Rattle.fr_sides.specs.Memory.{ReceiverMemory, SenderMemory}
use Rattle.fr_sides.specs.Receiving.{ReceiverPeriod}
use Rattle.call_leg.specs.Who.{Who}
use Rattle.call_leg.specs.Periods.{CallPeriod}
use Rattle.call_leg.specs.Out.{out_of, out_line}
use Rattle.call_leg.specs.Down.{down_periods, frames_of, frame_now, down_line}
use Rattle.call_sides.specs.Received.{receiver_periods}
use Rattle.call_sides.specs.Sent.{AsksNoShift, AreUnshifted, frame_in, bits_sent, line_sent}
use Rattle.call_sides.specs.Recorded.{AreRecordsOf}
use Rattle.call_coders.specs.Replay.{CallStands}
use Rattle.call_coders.specs.Lines.{OutAndDown, AreReplayed, recorded_out, recorded_down}

pub out : (who : Who) (ts : List CallPeriod) (rs : List OutAndDown) → AreReplayed who ts rs → out_line who ts ≡ recorded_out rs
out who [] [] h = refl
out who [] (r ∷ rs) h = absurd h
out who (t ∷ past) [] h = absurd h
out who (t ∷ past) (r ∷ rs) h =
    ap (λ (l : List ℕ). l ++ out_of who (t ∷ past)) (out who past rs h.1)
    ∙ ap (λ (o : List ℕ). recorded_out rs ++ o) (sym h.0.replays.out_is)

-- the laws of call_sides that the Down line needs
pub record DownLaws : Type 0 where
  pub contents : (who : Who) (t : CallPeriod) (past : List CallPeriod) → AreUnshifted (t ∷ past) →
      frame_now who (frames_of (t ∷ past)) ≡ frame_in who t past
  pub line : (who : Who) (ts : List CallPeriod) → AreUnshifted ts → down_line who ts ≡ line_sent who ts
  pub records : (ps : List ReceiverPeriod) (ts : List CallPeriod) → AreRecordsOf ps ts →
      (receiver_periods ts ≡ ps) × All AsksNoShift (map (λ p. p.field) (down_periods ts))

unshifted : (laws : DownLaws) (who : Who) (ts : List CallPeriod) (receiver : ReceiverMemory) (sender : SenderMemory) → CallStands who ts receiver sender →
    AreUnshifted ts
unshifted laws who ts receiver sender s = record {
  pcms = s.pcms;
  fields = (laws.records s.heard ts s.records).1;
  bridges = apart (down_periods ts) s.bridges;
  begun = s.begun;
}

bits : (laws : DownLaws) (who : Who) (ts : List CallPeriod) (rs : List OutAndDown) → AreReplayed who ts rs → bits_sent who ts ≡ recorded_down rs
bits laws who [] [] h = refl
bits laws who [] (r ∷ rs) h = absurd h
bits laws who (t ∷ past) [] h = absurd h
bits laws who (t ∷ past) (r ∷ rs) h =
    let whole : AreUnshifted (t ∷ past) = unshifted laws who (t ∷ past) h.0.receiver h.0.sender h.0.replays.stands in
    ap (λ (l : List ℕ). l ++ down_bits (frame_in who t past)) (bits laws who past rs h.1)
    ∙ ap (λ (b : List ℕ). recorded_down rs ++ b) (ap down_bits (sym (laws.contents who t past whole)) ∙ sym h.0.replays.down_is)

pub down : (laws : DownLaws) (who : Who) (t : CallPeriod) (past : List CallPeriod) (r : OutAndDown) (rs : List OutAndDown) →
    AreReplayed who (t ∷ past) (r ∷ rs) → down_line who (t ∷ past) ≡ replicate 320 1 ++ recorded_down rs
down laws who t past r rs h =
    laws.line who (t ∷ past) (unshifted laws who (t ∷ past) h.0.receiver h.0.sender h.0.replays.stands)
    ∙ ap (λ (l : List ℕ). replicate 320 1 ++ l) (bits laws who past rs h.1)
