-- For crates above: a period has 320 bits of Down and 160 octets of Out, and so have lines of several periods; Down is
-- made of bits if all handed frames are (`HandBits`).
use Rattle.std.proofs.Common.{◌≡◌, ◌∙◌, ℕ, ◌*◌, ◌<◌, ℤ, pos, negsuc, true, if◌then◌else◌, nat_le, Option, Some, None, IfSome, unwrap_or}
use Rattle.std.proofs.Common.{refl, get_or, All, List, [], ◌∷◌, length, drop, replicate, arith, length-take, length-drop}
use Rattle.std.specs.Prelude.{◌==◌}
use Rattle.std.specs.List.{range_with_len}
use Rattle.std.proofs.lemmas.Bool.{cond_both}
use Rattle.std.proofs.lemmas.List.{length-append, length-replicate, length-map}
use Rattle.std.proofs.lemmas.List.Elements.{All-nil, All-cons, All-head, All-tail, All-replicate, All-append, All-map, All-take, All-drop}
use Rattle.trau_alaw.specs.declared.Law.{Law}
use Rattle.trau_alaw.specs.declared.Law.TheVariants.{A}
use Rattle.trau_alaw.specs.Laws.{companding, idle_of}
use Rattle.trau_alaw.specs.Period.{compressed}
use Rattle.trau_alaw.specs.Companding.{octet_of}
use Rattle.trau_bits.specs.Bits.{AreBits}
use Rattle.trau_params.specs.Fields.{Fields}
use Rattle.trau_params.proofs.AreBits.{AreBits-bits260}
use Rattle.trau_frame.specs.declared.frames.DownFrame.{DownFrame}
use Rattle.trau_frame.specs.declared.frames.DownFrame.TheVariants as frame
use Rattle.trau_frame.specs.DownFrame.{HasBits, sp_of, down_control_bit, down_control, down_data, down_bits}
use Rattle.trau_frame.proofs.Again.{length-down_bits}
use Rattle.trau_frame.proofs.WrittenRows.{frame_bits-below}
use Rattle.fr_decoder.specs.Decoded.{samples_of}
use Rattle.fr_decoder.proofs.Frames.{length-samples_of}
use Rattle.tx_dtx.specs.Sent.{sent_of}
use Rattle.down_framer.specs.Made.{next_start, next_frame, grown, frame_on_line}
use Rattle.down_framer.proofs.Store.{made-far}
use Rattle.call_leg.specs.Who.{Who}
use Rattle.call_leg.specs.Periods.{CallPeriod, quiet_now, handed_in, bridges_begun}
use Rattle.call_leg.specs.Out.{plain_stretch, decoded_octets, out_line, out_of}
use Rattle.call_leg.specs.Down.{CallFrame, down_period, down_periods, frames_of, coded_stretch, coded_after, coded_frames, speech, frame_now, bits_now}
use Rattle.call_leg.specs.Down.{down_line, down_made, down_now}

-- ---- lengths

pub length-decoded_octets : (law : Law) (fs : List Fields) → length (decoded_octets law fs) ≡ 160
unfolding compressed
length-decoded_octets law [] = length-replicate {A = ℕ} 160 (idle_of law)
length-decoded_octets law (f ∷ past) = length-map (samples_of f past) (octet_of (companding law)) ∙ length-samples_of f past

pub length-out_of : (who : Who) (ts : List CallPeriod) → length (out_of who ts) ≡ 160
length-out_of who ts = length-decoded_octets who.law (plain_stretch who.number (bridges_begun ts) ts)

pub length-down_now : (who : Who) (t : CallPeriod) (past : List CallPeriod) → length (down_now who (t ∷ past)) ≡ 320
length-down_now who t past =
    let line = down_made who (frames_of (t ∷ past)) in
    let far : 320 * length (down_periods (t ∷ past)) < length line = made-far (bits_now who) (λ fs. length-down_bits (frame_now who fs))
    (down_periods (t ∷ past)) in
    let rest = length-drop (320 * length (down_periods past)) line in
    length-take 320 (drop (320 * length (down_periods past)) line) ∙ omega arith

pub length-out_line : (who : Who) (ts : List CallPeriod) → length (out_line who ts) ≡ 160 * length ts
length-out_line who [] = refl
length-out_line who (t ∷ past) =
    omega (arith, length-append (out_line who past) (out_of who (t ∷ past)), length-out_line who past, length-out_of who (t ∷ past))

pub length-down_line : (who : Who) (ts : List CallPeriod) → length (down_line who ts) ≡ 320 * length ts
length-down_line who [] = refl
length-down_line who (t ∷ past) =
    omega (arith, length-append (down_line who past) (down_now who (t ∷ past)), length-down_line who past, length-down_now who t past)

-- ---- bits

-- the bits of a frame
sp-is : (f : DownFrame) → sp_of f < 2
sp-is frame.Idle = omega arith
sp-is (frame.Speech d sp) = cond_both sp 1 0 (λ b. b < 2) (λ y. omega arith) (λ n. omega arith)

control-is : (f : DownFrame) (c : ℕ) → down_control_bit f c < 2
control-is f c =
    let s = sp-is f in
    cond_both (nat_le c 5) _ _ (λ b. b < 2) (λ y. omega arith)
    (λ n. cond_both (nat_le c 11) _ _ (λ b. b < 2) (λ y. omega arith) (λ m. cond_both (c == 16) _ _ (λ b. b < 2) (λ y. s) (λ k. omega arith)))

data-are : (f : DownFrame) → HasBits f → AreBits (down_data f)
data-are frame.Idle h = All-replicate (λ b. b < 2) 260 1 (omega arith)
data-are (frame.Speech d sp) h = h

down_bits-are : (f : DownFrame) → HasBits f → AreBits (down_bits f)
unfolding down_bits down_control
down_bits-are f h = frame_bits-below (down_control f) (down_data f) (All-map (λ b. b < 2) (down_control_bit f) (range_with_len 1 21)
    (λ k d l. control-is f (get_or (range_with_len 1 21) k d))) (data-are f h)

-- what is handed over in each period are bits
abbrev pub HandBits : List CallPeriod → Type 0
HandBits ts = All (λ t. IfSome t.handed (λ d. AreBits d)) ts

-- what is handed over in a period
unwrapped : (o : Option (List ℕ)) → IfSome o (λ d. AreBits d) → AreBits (unwrap_or o [])
unwrapped None h = All-nil (λ b. b < 2)
unwrapped (Some d) h = h

handed-are : (h : ℕ) (ts : List CallPeriod) → HandBits ts → AreBits (handed_in h ts)
handed-are h [] k = All-nil (λ b. b < 2)
handed-are h (t ∷ past) k =
    cond_both (h == length past) (unwrap_or t.handed []) (handed_in h past) (λ d. AreBits d)
    (λ y. unwrapped t.handed (All-head (λ t. IfSome t.handed (λ d. AreBits d)) t past k))
    (λ n. handed-are h past (All-tail (λ t. IfSome t.handed (λ d. AreBits d)) t past k))

-- each frame of a call is made of them
abbrev pub LoadsHandBits : List CallFrame → Type 0
LoadsHandBits fs = All (λ f. HandBits f.load) fs

-- a frame that carries bits, or is coded, is one of bits
frame-has : (who : Who) (fs : List CallFrame) → LoadsHandBits fs → HasBits (frame_now who fs)
frame-has who [] k = tt
frame-has who (f ∷ fs) k = go f.carries
  where
    go : (o : Option ℕ) → HasBits (elim o as (λ x. DownFrame) [
      | Some h ↦ frame.Speech (handed_in h f.load) true
      | None ↦ if quiet_now who.number f.load then frame.Idle else speech (sent_of (coded_after who.law f (coded_stretch who.number f.epoch fs))
          (coded_frames who.law (coded_stretch who.number f.epoch fs)))
    ])
    go (Some h) = handed-are h f.load (All-head (λ f. HandBits f.load) f fs k)
    go None =
        let s = sent_of (coded_after who.law f (coded_stretch who.number f.epoch fs)) (coded_frames who.law (coded_stretch who.number f.epoch fs)) in
        cond_both (quiet_now who.number f.load) frame.Idle (speech s) HasBits (λ y. tt) (λ n. AreBits-bits260 s.fields)

on_line-are : (v : ℤ) (bits : List ℕ) → AreBits bits → AreBits (frame_on_line v bits)
on_line-are (pos v) bits h = All-append (λ b. b < 2) bits (replicate (2 * v) 1) h (All-replicate (λ b. b < 2) (2 * v) 1 (omega arith))
on_line-are (negsuc v) bits h = All-take (λ b. b < 2) 316 bits h

line-are : (who : Who) (fs : List CallFrame) → LoadsHandBits fs → AreBits (down_made who fs)
line-are who [] k = All-replicate (λ b. b < 2) 320 1 (omega arith)
line-are who (f ∷ fs) k =
    All-append (λ b. b < 2) (down_made who fs) (frame_on_line f.shift (bits_now who (f ∷ fs))) (line-are who fs (All-tail (λ f. HandBits f.load) f fs k))
    (on_line-are f.shift (bits_now who (f ∷ fs)) (down_bits-are (frame_now who (f ∷ fs)) (frame-has who (f ∷ fs) k)))

grown-loads : (t : CallPeriod) (past : List CallPeriod) (fs : List CallFrame) → HandBits (t ∷ past) → LoadsHandBits fs →
    LoadsHandBits (grown (down_period t past) (down_periods past) fs)
grown-loads t past fs h k =
    cond_both (nat_le (next_start fs) (160 * length (down_periods past))) (next_frame (down_period t past) (down_periods past) fs ∷ fs) fs LoadsHandBits
    (λ y. All-cons (λ f. HandBits f.load) _ fs h k) (λ n. k)

loads : (ts : List CallPeriod) → HandBits ts → LoadsHandBits (frames_of ts)
loads [] h = All-nil (λ f. HandBits f.load)
loads (t ∷ past) h =
    grown-loads t past (grown (down_period t past) (down_periods past) (frames_of past)) h
    (grown-loads t past (frames_of past) h (loads past (All-tail (λ t. IfSome t.handed (λ d. AreBits d)) t past h)))

pub down_now-bits : (who : Who) (ts : List CallPeriod) → HandBits ts → AreBits (down_now who ts)
down_now-bits who [] h = All-nil (λ b. b < 2)
down_now-bits who (t ∷ past) h =
    All-take (λ b. b < 2) 320 _ (All-drop (λ b. b < 2) (320 * length (down_periods past)) (down_made who (frames_of (t ∷ past)))
    (line-are who (frames_of (t ∷ past)) (loads (t ∷ past) h)))
