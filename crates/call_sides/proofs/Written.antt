-- A call that records what a receive side got.
use Rattle.std.proofs.Common.{◌≡◌, refl, sym, ap, ◌∙◌, subst, ℕ, Bool, Option, Some, None, IfSome, is_some, All, List, [], ◌∷◌, map}
use Rattle.std.proofs.lemmas.List.Elements.{All-nil, All-cons}
use Rattle.trau_bits.specs.Bits.{bits_of}
use Rattle.trau_params.specs.declared.params.Params.{Params}
use Rattle.trau_params.specs.Shape.{HasShape}
use Rattle.trau_frame.specs.declared.frames.Kind.{Kind}
use Rattle.trau_frame.specs.declared.frames.Kind.TheVariants.{Speech, Idle, Other}
use Rattle.trau_frame.specs.UpFrame.{UpWords}
use Rattle.time_align.specs.Shift.{shift_of}
use Rattle.rx_handler.specs.Heard.{heard_frame}
use Rattle.fr_sides.specs.Receiving.{ReceiverPeriod}
use Rattle.fr_sides.specs.Octets.{CarriesIf, HeardIn}
use Rattle.fr_sides.specs.Uplink.{heard_in_uplink, WrittenUplink}
use Rattle.fr_sides.proofs.Heard.{heard-written}
use Rattle.fr_sides.proofs.OneHeard.{one-heard}
use Rattle.call_leg.specs.Uplink.{field_by}
use Rattle.call_leg.specs.Periods.{CallPeriod}
use Rattle.call_leg.specs.Down.{down_periods}
use Rattle.call_sides.specs.Received.{receiver_period, receiver_periods}
use Rattle.call_sides.specs.Sent.{AsksNoShift}
use Rattle.call_sides.specs.Recorded.{IsWholeFrame, AreWholeFrames, FrameAsksNoShift, recorded_periods, AreRecordsOf}
use Rattle.call_sides.proofs.Recorded.{recorded-same, fields-none}

-- ---- one frame

-- field 0 asks for nothing
zero-asks : (kind : Kind) → AsksNoShift (field_by kind 0)
unfolding shift_of
zero-asks Speech = refl
zero-asks Idle = refl
zero-asks Other = tt

no-shift : (frame octets : List ℕ) (kind : ℕ) (taf : Bool) → WrittenUplink frame kind taf octets → FrameAsksNoShift octets
no-shift frame octets kind taf w = subst (λ (words : UpWords). AsksNoShift (field_by words.kind words.align)) (sym w.says) (zero-asks _)

shape-of : (octets : List ℕ) (given : Option Params) → CarriesIf octets given → IfSome given (λ p. HasShape p)
shape-of octets None h = tt
shape-of octets (Some p) h = h.1

-- a call hears in what is written what is heard in the frame
heard-uplink : (frame octets : List ℕ) (kind : ℕ) (taf : Bool) → WrittenUplink frame kind taf octets → HeardIn kind taf frame (heard_in_uplink (bits_of octets))
heard-uplink frame octets kind taf w = record {
  frame = w.given;
  carried = w.carried;
  heard = ap (λ (words : UpWords). heard_frame words.kind words.class words.taf words.d) w.says
      ∙ heard-written kind taf w.given (shape-of frame w.given w.carried);
}

-- ---- all periods

frames-whole : (ps : List ReceiverPeriod) (ts : List CallPeriod) → AreRecordsOf ps ts → AreWholeFrames ts
frames-whole [] [] h = All-nil (λ t. IsWholeFrame t.up)
frames-whole [] (t ∷ ts) h = absurd h
frames-whole (p ∷ ps) [] h = absurd h
frames-whole (p ∷ ps) (t ∷ ts) h =
    All-cons (λ t. IsWholeFrame t.up) t ts (h.0.written.0, h.0.written.1.synced) (frames-whole ps ts h.1)

asks-none : (ps : List ReceiverPeriod) (ts : List CallPeriod) → AreRecordsOf ps ts → All (λ t. FrameAsksNoShift t.up) ts
asks-none [] [] h = All-nil (λ t. FrameAsksNoShift t.up)
asks-none [] (t ∷ ts) h = absurd h
asks-none (p ∷ ps) [] h = absurd h
asks-none (p ∷ ps) (t ∷ ts) h =
    All-cons (λ t. FrameAsksNoShift t.up) t ts (no-shift h.0.frame t.up h.0.kind h.0.taf h.0.written.1) (asks-none ps ts h.1)

got-same : (ps : List ReceiverPeriod) (ts : List CallPeriod) → AreRecordsOf ps ts → recorded_periods ts ≡ ps
got-same [] [] h = refl
got-same [] (t ∷ ts) h = absurd h
got-same (p ∷ ps) [] h = absurd h
got-same (p ∷ ps) (t ∷ ts) h =
    let r = h.0 in
    let heard = one-heard r.kind r.taf r.frame (heard_in_uplink (bits_of t.up)) p.heard r.octets.0 r.octets.1
    (heard-uplink r.frame t.up r.kind r.taf r.written.1) r.heard in
    ap (λ y. receiver_period y (is_some t.handed) ∷ recorded_periods ts) heard
    ∙ ap (λ b. receiver_period p.heard b ∷ recorded_periods ts) (sym r.handed)
    ∙ ap (λ ps. p ∷ ps) (got-same ps ts h.1)

-- **The call gets what the receive side got, and is asked for no shift.**
pub records-same : (ps : List ReceiverPeriod) (ts : List CallPeriod) → AreRecordsOf ps ts →
    (receiver_periods ts ≡ ps) × All AsksNoShift (map (λ p. p.field) (down_periods ts))
records-same ps ts h =
    let whole = frames-whole ps ts h in
    (recorded-same ts whole ∙ got-same ps ts h, fields-none ts whole (asks-none ps ts h))
