-- One more recorded period of a call.
use Rattle.down_framer.specs.Bridges.{LeavePeriodsBetween}
use Rattle.down_framer.proofs.FrameLaws.{apart}
use Rattle.trau_params.specs.Fields.{Fields}
use Rattle.trau_params.specs.Bits260.{bits260}
use Rattle.std.proofs.Common.{◌≡◌, ℕ, ℤ, pos, List, [], ◌∷◌, All, map, length, refl, sym, ap, subst, ◌∙◌}
use Rattle.std.specs.Prelude.{Bool, true, false, not, if◌then◌else◌, is_some}
use Rattle.std.proofs.lemmas.Bool.{true≢false}
use Rattle.std.proofs.lemmas.List.Elements.{All-cons}
use Rattle.trau_alaw.specs.declared.Law.{Law}
use Rattle.trau_alaw.specs.Period.{compressed, expanded}
use Rattle.trau_bits.specs.Bits.{bits_of}
use Rattle.trau_frame.specs.declared.frames.DownFrame.TheVariants.{Idle, Speech}
use Rattle.trau_frame.specs.DownFrame.{down_bits}
use Rattle.tx_dtx.specs.Stretch.{Sent}
use Rattle.rx_handler.specs.Origin.{is_quiet, EffectiveFields}
use Rattle.fr_sides.specs.Memory.{ReceiverMemory, SenderMemory}
use Rattle.fr_sides.specs.Receiving.{ReceiverPeriod, ReceiverStands, no_samples, decoded_period, handed_period, samples_now, effective_now}
use Rattle.fr_sides.specs.Sending.{SenderPeriod, sender_period, sent_now, SenderStands}
use Rattle.fr_sides.specs.Octets.{CarriesFrame}
use Rattle.fr_sides.specs.Uplink.{WrittenUplink}
use Rattle.fr_sides.specs.Downlink.{WrittenDownlink}
use Rattle.call_leg.specs.Who.{Who}
use Rattle.call_leg.specs.Periods.{CallPeriod}
use Rattle.call_leg.specs.Out.{out_of}
use Rattle.call_leg.specs.Down.{down_periods, frames_of, frame_now, speech}
use Rattle.call_sides.specs.Received.{BridgesHavePeriods, receiver_periods, octets_received}
use Rattle.call_sides.specs.Sent.{AsksNoShift, AreUnshifted, sender_periods, own_period, frame_in, is_quiet_in}
use Rattle.call_sides.specs.Recorded.{AreRecordsOf, IsRecordOf}
use Rattle.call_sides.specs.Written.{AreOctets33, kind_of_sp}
use Rattle.rx_handler.specs.Past.{effective_of}
use Rattle.fr_sides.specs.Receiving as sides
use Rattle.call_leg.specs.Uplink.{heard_as, handed_fields}
use Rattle.call_leg.specs.Periods.{effective_now as call_effective_now, sighting_after, heard_of}
use Rattle.call_coders.specs.declared.coders.DownKind.{DownKind}
use Rattle.call_coders.specs.Replay.{who_is, period_of, bridged_period, CanBeBridged, CallStands, Replays, IsCarried, number_of, kind_sent, HeardPeriod, SpokenPeriod, HandedPeriod}

-- the laws of call_sides that this needs
pub record Laws : Type 0 where
  pub out : (who : Who) (ts : List CallPeriod) → BridgesHavePeriods ts → out_of who ts ≡ octets_received who ts
  pub contents : (who : Who) (t : CallPeriod) (past : List CallPeriod) → AreUnshifted (t ∷ past) →
      frame_now who (frames_of (t ∷ past)) ≡ frame_in who t past
  pub records : (ps : List ReceiverPeriod) (ts : List CallPeriod) → AreRecordsOf ps ts →
      (receiver_periods ts ≡ ps) × All AsksNoShift (map (λ p. p.field) (down_periods ts))
  pub sent : (s : Sent) (frame octets : List ℕ) → AreOctets33 frame → CarriesFrame frame s.fields →
      WrittenDownlink frame (kind_of_sp s.sp) octets → bits_of octets ≡ down_bits (speech s)
  pub handed : (f : Fields) (frame octets : List ℕ) → AreOctets33 frame → CarriesFrame frame f →
      WrittenDownlink frame 0 octets → bits_of octets ≡ down_bits (Speech (bits260 f) true)
  pub idle : (frame octets : List ℕ) → WrittenDownlink frame 3 octets → bits_of octets ≡ down_bits Idle
  pub effective : (call : ℕ) (ts : List CallPeriod) → call_effective_now call ts ≡ sides.effective_now call (receiver_periods ts)

-- what a period brought, and what was written of it
pub record Came (law : Law) (before after : ReceiverMemory) (up out : List ℕ) (sounds : Bool) : Type 0 where
  pub frame : List ℕ
  pub kind : ℕ
  pub taf : Bool
  pub octets : AreOctets33 frame
  pub written : (length up ≡ 40) × WrittenUplink frame kind taf up
  pub heard_is : HeardPeriod law frame kind taf before after out sounds

-- what doesn't depend on whether the call is quiet
record Heard (number : ℕ) (law : Law) (past : List CallPeriod) (t : CallPeriod) (receiver : ReceiverMemory) (out : List ℕ) (sounds : Bool) : Type 0 where
  pub heard : List ReceiverPeriod
  pub records : AreRecordsOf heard (t ∷ past)
  pub receiver_is : ReceiverStands number heard receiver
  pub apart_is : LeavePeriodsBetween (down_periods (t ∷ past))
  pub unshifted : AreUnshifted (t ∷ past)
  pub out_is : out ≡ out_of (who_is number law) (t ∷ past)
  pub quiet : is_quiet_in (who_is number law) t past ≡ not sounds

heard_then : (laws : Laws) (number : ℕ) (law : Law) (past : List CallPeriod) (before after : ReceiverMemory) (sender : SenderMemory)
    (up pcm out : List ℕ) (level : ℤ) (dtx sounds : Bool) → CallStands (who_is number law) past before sender → length pcm ≡ 160 →
    Came law before after up out sounds → Heard number law past (period_of up pcm level dtx) after out sounds
heard_then laws number law past before after sender up pcm out level dtx sounds stands n came =
    let t : CallPeriod = period_of up pcm level dtx in
    let r = came.heard_is.received in
    let p : ReceiverPeriod = decoded_period r.heard in
    let next : ReceiverStands number (p ∷ stands.heard) after × (came.heard_is.samples ≡ samples_now number (p ∷ stands.heard))
    × (sounds ≡ not (is_quiet (effective_now number (p ∷ stands.heard)))) = r.history number stands.heard stands.receiver_is in
    let one : IsRecordOf p t = record {
      frame = came.frame;
      kind = came.kind;
      taf = came.taf;
      octets = came.octets;
      heard = r.brought;
      written = came.written;
      handed = refl;
    } in
    let all : AreRecordsOf (p ∷ stands.heard) (t ∷ past) = (one, stands.records) in
    let same : receiver_periods (t ∷ past) ≡ p ∷ stands.heard = (laws.records (p ∷ stands.heard) (t ∷ past) all).0 in
    let begun : BridgesHavePeriods (t ∷ past) =
    All-cons (λ (t : CallPeriod). t.starts ≡ true → is_some t.handed ≡ true) t past (λ e. absurd (true≢false (sym e))) stands.begun in
    let between : LeavePeriodsBetween (down_periods (t ∷ past)) =
    (stands.bridges, (λ e. absurd (true≢false (sym e))), (λ e. absurd (true≢false (sym e)))) in
    record {
      apart_is = between;
      heard = p ∷ stands.heard;
      records = all;
      receiver_is = next.0;
      unshifted = record {
        pcms = All-cons (λ (t : CallPeriod). length t.pcm ≡ 160) t past n stands.pcms;
        fields = (laws.records (p ∷ stands.heard) (t ∷ past) all).1;
        bridges = apart (down_periods (t ∷ past)) between;
        begun = begun;
      };
      out_is =
          came.heard_is.out_is
          ∙ ap (compressed law) (next.1 ∙ ap (samples_now number) (sym same))
          ∙ sym (laws.out (who_is number law) (t ∷ past) begun);
      quiet =
          ap (λ (ps : List ReceiverPeriod). is_quiet (effective_now number ps)) same
          ∙ not_not (is_quiet (effective_now number (p ∷ stands.heard))) sounds next.2;
    }
  where
    not_not : (q s : Bool) → s ≡ not q → q ≡ not s
    not_not true s e = sym (ap not e)
    not_not false s e = sym (ap not e)

-- a quiet period: Down gets an idle frame, and the transmit side is at home
pub quiet_then : (laws : Laws) (number : ℕ) (law : Law) (past : List CallPeriod) (before after : ReceiverMemory) (sender next : SenderMemory)
    (up pcm out frame down : List ℕ) (level : ℤ) (dtx : Bool) → CallStands (who_is number law) past before sender → length pcm ≡ 160 →
    Came law before after up out false → SenderStands [] next → WrittenDownlink frame 3 down →
    Replays (who_is number law) (period_of up pcm level dtx ∷ past) after next out down
quiet_then laws number law past before after sender next up pcm out frame down level dtx stands n came home written =
    let t : CallPeriod = period_of up pcm level dtx in
    let who : Who = who_is number law in
    let h : Heard number law past t after out false = heard_then laws number law past before after sender up pcm out level dtx false stands n came in
    let none : sender_periods who (t ∷ past) ≡ [] =
    ap (λ (q : Bool). if not q then own_period law t past ∷ sender_periods who past else []) h.quiet in
    let frame_is : frame_in who t past ≡ Idle =
    ap (λ (q : Bool). if q then Idle else speech (sent_now (own_period law t past) (sender_periods who past))) h.quiet in record {
      stands = record {
        heard = h.heard;
        records = h.records;
        receiver_is = h.receiver_is;
        sender_is = subst (λ (ps : List SenderPeriod). SenderStands ps next) (sym none) home;
        pcms = h.unshifted.pcms;
        bridges = h.apart_is;
        begun = h.unshifted.begun;
      };
      out_is = h.out_is;
      down_is = laws.idle frame down written ∙ sym (ap down_bits (laws.contents who t past h.unshifted ∙ frame_is));
    }

-- the period of the transmit side
own_is : (law : Law) (up pcm : List ℕ) (level : ℤ) (dtx : Bool) (past : List CallPeriod) →
    own_period law (period_of up pcm level dtx) past ≡ sender_period (expanded law pcm) level dtx
own_is law up pcm level true past = refl
own_is law up pcm level false past = refl

-- any other period: Down gets what the transmit side sends
pub sounding_then : (laws : Laws) (number : ℕ) (law : Law) (past : List CallPeriod) (before after : ReceiverMemory) (sender next : SenderMemory)
    (up pcm out frame down : List ℕ) (kind : ℕ) (level : ℤ) (dtx : Bool) → CallStands (who_is number law) past before sender → length pcm ≡ 160 →
    Came law before after up out true → SpokenPeriod law pcm level dtx sender next frame kind down →
    Replays (who_is number law) (period_of up pcm level dtx ∷ past) after next out down
sounding_then laws number law past before after sender next up pcm out frame down kind level dtx stands n came spoken =
    let t : CallPeriod = period_of up pcm level dtx in
    let who : Who = who_is number law in
    let h : Heard number law past t after out true = heard_then laws number law past before after sender up pcm out level dtx true stands n came in
    let mine : SenderPeriod = sender_period (expanded law pcm) level dtx in
    let step : SenderStands (mine ∷ sender_periods who past) next × CarriesFrame frame (sent_now mine (sender_periods who past)).fields
    × (spoken.sp ≡ (sent_now mine (sender_periods who past)).sp) = spoken.history (sender_periods who past) stands.sender_is in
    let all : sender_periods who (t ∷ past) ≡ mine ∷ sender_periods who past =
    ap (λ (q : Bool). if not q then own_period law t past ∷ sender_periods who past else []) h.quiet
    ∙ ap (λ (o : SenderPeriod). o ∷ sender_periods who past) (own_is law up pcm level dtx past) in
    let frame_is : frame_in who t past ≡ speech (sent_now mine (sender_periods who past)) =
    ap (λ (q : Bool). if q then Idle else speech (sent_now (own_period law t past) (sender_periods who past))) h.quiet
    ∙ ap (λ (o : SenderPeriod). speech (sent_now o (sender_periods who past))) (own_is law up pcm level dtx past) in
    let written : WrittenDownlink frame (kind_of_sp (sent_now mine (sender_periods who past)).sp) down =
    subst (λ (k : ℕ). WrittenDownlink frame k down) (spoken.kind_is ∙ ap kind_of_sp step.2) spoken.written in record {
      stands = record {
        heard = h.heard;
        records = h.records;
        receiver_is = h.receiver_is;
        sender_is = subst (λ (ps : List SenderPeriod). SenderStands ps next) (sym all) step.0;
        pcms = h.unshifted.pcms;
        bridges = h.apart_is;
        begun = h.unshifted.begun;
      };
      out_is = h.out_is;
      down_is =
          laws.sent (sent_now mine (sender_periods who past)) frame down spoken.octets step.1 written
          ∙ sym (ap down_bits (laws.contents who t past h.unshifted ∙ frame_is));
    }

-- the period of a bridge, recorded
record_of : (before after : ReceiverMemory) (up own : List ℕ) (came : HandedPeriod before after up own) (t : CallPeriod) → t.up ≡ up →
    is_some t.handed ≡ true → IsRecordOf (handed_period came.handed_is.heard) t
record_of before after up own came t e handed = record {
  frame = came.frame;
  kind = came.kind;
  taf = came.taf;
  octets = came.octets;
  heard = came.handed_is.brought;
  written = subst (λ (xs : List ℕ). (length xs ≡ 40) × WrittenUplink came.frame came.kind came.taf xs) (sym e) came.written;
  handed = sym handed;
}

-- the frame that is handed over carries what `trau run`'s call hands over
pub hands : (laws : Laws) (number : ℕ) (law : Law) (past : List CallPeriod) (before after : ReceiverMemory) (sender : SenderMemory) (up frame : List ℕ) →
    CallStands (who_is number law) past before sender → HandedPeriod before after up frame →
    CarriesFrame frame (handed_fields (effective_of number (heard_as (sighting_after past up) ∷ heard_of past)))
hands laws number law past before after sender up frame stands came =
    let t : CallPeriod = bridged_period up [] (pos 0) false false [] in
    let r = came.handed_is in
    let p : ReceiverPeriod = handed_period r.heard in
    let step = r.history number stands.heard stands.receiver_is in
    let same : receiver_periods (t ∷ past) ≡ p ∷ stands.heard = (laws.records (p ∷ stands.heard) (t ∷ past) (record_of before after up frame came t refl refl, stands.records)).0 in
    let effective : r.effective ≡ effective_of number (heard_as (sighting_after past up) ∷ heard_of past) =
    step.1 ∙ sym (ap (sides.effective_now number) same) ∙ sym (laws.effective number (t ∷ past)) in
    subst (λ (e : EffectiveFields). CarriesFrame frame (handed_fields e)) effective r.carried

-- a period in a bridge: Down gets the frame that the partner handed over, Out is idle, and the transmit side is at home
pub bridged_then : (laws : Laws) (number : ℕ) (law : Law) (past : List CallPeriod) (before after : ReceiverMemory) (sender next : SenderMemory)
    (up pcm out own frame down : List ℕ) (level : ℤ) (dtx starts : Bool) (f : Fields) → CallStands (who_is number law) past before sender →
    length pcm ≡ 160 → CanBeBridged starts past → HandedPeriod before after up own → out ≡ compressed law no_samples → SenderStands [] next →
    AreOctets33 frame → CarriesFrame frame f → WrittenDownlink frame 0 down →
    Replays (who_is number law) (bridged_period up pcm level dtx starts (bits260 f) ∷ past) after next out down
bridged_then laws number law past before after sender next up pcm out own frame down level dtx starts f stands n can came idle home octets carried written =
    let t : CallPeriod = bridged_period up pcm level dtx starts (bits260 f) in
    let who : Who = who_is number law in
    let r = came.handed_is in
    let p : ReceiverPeriod = handed_period r.heard in
    let step = r.history number stands.heard stands.receiver_is in
    let one : IsRecordOf p t = record_of before after up own came t refl refl in
    let all : AreRecordsOf (p ∷ stands.heard) (t ∷ past) = (one, stands.records) in
    let same : receiver_periods (t ∷ past) ≡ p ∷ stands.heard = (laws.records (p ∷ stands.heard) (t ∷ past) all).0 in
    let begun : BridgesHavePeriods (t ∷ past) =
    All-cons (λ (t : CallPeriod). t.starts ≡ true → is_some t.handed ≡ true) t past (λ e. refl) stands.begun in
    let between : LeavePeriodsBetween (down_periods (t ∷ past)) = (stands.bridges, can.0, (λ e. can.1)) in
    let pcms : All (λ (t : CallPeriod). length t.pcm ≡ 160) (t ∷ past) = All-cons (λ (t : CallPeriod). length t.pcm ≡ 160) t past n stands.pcms in
    let unshifted : AreUnshifted (t ∷ past) = record {
      pcms = pcms;
      fields = (laws.records (p ∷ stands.heard) (t ∷ past) all).1;
      bridges = apart (down_periods (t ∷ past)) between;
      begun = begun;
    } in
    let none : samples_now number (receiver_periods (t ∷ past)) ≡ no_samples = ap (samples_now number) same in record {
      stands = record {
        heard = p ∷ stands.heard;
        records = all;
        receiver_is = step.0;
        sender_is = home;
        pcms = pcms;
        bridges = between;
        begun = begun;
      };
      out_is = idle ∙ ap (compressed law) (sym none) ∙ sym (laws.out who (t ∷ past) begun);
      down_is = laws.handed f frame down octets carried written ∙ sym (ap down_bits (laws.contents who t past unshifted));
    }

-- the same of what equals it
pub bridged_with : (laws : Laws) (number : ℕ) (law : Law) (past : List CallPeriod) (before after now : ReceiverMemory) (sender next : SenderMemory)
    (up same pcm out own frame down item : List ℕ) (level : ℤ) (dtx starts : Bool) (f : Fields) → now ≡ after → same ≡ up → item ≡ bits260 f →
    CallStands (who_is number law) past before sender → length pcm ≡ 160 → CanBeBridged starts past → HandedPeriod before after up own →
    out ≡ compressed law no_samples → SenderStands [] next → AreOctets33 frame → CarriesFrame frame f → WrittenDownlink frame 0 down →
    Replays (who_is number law) (bridged_period same pcm level dtx starts item ∷ past) now next out down
bridged_with laws number law past before after now sender next up same pcm out own frame down item level dtx starts f receiver ups items stands n can came
    idle home octets carried written =
    let whole : Replays (who_is number law) (bridged_period up pcm level dtx starts (bits260 f) ∷ past) after next out down =
    bridged_then laws number law past before after sender next up pcm out own frame down level dtx starts f stands n can came idle home octets carried written in
    subst (λ (m : ReceiverMemory). Replays (who_is number law) (bridged_period same pcm level dtx starts item ∷ past) m next out down) (sym receiver)
    (subst (λ (u : List ℕ). Replays (who_is number law) (bridged_period u pcm level dtx starts item ∷ past) after next out down) (sym ups)
    (subst (λ (i : List ℕ). Replays (who_is number law) (bridged_period up pcm level dtx starts i ∷ past) after next out down) (sym items) whole))

-- what Down carries, if it is what the transmit side sends
pub carried_speech : ((s : Sent) (frame octets : List ℕ) → AreOctets33 frame → CarriesFrame frame s.fields →
    WrittenDownlink frame (kind_of_sp s.sp) octets → bits_of octets ≡ down_bits (speech s)) →
    (s : Sent) (frame down : List ℕ) (kind : DownKind) (sp : Bool) → AreOctets33 frame → CarriesFrame frame s.fields → sp ≡ s.sp →
    number_of kind ≡ kind_of_sp sp → kind ≡ kind_sent sp → WrittenDownlink frame (number_of kind) down → IsCarried frame kind down
carried_speech sent s frame down kind sp octets carries same number kind_is written = record {
  written = written;
  contents = speech s;
  bits = sent s frame down octets carries (subst (λ (k : ℕ). WrittenDownlink frame k down) (number ∙ ap kind_of_sp same) written);
  kind_is = kind_is ∙ ap kind_sent same;
}

-- the same if it is what the partner hands over
pub carried_item : ((f : Fields) (frame octets : List ℕ) → AreOctets33 frame → CarriesFrame frame f →
    WrittenDownlink frame 0 octets → bits_of octets ≡ down_bits (Speech (bits260 f) true)) →
    (f : Fields) (frame same down : List ℕ) (kind : DownKind) → AreOctets33 frame → CarriesFrame frame f → same ≡ frame → kind ≡ kind_sent true →
    WrittenDownlink frame 0 down → IsCarried same kind down
carried_item handed f frame same down kind octets carries frame_is kind_is written =
    subst (λ (xs : List ℕ). IsCarried xs kind down) (sym frame_is)
    (subst (λ (k : DownKind). IsCarried frame k down) (sym kind_is) (record {
      written = written;
      contents = Speech (bits260 f) true;
      bits = handed f frame down octets carries written;
      kind_is = refl;
    }))
