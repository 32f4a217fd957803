-- A call whose partners hand over other items in the same spans.
use Rattle.std.proofs.Common.{◌≡◌, refl, sym, ap, ◌∙◌, subst, ℕ, zero, suc, ◌+◌, ◌*◌, ◌<◌, Bool, true, Option, Some, None, List, [], ◌∷◌, ◌++◌}
use Rattle.std.proofs.Common.{length, map, reverse, get_or, inl, inr, arith}
use Rattle.std.specs.Prelude.{if◌then◌else◌, ◌&&◌, ◌-◌, ◌==◌, not, nat_le, nat_lt, is_some, unwrap_or, filter}
use Rattle.std.specs.List.{flat_map, list_any}
use Rattle.std.proofs.lemmas.Bool.{cases_lt}
use Rattle.std.proofs.lemmas.List.{length-take, get_or-take, get_or-append-add, get_or_append_left}
use Rattle.trau_frame.specs.declared.frames.DownFrame.{DownFrame}
use Rattle.trau_frame.specs.declared.frames.DownFrame.TheVariants.{Speech, Idle}
use Rattle.trau_frame.specs.DownFrame.{down_bits}
use Rattle.tx_dtx.specs.Stretch.{Coded}
use Rattle.tx_dtx.specs.Sent.{sent_of}
use Rattle.fr_encoder.specs.Encoded.{encoding_of}
use Rattle.down_framer.specs.Made.{frame_on_line}
use Rattle.down_framer.specs.ByNumber.{Bridge, NumberedFrame, when, numbered_start, numbered_next, numbered_frames}
use Rattle.call_leg.specs.Uplink.{dtxd_after}
use Rattle.call_leg.specs.Periods.{dtx_in}
use Rattle.call_leg.specs.Down.{coded_as, speech}
use Rattle.call_spec.specs.Stretches.{stretches}
use Rattle.call_spec.specs.Call.{Call, Span, periods, each_period, effective_frame, fields, seen_at, setting_at, dtxd_at, item_at}
use Rattle.call_spec.specs.Out.{Decoding, decoding_at, parameters_of, plain_goes_on, stretch_octets, out}
use Rattle.call_spec.specs.Down.{without_items, first_frames, frame_by_number, frames_of_call, is_coded, coded_goes_on, samples, uncoded}
use Rattle.call_spec.specs.Down.{down_frames, line, down}
use Rattle.call_spec.specs.Whole.{IsWhole}
use Rattle.call_spec.proofs.Stretched.{before}
use Rattle.call_spec.proofs.Sending.{code, codes, frame_after}
use Rattle.run_calls_spec.specs.Sent.{HasOtherItems, sent_as, SendsItem, IsNoItemBit, DiffersInItems}
use Rattle.run_calls_spec.proofs.Sent.{frame_sent, made_first, sent_at}
use Rattle.run_calls_spec.proofs.OnLine.{line_to, adds, line_more, length-line}
use Rattle.run_calls_spec.proofs.Carrying.{lies, item-bare, begins-bare, sends, IsNoData, adds_item, item_bits}

module _ (call : Call) (spans : List Span) (same : map without_items spans ≡ map without_items call.spans) where
  abbrev other : Call
  other = record call { spans = spans }

  handed_so : (k : ℕ) → is_some (item_at spans k) ≡ is_some (item_at call.spans k)
  handed_so k = item-bare spans k ∙ ap (list_any (lies k)) same ∙ sym (item-bare call.spans k)

  begins_so : (begins : ℕ → Bool) → list_any (λ (span : Span). begins span.from) spans ≡ list_any (λ (span : Span). begins span.from) call.spans
  begins_so begins = begins-bare begins spans ∙ ap (list_any (λ (b : Bridge). begins b.from)) same ∙ sym (begins-bare begins call.spans)

  -- the Out line
  decoding : (k : ℕ) → decoding_at other k ≡ decoding_at call k
  decoding k = λ i. record {
    parameters = if handed_so k i then None else parameters_of (effective_frame call k);
    starts = begins_so (λ from. from == k) i;
  }

  same_out : out other ≡ out call
  same_out =
      let every : decoding_at other ≡ decoding_at call = λ i. λ k. decoding k i in
      ap (λ (d : ℕ → Decoding). flat_map (stretch_octets call.who.law) (stretches plain_goes_on (map d (each_period call)))) every

  -- the frames that are made
  same_first : (j : ℕ) → first_frames other j ≡ first_frames call j
  same_first j = ap (λ (bs : List Bridge). numbered_frames bs (fields call) j) same

  same_frame : (j : ℕ) → frame_by_number other j ≡ frame_by_number call j
  same_frame j = ap (λ (bs : List Bridge). numbered_next bs (fields call) (numbered_frames bs (fields call) j)) same

  same_made : frames_of_call other ≡ frames_of_call call
  same_made =
      ap (λ (bs : List Bridge). reverse (filter (λ f. nat_lt (when f.start) (periods call)) (numbered_frames bs (fields call) (2 * periods call)))) same

  -- DTX in each period
  same_dtxd : (k : ℕ) → dtxd_at other k ≡ dtxd_at call k
  same_dtxd zero = refl
  same_dtxd (suc k) = ap (λ t. dtxd_after (seen_at call (suc k)) t) (same_dtxd k)

  -- a coded frame behind those of its stretch
  same_code : (f : NumberedFrame) (s : List NumberedFrame) → code other f s ≡ code call f s
  same_code f s =
      let k = when f.start in
      ap (λ t. coded_as (encoding_of (samples call f) (map (samples call) s)) (setting_at call k).level (dtx_in (setting_at call k).mode t)) (same_dtxd k)

  same_codes : (s : List NumberedFrame) → codes other s ≡ codes call s
  same_codes [] = refl
  same_codes (f ∷ s) = ap (λ (c : Coded). c ∷ codes other s) (same_code f s) ∙ ap (λ (cs : List Coded). code call f s ∷ cs) (same_codes s)

  -- where a coded stretch goes on
  same_goes_on : (f g : NumberedFrame) → coded_goes_on other f g ≡ coded_goes_on call f g
  same_goes_on f g =
      ap (λ t. is_coded call f && is_coded call g && not t) (begins_so (λ from. nat_lt (when f.start) from && nat_le from (when g.start)))

  -- a frame that carries nothing, behind those of its stretch
  same_after : (f : NumberedFrame) (s : List NumberedFrame) → f.carries ≡ None → frame_after other f s ≡ frame_after call f s
  same_after f s e =
      ap (λ (c : Coded). if is_coded call f then speech (sent_of c (codes other s)) else uncoded other f) (same_code f s)
      ∙ ap (λ (cs : List Coded). if is_coded call f then speech (sent_of (code call f s) cs) else uncoded other f) (same_codes s)
      ∙ ap (λ (x : DownFrame). if is_coded call f then speech (sent_of (code call f s) (codes call s)) else x) (idle other ∙ sym (idle call))
    where
      idle : (c : Call) → uncoded c f ≡ Idle
      idle c = ap (λ (o : Option ℕ). elim o as (λ x. DownFrame) [ Some h ↦ Speech (unwrap_or (item_at c.spans h) []) true | None ↦ Idle ]) e

  -- **What is sent in it.**
  same_sent : (j : ℕ) → (frame_by_number call j).carries ≡ None → frame_sent other j ≡ frame_sent call j
  unfolding frame_sent
  same_sent j e =
      let every : coded_goes_on other ≡ coded_goes_on call = λ i. λ f g. same_goes_on f g i in
      ap (λ (f : NumberedFrame). frame_after other f (before (coded_goes_on other) f (first_frames other j))) (same_frame j)
      ∙ ap (λ (fs : List NumberedFrame). frame_after other (frame_by_number call j) (before (coded_goes_on other) (frame_by_number call j) fs)) (same_first j)
      ∙ ap (λ (r : NumberedFrame → NumberedFrame → Bool). frame_after other (frame_by_number call j) (before r (frame_by_number call j) (first_frames call j)))
      every
      ∙ same_after (frame_by_number call j) (before (coded_goes_on call) (frame_by_number call j) (first_frames call j)) e

  -- a made frame as it is sent
  at_call : IsWhole call → (j : ℕ) → j < length (frames_of_call call) → sent_as call j ≡ frame_sent call j
  at_call whole j l =
      ap (λ (fs : List NumberedFrame). get_or (down_frames call fs) j Idle) (made_first call whole) ∙ sent_at call (length (frames_of_call call)) j l

  at_other : IsWhole call → (j : ℕ) → j < length (frames_of_call call) → sent_as other j ≡ frame_sent other j
  at_other whole j l =
      let n = length (frames_of_call call) in
      ap (λ (fs : List NumberedFrame). get_or (down_frames other fs) j Idle)
      (same_made ∙ made_first call whole ∙ ap (λ (fs : List NumberedFrame). reverse fs) (sym (same_first n))) ∙ sent_at other n j l

  -- one that carries an item
  each_sends : IsWhole call → (j h : ℕ) → j < length (frames_of_call call) → (frame_by_number call j).carries ≡ Some h →
      SendsItem call j h × SendsItem other j h
  each_sends whole j h l e = (
    sends call j h e (at_call whole j l),
    sends other j h (ap (λ (f : NumberedFrame). f.carries) (same_frame j) ∙ e) (at_other whole j l),
  )

  -- one that carries none
  each_same : IsWhole call → (j : ℕ) → j < length (frames_of_call call) → (frame_by_number call j).carries ≡ None → sent_as other j ≡ sent_as call j
  each_same whole j l e = at_other whole j l ∙ same_sent j e ∙ sym (at_call whole j l)

  -- ---- the Down line

  -- what frame m adds to it
  same_adds : (m i : ℕ) → ((h : ℕ) → (frame_by_number call m).carries ≡ Some h → i < 320 → IsNoData i) →
      get_or (adds other m) i 0 ≡ get_or (adds call m) i 0
  same_adds m i spared = by (frame_by_number call m).carries refl
    where
      by : (o : Option ℕ) → (frame_by_number call m).carries ≡ o → get_or (adds other m) i 0 ≡ get_or (adds call m) i 0
      by None e =
          ap (λ (f : NumberedFrame). get_or (frame_on_line f.shift (down_bits (frame_sent other m))) i 0) (same_frame m)
          ∙ ap (λ (f : DownFrame). get_or (frame_on_line (frame_by_number call m).shift (down_bits f)) i 0) (same_sent m e)
      by (Some h) e =
          let o = ap (λ (f : NumberedFrame). f.carries) (same_frame m) ∙ e in
          adds_item other m h o i ∙ item_bits other call m h o e i (spared h e) ∙ sym (adds_item call m h e i)

  -- the line of the first m frames
  same_long : (m : ℕ) → length (line_to other m) ≡ length (line_to call m)
  same_long m =
      length-line other m ∙ ap (λ (fs : List NumberedFrame). 320 + 2 * numbered_start fs) (same_first m) ∙ sym (length-line call m)

  same_line : (m k : ℕ) → IsNoItemBit call k → get_or (line_to other m) k 0 ≡ get_or (line_to call m) k 0
  same_line zero k spared = refl
  same_line (suc m) k spared =
      let long = same_long m in
      let all = ap (λ (bits : List ℕ). get_or bits k 0) (line_more other m) in
      let ours = ap (λ (bits : List ℕ). get_or bits k 0) (line_more call m) in
      all ∙ elim (cases_lt k (length (line_to call m))) [
        | inl old ↦
            get_or_append_left (line_to other m) (adds other m) 0 k (omega arith) ∙ same_line m k spared
            ∙ sym (get_or_append_left (line_to call m) (adds call m) 0 k old)
        | inr new ↦
            let i : ℕ = k - length (line_to call m) in
            let there : length (line_to other m) + i ≡ k = omega arith in
            let here : length (line_to call m) + i ≡ k = omega arith in
            let place : k ≡ 320 + 2 * (frame_by_number call m).start + i = let l = length-line call m in omega arith in
            ap (λ (n : ℕ). get_or (line_to other m ++ adds other m) n 0) (sym there) ∙ get_or-append-add (line_to other m) (adds other m) i 0
            ∙ same_adds m i (λ h e l n q. spared m h i n e place l q)
            ∙ sym (get_or-append-add (line_to call m) (adds call m) i 0)
            ∙ ap (λ (n : ℕ). get_or (line_to call m ++ adds call m) n 0) here
      ] ∙ sym ours

  -- of the frames that are made
  made_other : IsWhole call → frames_of_call other ≡ reverse (first_frames other (length (frames_of_call call)))
  made_other whole =
      same_made ∙ made_first call whole ∙ ap (λ (fs : List NumberedFrame). reverse fs) (sym (same_first (length (frames_of_call call))))

  same_down_length : IsWhole call → length (down other) ≡ length (down call)
  same_down_length whole =
      let n = length (frames_of_call call) in
      let long = same_long n in
      let there = ap (λ (fs : List NumberedFrame). length (line other fs)) (made_other whole) in
      let here = ap (λ (fs : List NumberedFrame). length (line call fs)) (made_first call whole) in
      let cut = length-take (320 * periods call) (line other (frames_of_call other)) in
      let ours = length-take (320 * periods call) (line call (frames_of_call call)) in
      omega (arith, long, there, here, cut, ours)

  same_down : IsWhole call → (k : ℕ) → k < length (down call) → IsNoItemBit call k → get_or (down other) k 0 ≡ get_or (down call) k 0
  same_down whole k l spared =
      let n = length (frames_of_call call) in
      let ours = length-take (320 * periods call) (line call (frames_of_call call)) in
      let within : k < 320 * periods call = omega arith in
      get_or-take (320 * periods call) (line other (frames_of_call other)) k 0 within
      ∙ ap (λ (fs : List NumberedFrame). get_or (line other fs) k 0) (made_other whole)
      ∙ same_line n k spared
      ∙ sym (ap (λ (fs : List NumberedFrame). get_or (line call fs) k 0) (made_first call whole))
      ∙ sym (get_or-take (320 * periods call) (line call (frames_of_call call)) k 0 within)

  -- **The lines are the same but for the data bits of frames that carry an item.**
  pub differs : IsWhole call → DiffersInItems call other
  differs whole = record {
    out_line = same_out;
    down_length = same_down_length whole;
    down_line = same_down whole;
    made = same_made;
    sent = each_same whole;
    handed = each_sends whole;
  }

-- so it is of any call that is the same but for them
pub other_differs : (call other : Call) → IsWhole call → HasOtherItems call other → DiffersInItems call other
other_differs call other whole h = subst (DiffersInItems call) (sym h.rest) (differs call other.spans h.spans whole)
