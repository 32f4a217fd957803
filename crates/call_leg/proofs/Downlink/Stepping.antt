-- What each operation makes of the downlink half's memory, and the decoding of a frame.
use Rattle.std.proofs.Common.{◌≡◌, refl, sym, ap, ◌∙◌, ℕ, ◌+◌, ℤ, Bool, not, ◌||◌, if◌then◌else◌, List, [], length, drop, take}
use Rattle.std.specs.Prelude.{◌==◌}
use Rattle.trau_params.specs.declared.params.Params.{Params}
use Rattle.trau_params.specs.declared.trace.Trace.{Trace}
use Rattle.trau_params.specs.Bits260.{bits260_of}
use Rattle.trau_params.specs.Fields.{Fields}
use Rattle.trau_frame.specs.declared.frames.DownFrame.{DownFrame}
use Rattle.trau_frame.specs.declared.frames.DownFrame.TheVariants as frame
use Rattle.trau_frame.specs.DownFrame as frames
use Rattle.fr_decoder.specs.Step as decoder
use Rattle.fr_decoder.specs.Memory.{DecoderMemory}
use Rattle.fr_encoder.specs.Encoded.{Encoded, encoded_of}
use Rattle.fr_encoder.specs.Memory as encoder
use Rattle.fr_encoder.specs.Step.{encoded_frame}
use Rattle.tx_dtx.specs.Stretch.{Sent, coded_frame, sent_frame}
use Rattle.tx_dtx.specs.Memory as tx
use Rattle.tx_dtx.specs.Step.{next_sent}
use Rattle.time_align.specs.Memory as align
use Rattle.time_align.specs.Step.{adopted, after_thaw}
use Rattle.down_framer.specs.Memory as framer
use Rattle.down_framer.specs.Step.{after_frame, after_put, after_take}
use Rattle.trau_orders.specs.declared.order.DtxMode.{DtxMode}
use Rattle.trau_alaw.specs.declared.Law.{Law}
use Rattle.trau_alaw.specs.Period.{expanded, compressed}
use Rattle.call_leg.specs.Periods.{dtx_in}
use Rattle.call_leg.specs.Down.{coded_as, speech}
use Rattle.call_leg.specs.Memory.{CoderMemory, home_coder, DownMemory, home_down}
use Rattle.call_leg.specs.Places.{in_u32, in_u64}
use Rattle.call_leg.specs.Step.{played_frame, coded_next, next_by, thawed, after_made, frame_made, frame_tried, with_framer, down_worked}

-- the downlink half of a new leg is at home
pub home-step : (law : Law) (f : framer.FramerMemory) (a : align.AlignMemory) (w : List (List ℕ)) (m : CoderMemory) → f ≡ framer.home_memory →
    a ≡ align.home_memory → w ≡ [] → m.encoder ≡ encoder.home_memory → m.tx ≡ tx.home_memory →
    record (home_down law) { framer = f; align = a; waiting = w; coder = m } ≡ home_down law
home-step law f a w m ef ea ew ee et =
    ap (λ x. record (home_down law) { framer = x; align = a; waiting = w; coder = m }) ef
    ∙ ap (λ x. record (home_down law) { align = x; waiting = w; coder = m }) ea
    ∙ ap (λ x. record (home_down law) { waiting = x; coder = m }) ew
    ∙ ap (λ x. record (home_down law) { coder = record m { encoder = x } }) ee
    ∙ ap (λ x. record (home_down law) { coder = record home_coder { tx = x } }) et

-- a frame is decoded
pub decode-step : (law : Law) (m m1 : DecoderMemory) (p : Fields) (x : List ℤ) (octets : List ℕ) → decoder.decoded_frame m p ≡ (x, m1) →
    octets ≡ compressed law x → played_frame law m p ≡ (octets, m1)
decode-step law m m1 p x octets e eo = ap (λ (d : List ℤ × DecoderMemory). (compressed law d.0, d.1)) e ∙ ap (λ o. (o, m1)) (sym eo)

-- a frame is encoded and sent
pub code-step : (law : Law) (m : CoderMemory) (octets : List ℕ) (level : ℤ) (on : Bool) (x : List ℤ) (p q : Params) (t : Trace) (peak : ℤ) (sp : Bool)
    (bits : List ℕ) (e1 : encoder.EncoderMemory) (t1 : tx.TxMemory) →
    encoded_frame m.encoder x ≡ (encoded_of p t peak, e1) → x ≡ expanded law octets → next_sent m.tx (coded_frame p t peak level on)
    ≡ (sent_frame q sp, t1) → bits ≡ bits260_of q →
    coded_next law m octets level on ≡ (frame.Speech bits sp, record { encoder = e1; tx = t1 })
unfolding bits260_of
code-step law m octets level on x p q t peak sp bits e1 t1 ee ex es eb =
    ap (λ (e : Encoded × encoder.EncoderMemory). let s = next_sent m.tx (coded_as e.0 level on) in (speech s.0, record { encoder = e.1; tx = s.1 }))
    (ap (encoded_frame m.encoder) (sym ex) ∙ ee)
    ∙ ap (λ (s : Sent × tx.TxMemory). (speech s.0, record { encoder = e1; tx = s.1 })) es
    ∙ ap (λ b. (frame.Speech b sp, record { encoder = e1; tx = t1 })) (sym eb)

-- a memory by its fields
abbrev by_fields : Law → framer.FramerMemory → align.AlignMemory → List (List ℕ) → CoderMemory → ℤ → DtxMode → Bool → Bool → Bool → ℕ → ℕ → DownMemory
by_fields law f a w c l m u q b s n =
    record { law = law; framer = f; align = a; waiting = w; coder = c; level = l; mode = m; dtxd = u; quiet = q; bridged = b; sent = s; made = n }

-- the memory after a frame, by its fields
same : (old d : DownMemory) (n : DownFrame × CoderMemory) (s : ℤ × align.AlignMemory) → d.law ≡ old.law → d.framer ≡ after_frame old.framer
    (frames.down_bits n.0) s.0 → d.align ≡ thawed s.1 old.bridged (drop 1 old.waiting) →
    d.waiting ≡ drop 1 old.waiting → d.coder ≡ n.1 → d.level ≡ old.level → d.mode ≡ old.mode → d.dtxd ≡ old.dtxd → d.quiet ≡ old.quiet →
    d.bridged ≡ old.bridged →
    d.sent ≡ (if not (length old.waiting == 0) then in_u32 (old.sent + 1) else old.sent) → d.made ≡ in_u64 (old.made + 1) → d ≡ after_made old n s
same old d n s la a b c e f g h i j k l =
    ap (λ (z : Law). by_fields z d.framer d.align d.waiting d.coder d.level d.mode d.dtxd d.quiet d.bridged d.sent d.made) la
    ∙ ap (λ (z : framer.FramerMemory). by_fields old.law z d.align d.waiting d.coder d.level d.mode d.dtxd d.quiet d.bridged d.sent d.made) a
    ∙ ap (λ (z : align.AlignMemory). by_fields old.law (after_frame old.framer (frames.down_bits n.0) s.0) z d.waiting d.coder d.level d.mode d.dtxd
    d.quiet d.bridged d.sent d.made) b
    ∙ ap (λ (z : List (List ℕ)). by_fields old.law (after_frame old.framer (frames.down_bits n.0) s.0) (thawed s.1 old.bridged (drop 1 old.waiting)) z
    d.coder d.level d.mode d.dtxd d.quiet d.bridged d.sent d.made) c
    ∙ ap (λ (z : CoderMemory). by_fields old.law (after_frame old.framer (frames.down_bits n.0) s.0) (thawed s.1 old.bridged (drop 1 old.waiting))
    (drop 1 old.waiting) z d.level d.mode d.dtxd d.quiet d.bridged d.sent d.made) e
    ∙ ap (λ (z : ℤ). by_fields old.law (after_frame old.framer (frames.down_bits n.0) s.0) (thawed s.1 old.bridged (drop 1 old.waiting))
    (drop 1 old.waiting) n.1 z d.mode d.dtxd d.quiet d.bridged d.sent d.made) f
    ∙ ap (λ (z : DtxMode). by_fields old.law (after_frame old.framer (frames.down_bits n.0) s.0) (thawed s.1 old.bridged (drop 1 old.waiting))
    (drop 1 old.waiting) n.1 old.level z d.dtxd d.quiet d.bridged d.sent d.made) g
    ∙ ap (λ (z : Bool). by_fields old.law (after_frame old.framer (frames.down_bits n.0) s.0) (thawed s.1 old.bridged (drop 1 old.waiting))
    (drop 1 old.waiting) n.1 old.level old.mode z d.quiet d.bridged d.sent d.made) h
    ∙ ap (λ (z : Bool). by_fields old.law (after_frame old.framer (frames.down_bits n.0) s.0) (thawed s.1 old.bridged (drop 1 old.waiting))
    (drop 1 old.waiting) n.1 old.level old.mode old.dtxd z d.bridged d.sent d.made) i
    ∙ ap (λ (z : Bool). by_fields old.law (after_frame old.framer (frames.down_bits n.0) s.0) (thawed s.1 old.bridged (drop 1 old.waiting))
    (drop 1 old.waiting) n.1 old.level old.mode old.dtxd old.quiet z d.sent d.made) j
    ∙ ap (λ (z : ℕ). by_fields old.law (after_frame old.framer (frames.down_bits n.0) s.0) (thawed s.1 old.bridged (drop 1 old.waiting))
    (drop 1 old.waiting) n.1 old.level old.mode old.dtxd old.quiet old.bridged z d.made) k
    ∙ ap (λ (z : ℕ). by_fields old.law (after_frame old.framer (frames.down_bits n.0) s.0) (thawed s.1 old.bridged (drop 1 old.waiting))
    (drop 1 old.waiting) n.1 old.level old.mode old.dtxd old.quiet old.bridged (if not (length old.waiting == 0) then in_u32 (old.sent + 1) else old.sent)
    z) l

-- one frame is made
pub make-step : (old new : DownMemory) (f : DownFrame) (bits : List ℕ) (shift : ℤ) (align1 : align.AlignMemory) (on waits waited : Bool) →
    on ≡ dtx_in old.mode old.dtxd →
    next_by old.law old.waiting old.coder old.framer.held old.quiet old.level on ≡ (f, new.coder) → bits ≡ frames.down_bits f → adopted old.align
    ≡ (shift, align1) →
    new.framer ≡ after_frame old.framer bits shift → new.waiting ≡ drop 1 old.waiting →
    waits ≡ not (length new.waiting == 0) → new.align ≡ (if old.bridged || waits then align1 else after_thaw align1) →
    waited ≡ not (length old.waiting == 0) → new.sent ≡ (if waited then in_u32 (old.sent + 1) else old.sent) → new.made ≡ in_u64 (old.made + 1) →
    new.law ≡ old.law → new.level ≡ old.level → new.mode ≡ old.mode → new.dtxd ≡ old.dtxd → new.quiet ≡ old.quiet → new.bridged ≡ old.bridged →
    new ≡ frame_made old
unfolding frame_made
make-step old new f bits shift align1 on waits waited eo en eb es ef ew ewa ea ewd esn em la lv md ul qt br =
    let next = ap (λ o. next_by old.law old.waiting old.coder old.framer.held old.quiet old.level o) (sym eo) ∙ en in
    let framed : new.framer ≡ after_frame old.framer (frames.down_bits f) shift = ef ∙ ap (λ b. after_frame old.framer b shift) eb in
    let shifts : new.align ≡ thawed align1 old.bridged (drop 1 old.waiting) =
    ea ∙ ap (λ w. if old.bridged || w then align1 else after_thaw align1) (ewa ∙ ap (λ q. not (length q == 0)) ew) in
    let count : new.sent ≡ (if not (length old.waiting == 0) then in_u32 (old.sent + 1) else old.sent) = esn
    ∙ ap (λ w. if w then in_u32 (old.sent + 1) else old.sent) ewd in
    same old new (f, new.coder) (shift, align1) la framed shifts ew refl lv md ul qt br count em
    ∙ ap (after_made old (f, new.coder)) (sym es)
    ∙ ap (λ (n : DownFrame × CoderMemory). after_made old n (adopted old.align)) (sym next)

-- the downlink half
pub half-step : (old d0 d1 d2 new : DownMemory) (pcm bits : List ℕ) → d0 ≡ with_framer old (after_put old.framer pcm) → d1 ≡ frame_tried d0 →
    d2 ≡ frame_tried d1 →
    new ≡ with_framer d2 (after_take d2.framer) → bits ≡ take 320 d2.framer.stored → down_worked old pcm ≡ (bits, new)
unfolding down_worked
half-step old d0 d1 d2 new pcm bits e0 e1 e2 en eb =
    let e : frame_tried (frame_tried (with_framer old (after_put old.framer pcm))) ≡ d2 = ap (λ d. frame_tried (frame_tried d)) (sym e0)
    ∙ ap frame_tried (sym e1) ∙ sym e2 in
    ap (λ (d : DownMemory). (take 320 d.framer.stored, with_framer d (after_take d.framer))) e
    ∙ ap (λ b. (b, with_framer d2 (after_take d2.framer))) (sym eb) ∙ ap (λ n. (bits, n)) (sym en)
