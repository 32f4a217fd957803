-- Frames that carry items: which they are doesn't depend on the items, and the items are their data bits.
use Rattle.std.proofs.Common.{◌≡◌, refl, sym, ap, ◌∙◌, ℕ, ◌+◌, ◌<◌, ℤ, Bool, true, false, Option, Some, None, List, [], ◌∷◌}
use Rattle.std.proofs.Common.{map, get_or, inl, inr, arith}
use Rattle.std.specs.Prelude.{if◌then◌else◌, ◌&&◌, ◌||◌, ◌-◌, nat_le, nat_lt, is_some, unwrap_or, slice_index_or}
use Rattle.std.specs.List.{list_any}
use Rattle.std.proofs.lemmas.Bool.{cases_lt, and_parts, and_from, or_left, or_right, le-leb, lt-ltb, ltb-true}
use Rattle.std.proofs.lemmas.List.{append-nil, get_or_past}
use Rattle.trau_frame.specs.declared.frames.DownFrame.{DownFrame}
use Rattle.trau_frame.specs.declared.frames.DownFrame.TheVariants.{Speech}
use Rattle.trau_frame.specs.Role.{Role, Sync, Control, Data, Time, role_of}
use Rattle.trau_frame.specs.Frame.{bit_for}
use Rattle.trau_frame.specs.DownFrame.{down_control, down_bits}
use Rattle.trau_frame.proofs.Again.{get_or-frame_bits, length-down_bits}
use Rattle.down_framer.specs.Made.{frame_on_line}
use Rattle.down_framer.specs.ByNumber.{Bridge, NumberedFrame, when, count_from, carried_item}
use Rattle.call_spec.specs.Call.{Call, Span, item_at}
use Rattle.call_spec.specs.Down.{without_items, first_frames, frame_by_number}
use Rattle.run_calls_spec.specs.Sent.{sent_as, SendsItem}
use Rattle.run_calls_spec.proofs.Places.{unshifted}
use Rattle.run_calls_spec.proofs.Sent.{frame_sent, carrying}
use Rattle.run_calls_spec.proofs.OnLine.{adds}

abbrev pub lies : ℕ → Bridge → Bool
lies k b = nat_le b.from k && nat_lt k b.to

-- that an item is handed over
pub item-bare : (spans : List Span) (k : ℕ) → is_some (item_at spans k) ≡ list_any (lies k) (map without_items spans)
item-bare [] k = refl
item-bare (span ∷ spans) k = by (nat_le span.from k && nat_lt k span.to) span.items (item-bare spans k)
  where
    by : (t : Bool) (items : List (List ℕ)) → is_some (item_at spans k) ≡ list_any (lies k) (map without_items spans) →
        is_some (if t then Some (slice_index_or items (k - span.from) []) else item_at spans k) ≡ (t || list_any (lies k) (map without_items spans))
    by true items e = refl
    by false items e = e

-- whether one begins so
pub begins-bare : (begins : ℕ → Bool) (spans : List Span) →
    list_any (λ (span : Span). begins span.from) spans ≡ list_any (λ (b : Bridge). begins b.from) (map without_items spans)
begins-bare begins [] = refl
begins-bare begins (span ∷ spans) = ap (λ t. begins span.from || t) (begins-bare begins spans)

-- where a frame carries the item of a period, the period has one
carried-bare : (bs : List Bridge) (w : ℕ) (fs : List NumberedFrame) (h : ℕ) → carried_item bs w fs ≡ Some h → list_any (lies h) bs ≡ true
carried-bare [] w fs h e = cc
carried-bare (b ∷ bs) w fs h e =
    by (nat_le b.from w && nat_lt (count_from b.from fs) (b.to - b.from)) refl e (carried-bare bs w fs h)
  where
    same : (m n : ℕ) → Some m ≡ Some n → n ≡ m
    same m n q = cc

    by : (t : Bool) → (nat_le b.from w && nat_lt (count_from b.from fs) (b.to - b.from)) ≡ t →
        (if t then Some (b.from + count_from b.from fs) else carried_item bs w fs) ≡ Some h →
        (carried_item bs w fs ≡ Some h → list_any (lies h) bs ≡ true) → (lies h b || list_any (lies h) bs) ≡ true
    by false q e rest = or_right (lies h b) (list_any (lies h) bs) (rest e)
    by true q e rest =
        let n : ℕ = count_from b.from fs in
        let k = and_parts (nat_le b.from w) (nat_lt n (b.to - b.from)) q in
        let l : n < b.to - b.from = ltb-true n (b.to - b.from) k.1 in
        let p : h ≡ b.from + n = same (b.from + n) h e in
        or_left (lies h b) (list_any (lies h) bs)
        (and_from (nat_le b.from h) (nat_lt h b.to) (le-leb b.from h (omega arith)) (lt-ltb h b.to (omega arith)))

-- so what is sent in it is the speech frame of that item
pub sends : (c : Call) (j h : ℕ) → (frame_by_number c j).carries ≡ Some h → sent_as c j ≡ frame_sent c j → SendsItem c j h
sends c j h e s =
    let has : is_some (item_at c.spans h) ≡ true =
    item-bare c.spans h ∙ carried-bare (map without_items c.spans) (when (frame_by_number c j).start) (first_frames c j) h e in
    let it = some (item_at c.spans h) has in
    record { item = it.0; handed = it.1; sent = s ∙ carrying c j h e ∙ ap (λ (o : Option (List ℕ)). Speech (unwrap_or o []) true) it.1 }
  where
    some : (o : Option (List ℕ)) → is_some o ≡ true → (item : List ℕ) × (o ≡ Some item)
    some None e = cc
    some (Some item) e = (item, refl)

-- a place of a frame that is no data bit's
abbrev pub IsNoData : ℕ → Type 0
IsNoData i = (n : ℕ) → role_of i ≡ Data n → ⊥

-- the items of two speech frames are their data bits
speech_bits : (d e : List ℕ) (i : ℕ) → i < 320 → IsNoData i → get_or (down_bits (Speech d true)) i 0 ≡ get_or (down_bits (Speech e true)) i 0
unfolding down_bits down_control
speech_bits d e i l other_role =
    let control : List ℕ = down_control (Speech d true) in
    get_or-frame_bits control d i 0 l ∙ by (role_of i) refl ∙ sym (get_or-frame_bits control e i 0 l)
  where
    by : (role : Role) → role_of i ≡ role →
        bit_for (down_control (Speech d true)) d (role_of i) ≡ bit_for (down_control (Speech d true)) e (role_of i)
    by (Sync b) q = ap (bit_for (down_control (Speech d true)) d) q ∙ sym (ap (bit_for (down_control (Speech d true)) e) q)
    by (Control c) q = ap (bit_for (down_control (Speech d true)) d) q ∙ sym (ap (bit_for (down_control (Speech d true)) e) q)
    by (Data n) q = absurd (other_role n q)
    by (Time t) q = ap (bit_for (down_control (Speech d true)) d) q ∙ sym (ap (bit_for (down_control (Speech d true)) e) q)

-- what a frame that carries an item adds to the line
pub adds_item : (c : Call) (m h : ℕ) → (frame_by_number c m).carries ≡ Some h → (i : ℕ) → get_or (adds c m) i 0 ≡ get_or (down_bits (frame_sent c m)) i 0
adds_item c m h e i =
    ap (λ (shift : ℤ). get_or (frame_on_line shift (down_bits (frame_sent c m))) i 0) (unshifted c m h e)
    ∙ ap (λ (bits : List ℕ). get_or bits i 0) (append-nil (down_bits (frame_sent c m)))

-- what two calls send in frames that carry items
pub item_bits : (c d : Call) (m h : ℕ) → (frame_by_number c m).carries ≡ Some h → (frame_by_number d m).carries ≡ Some h → (i : ℕ) → (i < 320 → IsNoData i) →
    get_or (down_bits (frame_sent c m)) i 0 ≡ get_or (down_bits (frame_sent d m)) i 0
item_bits c d m h e g i spared = elim (cases_lt i 320) [
  | inl l ↦
      ap (λ (f : DownFrame). get_or (down_bits f) i 0) (carrying c m h e)
      ∙ speech_bits (unwrap_or (item_at c.spans h) []) (unwrap_or (item_at d.spans h) []) i l (spared l)
      ∙ sym (ap (λ (f : DownFrame). get_or (down_bits f) i 0) (carrying d m h g))
  | inr past ↦
      let a = length-down_bits (frame_sent c m) in
      let b = length-down_bits (frame_sent d m) in
      get_or_past (down_bits (frame_sent c m)) i 0 (omega arith) ∙ sym (get_or_past (down_bits (frame_sent d m)) i 0 (omega arith))
]
