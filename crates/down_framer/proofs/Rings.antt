-- What the calls on a framer's rings make of them.
use Rattle.std.proofs.Common.{◌≡◌, refl, sym, ap, subst, ◌∙◌, ◌⊎◌, inl, inr, [], ℕ, ◌+◌, ◌-◌, ◌*◌, ◌≤◌, ◌<◌, ℤ, pos, negsuc, min, List, ◌++◌, length, take}
use Rattle.std.proofs.Common.{drop, replicate, arith, length-append, length-drop, length-take}
use Rattle.std.proofs.lemmas.List.{take_all, drop_all, length-replicate, take-replicate, append_assoc, append-nil}
use Rattle.std.proofs.lemmas.List.Elements.{All-append, All-replicate, All-take, All-drop}
use Rattle.circular_buffer.specs.Buffer.{Buffer, buffer, keep_last}
use Rattle.time_align.specs.Shift.{greatest_shift, IsShift}
use Rattle.trau_bits.specs.Bits.{AreBits}
use Rattle.down_framer.specs.Made.{octets_to_next, frame_on_line}
use Rattle.down_framer.specs.Memory.{FramerMemory, home_memory, IsBetweenPeriods, IsWithinPeriod}
use Rattle.down_framer.specs.Step.{after_put, after_frame, after_take}
use Rattle.down_framer.specs.Rings.{ring_memory, AreRings}
use Rattle.down_framer.proofs.Lists.{filled, kept_last}
use Rattle.down_framer.proofs.Store.{length-frame_on_line}
use Rattle.down_framer.proofs.Timing.{octets_of-bounds}

-- ---- a frame on the line, by the octets that it takes

-- a frame goes into the ring as it goes on the line
pub on_line : (shift : ℤ) (f : List ℕ) → IsShift shift → length f ≡ 320 →
    take (min (2 * octets_to_next shift) 320) f ++ replicate (2 * octets_to_next shift - 320) 1 ≡ frame_on_line shift f
on_line (pos v) f s l =
    let a : min (2 * (160 + v)) 320 ≡ 320 = omega arith in
    let b : 2 * (160 + v) - 320 ≡ 2 * v = omega arith in
    ap (λ k. take k f ++ replicate (2 * (160 + v) - 320) 1) a ∙ ap (λ k. take 320 f ++ replicate k 1) b
    ∙ ap (λ z. z ++ replicate (2 * v) 1) (take_all 320 f (omega arith))
on_line (negsuc v) f s l =
    let a : min (2 * (159 - v)) 320 ≡ 316 = omega arith in
    let b : 2 * (159 - v) - 320 ≡ 0 = omega arith in
    ap (λ k. take k f ++ replicate (2 * (159 - v) - 320) 1) a ∙ ap (λ k. take 316 f ++ replicate k 1) b ∙ append-nil (take 316 f)

-- ---- a frame

-- what the rings hold after a frame
pub record Framed (bits octets bits1 octets1 : Buffer ℕ) (f : List ℕ) (shift : ℤ) (skip : ℕ) : Type 0 where
  pub stored : bits1.items ≡ bits.items ++ frame_on_line shift f
  pub held : octets1.items ≡ drop (octets_to_next shift) octets.items
  pub rooms : (bits1.capacity ≡ bits.capacity) × (octets1.capacity ≡ octets.capacity)
  pub to_skip : skip ≡ octets_to_next shift - length octets.items

-- what the rings hold after a frame
pub framed : (bits octets bits1 bits2 octets1 : Buffer ℕ) (f ones : List ℕ) (shift : ℤ) (step held gone kept more n1 n2 : ℕ) →
    bits.capacity ≡ 960 → length bits.items ≤ 320 → IsShift shift → length f ≡ 320 → ones ≡ replicate 320 1 →
    step ≡ octets_to_next shift → held ≡ length octets.items → gone ≡ min step held → kept ≡ min (2 * step) 320 → more ≡ 2 * step - 320 → step ≤ 316 →
    n1 ≡ min (length (take kept f)) (bits.capacity - length bits.items) → bits1 ≡ buffer (bits.items ++ take n1 (take kept f)) bits.capacity →
    n2 ≡ min (length (take more ones)) (bits1.capacity - length bits1.items) → bits2 ≡ buffer (bits1.items ++ take n2 (take more ones)) bits1.capacity →
    octets1 ≡ buffer (keep_last (held - gone) octets.items) octets.capacity →
    Framed bits octets bits2 octets1 f shift (step - gone)
framed bits octets bits1 bits2 octets1 f ones shift step held gone kept more n1 n2 cap low sh lf lo es eh eg ek em se en1 eb1 en2 eb2 eo =
    let l1 = length-take kept f in
    let t1 : take n1 (take kept f) ≡ take kept f = filled n1 (bits.capacity - length bits.items) (take kept f) en1 (omega arith) in
    let i1 : bits1.items ≡ bits.items ++ take kept f = ap (λ (b : Buffer ℕ). b.items) eb1 ∙ ap (λ z. bits.items ++ z) t1 in
    let c1 : bits1.capacity ≡ bits.capacity = ap (λ (b : Buffer ℕ). b.capacity) eb1 in
    let li : length bits1.items ≡ length bits.items + length (take kept f) = ap length i1 ∙ length-append bits.items (take kept f) in
    let ones_are : take more ones ≡ replicate more 1 = ap (take more) lo ∙ take-replicate more 320 1 (omega arith) in
    let l2 : length (take more ones) ≡ more = ap length ones_are ∙ length-replicate {A = ℕ} more 1 in
    let t2 : take n2 (take more ones) ≡ take more ones = filled n2 (bits1.capacity - length bits1.items) (take more ones) en2 (omega arith) in
    let i2 : bits2.items ≡ bits1.items ++ replicate more 1 = ap (λ (b : Buffer ℕ). b.items) eb2 ∙ ap (λ z. bits1.items ++ z) (t2 ∙ ones_are) in
    let c2 : bits2.capacity ≡ bits1.capacity = ap (λ (b : Buffer ℕ). b.capacity) eb2 in
    let ekk : kept ≡ min (2 * octets_to_next shift) 320 = ek ∙ ap (λ k. min (2 * k) 320) es in
    let emm : more ≡ 2 * octets_to_next shift - 320 = em ∙ ap (λ k. 2 * k - 320) es in
    record {
      stored = i2 ∙ ap (λ z. z ++ replicate more 1) i1 ∙ append_assoc bits.items (take kept f) (replicate more 1) ∙
          ap (λ z. bits.items ++ z)
          (ap (λ k. take k f ++ replicate more 1) ekk ∙ ap (λ k. take (min (2 * octets_to_next shift) 320) f ++ replicate k 1) emm ∙ on_line shift f sh lf);
      held = ap (λ (b : Buffer ℕ). b.items) eo ∙ kept_last held step gone octets.items eh eg ∙ ap (λ k. drop k octets.items) es;
      rooms = (c2 ∙ c1, ap (λ (b : Buffer ℕ). b.capacity) eo);
      to_skip = omega arith;
    }

-- and what is seen of them
pub framed-view : (bits octets bits1 octets1 : Buffer ℕ) (f : List ℕ) (shift : ℤ) (skip old : ℕ) → Framed bits octets bits1 octets1 f shift skip →
    (let s : FramerMemory = record { stored = bits1.items; held = octets1.items; to_skip = skip } in s)
    ≡ after_frame (record { stored = bits.items; held = octets.items; to_skip = old }) f shift
framed-view bits octets bits1 octets1 f shift skip old h =
    let a = h.stored in let b = h.held in let d = h.to_skip in cc

-- what goes on the line are bits
are_bits-on_line : (shift : ℤ) (f : List ℕ) → AreBits f → AreBits (frame_on_line shift f)
are_bits-on_line (pos v) f a = All-append (λ b. b < 2) f (replicate (2 * v) 1) a (All-replicate (λ b. b < 2) (2 * v) 1 (omega arith))
are_bits-on_line (negsuc v) f a = All-take (λ b. b < 2) 316 f a

-- the balance within a period is kept
pub frame_within : (s : FramerMemory) (f : List ℕ) (shift : ℤ) → IsWithinPeriod s → IsShift shift → length f ≡ 320 → 160 ≤ length s.held → s.to_skip ≡ 0 →
    IsWithinPeriod (after_frame s f shift)
frame_within s f shift w sh lf ready none =
    let balance = w.balance in
    let room = w.room in
    let ob = octets_of-bounds shift sh in
    let n = length-append s.stored (frame_on_line shift f) ∙ ap (λ k. length s.stored + k) (length-frame_on_line shift f sh lf) in
    let m = length-drop (octets_to_next shift) s.held in
    record { balance = omega arith; room = omega arith }

-- the rings' invariant is kept by a frame
pub framed-rings : (bits octets bits1 octets1 : Buffer ℕ) (f : List ℕ) (shift : ℤ) (skip old : ℕ) → AreRings bits octets old →
    IsWithinPeriod (ring_memory bits octets old) → Framed bits octets bits1 octets1 f shift skip →
    IsShift shift → AreBits f → length f ≡ 320 → 160 ≤ length octets.items → length bits.items ≤ 320 → AreRings bits1 octets1 skip
framed-rings bits octets bits1 octets1 f shift skip old r w h sh a lf ready low =
    let balance = w.balance in
    let room = w.room in
    let skipped = r.none_held in
    let rooms = r.rooms in
    let fits = r.fits in
    let hr = h.rooms in
    let hs = h.to_skip in
    let ob = octets_of-bounds shift sh in
    let n : length bits1.items ≡ length bits.items + 2 * octets_to_next shift =
    ap length h.stored ∙ length-append bits.items (frame_on_line shift f) ∙ ap (λ k. length bits.items + k) (length-frame_on_line shift f sh lf) in
    let m : length octets1.items ≡ length octets.items - octets_to_next shift = ap length h.held ∙ length-drop (octets_to_next shift) octets.items in
    record {
      rooms = (hr.0 ∙ rooms.0, hr.1 ∙ rooms.1);
      fits = (omega arith, omega arith);
      bounded = omega arith;
      none_held = λ z. omega arith;
      are_bits = subst AreBits (sym h.stored) (All-append (λ b. b < 2) bits.items (frame_on_line shift f) r.are_bits (are_bits-on_line shift f a));
      phase =
          inr (subst IsWithinPeriod (sym (framed-view bits octets bits1 octets1 f shift skip old h))
          (frame_within (ring_memory bits octets old) f shift w sh lf ready (skipped (omega arith))));
    }

-- a new ring of bits has 320 ones
new_store : (bits bits1 : Buffer ℕ) (ones : List ℕ) (n : ℕ) → bits ≡ buffer [] 960 → ones ≡ replicate 320 1 →
    n ≡ min (length ones) (bits.capacity - length bits.items) → bits1 ≡ buffer (bits.items ++ take n ones) bits.capacity → bits1.items ≡ replicate 320 1
new_store bits bits1 ones n eb el en e1 =
    let lo : length ones ≡ 320 = ap length el ∙ length-replicate {A = ℕ} 320 1 in
    let cap : bits.capacity ≡ 960 = ap (λ (b : Buffer ℕ). b.capacity) eb in
    let none : bits.items ≡ [] = ap (λ (b : Buffer ℕ). b.items) eb in
    let zero_bits : length bits.items ≡ 0 = ap length none in
    ap (λ (b : Buffer ℕ). b.items) e1 ∙ ap (λ z. z ++ take n ones) none ∙ take_all n ones (omega arith) ∙ el

-- what is seen of new rings
pub new-view : (bits bits1 octets : Buffer ℕ) (ones : List ℕ) (n : ℕ) → bits ≡ buffer [] 960 → octets ≡ buffer [] 320 → ones ≡ replicate 320 1 →
    n ≡ min (length ones) (bits.capacity - length bits.items) → bits1 ≡ buffer (bits.items ++ take n ones) bits.capacity →
    ring_memory bits1 octets 0 ≡ home_memory
new-view bits bits1 octets ones n eb eo el en e1 =
    let stored = new_store bits bits1 ones n eb el en e1 in
    let held : octets.items ≡ [] = ap (λ (b : Buffer ℕ). b.items) eo in
    cc

-- they are balanced
pub new_between : IsBetweenPeriods home_memory
new_between = record { balance = refl; short = omega arith }

-- and their invariant holds
pub new-rings : (bits bits1 octets : Buffer ℕ) (ones : List ℕ) (n : ℕ) → bits ≡ buffer [] 960 → octets ≡ buffer [] 320 → ones ≡ replicate 320 1 →
    n ≡ min (length ones) (bits.capacity - length bits.items) → bits1 ≡ buffer (bits.items ++ take n ones) bits.capacity → AreRings bits1 octets 0
new-rings bits bits1 octets ones n eb eo el en e1 =
    let items = new_store bits bits1 ones n eb el en e1 in
    let cap : bits.capacity ≡ 960 = ap (λ (b : Buffer ℕ). b.capacity) eb in
    let li : length bits1.items ≡ 320 = ap length items ∙ length-replicate {A = ℕ} 320 1 in
    let lz : length octets.items ≡ 0 = ap (λ (b : Buffer ℕ). length b.items) eo in
    record {
      rooms = (ap (λ (b : Buffer ℕ). b.capacity) e1 ∙ cap, ap (λ (b : Buffer ℕ). b.capacity) eo);
      fits = (omega arith, omega arith);
      bounded = omega arith;
      none_held = λ z. omega arith;
      are_bits = subst AreBits (sym items) (All-replicate (λ b. b < 2) 320 1 (omega arith));
      phase = inl (subst IsBetweenPeriods (sym (new-view bits bits1 octets ones n eb eo el en e1)) new_between);
    }

-- a period that is put keeps the balance
pub put_within : (s : FramerMemory) (octets : List ℕ) → IsBetweenPeriods s → length octets ≡ 160 → s.to_skip ≤ greatest_shift →
    IsWithinPeriod (after_put s octets)
put_within s octets between l b =
    let balance = between.balance in
    let short = between.short in
    let held = length-append s.held (drop s.to_skip octets) in
    let rest = length-drop s.to_skip octets in
    record { balance = omega arith; room = omega arith }

-- what is seen after it
pub put-view : (bits octets octets1 : Buffer ℕ) (new part : List ℕ) (skip n : ℕ) {held : ℕ} → AreRings bits octets skip → length octets.items ≡ held →
    held < 160 → length new ≡ 160 →
    part ≡ take (160 - skip) (drop skip new) → n ≡ min (length part) (octets.capacity - length octets.items) →
    octets1 ≡ buffer (octets.items ++ take n part) octets.capacity →
    (let s : FramerMemory = record { stored = bits.items; held = octets1.items; to_skip = 0 } in s)
    ≡ after_put (record { stored = bits.items; held = octets.items; to_skip = skip }) new
put-view bits octets octets1 new part skip n r lh short l ep en e1 =
    let rooms = r.rooms in
    let bounded = r.bounded in
    let d = length-drop skip new in
    let p : part ≡ drop skip new = ep ∙ take_all (160 - skip) (drop skip new) (omega arith) in
    let lp : length part ≡ 160 - skip = ap length p ∙ d ∙ omega arith in
    let i : octets1.items ≡ octets.items ++ drop skip new =
    ap (λ (b : Buffer ℕ). b.items) e1 ∙ ap (λ z. octets.items ++ z) (filled n (octets.capacity - length octets.items) part en (omega arith) ∙ p) in
    let z : 0 ≡ skip - 160 = omega arith in
    cc

-- a framer that holds 160 octets is within a period
pub within_when_ready : (s : FramerMemory) → IsBetweenPeriods s ⊎ IsWithinPeriod s → 160 ≤ length s.held → IsWithinPeriod s
within_when_ready s (inl between) ready = let short = between.short in let q : ⊥ = omega arith in absurd q
within_when_ready s (inr within) ready = within

-- ---- taking a period's bits

-- what is seen after a period is out
pub take-view : (bits bits1 octets : Buffer ℕ) (skip n : ℕ) → n ≡ 320 → bits1 ≡ buffer (drop n bits.items) bits.capacity →
    ring_memory bits1 octets skip ≡ after_take (ring_memory bits octets skip)
take-view bits bits1 octets skip n e b =
    let items : bits1.items ≡ drop 320 bits.items = ap (λ (r : Buffer ℕ). r.items) b ∙ ap (λ k. drop k bits.items) e in
    ap (λ z. let s : FramerMemory = record { stored = z; held = octets.items; to_skip = skip } in s) items

-- 320 bits are read where these are there
pub read_all : (n : ℕ) (items old new : List ℕ) → n ≡ 320 → length old ≡ 320 → new ≡ take n items ++ drop n old → new ≡ take 320 items
read_all n items old new e l r =
    r ∙ ap (λ k. take k items ++ drop k old) e ∙ ap (λ z. take 320 items ++ z) (drop_all 320 old (omega arith)) ∙ append-nil (take 320 items)

-- no frame is left to be made
pub taken_between : (s : FramerMemory) → IsWithinPeriod s → length s.held < 160 → IsBetweenPeriods (after_take s)
taken_between s w short =
    let balance = w.balance in
    let left = length-drop 320 s.stored in
    record { balance = omega arith; short = short }

-- the rings' invariant is kept by that
pub taken-rings : (bits bits1 octets : Buffer ℕ) (skip n : ℕ) → AreRings bits octets skip → IsBetweenPeriods (ring_memory bits1 octets skip) →
    bits1 ≡ buffer (drop n bits.items) bits.capacity → AreRings bits1 octets skip
taken-rings bits bits1 octets skip n r between b =
    let rooms = r.rooms in
    let fits = r.fits in
    let items : bits1.items ≡ drop n bits.items = ap (λ (z : Buffer ℕ). z.items) b in
    let left : length bits1.items ≡ length bits.items - n = ap length items ∙ length-drop n bits.items in
    record {
      rooms = (ap (λ (z : Buffer ℕ). z.capacity) b ∙ rooms.0, rooms.1);
      fits = (omega arith, fits.1);
      bounded = r.bounded;
      none_held = r.none_held;
      are_bits = subst AreBits (sym items) (All-drop (λ b. b < 2) n bits.items r.are_bits);
      phase = inl between;
    }
