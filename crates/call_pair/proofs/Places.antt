-- For crates above: a place is below a limit or not, as a test (`is_below`, `not_below`).
-- The octets of a place, octets that are written, and tests of places.
use Rattle.std.proofs.Common.{◌≡◌, ◌∙◌, ℕ, ◌+◌, ◌-◌, ◌*◌, ◌<◌, ◌≤◌, ◌==◌, ltb, true, false, List, ◌++◌, length, take, drop, sym, ap, append_assoc, length-append, Vec, arith}
use Rattle.std.proofs.lemmas.Bool.Decides.{nat_tests}
use Rattle.std.proofs.lemmas.List.{drop-drop, length-drop, length-take-le, with_items_is}
use Rattle.std.specs.Vec.{with_items}
use borrow.Rule.Slice.PartMut.{put_mid, mid_of, same_len_mid}
use Rattle.call_pair.specs.Memory.{IoMemory, IsIo}
use Rattle.call_pair.specs.Periods.{up_at, pcm_at, buffer_with}
use Rattle.call_pair.proofs.Lengths.{length-taken}

pub length-up_at : (io : IoMemory) (k : ℕ) → IsIo io → k < io.given → length (up_at k io) ≡ 40
length-up_at io k h below = length-taken io.up 40 (40 * k) (omega (arith, h.room.up_room, h.room.enough))

pub length-pcm_at : (io : IoMemory) (k : ℕ) → IsIo io → k < io.given → length (pcm_at k io) ≡ 160
length-pcm_at io k h below = length-taken io.pcm 160 (160 * k) (omega (arith, h.room.pcm_room, h.room.enough))

-- what is put in the middle of a buffer
put_mid-written : (start k : ℕ) (buffer octets : List ℕ) → length octets ≡ k → put_mid start k buffer octets ≡ buffer_with buffer start octets
put_mid-written start k buffer octets e =
    let long : start + k ≡ start + length octets = omega arith in
    sym (append_assoc (take start buffer) octets (drop k (drop start buffer))) ∙
    ap (λ (ys : List ℕ). take start buffer ++ octets ++ ys) (drop-drop k start buffer ∙ ap (λ (m : ℕ). drop m buffer) long)

-- a buffer whose n octets from `start` on are now these
pub with_items-written : {Z : Type 0} (v : Vec ℕ Z) (start n : ℕ) (buffer part octets : List ℕ) → buffer ≡ v.items → length part
    ≡ length (mid_of start ((start + n) - start) buffer) → part ≡ octets → length octets ≡ n →
    (with_items v (put_mid start ((start + n) - start) buffer part)).items ≡ buffer_with v.items start octets
with_items-written v start n buffer part octets was same now long =
    let k = (start + n) - start in
    let fits = same_len_mid start k buffer part same in
    with_items_is v (put_mid start k buffer part) (omega (arith, fits, ap length was, v.ok.0)) ∙ ap (put_mid start k buffer) now ∙
    put_mid-written start k buffer octets (omega arith) ∙ ap (λ (xs : List ℕ). buffer_with xs start octets) was

-- a buffer whose contents were lent keeps its length
pub length-with_items : {Z : Type 0} (v : Vec ℕ Z) (xs : List ℕ) → length (with_items v xs).items ≡ length v.items
length-with_items v xs =
    let all = length-append xs (drop (length xs) v.items) in
    let rest = length-drop (length xs) v.items in
    let there : v.len ≤ length (xs ++ drop (length xs) v.items) = omega (arith, all, rest, v.ok.0) in
    length-take-le v.len (xs ++ drop (length xs) v.items) there ∙ (let e : v.len ≡ length v.items = omega (arith, v.ok.0) in e)

-- octets of the same lengths are a call's as well
pub io-stands : (io : IoMemory) (up pcm out down : List ℕ) → IsIo io → length up ≡ length io.up →
    length pcm ≡ length io.pcm → length out ≡ length io.out →
    length down ≡ length io.down → IsIo (record io { up = up; pcm = pcm; out = out; down = down })
io-stands io up pcm out down h u p o d = record {
  number = h.number;
  room = record {
    periods = h.room.periods;
    enough = h.room.enough;
    up_room = u ∙ h.room.up_room;
    pcm_room = p ∙ h.room.pcm_room;
    out_room = o ∙ h.room.out_room;
    down_room = d ∙ h.room.down_room;
  };
  within = h.within;
}

pub is_same : (m n : ℕ) → m ≡ n → (m == n) ≡ true
is_same m n e = grind (arith, nat_tests)

pub is_past : (m n : ℕ) → n < m → (m == n) ≡ false
is_past m n h = grind (arith, nat_tests)

pub is_below : (m n : ℕ) → m < n → ltb m n ≡ true
is_below m n h = grind (arith, nat_tests)

pub not_below : (m n : ℕ) → n ≤ m → ltb m n ≡ false
not_below m n h = grind (arith, nat_tests)

pub is_before : (m n : ℕ) → m < n → (m == n) ≡ false
is_before m n h = grind (arith, nat_tests)
