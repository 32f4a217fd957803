-- A payload, laid period by period.
use Rattle.std.proofs.Common.{◌≡◌, ℕ, zero, suc, ◌+◌, ◌-◌, ◌*◌, ◌%◌, ◌^◌, ◌<◌, ◌≤◌, List, length, refl, sym, ap, subst, ◌∙◌, arith, drop, ◌⊎◌, inl, inr}
use Rattle.std.specs.Prelude.{◌≢◌, Bool, true, false, if◌then◌else◌, nat_lt, min, ◌==◌, ◌&&◌, ◌||◌, Option, Some, None, slice_index, slice_range}
use Rattle.std.proofs.lemmas.List.{get_or-take, get_or-drop, length-take-le, length-drop}
use Rattle.rtp_buffer.specs.declared.octet.Octet.{Octet}
use Rattle.rtp_buffer.specs.declared.octet.Octet.TheVariants.{Missing, Held, Played}
use Rattle.rtp_buffer.specs.Octets.{came, with_octet, has_come}
use Rattle.rtp_buffer.specs.declared.buffer.Outcome.{Outcome}
use Rattle.rtp_buffer.specs.declared.buffer.Outcome.TheVariants.{Taken, Late, Doubled}
use Rattle.rtp_buffer.specs.Store.{slot_of}
use Rattle.rtp_buffer.specs.Watch.{on, back}
use Rattle.rtp_buffer.specs.Pace.{is_late}
use Rattle.rtp_stream.specs.Payload.{octets_before, with_payload, comes_for}

-- ---- how far a payload was laid: m octets of the periods so far, the first of which has room from its part on

pub taken_then : (m size part at start piece length : ℕ) → part < size → at ≡ octets_before m part length → ((m ≡ 0) × (start ≡ part)) ⊎ ((size ≤ m) × (start ≡ 0)) →
    piece ≡ min (size - start) (length - at) → at + piece ≡ octets_before (m + size) part length
taken_then m size part at start piece length p a s e = omega (arith, p, a, s, e)

-- an octet of the piece is one of the payload
inside : (octets : List ℕ) (at piece i : ℕ) → i < piece → at + piece ≤ length octets → slice_index (slice_range octets at (at + piece)) i ≡ slice_index octets (at + i)
inside octets at piece i l r = get_or-take (at + piece - at) (drop at octets) i 0 (omega (arith, l)) ∙ get_or-drop at octets i 0

came_some : (octets : List ℕ) (part count k : ℕ) → part ≤ k → k < part + count → came part octets count k ≡ Some (slice_index octets (k - part))
came_some octets part count k l r = grind (arith, l, r)

came_before : (octets : List ℕ) (part count k : ℕ) → k < part → came part octets count k ≡ None
came_before octets part count k l = grind (arith, l)

came_after : (octets : List ℕ) (part count k : ℕ) → part + count ≤ k → came part octets count k ≡ None
came_after octets part count k l = grind (arith, l)

-- the octet that comes for a place is the one of the piece
pub piece_comes : (octets : List ℕ) (m size part at start piece k : ℕ) → part < size → k < size → at ≡ octets_before m part (length octets) →
    ((m ≡ 0) × (start ≡ part)) ⊎ ((size ≤ m) × (start ≡ 0)) → piece ≡ min (size - start) (length octets - at) →
    came start (slice_range octets at (at + piece)) piece k ≡ came part octets (length octets) (m + k)
piece_comes octets m size part at start piece k p l a s e = by_sides (nat_lt k start) (nat_lt k (start + piece)) refl refl
  where
    by_sides : (b c : Bool) → nat_lt k start ≡ b → nat_lt k (start + piece) ≡ c →
        came start (slice_range octets at (at + piece)) piece k ≡ came part octets (length octets) (m + k)
    by_sides true c before e2 =
        let b : k < start = grind (arith, before) in
        came_before _ start piece k b ∙ sym (came_before octets part (length octets) (m + k) (omega (arith, b, p, a, s, e)))
    by_sides false false before within =
        let b : start ≤ k = grind (arith, before) in
        let w : start + piece ≤ k = grind (arith, within) in
        came_after _ start piece k w ∙ sym (came_after octets part (length octets) (m + k) (omega (arith, b, w, l, p, a, s, e)))
    by_sides false true before within =
        let b : start ≤ k = grind (arith, before) in
        let w : k < start + piece = grind (arith, within) in
        let here : k - start < piece = omega (arith, b, w) in
        let room : at + piece ≤ length octets = omega (arith, p, a, s, e) in
        let place : at + (k - start) ≡ m + k - part = omega (arith, b, w, l, p, a, s, e) in
        came_some _ start piece k b w
        ∙ ap (λ (x : ℕ). Some x) (inside octets at piece (k - start) here room ∙ ap (λ (i : ℕ). slice_index octets i) place)
        ∙ sym (came_some octets part (length octets) (m + k) (omega (arith, b, w, l, p, a, s, e)) (omega (arith, b, w, l, p, a, s, e)))

-- the octets of a piece
pub piece_length : (octets : List ℕ) (at piece : ℕ) → at + piece ≤ length octets → length (slice_range octets at (at + piece)) ≡ piece
piece_length octets at piece r =
    length-take-le (at + piece - at) (drop at octets) (omega (arith, length-drop at octets, r)) ∙ omega arith

pub piece_inside : (m size part at start piece length : ℕ) → part < size → at ≡ octets_before m part length →
    ((m ≡ 0) × (start ≡ part)) ⊎ ((size ≤ m) × (start ≡ 0)) → piece ≡ min (size - start) (length - at) → at + piece ≤ length
piece_inside m size part at start piece length p a s e = omega (arith, p, a, s, e)

-- ---- what no octet or a known place does

pub with_none : (octet : Octet) → with_octet octet None ≡ octet
with_none Missing = refl
with_none (Held octet) = refl
with_none Played = refl

pub with_known : (octet : Octet) (more : Option ℕ) → has_come octet ≡ true → with_octet octet more ≡ octet
with_known Missing more h = absurd (grind (arith, h))
with_known (Held octet) more h = refl
with_known Played more h = refl

-- a place for which all octets that come had come before
pub known_stays : (octets : List ℕ) (start count k : ℕ) (octet : Octet) → (start ≤ k → k < start + count → has_come octet ≡ true) →
    with_octet octet (came start octets count k) ≡ octet
known_stays octets start count k octet h = by_sides (nat_lt k start) (nat_lt k (start + count)) refl refl
  where
    by_sides : (b c : Bool) → nat_lt k start ≡ b → nat_lt k (start + count) ≡ c → with_octet octet (came start octets count k) ≡ octet
    by_sides true c before e2 = ap (with_octet octet) (came_before octets start count k (grind (arith, before))) ∙ with_none octet
    by_sides false false before within = ap (with_octet octet) (came_after octets start count k (grind (arith, within))) ∙ with_none octet
    by_sides false true before within = with_known octet (came start octets count k) (h (grind (arith, before)) (grind (arith, within)))

-- ---- one period more

-- its places, as its outcome says
pub record Outcomes (outcome : Outcome) (late : Bool) (octets : List ℕ) (start count : ℕ) (old new : ℕ → Octet) : Type 0 where
  pub taken_is : outcome ≡ Taken → (late ≡ false) × ((k : ℕ) → new k ≡ with_octet (old k) (came start octets count k))
  pub late_is : outcome ≡ Late → (late ≡ true) × ((k : ℕ) → new k ≡ old k)
  pub doubled_is : outcome ≡ Doubled → ((k : ℕ) → new k ≡ old k) × ((k : ℕ) → start ≤ k → k < start + count → has_come (old k) ≡ true)

pub own_places : (outcome : Outcome) (late : Bool) (octets : List ℕ) (start count : ℕ) (old new : ℕ → Octet) →
    Outcomes outcome late octets start count old new → (k : ℕ) → new k ≡ (if late then old k else with_octet (old k) (came start octets count k))
own_places Taken late octets start count old new h k =
    let t = h.taken_is refl in
    rw t.0 (t.1 k)
own_places Late late octets start count old new h k =
    let t = h.late_is refl in
    rw t.0 (t.1 k)
own_places Doubled true octets start count old new h k = (h.doubled_is refl).0 k
own_places Doubled false octets start count old new h k =
    let t = h.doubled_is refl in
    t.0 k ∙ sym (known_stays octets start count k (old k) (λ l r. t.1 k l r))

-- a period with its piece
pub own_piece : (outcome : Outcome) (wait : ℕ) (octets : List ℕ) (m size part at start piece : ℕ) (old new : ℕ → Octet) → part < size →
    at ≡ octets_before m part (length octets) → ((m ≡ 0) × (start ≡ part)) ⊎ ((size ≤ m) × (start ≡ 0)) → piece ≡ min (size - start) (length octets - at) →
    Outcomes outcome (is_late wait) (slice_range octets at (at + piece)) start (length (slice_range octets at (at + piece))) old new →
    (k : ℕ) → k < size → new k ≡ with_payload wait (old k) (came part octets (length octets) (m + k))
own_piece outcome wait octets m size part at start piece old new p a s e h k l =
    own_places outcome (is_late wait) (slice_range octets at (at + piece)) start (length (slice_range octets at (at + piece))) old new h k
    ∙ ap (λ (more : Option ℕ). with_payload wait (old k) more)
    (ap (λ (n : ℕ). came start (slice_range octets at (at + piece)) n k) (piece_length octets at piece (piece_inside m size part at start piece (length octets) p a s e))
    ∙ piece_comes octets m size part at start piece k p l a s e)

-- ---- periods and slots

-- a period has the slot of the n-th one of a payload exactly if it is so many after the first, modulo 256
pub same_slot : (first n other : ℕ) → first < 2 ^ 32 → other < 2 ^ 32 → n < 51 → (slot_of other == slot_of (on first n)) ≡ (back other first % 256 == n)
same_slot first n other f o l = by_sides (slot_of other == slot_of (on first n)) (back other first % 256 == n) refl refl
  where
    by_sides : (b c : Bool) → (slot_of other == slot_of (on first n)) ≡ b → (back other first % 256 == n) ≡ c →
        (slot_of other == slot_of (on first n)) ≡ (back other first % 256 == n)
    by_sides true true e h = e ∙ sym h
    by_sides false false e h = e ∙ sym h
    by_sides true false e h =
        let same : slot_of other ≡ slot_of (on first n) = grind (arith, e) in
        let other_slot : back other first % 256 ≢ n = grind (arith, h) in
        absurd (other_slot (omega (arith, f, o, l, same)))
    by_sides false true e h =
        let same : back other first % 256 ≡ n = grind (arith, h) in
        let other_slot : slot_of other ≢ slot_of (on first n) = grind (arith, e) in
        absurd (other_slot (omega (arith, f, o, l, same)))

pub is_not_nth : (first n other : ℕ) → first < 2 ^ 32 → other < 2 ^ 32 → n < 51 → back other first ≢ n → other ≢ on first n
is_not_nth first n other f o l d same = d (omega (arith, f, o, l, same))

-- one up to 77 before the first has none of their slots
pub not_behind : (first n other : ℕ) → first < 2 ^ 32 → other < 2 ^ 32 → n < 51 → 0 < back first other → back first other ≤ 77 → other ≢ on first n
not_behind first n other f o l a b same = absurd (omega (arith, f, o, l, a, b, same))

pub slot_not_behind : (first n other : ℕ) → first < 2 ^ 32 → other < 2 ^ 32 → n < 51 → 0 < back first other → back first other ≤ 77 →
    (slot_of other == slot_of (on first n)) ≡ false
slot_not_behind first n other f o l a b = by_side (slot_of other == slot_of (on first n)) refl
  where
    by_side : (c : Bool) → (slot_of other == slot_of (on first n)) ≡ c → (slot_of other == slot_of (on first n)) ≡ false
    by_side false e = e
    by_side true e =
        let same : slot_of other ≡ slot_of (on first n) = grind (arith, e) in
        absurd (omega (arith, f, o, l, a, b, same))

pub kept : (same taken : Bool) (new old : Octet) → same ≡ false → new ≡ (if same && taken then Missing else old) → new ≡ old
kept false taken new old e h = h
kept true taken new old e h = absurd (grind (arith, e))

pub same_taken : (same taken other : Bool) (new old : Octet) → taken ≡ other → new ≡ (if same && taken then Missing else old) → new ≡ (if same && other then Missing else old)
same_taken same taken other new old e h = subst (λ (t : Bool). new ≡ (if same && t then Missing else old)) e h

-- a period that is n after another
pub is_nth : (first n period : ℕ) → first < 2 ^ 32 → period < 2 ^ 32 → back period first ≡ n → period ≡ on first n
is_nth first n period f p e = omega (arith, f, p, e)

-- ---- one period more, among all

-- where a payload begins in its n-th period
pub starts : (n size part start : ℕ) → start ≡ (if n == 0 then part else 0) → ((n * size ≡ 0) × (start ≡ part)) ⊎ ((size ≤ n * size) × (start ≡ 0))
starts zero size part start h = inl (omega arith, h)
starts (suc n) size part start h = inr (omega arith, grind (arith, h))

pub one_more : (n size : ℕ) → (n + 1) * size ≡ n * size + size
one_more n size = omega arith

less_or_equal : (d n : ℕ) → nat_lt d (n + 1) ≡ (nat_lt d n || (d == n))
less_or_equal d n = by_side (nat_lt d n) (d == n) refl refl
  where
    by_side : (b c : Bool) → nat_lt d n ≡ b → (d == n) ≡ c → nat_lt d (n + 1) ≡ (nat_lt d n || (d == n))
    by_side b c e h = grind (arith, e, h)

less_or_other : (d n : ℕ) → d ≢ n → nat_lt d (n + 1) ≡ nat_lt d n
less_or_other d n h = grind (arith, h)

-- a place `d` periods after the first, once the first n are laid
abbrev pub so_far : ℕ → ℕ → Bool → Octet → Octet → Octet
so_far d n taken laid initial =
    if nat_lt d 256 then (if nat_lt d n then laid else initial) else if nat_lt (d % 256) n && taken then Missing else initial

here : (d n : ℕ) (taken : Bool) (laid initial new : Octet) → d ≡ n → n < 51 → new ≡ laid → new ≡ so_far d (n + 1) taken laid initial
here d n taken laid initial new e l h =
    let near : nat_lt d 256 ≡ true = grind (arith, e, l) in
    let within : nat_lt d (n + 1) ≡ true = grind (arith, e) in
    rw (near, within) h

untouched : (d n : ℕ) (taken : Bool) (laid initial old : Octet) → d ≡ n → n < 51 → old ≡ so_far d n taken laid initial → old ≡ initial
untouched d n taken laid initial old e l h =
    let near : nat_lt d 256 ≡ true = grind (arith, e, l) in
    let without : nat_lt d n ≡ false = grind (arith, e) in
    subst (λ (x : Octet). old ≡ x) (rw (near, without) refl) h

-- another place than that of the n-th period: it is forgotten if it has that one's slot
elsewhere : (d n : ℕ) (taken same : Bool) (laid initial old new : Octet) → d ≢ n → n < 51 → same ≡ (d % 256 == n) →
    new ≡ (if same && taken then Missing else old) → old ≡ so_far d n taken laid initial → new ≡ so_far d (n + 1) taken laid initial
elsewhere d n taken same laid initial old new other l e forgotten h = by_side (nat_lt d 256) refl
  where
    more : nat_lt (d % 256) (n + 1) ≡ (nat_lt (d % 256) n || (d % 256 == n))
    more = less_or_equal (d % 256) n

    by_side : (b : Bool) → nat_lt d 256 ≡ b → new ≡ so_far d (n + 1) taken laid initial
    by_side true near =
        let whole : d % 256 ≡ d = let n : d < 256 = grind (arith, near) in omega (arith, n) in
        let not_same : same ≡ false = e ∙ grind (arith, whole, other) in
        let still : nat_lt d (n + 1) ≡ nat_lt d n = less_or_other d n other in
        kept same taken new old not_same forgotten ∙ h ∙ rw (near, still) refl
    by_side false near = by_sides same (nat_lt (d % 256) n) taken refl refl refl
      where
        by_sides : (s b t : Bool) → same ≡ s → nat_lt (d % 256) n ≡ b → taken ≡ t → new ≡ so_far d (n + 1) taken laid initial
        by_sides s b t es eb et = grind (arith, near, forgotten, h, e, more, es, eb, et)

-- what is known of the places after a payload's first n periods, and after one more
pub record Laying (size first part n : ℕ) (payload : List ℕ) (wait : ℕ → ℕ) (taken : ℕ → Bool) (initial now : ℕ → ℕ → Octet) : Type 0 where
  pub laid : (period k : ℕ) → period < 2 ^ 32 → k < size → now period k ≡
      so_far (back period first) n (taken (back period first % 256)) (with_payload (wait period) (initial period k) (comes_for size first part payload period k)) (initial period k)

pub record Piece (size first part n : ℕ) (payload : List ℕ) (wait : ℕ → ℕ) (taken : Bool) (old new : ℕ → ℕ → Octet) : Type 0 where
  pub first_fits : first < 2 ^ 32
  pub soon : n < 51
  pub own : (k : ℕ) → k < size → new (on first n) k ≡ with_payload (wait (on first n)) (old (on first n) k) (came part payload (length payload) (n * size + k))
  pub others : (other k : ℕ) → other ≢ on first n → new other k ≡ (if (slot_of other == slot_of (on first n)) && taken then Missing else old other k)

-- the n-th period is as it was
pub nth_untouched : (size first part n : ℕ) (payload : List ℕ) (wait : ℕ → ℕ) (taken : ℕ → Bool) (initial now : ℕ → ℕ → Octet) → first < 2 ^ 32 → n < 51 →
    Laying size first part n payload wait taken initial now → (k : ℕ) → k < size → now (on first n) k ≡ initial (on first n) k
nth_untouched size first part n payload wait taken initial now f l h k inside =
    untouched (back (on first n) first) n (taken (back (on first n) first % 256)) _ _ _ (omega (arith, f, l)) l (h.laid (on first n) k (omega arith) inside)

pub laid_then : (size first part n : ℕ) (payload : List ℕ) (wait : ℕ → ℕ) (taken : ℕ → Bool) (initial old new : ℕ → ℕ → Octet) →
    Piece size first part n payload wait (taken n) old new → Laying size first part n payload wait taken initial old →
    Laying size first part (n + 1) payload wait taken initial new
laid_then size first part n payload wait taken initial old new piece before = record {
  laid = λ period k fits inside. by_side (back period first == n) period k refl fits inside;
}
  where
    at_place : (period k : ℕ) → period < 2 ^ 32 → back period first ≡ n → k < size → old period k ≡ initial period k →
        new period k ≡ with_payload (wait period) (initial period k) (comes_for size first part payload period k)
    at_place period k fits e inside same =
        let is : period ≡ on first n = is_nth first n period piece.first_fits fits e in
        let own : new period k ≡ with_payload (wait period) (old period k) (came part payload (length payload) (n * size + k)) =
        subst (λ (p : ℕ). new p k ≡ with_payload (wait p) (old p k) (came part payload (length payload) (n * size + k))) (sym is) (piece.own k inside) in
        own
        ∙ ap (λ (o : Octet). with_payload (wait period) o (came part payload (length payload) (n * size + k))) same
        ∙ ap (λ (d : ℕ). with_payload (wait period) (initial period k) (came part payload (length payload) (d * size + k))) (sym e)

    of_slot : (period : ℕ) (same : Bool) → same ≡ (back period first % 256 == n) → (o old : Octet) → o ≡ (if same && taken n then Missing else old) →
        o ≡ (if same && taken (back period first % 256) then Missing else old)
    of_slot period true e o old h =
        let at : back period first % 256 ≡ n = grind (arith, e) in
        h ∙ ap (λ (m : ℕ). if taken m then Missing else old) (sym at)
    of_slot period false e o old h = h

    by_side : (b : Bool) → (period : ℕ) → (k : ℕ) → (back period first == n) ≡ b → period < 2 ^ 32 → k < size → new period k ≡
        so_far (back period first) (n + 1) (taken (back period first % 256)) (with_payload (wait period) (initial period k) (comes_for size first part payload period k)) (initial period k)
    by_side true period k h fits inside =
        let e : back period first ≡ n = grind (arith, h) in
        let was = before.laid period k fits inside in
        here (back period first) n _ _ _ _ e piece.soon
        (at_place period k fits e inside (untouched (back period first) n _ _ _ _ e piece.soon was))
    by_side false period k h fits inside =
        let ne : back period first ≢ n = grind (arith, h) in
        let slot = same_slot first n period piece.first_fits fits piece.soon in
        elsewhere (back period first) n (taken (back period first % 256)) (slot_of period == slot_of (on first n)) _ _ (old period k) _ ne piece.soon slot
        (of_slot period (slot_of period == slot_of (on first n)) slot _ _ (piece.others period k (is_not_nth first n period piece.first_fits fits piece.soon ne)))
        (before.laid period k fits inside)

-- ---- all periods

-- once all octets are laid, none comes for a later period
pub none_later : (size part n d k : ℕ) (payload : List ℕ) → n ≤ d → octets_before (n * size) part (length payload) ≡ length payload →
    came part payload (length payload) (d * size + k) ≡ None
none_later size part n d k payload l e =
    let split : n * size + (d - n) * size ≡ d * size = split_at in
    by_side (nat_lt (d * size + k) part) refl split
  where
    again : (j : ℕ) → n * size + j * size ≡ (n + j) * size
    again j = omega arith

    split_at : n * size + (d - n) * size ≡ d * size
    split_at =
        let same : n + (d - n) ≡ d = omega (arith, l) in
        again (d - n) ∙ ap (λ (x : ℕ). x * size) same

    by_side : (b : Bool) → nat_lt (d * size + k) part ≡ b → n * size + (d - n) * size ≡ d * size → came part payload (length payload) (d * size + k) ≡ None
    by_side true before split = came_before payload part (length payload) (d * size + k) (grind (arith, before))
    by_side false before split =
        let b : part ≤ d * size + k = grind (arith, before) in
        came_after payload part (length payload) (d * size + k) (omega (arith, b, e, split))

-- so the places are those after the whole payload
pub all_laid : (size first part n : ℕ) (payload : List ℕ) (wait : ℕ → ℕ) (taken : ℕ → Bool) (initial now : ℕ → ℕ → Octet) →
    octets_before (n * size) part (length payload) ≡ length payload → ((m : ℕ) → n ≤ m → taken m ≡ false) →
    Laying size first part n payload wait taken initial now → (period k : ℕ) → period < 2 ^ 32 → k < size → now period k ≡
    (if nat_lt (back period first) 256 then with_payload (wait period) (initial period k) (comes_for size first part payload period k)
    else if taken (back period first % 256) then Missing else initial period k)
all_laid size first part n payload wait taken initial now whole none h period k fits inside =
    by_sides (nat_lt (back period first) 256) (nat_lt (back period first) n) (nat_lt (back period first % 256) n) refl refl refl
  where
    d : ℕ
    d = back period first

    laid : Octet
    laid = with_payload (wait period) (initial period k) (comes_for size first part payload period k)

    stays : (b : Bool) (octet : Octet) → octet ≡ (if b then octet else with_octet octet None)
    stays true octet = refl
    stays false octet = sym (with_none octet)

    later : nat_lt (back period first) n ≡ false → initial period k ≡ with_payload (wait period) (initial period k) (comes_for size first part payload period k)
    later e =
        let l : n ≤ back period first = grind (arith, e) in
        stays (is_late (wait period)) (initial period k)
        ∙ ap (with_payload (wait period) (initial period k)) (sym (none_later size part n (back period first) k payload l whole))

    not_taken : nat_lt (back period first % 256) n ≡ false → taken (back period first % 256) ≡ false
    not_taken e = let l : n ≤ back period first % 256 = grind (arith, e) in none (back period first % 256) l

    by_sides : (b c e : Bool) → nat_lt (back period first) 256 ≡ b → nat_lt (back period first) n ≡ c → nat_lt (back period first % 256) n ≡ e → now period k ≡
        (if nat_lt (back period first) 256 then with_payload (wait period) (initial period k) (comes_for size first part payload period k)
        else if taken (back period first % 256) then Missing else initial period k)
    by_sides true true e near within f = h.laid period k fits inside ∙ rw (near, within) refl
    by_sides true false e near within f = h.laid period k fits inside ∙ rw (near, within) (later within)
    by_sides false c true near within f = h.laid period k fits inside ∙ rw (near, f) refl
    by_sides false c false near within f = h.laid period k fits inside ∙ rw (near, f, not_taken f) refl

-- of those within 128 from the first one on
pub within_128 : (d : ℕ) (laid other now : Octet) → d < 128 → now ≡ (if nat_lt d 256 then laid else other) → now ≡ laid
within_128 d laid other now l h =
    let near : nat_lt d 256 ≡ true = grind (arith, l) in
    subst (λ (o : Octet). now ≡ o) (rw near refl) h

-- a payload of at most 50 periods ends in its first 51
pub all_in_51 : (n size part length : ℕ) → part < size → length ≤ 50 * size → n ≤ 51 → 51 ≤ n → octets_before (n * size) part length ≡ length
all_in_51 n size part length p l most least =
    let same : n ≡ 51 = omega (arith, most, least) in
    subst (λ (x : ℕ). octets_before (x * size) part length ≡ length) (sym same) (omega (arith, p, l))

-- ---- paces of one shift

pub same_wait : (one other period tick : ℕ) → one ≡ other → back (back period one) tick ≡ back (back period other) tick
same_wait one other period tick e = ap (λ (s : ℕ). back (back period s) tick) e

pub with_wait : (wait other : ℕ) (new old : Octet) (more : Option ℕ) → wait ≡ other → new ≡ with_payload wait old more → new ≡ with_payload other old more
with_wait wait other new old more e h = subst (λ (w : ℕ). new ≡ with_payload w old more) e h
