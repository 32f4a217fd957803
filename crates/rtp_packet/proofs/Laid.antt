-- Octets that pass each test have the parts of a packet, and these parts pass them.
use Rattle.std.proofs.Common.{◌≡◌, ℕ, ◌+◌, ◌-◌, ◌*◌, ◌%◌, ◌<◌, ◌≤◌, List, ◌++◌, length, get_or, take, drop, refl, sym, ap, subst, ◌∙◌, lit<, arith}
use Rattle.std.specs.Prelude.{Bool, true, false, Some}
use Rattle.std.proofs.lemmas.List.{take-append-drop, length-take-le, length-drop, length-append, get_or-take, get_or-drop, get_or_append_left, get_or-append_right, drop-drop, drop_all}
use Rattle.rtp_packet.specs.declared.header.Header.{Header}
use Rattle.rtp_packet.specs.declared.packet.Packet.{Packet}
use Rattle.rtp_packet.specs.Packet.{header_of, number_of_two, has_extension, has_padding, sources_end, payload_from, padding_of, is_control}
use Rattle.rtp_packet.specs.Layout.{Parts, joined, IsExtension, IsPadding, AreParts, IsPacket}
use Rattle.rtp_packet.proofs.Facts.{Passes, from_plain, from_extended, no_padding, some_padding, padding_counts, plain_from, extended_from, padding_none, padding_some}

-- ---- lists

-- the n octets of a list from `at` on
abbrev pub part : ℕ → ℕ → List ℕ → List ℕ
part at n xs = take n (drop at xs)

length-part : (at n : ℕ) (xs : List ℕ) → at + n ≤ length xs → length (part at n xs) ≡ n
length-part at n xs l = length-take-le n (drop at xs) (omega (arith, length-drop at xs))

get_or-part : (at n : ℕ) (xs : List ℕ) (i : ℕ) → i < n → get_or (part at n xs) i 0 ≡ get_or xs (at + i) 0
get_or-part at n xs i l = get_or-take n (drop at xs) i 0 l ∙ get_or-drop at xs i 0

-- a part, and what is behind it
part_then : (at n next : ℕ) (xs : List ℕ) → at + n ≡ next → drop at xs ≡ part at n xs ++ drop next xs
part_then at n next xs e =
    sym (take-append-drop n (drop at xs)) ∙ ap (λ (r : List ℕ). take n (drop at xs) ++ r) (drop-drop n at xs ∙ ap (λ (k : ℕ). drop k xs) e)

-- octets whose first twelve are the same say the same
same_header : (xs ys : List ℕ) → ((k : ℕ) → k < 12 → get_or xs k 0 ≡ get_or ys k 0) → header_of xs ≡ header_of ys
same_header xs ys h =
    simp (
      h 1 (lit< tt),
      h 2 (lit< tt),
      h 3 (lit< tt),
      h 4 (lit< tt),
      h 5 (lit< tt),
      h 6 (lit< tt),
      h 7 (lit< tt),
      h 8 (lit< tt),
      h 9 (lit< tt),
      h 10 (lit< tt),
      h 11 (lit< tt),
    ) refl

-- ---- from the tests to the parts

extension_in : (xs : List ℕ) (from : ℕ) (b : Bool) → has_extension xs ≡ b → payload_from xs ≡ Some from → from ≤ length xs →
    IsExtension b (part (sources_end xs) (from - sources_end xs) xs)
extension_in xs from false e h l =
    let none : from - sources_end xs ≡ 0 = omega (arith, from_plain xs from h e) in
    rw none refl
extension_in xs from true e h l =
    let n : from ≡ sources_end xs + 4 + 4 * number_of_two xs (sources_end xs + 2) = from_extended xs from h e in
    let s : ℕ = sources_end xs in
    let third : get_or (part s (from - s) xs) 2 0 ≡ get_or xs (s + 2) 0 = get_or-part s (from - s) xs 2 (omega (arith, n)) in
    let fourth : get_or (part s (from - s) xs) 3 0 ≡ get_or xs (s + 3) 0 = get_or-part s (from - s) xs 3 (omega (arith, n)) in
    let place : s + 3 ≡ s + 2 + 1 = omega arith in
    omega (arith, n, third, fourth ∙ ap (λ (k : ℕ). get_or xs k 0) place, length-part s (from - s) xs (omega (arith, n, l)))

padding_in : (xs : List ℕ) (count : ℕ) (b : Bool) → has_padding xs ≡ b → padding_of xs ≡ Some count → count ≤ length xs →
    IsPadding b (drop (length xs - count) xs)
padding_in xs count false e h l = drop_all (length xs - count) xs (omega (arith, no_padding xs count h e))
padding_in xs count true e h l =
    let n : count ≡ get_or xs (length xs - 1) 0 = some_padding xs count h e in
    let m : 0 < count = padding_counts xs count h e in
    let all : length (drop (length xs - count) xs) ≡ count = omega (arith, length-drop (length xs - count) xs, l) in
    let place : length xs - count + (length (drop (length xs - count) xs) - 1) ≡ length xs - 1 = omega (arith, all, m, l) in (
      omega (arith, all, m),
      get_or-drop (length xs - count) xs (length (drop (length xs - count) xs) - 1) 0 ∙ ap (λ (k : ℕ). get_or xs k 0) place ∙ sym n ∙ sym all,
    )

-- the payload begins behind the sources
from_least : (xs : List ℕ) (from : ℕ) (b : Bool) → has_extension xs ≡ b → payload_from xs ≡ Some from → sources_end xs ≤ from
from_least xs from false e h = omega (arith, from_plain xs from h e)
from_least xs from true e h = omega (arith, from_extended xs from h e)

pub laid_out : (xs : List ℕ) (p : Packet) → Passes xs p → IsPacket xs p
laid_out xs p h =
    let s : ℕ = sources_end xs in
    let least : s ≤ p.from = from_least xs p.from (has_extension xs) refl h.from in
    let first : get_or (take 12 xs) 0 0 ≡ get_or xs 0 0 = get_or-take 12 xs 0 0 (lit< tt) in
    let front : length (take 12 xs) ≡ 12 = length-take-le 12 xs h.twelve in
    let sources : length (part 12 (s - 12) xs) ≡ s - 12 = length-part 12 (s - 12) xs (omega (arith, least, h.room)) in
    let extension : length (part s (p.from - s) xs) ≡ p.from - s = length-part s (p.from - s) xs (omega (arith, least, h.room)) in
    let payload : length (part p.from (p.until - p.from) xs) ≡ p.until - p.from =
    length-part p.from (p.until - p.from) xs (omega (arith, h.until, h.room)) in
    let says : header_of (take 12 xs) ≡ header_of xs = same_header (take 12 xs) xs (λ k l. get_or-take 12 xs k 0 l) in
    record {
      parts = record {
        head = take 12 xs;
        sources = part 12 (s - 12) xs;
        extension = part s (p.from - s) xs;
        payload = part p.from (p.until - p.from) xs;
        padding = drop p.until xs;
      };
      joined_is =
          sym (take-append-drop 12 xs)
          ∙ ap (λ (r : List ℕ). take 12 xs ++ r)
          (part_then 12 (s - 12) s xs (omega arith)
          ∙ ap (λ (r : List ℕ). part 12 (s - 12) xs ++ r)
          (part_then s (p.from - s) p.from xs (omega (arith, least))
          ∙ ap (λ (r : List ℕ). part s (p.from - s) xs ++ r) (part_then p.from (p.until - p.from) p.until xs (omega (arith, h.until, h.room)))));
      laid_out = record {
        head = front;
        version = rw first h.version;
        says = h.header ∙ sym says;
        media = rw h.header h.media;
        sources = sources ∙ (omega (arith, first));
        extension = rw first (extension_in xs p.from (has_extension xs) refl h.from (omega (arith, h.room)));
        padding = rw (first, h.until) (padding_in xs h.padding (has_padding xs) refl h.padding_is (omega (arith, h.room)));
        from = omega (arith, front, sources, extension, least);
        until = omega (arith, payload, h.until, h.room);
      };
    }

-- ---- from the parts to the tests

-- the parts behind the head, and those behind the sources
abbrev behind_sources : Parts → List ℕ
behind_sources q = q.extension ++ (q.payload ++ q.padding)

abbrev behind_head : Parts → List ℕ
behind_head q = q.sources ++ behind_sources q

in_head : (q : Parts) → length q.head ≡ 12 → (k : ℕ) → k < 12 → get_or (joined q) k 0 ≡ get_or q.head k 0
in_head q e k l = get_or_append_left q.head (behind_head q) 0 k (omega (arith, e))

length-joined : (q : Parts) →
    length (joined q) ≡ length q.head + length q.sources + length q.extension + length q.payload + length q.padding
length-joined q =
    omega (
      arith,
      length-append q.head (behind_head q),
      length-append q.sources (behind_sources q),
      length-append q.extension (q.payload ++ q.padding),
      length-append q.payload q.padding,
    )

in_extension : (q : Parts) (k : ℕ) → k < length q.extension →
    get_or (joined q) (length q.head + length q.sources + k) 0 ≡ get_or q.extension k 0
in_extension q k l =
    let place : length q.head + length q.sources + k - length q.head - length q.sources ≡ k = omega arith in
    get_or-append_right q.head (behind_head q) (length q.head) (length q.head + length q.sources + k) 0 refl (omega arith)
    ∙ get_or-append_right q.sources (behind_sources q) (length q.sources) (length q.head + length q.sources + k - length q.head) 0 refl (omega arith)
    ∙ ap (λ (i : ℕ). get_or (behind_sources q) i 0) place
    ∙ get_or_append_left q.extension (q.payload ++ q.padding) 0 k l

last_of : (q : Parts) → 0 < length q.padding → get_or (joined q) (length (joined q) - 1) 0 ≡ get_or q.padding (length q.padding - 1) 0
last_of q l =
    let a : ℕ = length q.head in
    let b : ℕ = length q.sources in
    let c : ℕ = length q.extension in
    let d : ℕ = length q.payload in
    let k : ℕ = length (joined q) - 1 in
    let n : length (joined q) ≡ a + b + c + d + length q.padding = length-joined q in
    let place : k - a - b - c - d ≡ length q.padding - 1 = omega (arith, n) in
    get_or-append_right q.head (behind_head q) a k 0 refl (omega (arith, n))
    ∙ get_or-append_right q.sources (behind_sources q) b (k - a) 0 refl (omega (arith, n))
    ∙ get_or-append_right q.extension (q.payload ++ q.padding) c (k - a - b) 0 refl (omega (arith, n))
    ∙ get_or-append_right q.payload q.padding d (k - a - b - c) 0 refl (omega (arith, n))
    ∙ ap (λ (i : ℕ). get_or q.padding i 0) place

from_of : (q : Parts) (b : Bool) → length q.head ≡ 12 → length q.sources ≡ 4 * (get_or q.head 0 0 % 16) → has_extension (joined q) ≡ b →
    IsExtension b q.extension → payload_from (joined q) ≡ Some (length q.head + length q.sources + length q.extension)
from_of q false e s h x =
    let first : get_or (joined q) 0 0 ≡ get_or q.head 0 0 = in_head q e 0 (lit< tt) in
    let none : length q.extension ≡ 0 = ap length x in
    let here : sources_end (joined q) ≡ length q.head + length q.sources + length q.extension = omega (arith, first, e, s, none) in
    plain_from (joined q) h (omega (arith, here, length-joined q)) ∙ ap (λ (k : ℕ). Some k) here
from_of q true e s h x =
    let first : get_or (joined q) 0 0 ≡ get_or q.head 0 0 = in_head q e 0 (lit< tt) in
    let begin : sources_end (joined q) ≡ length q.head + length q.sources = omega (arith, first, e, s) in
    let third : get_or (joined q) (sources_end (joined q) + 2) 0 ≡ get_or q.extension 2 0 =
    ap (λ (k : ℕ). get_or (joined q) (k + 2) 0) begin ∙ in_extension q 2 (omega (arith, x)) in
    let place : sources_end (joined q) + 2 + 1 ≡ length q.head + length q.sources + 3 = omega (arith, begin) in
    let fourth : get_or (joined q) (sources_end (joined q) + 2 + 1) 0 ≡ get_or q.extension 3 0 =
    ap (λ (k : ℕ). get_or (joined q) k 0) place ∙ in_extension q 3 (omega (arith, x)) in
    let here : sources_end (joined q) + 4 + 4 * number_of_two (joined q) (sources_end (joined q) + 2) ≡ length q.head + length q.sources + length q.extension =
    omega (arith, begin, third, fourth, x) in
    extended_from (joined q) h (omega (arith, begin, x, length-joined q)) ∙ ap (λ (k : ℕ). Some k) here

count_of : (q : Parts) (b : Bool) → has_padding (joined q) ≡ b → IsPadding b q.padding → padding_of (joined q) ≡ Some (length q.padding)
count_of q false h x = padding_none (joined q) h ∙ ap (λ (k : ℕ). Some k) (sym (ap length x))
count_of q true h x =
    let last : get_or (joined q) (length (joined q) - 1) 0 ≡ length q.padding = last_of q x.0 ∙ x.1 in
    padding_some (joined q) h (omega (arith, last, x.0)) ∙ ap (λ (k : ℕ). Some k) last

parts_of_pass : (q : Parts) (p : Packet) → AreParts q p → Passes (joined q) p
parts_of_pass q p h =
    let first : get_or (joined q) 0 0 ≡ get_or q.head 0 0 = in_head q h.head 0 (lit< tt) in
    let says : header_of (joined q) ≡ header_of q.head = same_header (joined q) q.head (in_head q h.head) in
    let media : is_control p.header.payload_type ≡ false = h.media in
    let all : length (joined q) ≡ length q.head + length q.sources + length q.extension + length q.payload + length q.padding = length-joined q in
    record {
      padding = length q.padding;
      twelve = omega (arith, all, h.head);
      version = rw first h.version;
      media = ap (λ (x : Header). is_control x.payload_type) (says ∙ sym h.says) ∙ media;
      from = from_of q (has_extension (joined q)) h.head h.sources refl (rw first h.extension) ∙ ap (λ (k : ℕ). Some k) (sym h.from);
      padding_is = count_of q (has_padding (joined q)) refl (rw first h.padding);
      room = omega (arith, all, h.from);
      header = h.says ∙ sym says;
      until = omega (arith, all, h.from, h.until);
    }

pub parts_pass : (xs : List ℕ) (p : Packet) → IsPacket xs p → Passes xs p
parts_pass xs p h = subst (λ (ys : List ℕ). Passes ys p) (sym h.joined_is) (parts_of_pass h.parts p h.laid_out)
