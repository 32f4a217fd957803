-- Laws whose intervals stand one after the other: the octet, some of whose bits are inverted, is a sign, 1 for
-- positive, and the number of its interval.
use Rattle.std.proofs.Common.{◌≡◌, ℕ, ◌+◌, ◌-◌, ◌%◌, ◌<◌, ◌≤◌, zero, suc, Bool, true, nat_le, bit_xor, ℤ, pos, negsuc, ◌<ℤ◌, ◌≤ℤ◌, get_or, refl, sym, ap, ◌∙◌}
use Rattle.std.proofs.Common.{subst, inl, inr, arith}
use Rattle.std.specs.List.{list_all, range_with_len}
use Rattle.std.proofs.lemmas.Int.{ints}
use Rattle.std.proofs.lemmas.Nat.{xor_of_8}
use Rattle.std.proofs.lemmas.Bool.{cases_lt, cases_order, leb-true, ltb-true, le-leb, lt-leb, lt-ltb, and_parts, and_from, not-true, not_from_false}
use Rattle.std.proofs.lemmas.Bool.{false_from_ne_true}
use Rattle.std.proofs.lemmas.Bool.Decides.{nat_tests}
use Rattle.std.proofs.lemmas.List.Recursion.{and_at}
use Rattle.std.proofs.lemmas.List.Sums.{position_or_len_is}
use Rattle.std.proofs.lemmas.List.FromFn.{length-range_with_len, get_or-range_with_len}
use Rattle.trau_alaw.specs.Companding.{Companding, magnitude, has_magnitude, contains, octet_of, IsOnlyOctet, PartsWords}

-- what holds of each number of a table
pub entry : (p : ℕ → Bool) (len n : ℕ) → list_all p (range_with_len 0 len) ≡ true → n < len → p n ≡ true
entry p len n t h =
    let e : get_or (range_with_len 0 len) n 0 ≡ n = get_or-range_with_len 0 len n 0 h ∙ omega arith in
    subst (λ k. p k ≡ true) e
    (and_at (list_all p) p refl (λ x xs. refl) (range_with_len 0 len) n 0 (rw (length-range_with_len 0 len) h) t)

-- the bits of `key` are inverted, and interval n has the magnitudes from `start n` to those before `start (n + 1)`
pub record IsLaid (law : Companding) (key : ℕ) (start : ℕ → ℕ) : Type 0 where
  pub small : key < 256
  pub back : (octet : ℕ) → octet < 256 → bit_xor (bit_xor octet key) key ≡ octet
  pub sign : (octet : ℕ) → octet < 256 → (law octet).is_positive ≡ nat_le 128 (bit_xor octet key)
  pub least : (octet : ℕ) → octet < 256 → (law octet).least ≡ start (bit_xor octet key % 128)
  pub stop : (octet : ℕ) → octet < 256 → (law octet).least + (law octet).width ≡ start (bit_xor octet key % 128 + 1)
  pub rising : (n : ℕ) → n < 128 → start n ≤ start (n + 1)
  pub first : start 0 ≡ 0
  pub last : start 128 ≡ 32768

-- the magnitude is one of interval n
pub record IsIn (start : ℕ → ℕ) (n magnitude : ℕ) : Type 0 where
  pub at_least : start n ≤ magnitude
  pub within : magnitude < start (n + 1)

-- ---- intervals

-- a later one lies above
later : (start : ℕ → ℕ) (n d : ℕ) → ((n : ℕ) → n < 128 → start n ≤ start (n + 1)) → n + d ≤ 128 → start n ≤ start (n + d)
later start n zero rising h = let e : n + 0 ≡ n = omega arith in rw e (omega arith)
later start n (suc d) rising h =
    let e : n + suc d ≡ n + d + 1 = omega arith in
    rw e (omega (arith, later start n d rising (omega arith), rising (n + d) (omega arith)))

-- the starts rise
above : (start : ℕ → ℕ) (m n : ℕ) → ((n : ℕ) → n < 128 → start n ≤ start (n + 1)) → m ≤ n → n ≤ 128 → start m ≤ start n
above start m n rising l h =
    let e : m + (n - m) ≡ n = omega arith in
    subst (λ k. start m ≤ start k) e (later start m (n - m) rising (omega arith))

-- a magnitude lies in one of them at most
one_interval : (start : ℕ → ℕ) (m n magnitude : ℕ) → ((n : ℕ) → n < 128 → start n ≤ start (n + 1)) → m < 128 → n < 128 →
    IsIn start m magnitude → IsIn start n magnitude → m ≡ n
one_interval start m n magnitude rising h g a b =
    elim (cases_order m n) [
      | inl e ↦ e
      | inr o ↦ elim o [
        | inl l ↦ absurd (omega (arith, above start (m + 1) n rising (omega arith) (omega arith), a.within, b.at_least))
        | inr l ↦ absurd (omega (arith, above start (n + 1) m rising (omega arith) (omega arith), b.within, a.at_least))
      ]
    ]

-- and each magnitude below the start of interval n in one of the n before
below_start : (start : ℕ → ℕ) (n magnitude : ℕ) → start 0 ≡ 0 → magnitude < start n → (k : ℕ) × (k < n) × IsIn start k magnitude
below_start start zero magnitude first l = absurd (omega arith)
below_start start (suc n) magnitude first l =
    elim (cases_lt magnitude (start n)) [
      | inl m ↦ (let r = below_start start n magnitude first m in (r.0, (omega arith), r.2))
      | inr m ↦
          let e : suc n ≡ n + 1 = omega arith in
          (n, omega arith, record { at_least = m; within = subst (λ k. magnitude < start k) e l })
    ]

-- ---- the magnitudes of an octet

-- a magnitude between two starts is one of the octet's
in-has_magnitude : (law : Companding) (key : ℕ) (start : ℕ → ℕ) → IsLaid law key start → (octet n : ℕ) → octet < 256 →
    IsIn start (bit_xor octet key % 128) n → has_magnitude (law octet) n ≡ true
in-has_magnitude law key start laid octet n h i =
    let low = i.at_least in
    let high = i.within in
    let least = laid.least octet h in
    let stop = laid.stop octet h in
    let least_le : (law octet).least ≤ n = omega arith in
    let lt_stop : n < (law octet).least + (law octet).width = omega arith in
    and_from _ _ (le-leb _ _ least_le) (lt-ltb _ _ lt_stop)

-- and the other way round
has_magnitude-in : (law : Companding) (key : ℕ) (start : ℕ → ℕ) → IsLaid law key start → (octet n : ℕ) → octet < 256 →
    has_magnitude (law octet) n ≡ true → IsIn start (bit_xor octet key % 128) n
has_magnitude-in law key start laid octet n h t =
    let parts = and_parts _ _ t in
    let low : (law octet).least ≤ n = leb-true _ _ parts.0 in
    let high : n < (law octet).least + (law octet).width = ltb-true _ _ parts.1 in
    let least = laid.least octet h in
    let stop = laid.stop octet h in
    record { at_least = omega arith; within = omega arith }

-- ---- one octet at most

-- octets with one sign and one index in the order are the same
same_octet : (key a b : ℕ) → ((octet : ℕ) → octet < 256 → bit_xor (bit_xor octet key) key ≡ octet) → key < 256 → a < 256 → b < 256 →
    nat_le 128 (bit_xor a key) ≡ nat_le 128 (bit_xor b key) → bit_xor a key % 128 ≡ bit_xor b key % 128 → a ≡ b
same_octet key a b back small h g s e =
    let ha : bit_xor a key < 256 = xor_of_8 a key h small in
    let hb : bit_xor b key < 256 = xor_of_8 b key g small in
    let same : bit_xor a key ≡ bit_xor b key = grind (arith, nat_tests) in
    sym (back a h) ∙ ap (λ c. bit_xor c key) same ∙ back b g

-- two octets with a magnitude in common have one index in the order
same_interval : (law : Companding) (key : ℕ) (start : ℕ → ℕ) → IsLaid law key start → (a b n : ℕ) → a < 256 → b < 256 →
    has_magnitude (law a) n ≡ true → has_magnitude (law b) n ≡ true → bit_xor a key % 128 ≡ bit_xor b key % 128
same_interval law key start laid a b n h g s t =
    one_interval start (bit_xor a key % 128) (bit_xor b key % 128) n laid.rising (omega arith) (omega arith)
    (has_magnitude-in law key start laid a n h s) (has_magnitude-in law key start laid b n g t)

-- a word belongs to one octet
one_octet : (law : Companding) (key : ℕ) (start : ℕ → ℕ) → IsLaid law key start → (x : ℤ) (a b : ℕ) → a < 256 → b < 256 →
    contains (law a) x ≡ true → contains (law b) x ≡ true → a ≡ b
one_octet law key start laid (pos n) a b h g p q =
    let r = and_parts _ _ p in
    let s = and_parts _ _ q in
    same_octet key a b laid.back laid.small h g (sym (laid.sign a h) ∙ r.0 ∙ sym s.0 ∙ laid.sign b g) (same_interval law key start laid a b n h g r.1 s.1)
one_octet law key start laid (negsuc n) a b h g p q =
    let r = and_parts _ _ p in
    let s = and_parts _ _ q in
    same_octet key a b laid.back laid.small h g
    (sym (laid.sign a h) ∙ not-true _ r.0 ∙ sym (not-true _ s.0) ∙ laid.sign b g)
    (same_interval law key start laid a b n h g r.1 s.1)

-- ---- the octet of a code

-- the octet of a code whose interval has the word's magnitude holds the word
holds-code : (law : Companding) (key : ℕ) (start : ℕ → ℕ) → IsLaid law key start → (x : ℤ) (code : ℕ) → code < 256 →
    IsIn start (code % 128) (magnitude x) → (x <ℤ pos 0 → code < 128) → (pos 0 ≤ℤ x → 128 ≤ code) → contains (law (bit_xor code key)) x ≡ true
holds-code law key start laid (pos n) code h i low high =
    let e = laid.back code h in
    let octet : bit_xor code key < 256 = xor_of_8 code key h laid.small in
    let sign : 128 ≤ code = high (omega (arith, ints)) in
    and_from _ _
    (laid.sign (bit_xor code key) octet ∙ rw e (le-leb 128 code sign))
    (in-has_magnitude law key start laid (bit_xor code key) n octet (rw e i))
holds-code law key start laid (negsuc n) code h i low high =
    let e = laid.back code h in
    let octet : bit_xor code key < 256 = xor_of_8 code key h laid.small in
    let sign : code < 128 = low (omega (arith, ints)) in
    and_from _ _
    (not_from_false _ (laid.sign (bit_xor code key) octet ∙ rw e (lt-leb 128 code sign)))
    (in-has_magnitude law key start laid (bit_xor code key) n octet (rw e i))

-- and it is the only one
pub only_octet : (law : Companding) (key : ℕ) (start : ℕ → ℕ) → IsLaid law key start → (x : ℤ) (code : ℕ) → code < 256 →
    IsIn start (code % 128) (magnitude x) → (x <ℤ pos 0 → code < 128) → (pos 0 ≤ℤ x → 128 ≤ code) → IsOnlyOctet law x (bit_xor code key)
only_octet law key start laid x code h i low high =
    let within = holds-code law key start laid x code h i low high in
    let octet : bit_xor code key < 256 = xor_of_8 code key h laid.small in
    record {
      is_octet = octet;
      within = within;
      only = λ other l g. one_octet law key start laid x other (bit_xor code key) l octet g within;
    }

-- ---- all octets

-- the same by the index in the order
octet_at : (law : Companding) (key : ℕ) (start : ℕ → ℕ) → IsLaid law key start → (x : ℤ) (code n : ℕ) → code < 256 → code % 128 ≡ n →
    IsIn start n (magnitude x) → (x <ℤ pos 0 → code < 128) → (pos 0 ≤ℤ x → 128 ≤ code) → (octet : ℕ) × IsOnlyOctet law x octet
octet_at law key start laid x code n h e i low high = (bit_xor code key, only_octet law key start laid x code h (rw e i) low high)

-- so the intervals part the words
pub parts : (law : Companding) (key : ℕ) (start : ℕ → ℕ) → IsLaid law key start → PartsWords law
parts law key start laid (pos n) f =
    let last = laid.last in
    let r = below_start start 128 n laid.first (omega (arith, ints)) in
    octet_at law key start laid (pos n) (128 + r.0) r.0 (omega arith) (omega arith) r.2 (λ l. absurd (omega (arith, ints))) (λ l. omega arith)
parts law key start laid (negsuc n) f =
    let last = laid.last in
    let r = below_start start 128 n laid.first (omega (arith, ints)) in
    octet_at law key start laid (negsuc n) r.0 r.0 (omega arith) (omega arith) r.2 (λ l. omega arith) (λ l. absurd (omega (arith, ints)))

-- what the definition finds is the only octet
pub octet_of-only : (law : Companding) (x : ℤ) (octet : ℕ) → IsOnlyOctet law x octet → octet ≡ octet_of law x
unfolding octet_of
octet_of-only law x octet h =
    let l = h.is_octet in
    let at : (k : ℕ) → k < 256 → get_or (range_with_len 0 256) k 0 ≡ k =
    λ k m. get_or-range_with_len 0 256 k 0 m ∙ omega arith in
    sym (position_or_len_is (λ k. contains (law k) x) (range_with_len 0 256) octet 0
    (rw length-range_with_len (omega arith))
    (λ k m. let below : k < 256 = omega arith in
    rw (at k below) (false_from_ne_true _ (λ t. let e = h.only k below t in absurd (omega arith))))
    (λ m. rw (at octet l) h.within))
