-- Which bits of a slot a channel has, and what four octets give it.
use Rattle.std.proofs.Common.{◌≡◌, ℕ, ◌+◌, ◌-◌, ◌*◌, ◌/◌, ◌%◌, ◌<◌, ◌≤◌, zero, suc, List, [], ◌∷◌, ◌++◌, length, get_or, All, refl, sym, ap, ◌∙◌, arith}
use Rattle.std.specs.Int.{bit_at}
use Rattle.std.proofs.lemmas.Grind.{flat_map-append, get_or_default_zero, same_number_lists}
use Rattle.std.proofs.lemmas.Nat.Bits.{bit_at-lt}
use Rattle.trau_bits.specs.Bits.{bits_of, AreBits, octet_at, octets_of}
use Rattle.trau_bits.proofs.BitList.{length-bits_of, get_or-bits_of, bits_of-injective, bits_of-below}
use Rattle.trau_bits.proofs.Octets.{sum_of_eight, length-octets_of, filled_octets, bits_of-octets_of, octets_of-bits_of}
use Rattle.trau_submux.specs.Channels.{channel, subchannel, bits_for}
use Rattle.trau_submux.specs.Pairs.{gathered, pair_at}

-- what holds of each of the four channels
pub for_four : (P : ℕ → Type 0) → P 0 → P 1 → P 2 → P 3 → (j : ℕ) → j < 4 → P j
for_four P a b c d zero l = a
for_four P a b c d (suc zero) l = b
for_four P a b c d (suc (suc zero)) l = c
for_four P a b c d (suc (suc (suc zero))) l = d
for_four P a b c d (suc (suc (suc (suc j)))) l = absurd (omega arith)

-- the bits of a channel in joined octets, and their number
pub subchannel-append : (j : ℕ) (xs ys : List ℕ) → subchannel j (xs ++ ys) ≡ subchannel j xs ++ subchannel j ys
unfolding subchannel
subchannel-append j xs ys = flat_map-append (bits_for j) xs ys

pub length-subchannel : (j : ℕ) (xs : List ℕ) → length (subchannel j xs) ≡ 2 * length xs
unfolding subchannel
length-subchannel j [] = refl
length-subchannel j (x ∷ xs) = omega (arith, length-subchannel j xs)

-- bit i of a channel
pub get_or-subchannel : (j : ℕ) (xs : List ℕ) (i : ℕ) → j < 4 → i < 2 * length xs →
    get_or (subchannel j xs) i 0 ≡ bit_at (get_or xs (i / 2) 0) (7 - 2 * j - i % 2)
unfolding subchannel
get_or-subchannel j [] i below h = absurd (omega arith)
get_or-subchannel j (x ∷ xs) zero below h =
    let half : 0 / 2 ≡ 0 = omega arith in
    let place : 7 - 2 * j ≡ 7 - 2 * j - 0 % 2 = omega arith in
    ap (λ p. bit_at x p) place ∙ ap (λ m. bit_at (get_or (x ∷ xs) m 0) (7 - 2 * j - 0 % 2)) (sym half)
get_or-subchannel j (x ∷ xs) (suc zero) below h =
    let half : 1 / 2 ≡ 0 = omega arith in
    let place : 6 - 2 * j ≡ 7 - 2 * j - 1 % 2 = omega arith in
    ap (λ p. bit_at x p) place ∙ ap (λ m. bit_at (get_or (x ∷ xs) m 0) (7 - 2 * j - 1 % 2)) (sym half)
get_or-subchannel j (x ∷ xs) (suc (suc i)) below h =
    let half : suc (suc i) / 2 ≡ suc (i / 2) = omega arith in
    let same : suc (suc i) % 2 ≡ i % 2 = omega arith in
    get_or-subchannel j xs i below (omega arith)
    ∙ ap (λ m. bit_at (get_or xs (i / 2) 0) (7 - 2 * j - m)) (sym same)
    ∙ ap (λ m. bit_at (get_or (x ∷ xs) m 0) (7 - 2 * j - suc (suc i) % 2)) (sym half)

pub subchannel-bits : (j : ℕ) (xs : List ℕ) → AreBits (subchannel j xs)
unfolding subchannel
subchannel-bits j [] = λ k d l. absurd (omega arith)
subchannel-bits j (x ∷ xs) = λ k d l. each j x xs k d l (subchannel-bits j xs)
  where
    each : (j x : ℕ) (xs : List ℕ) (k d : ℕ) → k < length (bits_for j x ++ subchannel j xs) → AreBits (subchannel j xs) →
        get_or (bits_for j x ++ subchannel j xs) k d < 2
    each j x xs zero d l rest = bit_at-lt _ _
    each j x xs (suc zero) d l rest = bit_at-lt _ _
    each j x xs (suc (suc k)) d l rest = rest k d (omega arith)

-- the two bits of an octet are its pair
bits_are_pair : (x j : ℕ) → j < 4 → 2 * bit_at x (7 - 2 * j) + bit_at x (6 - 2 * j) ≡ pair_at j x
bits_are_pair x zero l = omega arith
bits_are_pair x (suc zero) l = omega arith
bits_are_pair x (suc (suc zero)) l = omega arith
bits_are_pair x (suc (suc (suc zero))) l = omega arith
bits_are_pair x (suc (suc (suc (suc j)))) l = absurd (omega arith)

-- eight bits are four pairs
eight_in_pairs : (f : ℕ → ℕ) (a b c d : ℕ) → 2 * f 0 + f 1 ≡ a → 2 * f 2 + f 3 ≡ b → 2 * f 4 + f 5 ≡ c → 2 * f 6 + f 7 ≡ d →
    sum_of_eight f ≡ a * 64 + b * 16 + c * 4 + d
eight_in_pairs f a b c d p q r s = omega arith

module _ (j : ℕ) (xs : List ℕ) (k : ℕ) (small : j < 4) (within : 4 * k + 4 ≤ length xs) where
  -- the two bits that the octet behind n others gives
  first_bit : (n i : ℕ) → n < 4 → i ≡ 2 * n → get_or (subchannel j xs) (8 * k + i) 0 ≡ bit_at (get_or xs (4 * k + n) 0) (7 - 2 * j)
  first_bit n i less is =
      let half : (8 * k + i) / 2 ≡ 4 * k + n = omega arith in
      let even : 7 - 2 * j - (8 * k + i) % 2 ≡ 7 - 2 * j = omega arith in
      get_or-subchannel j xs (8 * k + i) small (omega arith)
      ∙ ap (λ m. bit_at (get_or xs m 0) (7 - 2 * j - (8 * k + i) % 2)) half
      ∙ ap (λ p. bit_at (get_or xs (4 * k + n) 0) p) even

  -- an octet's second bit of the channel
  second_bit : (n i : ℕ) → n < 4 → i ≡ 2 * n + 1 → get_or (subchannel j xs) (8 * k + i) 0 ≡ bit_at (get_or xs (4 * k + n) 0) (6 - 2 * j)
  second_bit n i less is =
      let half : (8 * k + i) / 2 ≡ 4 * k + n = omega arith in
      let odd : 7 - 2 * j - (8 * k + i) % 2 ≡ 6 - 2 * j = omega arith in
      get_or-subchannel j xs (8 * k + i) small (omega arith)
      ∙ ap (λ m. bit_at (get_or xs m 0) (7 - 2 * j - (8 * k + i) % 2)) half
      ∙ ap (λ p. bit_at (get_or xs (4 * k + n) 0) p) odd

  -- both, as a number
  pair_is : (n i i' : ℕ) → n < 4 → i ≡ 2 * n → i' ≡ 2 * n + 1 →
      2 * get_or (subchannel j xs) (8 * k + i) 0 + get_or (subchannel j xs) (8 * k + i') 0 ≡ pair_at j (get_or xs (4 * k + n) 0)
  pair_is n i i' less is is' =
      ap (λ b. 2 * b + get_or (subchannel j xs) (8 * k + i') 0) (first_bit n i less is)
      ∙ ap (λ b. 2 * bit_at (get_or xs (4 * k + n) 0) (7 - 2 * j) + b) (second_bit n i' less is')
      ∙ bits_are_pair (get_or xs (4 * k + n) 0) j small

  -- an octet of a channel is the pairs of four octets
  pub octet-gathered : octet_at (subchannel j xs) (8 * k)
      ≡ gathered j (get_or xs (4 * k) 0) (get_or xs (4 * k + 1) 0) (get_or xs (4 * k + 2) 0) (get_or xs (4 * k + 3) 0)
  unfolding octet_at
  octet-gathered =
      let at : 4 * k + 0 ≡ 4 * k = omega arith in
      eight_in_pairs (λ i. get_or (subchannel j xs) (8 * k + i) 0) _ _ _ _
      (pair_is 0 0 1 (omega arith) refl refl ∙ ap (λ m. pair_at j (get_or xs m 0)) at) (pair_is 1 2 3 (omega arith) refl refl)
      (pair_is 2 4 5 (omega arith) refl refl) (pair_is 3 6 7 (omega arith) refl refl)

pub length-channel : (j : ℕ) (xs : List ℕ) (n : ℕ) → length xs ≡ 4 * n → length (channel j xs) ≡ n
length-channel j xs n e = length-octets_of (subchannel j xs) n (omega (arith, length-subchannel j xs))

-- octets that were gathered one by one are the channel
pub gathered_channel : (j : ℕ) (xs ys : List ℕ) (n : ℕ) → j < 4 → length xs ≡ 4 * n → length ys ≡ n →
    ((k : ℕ) → k < n → get_or ys k 0 ≡ gathered j (get_or xs (4 * k) 0) (get_or xs (4 * k + 1) 0) (get_or xs (4 * k + 2) 0) (get_or xs (4 * k + 3) 0)) →
    ys ≡ channel j xs
gathered_channel j xs ys n small long short each =
    let bits = length-subchannel j xs in
    filled_octets (subchannel j xs) ys (omega arith) (λ k below. each k (omega arith) ∙ sym (octet-gathered j xs k small (omega arith)))

-- the bits of a channel's octets are its bits
pub bits_of-channel : (j : ℕ) (xs : List ℕ) (n : ℕ) → length xs ≡ 4 * n → bits_of (channel j xs) ≡ subchannel j xs
bits_of-channel j xs n e = bits_of-octets_of (subchannel j xs) n (omega (arith, length-subchannel j xs)) (subchannel-bits j xs)

-- a bit of an octet that is put together of four pairs
bit_of_pairs : (a b c d : ℕ) (r j : ℕ) → a < 4 → b < 4 → c < 4 → d < 4 → r < 2 → j < 4 → (of : ℕ) →
    (j ≡ 0 → of ≡ a) → (j ≡ 1 → of ≡ b) → (j ≡ 2 → of ≡ c) → (j ≡ 3 → of ≡ d) → bit_at (a * 64 + b * 16 + c * 4 + d) (7 - 2 * j - r) ≡ bit_at of (1 - r)
bit_of_pairs a b c d zero zero la lb lc ld lr lj of p q s t = let e = p refl in omega (arith, e)
bit_of_pairs a b c d (suc zero) zero la lb lc ld lr lj of p q s t = let e = p refl in omega (arith, e)
bit_of_pairs a b c d zero (suc zero) la lb lc ld lr lj of p q s t = let e = q refl in omega (arith, e)
bit_of_pairs a b c d (suc zero) (suc zero) la lb lc ld lr lj of p q s t = let e = q refl in omega (arith, e)
bit_of_pairs a b c d zero (suc (suc zero)) la lb lc ld lr lj of p q s t = let e = s refl in omega (arith, e)
bit_of_pairs a b c d (suc zero) (suc (suc zero)) la lb lc ld lr lj of p q s t = let e = s refl in omega (arith, e)
bit_of_pairs a b c d zero (suc (suc (suc zero))) la lb lc ld lr lj of p q s t = let e = t refl in omega (arith, e)
bit_of_pairs a b c d (suc zero) (suc (suc (suc zero))) la lb lc ld lr lj of p q s t = let e = t refl in omega (arith, e)
bit_of_pairs a b c d zero (suc (suc (suc (suc j)))) la lb lc ld lr lj of p q s t = absurd (omega arith)
bit_of_pairs a b c d (suc zero) (suc (suc (suc (suc j)))) la lb lc ld lr lj of p q s t = absurd (omega arith)
bit_of_pairs a b c d (suc (suc r)) j la lb lc ld lr lj of p q s t = absurd (omega arith)

-- a bit of a pair
bit_of_pair : (x k r : ℕ) → k < 4 → r < 2 → bit_at (pair_at k x) (1 - r) ≡ bit_at x (7 - 2 * k - r)
bit_of_pair x zero zero lk lr = omega arith
bit_of_pair x zero (suc zero) lk lr = omega arith
bit_of_pair x (suc zero) zero lk lr = omega arith
bit_of_pair x (suc zero) (suc zero) lk lr = omega arith
bit_of_pair x (suc (suc zero)) zero lk lr = omega arith
bit_of_pair x (suc (suc zero)) (suc zero) lk lr = omega arith
bit_of_pair x (suc (suc (suc zero))) zero lk lr = omega arith
bit_of_pair x (suc (suc (suc zero))) (suc zero) lk lr = omega arith
bit_of_pair x (suc (suc (suc (suc k)))) r lk lr = absurd (omega arith)
bit_of_pair x k (suc (suc r)) lk lr = absurd (omega arith)

-- octets that were gathered one by one from four channels carry them
pub gathered_slot : (chans : List (List ℕ)) (ys : List ℕ) (n : ℕ) → length ys ≡ 4 * n → ((j : ℕ) → j < 4 → length (get_or chans j []) ≡ n) →
    ((i : ℕ) → i < 4 * n → get_or ys i 0 ≡ gathered (i % 4) (get_or (get_or chans 0 []) (i / 4) 0) (get_or (get_or chans 1 []) (i / 4) 0)
    (get_or (get_or chans 2 []) (i / 4) 0) (get_or (get_or chans 3 []) (i / 4) 0)) →
    (j : ℕ) → j < 4 → subchannel j ys ≡ bits_of (get_or chans j [])
gathered_slot chans ys n long each_long each j small =
    let here = each_long j small in
    let count = length-subchannel j ys in
    let bits = length-bits_of (get_or chans j []) in
    same_number_lists (subchannel j ys) (bits_of (get_or chans j [])) (omega arith) (λ i below.
    let within : i < 8 * n = omega arith in
    let byte : ℕ → ℕ = λ c. get_or (get_or chans c []) (i / 2 / 4) 0 in
    let k : ℕ = i / 2 % 4 in
    let r : ℕ = i % 2 in
    let place : 7 - 2 * k - r ≡ 7 - i % 8 = omega arith in
    let octet : i / 2 / 4 ≡ i / 8 = omega arith in
    get_or-subchannel j ys i small (omega arith)
    ∙ ap (λ x. bit_at x (7 - 2 * j - r)) (each (i / 2) (omega arith))
    ∙ bit_of_pairs (pair_at k (byte 0)) (pair_at k (byte 1)) (pair_at k (byte 2)) (pair_at k (byte 3)) r j (omega arith) (omega arith) (omega arith)
    (omega arith) (omega arith) small (pair_at k (byte j))
    (λ e. ap (λ c. pair_at k (byte c)) e) (λ e. ap (λ c. pair_at k (byte c)) e) (λ e. ap (λ c. pair_at k (byte c)) e) (λ e. ap (λ c. pair_at k (byte c)) e)
    ∙ bit_of_pair (byte j) k r (omega arith) (omega arith)
    ∙ ap (λ p. bit_at (byte j) p) place
    ∙ ap (λ m. bit_at (get_or (get_or chans j []) m 0) (7 - i % 8)) octet
    ∙ sym (get_or-bits_of (get_or chans j []) i (omega arith)))

-- the channels together are the slot
one_slot_at : (xs ys : List ℕ) → ((k : ℕ) → k < length xs → get_or xs k 0 < 256) → ((k : ℕ) → k < length ys → get_or ys k 0 < 256) →
    ((j : ℕ) → j < 4 → subchannel j xs ≡ subchannel j ys) → xs ≡ ys
one_slot_at xs ys fx fy same =
    let first : 2 * length xs ≡ 2 * length ys = sym (length-subchannel 0 xs) ∙ ap length (same 0 (omega arith)) ∙ length-subchannel 0 ys in
    bits_of-injective xs ys fx fy (same_number_lists (bits_of xs) (bits_of ys) (omega (arith, length-bits_of xs, length-bits_of ys)) (λ i below.
    let within : i < 8 * length xs = omega (arith, length-bits_of xs) in
    let j : ℕ = i % 8 / 2 in
    let n : ℕ = 2 * (i / 8) + i % 2 in
    let octet : n / 2 ≡ i / 8 = omega arith in
    let place : 7 - 2 * j - n % 2 ≡ 7 - i % 8 = omega arith in
    let bit : (zs : List ℕ) → length zs ≡ length xs → get_or (bits_of zs) i 0 ≡ get_or (subchannel j zs) n 0 = λ zs long.
    get_or-bits_of zs i (omega arith)
    ∙ ap (λ p. bit_at (get_or zs (i / 8) 0) p) (sym place)
    ∙ ap (λ m. bit_at (get_or zs m 0) (7 - 2 * j - n % 2)) (sym octet)
    ∙ sym (get_or-subchannel j zs n (omega arith) (omega arith)) in
    bit xs refl ∙ ap (λ l. get_or l n 0) (same j (omega arith)) ∙ sym (bit ys (omega arith))))

-- so a slot has one list of channels
pub one_slot : (xs ys : List ℕ) → All (λ x. x < 256) xs → All (λ y. y < 256) ys → ((j : ℕ) → j < 4 → subchannel j xs ≡ subchannel j ys) → xs ≡ ys
one_slot xs ys fx fy same = one_slot_at xs ys (λ k l. fx k 0 l) (λ k l. fy k 0 l) same

-- octets whose bits are a channel's are the channel
pub channel_of-bits : (j : ℕ) (xs octets : List ℕ) → All (λ x. x < 256) octets → subchannel j xs ≡ bits_of octets → channel j xs ≡ octets
channel_of-bits j xs octets small same = ap octets_of same ∙ octets_of-bits_of octets small (bits_of-below octets)

-- octets that were gathered are octets
gathered-below : (j a b c d : ℕ) → gathered j a b c d < 256
gathered-below j a b c d = below (pair_at j a) (pair_at j b) (pair_at j c) (pair_at j d) (omega arith) (omega arith) (omega arith) (omega arith)
  where
    -- four pairs are an octet
    below : (p q r s : ℕ) → p < 4 → q < 4 → r < 4 → s < 4 → p * 64 + q * 16 + r * 4 + s < 256
    below p q r s lp lq lr ls = omega arith

-- four channels as gathered octets
pub record AreGathered (chans : List (List ℕ)) (ys : List ℕ) : Type 0 where
  pub long : length ys ≡ 160
  pub each_long : (j : ℕ) → j < 4 → length (get_or chans j []) ≡ 40
  pub each : (i : ℕ) → i < 160 → get_or ys i 0 ≡ gathered (i % 4) (get_or (get_or chans 0 []) (i / 4) 0) (get_or (get_or chans 1 []) (i / 4) 0)
      (get_or (get_or chans 2 []) (i / 4) 0) (get_or (get_or chans 3 []) (i / 4) 0)

-- what is gathered is the channels
pub gathered_carries : (chans : List (List ℕ)) (ys : List ℕ) → AreGathered chans ys → (j : ℕ) → j < 4 → subchannel j ys ≡ bits_of (get_or chans j [])
gathered_carries chans ys are = gathered_slot chans ys 40 are.long are.each_long are.each

pub gathered_octets : (chans : List (List ℕ)) (ys : List ℕ) → AreGathered chans ys → All (λ x. x < 256) ys
gathered_octets chans ys are = λ k d below. rw (get_or_default_zero ys k d below, are.each k (omega (arith, are.long, below))) (gathered-below _ _ _ _ _)

-- a slot with the channels of another is that one
pub slot_again : (chans : List (List ℕ)) (ys octets : List ℕ) → AreGathered chans ys →
    length octets ≡ 160 → All (λ x. x < 256) octets → ((j : ℕ) → j < 4 → get_or chans j [] ≡ channel j octets) → ys ≡ octets
slot_again chans ys octets gather long fit are =
    one_slot_at ys octets (λ k below. rw (gather.each k (omega (arith, gather.long, below))) (gathered-below _ _ _ _ _)) (λ k below. fit k 0 below)
    (λ j below. gathered_carries chans ys gather j below ∙ ap bits_of (are j below) ∙ bits_of-channel j octets 40 long)
