-- Channels of octets that come one behind the other.
use Rattle.std.proofs.Common.{◌≡◌, ℕ, ◌+◌, ◌*◌, ◌/◌, ◌≤◌, List, ◌++◌, length, take, drop, take-take, sym, ap, ◌∙◌, arith, length-append}
use Rattle.std.proofs.lemmas.List.{length-take-le, take-append-drop, take_all, take_at}
use Rattle.std.proofs.Math.Seq.{take-append-add}
use Rattle.trau_bits.specs.Bits.{octets_of}
use Rattle.trau_bits.proofs.Appended.{octets_of-append}
use Rattle.trau_submux.specs.Channels.{channel, subchannel}
use Rattle.trau_submux.specs.Splits.{whole_groups}
use Rattle.trau_submux.proofs.Channels.{length-channel, length-subchannel, subchannel-append}

-- the channels of joined octets
pub channel-append : (j : ℕ) (xs ys : List ℕ) (n : ℕ) → length xs ≡ 4 * n → channel j (xs ++ ys) ≡ channel j xs ++ channel j ys
channel-append j xs ys n e = ap octets_of (subchannel-append j xs ys)
    ∙ octets_of-append (subchannel j xs) (subchannel j ys) n (omega (arith, length-subchannel j xs))

-- the front of a channel is the channel of a front
pub take-channel : (j : ℕ) (xs : List ℕ) (m : ℕ) → 4 * m ≤ length xs → take m (channel j xs) ≡ channel j (take (4 * m) xs)
take-channel j xs m within =
    let front = take (4 * m) xs in
    let count : length front ≡ 4 * m = length-take-le (4 * m) xs within in
    ap (λ l. take m (channel j l)) (sym (take-append-drop (4 * m) xs))
    ∙ ap (take m) (channel-append j front (drop (4 * m) xs) m count)
    ∙ take_at (channel j front) (channel j (drop (4 * m) xs)) m (length-channel j front m count)

pub length-groups : (octets : List ℕ) → length (whole_groups octets) ≡ 4 * (length octets / 4)
length-groups octets = length-take-le (length octets / 4 * 4) octets (omega arith) ∙ omega arith

-- octets behind whole groups: their own whole groups stand behind those
pub groups-append : (xs ys : List ℕ) (n : ℕ) → length xs ≡ 4 * n → whole_groups (xs ++ ys) ≡ xs ++ whole_groups ys
groups-append xs ys n e =
    let count : length (xs ++ ys) / 4 * 4 ≡ length xs + length ys / 4 * 4 = omega (arith, length-append xs ys) in
    ap (λ m. take m (xs ++ ys)) count ∙ take-append-add xs ys (length ys / 4 * 4)

pub groups-whole : (xs : List ℕ) (n : ℕ) → length xs ≡ 4 * n → whole_groups xs ≡ xs
groups-whole xs n e = take_all (length xs / 4 * 4) xs (omega arith)

-- what is sent of the first octets of a block
pub front-channel : (j : ℕ) (slot : List ℕ) (count : ℕ) → length slot ≡ 160 → count ≤ 160 →
    take (count / 4) (channel j slot) ≡ channel j (whole_groups (take count slot))
front-channel j slot count is most =
    let n : length (take count slot) ≡ count = length-take-le count slot (omega arith) in
    let same : take (count / 4 * 4) (take count slot) ≡ take (4 * (count / 4)) slot = take-take (count / 4 * 4) count slot (omega arith)
    ∙ ap (λ m. take m slot) (omega arith) in
    take-channel j slot (count / 4) (omega arith)
    ∙ ap (channel j) (sym (ap (λ m. take (m / 4 * 4) (take count slot)) n ∙ same))
