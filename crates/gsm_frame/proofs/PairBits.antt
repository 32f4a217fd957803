-- The bits of octets that come one after another.
use Rattle.std.proofs.Common.{◌≡◌, ℕ, ◌+◌, ◌*◌, ◌<◌, List, [], ◌∷◌, ◌++◌, take, set, get_or, length, sym, ap, ◌∙◌, arith}
use Rattle.std.proofs.lemmas.List.{take_more, take_more_set, flat_map_more}
use Rattle.std.proofs.lemmas.List.Elements.{All-nil, All-append}
use Rattle.trau_bits.specs.Bits.{AreBits}
use Rattle.trau_params.specs.FieldBits.{low_bits}
use Rattle.trau_params.proofs.AreBits.{AreBits-low_bits}
use Rattle.gsm_frame.specs.Pair.{bits_of_pair}

-- equal lists one after another
pub append_both : (a b c d : List ℕ) → a ≡ c → b ≡ d → a ++ b ≡ c ++ d
append_both a b c d e f = cc

-- the bits of the first k octets and of one more
octets_more : (octets : List ℕ) (k : ℕ) → k < length octets →
    bits_of_pair (take k octets) ++ low_bits 8 (get_or octets k 0) ≡ bits_of_pair (take (k + 1) octets)
octets_more octets k l =
    flat_map_more (low_bits 8) [] (take k octets) (get_or octets k 0) ∙ ap bits_of_pair (sym (take_more octets k 0 l))

-- the same where that octet was set
octets_set : (octets : List ℕ) (k octet : ℕ) → k < length octets →
    bits_of_pair (take k octets) ++ low_bits 8 octet ≡ bits_of_pair (take (k + 1) (set octets k octet))
octets_set octets k octet l =
    flat_map_more (low_bits 8) [] (take k octets) octet ∙ ap bits_of_pair (sym (take_more_set octets k octet l))

-- one octet more is written
pub written : (bits front octets : List ℕ) (k : ℕ) → k < length octets → front ≡ bits_of_pair (take k octets) →
    take (8 * k + 8) bits ≡ front ++ low_bits 8 (get_or octets k 0) → take (8 * (k + 1)) bits ≡ bits_of_pair (take (k + 1) octets)
written bits front octets k l h e =
    let place : 8 * (k + 1) ≡ 8 * k + 8 = omega arith in
    ap (λ n. take n bits) place ∙ e ∙ ap (λ xs. xs ++ low_bits 8 (get_or octets k 0)) h ∙ octets_more octets k l

-- one octet more is read
pub read : (bits octets : List ℕ) (k octet : ℕ) → k < length octets → take (8 * k) bits ≡ bits_of_pair (take k octets) →
    take (8 * k + 8) bits ≡ take (8 * k) bits ++ low_bits 8 octet → take (8 * (k + 1)) bits ≡ bits_of_pair (take (k + 1) (set octets k octet))
read bits octets k octet l h e =
    let place : 8 * (k + 1) ≡ 8 * k + 8 = omega arith in
    ap (λ n. take n bits) place ∙ e ∙ ap (λ xs. xs ++ low_bits 8 octet) h ∙ octets_set octets k octet l

-- they are bits
pub AreBits-bits_of_pair : (octets : List ℕ) → AreBits (bits_of_pair octets)
AreBits-bits_of_pair [] = All-nil (λ b. b < 2)
AreBits-bits_of_pair (octet ∷ octets) = All-append (λ b. b < 2) _ _ (AreBits-low_bits 8 octet) (AreBits-bits_of_pair octets)
