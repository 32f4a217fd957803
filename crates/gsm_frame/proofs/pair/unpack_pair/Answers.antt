use Rattle.std.proofs.Common.{◌≡◌, ◌++◌, ◌≤◌, ℕ, List, length, take, drop, length-drop, ap, ◌∙◌, arith, rules}
use Rattle.std.proofs.lemmas.List.{take_all, take-append-drop}
use Rattle.gsm_frame.proofs.PairBits.{append_both}
use Rattle.gsm_frame.proofs.pair.unpack_pair.Goals as goal

halves : (bits : List ℕ) → length bits ≡ 520 → take 260 (drop 0 bits) ++ take 260 (drop 260 bits) ≡ bits
halves bits n =
    let back : length (drop 260 bits) ≤ 260 = omega (arith, length-drop 260 bits) in
    ap (λ xs. take 260 bits ++ xs) (take_all 260 (drop 260 bits) back) ∙ take-append-drop 260 bits

pub returns : goal.returns
returns c =
    let long : length c.bits_of_octets-bits.result ≡ 520 = search rules in
    append_both _ _ _ _ (c.from_bits-first.ensures.bits ∙ c.half-front.ensures.value) (c.from_bits-second.ensures.bits ∙ c.half-back.ensures.value) ∙
    halves c.bits_of_octets-bits.result long ∙ c.bits_of_octets-bits.ensures.value
