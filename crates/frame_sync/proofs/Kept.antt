-- For crates above: the bits that are kept of a window's second half are those of its period (`second_period`).
use Rattle.std.proofs.Common.{◌≡◌, ◌++◌, ℕ, List, length, take, drop, sym, ap, ◌∙◌, arith}
use Rattle.std.proofs.lemmas.List.{take_all}
use Rattle.std.proofs.Math.Seq.{drop-append_seam}
use Rattle.trau_bits.specs.Bits.{bits_of}
use Rattle.trau_bits.proofs.BitList.{length-bits_of}

-- what is copied out of the second half are the bits of that period
pub second_period : (last bits window octets : List ℕ) → length last ≡ 320 → length octets ≡ 40 → window ≡ last ++ bits_of octets →
    bits ≡ take 320 (drop 320 window) → bits ≡ bits_of octets
second_period last bits window octets l o e d =
    let second : drop 320 window ≡ bits_of octets =
    ap (drop 320) e ∙ ap (λ n. drop n (last ++ bits_of octets)) (sym l) ∙ drop-append_seam last (bits_of octets) in
    d ∙ ap (take 320) second ∙ take_all 320 (bits_of octets) (let n = length-bits_of octets in omega arith)
