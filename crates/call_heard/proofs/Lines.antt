-- The octets of a Down line have its bits.
use Rattle.std.proofs.Common.{◌≡◌, refl, sym, ◌∙◌, ap, ℕ, ◌*◌, ◌<◌, IfSome, List, [], ◌∷◌, ◌++◌, length, reverse, arith}
use Rattle.std.specs.List.{concat}
use Rattle.std.proofs.lemmas.List.{append-nil}
use Rattle.std.proofs.lemmas.List.Elements.{All-append, All-nil, All-tail}
use Rattle.std.proofs.lemmas.List.Folds.{concat-append}
use Rattle.trau_bits.specs.Bits.{bits_of, octets_of, AreBits}
use Rattle.trau_bits.proofs.Octets.{bits_of-octets_of}
use Rattle.ccu_end.specs.Heard.{line_bits}
use Rattle.call_leg.specs.Who.{Who}
use Rattle.call_leg.specs.Periods.{CallPeriod}
use Rattle.call_leg.specs.Down.{down_line, down_now}
use Rattle.call_leg.proofs.LineLaws.{HandBits, down_now-bits}
use Rattle.call_spec.proofs.Stretched.{reverse-more}
use Rattle.trau_bits.proofs.Joined.{bits_of-append}
use Rattle.call_leg.proofs.LineLaws.{length-down_line}

line-bits : (who : Who) (ts : List CallPeriod) → HandBits ts → AreBits (down_line who ts)
line-bits who [] hand = All-nil (λ b. b < 2)
line-bits who (t ∷ past) hand =
    All-append (λ b. b < 2) (down_line who past) (down_now who (t ∷ past)) (line-bits who past (All-tail (λ t. IfSome t.handed (λ d. AreBits d)) t past hand))
    (down_now-bits who (t ∷ past) hand)

-- **The octets of a line give its bits again.**
pub line-again : (who : Who) (ts : List CallPeriod) → HandBits ts → bits_of (octets_of (down_line who ts)) ≡ down_line who ts
line-again who ts hand = bits_of-octets_of (down_line who ts) (40 * length ts) (omega (arith, length-down_line who ts)) (line-bits who ts hand)

-- the bits of periods, by their octets
pub line_bits-octets : (past : List (List ℕ)) → line_bits past ≡ bits_of (concat (reverse past))
unfolding line_bits bits_of
line_bits-octets [] = refl
line_bits-octets (octets ∷ past) =
    ap (λ bits. bits ++ bits_of octets) (line_bits-octets past) ∙
    sym (ap (λ all. bits_of (concat all)) (reverse-more octets past) ∙
    ap bits_of (concat-append (reverse past) (octets ∷ []) ∙ ap (λ l. concat (reverse past) ++ l) (append-nil octets)) ∙
    bits_of-append (concat (reverse past)) octets)
