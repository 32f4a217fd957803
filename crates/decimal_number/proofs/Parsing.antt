-- What the standard library's reader makes of texts that begin as numbers do.
use Rattle.std.proofs.Common.{◌≡◌, ◌≢◌, ℕ, zero, suc, ◌^◌, ◌<◌, ◌≤◌, List, [], ◌∷◌, length, get_or, Result, Ok, refl, sym, ◌∙◌, ap, subst, arith}
use Rattle.std.specs.Prelude.{decimal}
use Rattle.std.specs.Str.{IsUtf8}
use Rattle.std.specs.Str.Parse.{digits_value, ParsesUnsigned}
use Rattle.std.proofs.lemmas.Str.{IsUtf8-from_ascii}
use Rattle.std.proofs.lemmas.Str.Parse.{parse_plain}
use Rattle.std.proofs.lemmas.Fmt.{parse-decimal, decimal_digit, first_decimal, decimal-digits_value, IsAscii-decimal}
use Rattle.decimal_number.specs.Number.{IsPlain, IsNumber}
use Rattle.decimal_number.proofs.Numbers.{own}

no_plus : (bs : List ℕ) → IsPlain bs → get_or bs 0 0 ≢ 43
no_plus [] is = absurd is
no_plus (b ∷ []) is = λ e. absurd (omega (arith, e))
no_plus (b ∷ c ∷ bs) is = λ e. absurd (omega (arith, e))

lone_zero : (bs : List ℕ) → IsPlain bs → get_or bs 0 0 ≡ 48 → length bs ≡ 1
lone_zero [] is e = absurd is
lone_zero (b ∷ []) is e = refl
lone_zero (b ∷ c ∷ bs) is e = absurd (omega arith)

plain_from_first : (bs : List ℕ) → 48 < get_or bs 0 0 → IsPlain bs
plain_from_first [] h = absurd (omega arith)
plain_from_first (b ∷ []) h = omega arith
plain_from_first (b ∷ c ∷ bs) h = h

plain_decimal : (n : ℕ) → n < 2 ^ 32 → IsPlain (decimal n)
plain_decimal zero small = subst IsPlain (sym (decimal_digit 0 (omega arith))) (omega arith)
plain_decimal (suc n) small = plain_from_first (decimal (suc n)) (first_decimal (suc n) (omega arith) (omega arith))

-- a number's text is plain
pub plain_number : (low high : ℕ) (bs : List ℕ) (n : ℕ) → high < 2 ^ 32 → IsNumber low high bs n → IsPlain bs
plain_number low high bs n small is = subst IsPlain (sym is.spelled) (plain_decimal n (omega (arith, is.at_most)))

-- and UTF-8
pub utf8_number : (low high : ℕ) (bs : List ℕ) (n : ℕ) → high < 2 ^ 32 → IsNumber low high bs n → IsUtf8 bs
utf8_number low high bs n small is = subst IsUtf8 (sym is.spelled) (IsUtf8-from_ascii (decimal n) (IsAscii-decimal n (omega (arith, is.at_most))))

-- and is read as that number
pub parse_number : {E : Type 0} (low high : ℕ) (bs : List ℕ) (n : ℕ) (r : Result ℕ E) → high < 2 ^ 32 → ParsesUnsigned 32 10 bs r → IsNumber low high bs n →
    r ≡ Ok n
parse_number low high bs n r small parses is = parse-decimal 32 n bs r (omega (arith, is.at_most)) (omega (arith, is.at_most)) is.spelled parses

-- a plain text that is read is a number's
pub number_from_parse : {E : Type 0} (low high : ℕ) (bs : List ℕ) (n : ℕ) (r : Result ℕ E) → ParsesUnsigned 32 10 bs r → r ≡ Ok n → IsPlain bs → low ≤ n →
    n ≤ high → IsNumber low high bs n
number_from_parse {E} low high bs n r parses is plain at_least at_most =
    let parsed : ParsesUnsigned {E = E} 32 10 bs (Ok n) = subst (ParsesUnsigned 32 10 bs) is parses in
    let read = parse_plain own {E = E} 32 bs (Ok n) parsed (no_plus bs plain) in
    let whole : decimal (digits_value 10 bs) ≡ bs = decimal-digits_value own bs read.0.0 read.0.1 (lone_zero bs plain) (omega (arith, read.0.2)) in
    record { at_least = at_least; at_most = at_most; spelled = sym (ap decimal read.1 ∙ whole) }
