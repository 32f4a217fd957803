-- A line spells one order at most.
use Rattle.std.proofs.Common.{◌≡◌, ℕ, List, [], ◌∷◌, length, refl, sym, ◌∙◌, ap, arith, slice_index}
use Rattle.std.specs.Prelude.{ℤ, pos, ◌≤ℤ◌, decimal, unsigned_abs}
use Rattle.std.proofs.lemmas.Fmt.{decimal_injective}
use Rattle.std.proofs.lemmas.Int.{ints}
use Rattle.trau_alaw.specs.declared.Law.{Law}
use Rattle.trau_alaw.specs.declared.Law.TheVariants.{A, Mu}
use Rattle.call_number.specs.CallNumber.{IsCallNumber}
use Rattle.trau_orders.specs.declared.order.DtxMode.{DtxMode}
use Rattle.trau_orders.specs.declared.order.DtxMode.TheVariants.{On, Off, Uplink}
use Rattle.trau_orders.specs.declared.order.What.{What}
use Rattle.trau_orders.specs.declared.order.What.TheVariants.{OpenCall, CloseCall, Bridge, Unbridge, Level, Dtx}
use Rattle.trau_orders.specs.declared.order.Order.{Order}
use Rattle.trau_orders.specs.Grammar.{mode_word, law_words, words_for, IsInRange, IsLine}
use Rattle.trau_orders.proofs.Words.{level_small, line_words}

-- the first letter of the first word, by which orders differ
letter : List (List ℕ) → ℕ
letter [] = 0
letter (word ∷ words) = slice_index word 0

one_call : (c d : ℕ) → IsCallNumber c → IsCallNumber d → decimal c ≡ decimal d → c ≡ d
one_call c d is is' e = decimal_injective c d (omega (arith, is.1)) (omega (arith, is'.1)) e

one_level : (v w : ℤ) → pos 0 ≤ℤ v → v ≤ℤ pos 32767 → pos 0 ≤ℤ w → w ≤ℤ pos 32767 → decimal (unsigned_abs v) ≡ decimal (unsigned_abs w) → v ≡ w
one_level v w low high low' high' e =
    let same = decimal_injective (unsigned_abs v) (unsigned_abs w) (level_small v low high) (level_small w low' high') e in
    omega (arith, ints, low, low', same)

one_mode : (m n : DtxMode) → mode_word m ≡ mode_word n → m ≡ n
one_mode On On e = refl
one_mode Off Off e = refl
one_mode Uplink Uplink e = refl
one_mode On n e = absurd (omega (arith, ap length e))
one_mode Off n e = absurd (omega (arith, ap length e))
one_mode Uplink n e = absurd (omega (arith, ap length e))

one_law : (l m : Law) → law_words l ≡ law_words m → l ≡ m
one_law A A e = refl
one_law Mu Mu e = refl
one_law A Mu e = absurd (omega (arith, ap length e))
one_law Mu A e = absurd (omega (arith, ap length e))

one_what : (v w : What) → IsInRange v → IsInRange w → words_for v ≡ words_for w → v ≡ w
unfolding letter
one_what (OpenCall c l) (OpenCall d m) is is' e = let call = one_call c d is is' cc in let law = one_law l m cc in cc
one_what (CloseCall c) (CloseCall d) is is' e = ap CloseCall (one_call c d is is' cc)
one_what (Bridge a b) (Bridge c d) is is' e = let first = one_call a c is.0 is'.0 cc in let second = one_call b d is.1 is'.1 cc in cc
one_what (Unbridge c) (Unbridge d) is is' e = ap Unbridge (one_call c d is is' cc)
one_what (Level c v) (Level d w) is is' e = let call = one_call c d is.0 is'.0 cc in let level = one_level v w is.1 is.2 is'.1 is'.2 cc in cc
one_what (Dtx c m) (Dtx d n) is is' e = let call = one_call c d is is' cc in let mode = one_mode m n cc in cc
one_what (OpenCall c law) w is is' e = absurd (omega (arith, ap letter e))
one_what (CloseCall c) w is is' e = absurd (omega (arith, ap letter e))
one_what (Bridge a b) w is is' e = absurd (omega (arith, ap letter e))
one_what (Unbridge c) w is is' e = absurd (omega (arith, ap letter e))
one_what (Level c v) w is is' e = absurd (omega (arith, ap letter e))
one_what (Dtx c m) w is is' e = absurd (omega (arith, ap letter e))

both_words : (line : List ℕ) (o p : Order) → IsLine line o → IsLine line p → decimal o.stamp ∷ words_for o.what ≡ decimal p.stamp ∷ words_for p.what
both_words line o p is is' = sym (line_words line o is) ∙ line_words line p is'

pub one_stamp : (line : List ℕ) (o p : Order) → IsLine line o → IsLine line p → o.stamp ≡ p.stamp
one_stamp line o p is is' =
    let both = both_words line o p is is' in
    decimal_injective o.stamp p.stamp (omega (arith, is.stamp)) (omega (arith, is'.stamp)) cc

pub one_order : (line : List ℕ) (o p : Order) → IsLine line o → IsLine line p → o ≡ p
one_order line o p is is' =
    let both = both_words line o p is is' in
    let stamp = one_stamp line o p is is' in
    let what = one_what o.what p.what is.in_range is'.in_range cc in
    λ i. record { stamp = stamp i; what = what i }
