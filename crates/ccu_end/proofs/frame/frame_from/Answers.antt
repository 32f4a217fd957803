use Rattle.std.proofs.Common.{◌≡◌, ◌++◌, ◌+◌, ◌-◌, ◌<◌, ◌≤◌, ℕ, List, length, get_or, drop, slice_range, sym, ap, subst, ◌∙◌, arith, rules}
use Rattle.std.proofs.lemmas.List.{get_or_append_left}
use Rattle.std.proofs.lemmas.List.Elements.{All-take, All-drop, All-append}
use Rattle.std.proofs.lemmas.Grind.{elements}
use Rattle.trau_bits.specs.Bits.{AreBits}
use Rattle.trau_frame.specs.Match.{bit_in, frame_at}
use Rattle.trau_frame.proofs.Matches.{get_or-frame_at}
use Rattle.ccu_end.specs.Read.{Alike}
use Rattle.ccu_end.proofs.frame.frame_from.Goals as goal

get_or-part : (w : List ℕ) (o i : ℕ) → o + 316 ≤ length w → i < 316 → get_or (slice_range w o (o + 316)) i 0 ≡ get_or w (o + i) 0
get_or-part w o i h l = grind (arith, elements)

part-alike : (w bits more : List ℕ) (o : ℕ) → o + 316 ≤ length w → length bits ≡ 316 → bits ≡ slice_range w o (o + 316) →
    Alike (bits ++ more) (frame_at (bit_in w) o)
part-alike w bits more o h count e = λ i l.
    get_or_append_left bits more 0 i (omega arith) ∙
    ap (λ x. get_or x i 0) e ∙ get_or-part w o i h l ∙ sym (get_or-frame_at (bit_in w) o i 0 (omega arith))

pub returns-clause-same : goal.returns-clause-same
returns-clause-same c =
    part-alike c.args.window.now c.copy_from_slice.new.self _ c.args.o (omega arith) (search rules) (search rules)

pub returns-clause-are_bits : goal.returns-clause-are_bits
returns-clause-are_bits c =
    All-append (λ b. b < 2) c.copy_from_slice.new.self _
    (subst AreBits (sym c.copy_from_slice.ensures.after)
    (All-take (λ b. b < 2) (c.args.o + 316 - c.args.o) (drop c.args.o c.args.window.now)
    (All-drop (λ b. b < 2) c.args.o c.args.window.now c.requires.bits)))
    (search rules)
