use Rattle.std.proofs.Common.{Option, Some, MatchOption, Bor, ◌≡◌, ◌+◌, ◌-◌, ◌<◌, ◌≤◌, ℕ, List, length, get_or, drop, take, take-take, get_or-take, get_or-drop}
use Rattle.std.proofs.Common.{sym, ap, subst, ◌∙◌, arith, length-take, length-drop}
use Rattle.std.proofs.lemmas.List.Elements.{All-take, All-drop}
use Rattle.std.proofs.lemmas.Option.{MatchOption-at_some}
use Rattle.std.specs.Array.{IsFirstChunk}
use Rattle.std.proofs.lemmas.Grind.{same_number_lists}
use Rattle.trau_bits.specs.Bits.{AreBits}
use Rattle.trau_frame.specs.Match.{bit_in, frame_at}
use Rattle.trau_frame.proofs.Matches.{length-frame_at, get_or-frame_at}
use Rattle.frame_sync.proofs.advance.frame_from.Goals as goal

get_or-part : (w : List ℕ) (o i : ℕ) → o + 320 ≤ length w → i < 320 → get_or (take 320 (drop o w)) i 0 ≡ get_or w (o + i) 0
get_or-part w o i h l = get_or-take 320 (drop o w) i 0 l ∙ get_or-drop o w i 0

-- the first 320 of the bits from a place on are the frame that stands there
part_is_frame : (w bits : List ℕ) (o n : ℕ) → o + 320 ≤ length w → 320 ≤ n → bits ≡ take 320 (take n (drop o w)) →
    bits ≡ frame_at (bit_in w) o
part_is_frame w bits o n h enough part =
    let e : bits ≡ take 320 (drop o w) = part ∙ take-take 320 n (drop o w) enough in
    let count : length bits ≡ 320 = ap length e ∙ omega (arith, length-take 320 (drop o w), length-drop o w) in
    same_number_lists bits _ (count ∙ sym (length-frame_at (bit_in w) o)) (λ k below.
    let inside : k < 320 = omega arith in
    ap (λ l. get_or l k 0) e ∙ get_or-part w o k h inside ∙ sym (get_or-frame_at (bit_in w) o k 0 inside))

-- what `first_chunk` gave
first_is_part : (xs : List ℕ) (found : Option (Bor (List ℕ))) (one : Bor (List ℕ)) → found ≡ Some one →
    MatchOption found (length xs < 320) (λ y. IsFirstChunk xs y.now 320) → one.now ≡ take 320 xs
first_is_part xs found one e h = (MatchOption-at_some (length xs < 320) (λ y. IsFirstChunk xs y.now 320) one e h).same

pub returns-clause-value : goal.returns-clause-value
returns-clause-value c =
    part_is_frame c.args.window.now c.unwrap.result.now c.args.o (640 - c.args.o) (omega arith) (omega arith)
    (first_is_part _ c.first_chunk.result c.unwrap.result c.unwrap.ensures c.first_chunk.ensures.cases)

pub returns-clause-are_bits : goal.returns-clause-are_bits
returns-clause-are_bits c =
    subst AreBits (sym (first_is_part _ c.first_chunk.result c.unwrap.result c.unwrap.ensures c.first_chunk.ensures.cases))
    (All-take (λ b. b < 2) 320 _
    (All-take (λ b. b < 2) (640 - c.args.o) (drop c.args.o c.args.window.now) (All-drop (λ b. b < 2) c.args.o c.args.window.now c.requires.bits)))
