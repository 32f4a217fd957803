use Rattle.std.proofs.Common.{◌≡◌, ℕ, List, [], ◌∷◌, Some, All, sym, ap, subst, rules}
use Rattle.std.specs.Prelude.{slice_get}
use Rattle.std.proofs.lemmas.List.Elements.{All-head}
use Rattle.circular_buffer.specs.Buffer.{Buffer}
use Rattle.trau_bits.specs.Bits.{AreBits}
use Rattle.call_leg.proofs.down_frames.next_frame.Goals as goal

first_bits : (xs : List (List ℕ)) (d : List ℕ) → All (λ x. AreBits x) xs → Some d ≡ slice_get xs 0 → AreBits d
first_bits [] d all e = absurd (cc)
first_bits (x ∷ xs) d all e = let same : d ≡ x = cc in subst AreBits (sym same) (All-head (λ y. AreBits y) x xs all)

pub returns-in-Some-clause-bits : goal.returns-in-Some-clause-bits
returns-in-Some-clause-bits c = first_bits c.args.waiting.now.items _ c.requires.bits c.in-Some.ensures.value

pub returns-in-Some-clause-room : goal.returns-in-Some-clause-room
returns-in-Some-clause-room c = ap (λ (b : Buffer (List ℕ)). b.capacity) c.pop_front.ensures.items

pub returns-in-Some-clause-step : goal.returns-in-Some-clause-step
returns-in-Some-clause-step c = search rules
