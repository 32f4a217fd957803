-- What the calls of a run hand over to one another are 260 bits, and the octets of their Down lines have the lines'
-- bits.
use Rattle.std.proofs.Common.{◌≡◌, ℕ, All, List, [], ◌∷◌, length, filter, get_or}
use Rattle.std.proofs.lemmas.List.Elements.{All-map}
use Rattle.trau_bits.specs.Bits.{bits_of, octets_of, AreBits}
use Rattle.trau_params.proofs.AreBits.{AreBits-bits260}
use Rattle.call_spec.specs.Down.{down}
use Rattle.call_spec.specs.Whole.{IsWhole}
use Rattle.call_spec.proofs.Reading.{LooksBack}
use Rattle.run_spec.specs.Run.{Run, heard_by, item_of, other_in, spans_in}
use Rattle.run_calls_spec.specs.Whole.{begins_in, item_in, span_for, whole_call}
use Rattle.call_heard.specs.Heard.{SpansHandFrames}
use Rattle.call_heard.proofs.Shapes.{length-bits260}
use Rattle.call_heard.proofs.Calls.{call-bits}
use Rattle.call_heard.proofs.Effective.{AreShaped, shape-effective, shaped-sighting}

shaped-ups : (ups : List (List ℕ)) → AreShaped (heard_by ups)
shaped-ups [] = tt
shaped-ups (up ∷ past) = (shaped-sighting _, shaped-ups past)

-- an item has 260 bits
long-item : (d : ℕ) (ups : List (List ℕ)) → length (item_of d ups) ≡ 260
unfolding item_of
long-item d ups = length-bits260 _ (shape-effective d (heard_by ups) (shaped-ups ups))

-- and these are bits
bits-item : (d : ℕ) (ups : List (List ℕ)) → AreBits (item_of d ups)
unfolding item_of
bits-item d ups = AreBits-bits260 _

-- each item that is handed to a call is one of its partner's
each-item : (P : List ℕ → Type 0) → ((d : ℕ) (ups : List (List ℕ)) → P (item_of d ups)) → (r : Run) (c : ℕ) →
    All (λ span. All P span.items) (whole_call r c).spans
each-item P each r c =
    All-map (λ span. All P span.items) (span_for r c) (filter (begins_in r c) (spans_in r))
    (λ k d l. All-map P (item_in r (other_in c (get_or (filter (begins_in r c) (spans_in r)) k d))) _ (λ i e m. each _ _))

-- **What is handed over in a run are 260 bits.**
pub run-hands : (r : Run) (c : ℕ) → SpansHandFrames (whole_call r c)
run-hands r c = each-item (λ item. length item ≡ 260) long-item r c

-- **The octets of a Down line give its bits again.**
pub run-bits : LooksBack → (r : Run) (c : ℕ) → IsWhole (whole_call r c) → bits_of (octets_of (down (whole_call r c))) ≡ down (whole_call r c)
run-bits look r c whole = call-bits look (whole_call r c) whole (each-item (λ item. AreBits item) bits-item r c)
