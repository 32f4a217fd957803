use Rattle.std.proofs.Common.{ap, ◌∙◌, ℕ, List, [], ◌∷◌, ◌++◌, All, sym, subst}
use Rattle.std.proofs.lemmas.List.Elements.{All-drop, All-push}
use Rattle.trau_bits.specs.Bits.{AreBits}
use Rattle.trau_params.specs.Bits260.{bits260, bits260_of}
use Rattle.rx_handler.specs.State.{effective_fields}
use Rattle.circular_buffer.specs.Buffer.{Buffer, keep_last}
use Rattle.call_leg.specs.Memory.{DownMemory, down_memory}
use Rattle.call_leg.specs.Step.{after_handing}
use Rattle.call_leg.proofs.halves.DownLeg.hand.Goals as goal

pub invariant_of-self-inside : goal.invariant_of-self-inside
invariant_of-self-inside c =
    let side = c.self.inside.side in record {
      are_bits = subst (All (λ d. AreBits d)) (sym (ap (λ (b : Buffer (List ℕ)). b.items) c.push_back.ensures.items))
          (All-drop (λ d. AreBits d) _ _ (All-push (λ d. AreBits d) side.waiting.items c.to_bits.new.bits side.are_bits c.to_bits.ensures.bits));
      room = ap (λ (b : Buffer (List ℕ)). b.capacity) c.push_back.ensures.items ∙ side.room;
    }

pub returns : goal.returns
unfolding bits260_of
returns c =
    let side = c.self.inside.side in
    ap (λ (w : List (List ℕ)). record (down_memory side) { waiting = w })
    (ap (λ (b : Buffer (List ℕ)). b.items) c.push_back.ensures.items ∙ ap (λ n. keep_last n (side.waiting.items ++ c.to_bits.new.bits ∷ [])) side.room
    ∙ ap (λ x. keep_last 2 (side.waiting.items ++ x ∷ [])) (c.to_bits.ensures.value ∙ ap bits260 c.handed.ensures))
    ∙ ap (λ (d : DownMemory). after_handing d (effective_fields c.args.e.now)) c.self.view_is
