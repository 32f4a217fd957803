use Rattle.std.proofs.Common.{◌≡◌, ◌+◌, [], ◌∙◌, ap}
use Rattle.std.proofs.lemmas.List.Elements.{All-push}
use Rattle.trau_io.specs.Memory.{new_line}
use Rattle.trau_io.proofs.memory.trunk.MemTrunk.new.Goals as goal

pub loop-preserved : goal.loop-preserved
loop-preserved c = record {
  size = c.in_ok-push.ensures.len ∙ ap (λ n. n + 1) c.loop.invariant.size;
  each = rw c.in_ok-push.ensures.items (All-push (λ l. l ≡ new_line [] [] [] 0) _ _ c.loop.invariant.each c.empty.ensures);
}
