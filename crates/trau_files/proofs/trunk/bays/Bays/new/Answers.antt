use Rattle.std.proofs.Common.{◌≡◌, ◌+◌, ◌∙◌, Option, None, ap, arith, refl}
use Rattle.std.proofs.lemmas.List.Elements.{All-push}
use Rattle.trau_files.specs.Files.{OpenLine}
use Rattle.trau_files.proofs.BayLaws.{bayed_in_none}
use Rattle.trau_files.proofs.trunk.bays.Bays.new.Goals as goal

pub push_reserved-requires : goal.push_reserved-requires
push_reserved-requires g c = let old = c.loop.invariant in omega (arith, old.size, old.capacity)

pub loop-preserved : goal.loop-preserved
loop-preserved g c = record {
  size = c.push_reserved.ensures.len ∙ ap (λ n. n + 1) c.loop.invariant.size;
  capacity = omega (arith, c.push_reserved.ensures.capacity, c.loop.invariant.capacity);
  each = rw c.push_reserved.ensures.items (All-push (λ (s : Option (OpenLine _)). s ≡ None) _ _ c.loop.invariant.each refl);
}

pub invariant_of-result : goal.invariant_of-result
invariant_of-result g c =
    (omega (arith, c.loop.invariant.size), c.in_ok-bay_of.ensures.len, bayed_in_none c.loop.files.items c.in_ok-bay_of.bay_of.items c.loop.invariant.each)
