use Rattle.std.proofs.Common.{◌≡◌, ◌+◌, ◌∙◌, ap, arith}
use Rattle.std.proofs.lemmas.List.Elements.{All-push}
use Rattle.trau_files.specs.Files.{FileLine}
use Rattle.trau_files.proofs.Honest.First.{first_holds}
use Rattle.trau_files.proofs.trunk.FileTrunk.new.Goals as goal

pub push_reserved-requires : goal.push_reserved-requires
push_reserved-requires g c = let old = c.loop.invariant in omega (arith, old.size, old.capacity)

pub loop-preserved : goal.loop-preserved
loop-preserved g c = record {
  size = c.push_reserved.ensures.len ∙ ap (λ n. n + 1) c.loop.invariant.size;
  capacity = omega (arith, c.push_reserved.ensures.capacity, c.loop.invariant.capacity);
  each = rw c.push_reserved.ensures.items
      (All-push (λ (l : FileLine). l ≡ record { read = 0; written = 0; faults = 0 }) _ _ c.loop.invariant.each c.new.ensures);
}

pub invariant_of-result : goal.invariant_of-result
invariant_of-result g c = (omega (arith, c.loop.invariant.size), c.in_ok-files.ensures.apart)

pub returns-clause-honest : goal.returns-clause-honest
returns-clause-honest g c = first_holds g.D.Folder.does c.args.folder _ c.in_ok-files.ensures.untouched c.loop.invariant.each c.in_ok-files.ensures.closed
    c.in_ok-files.ensures.unclaimed
