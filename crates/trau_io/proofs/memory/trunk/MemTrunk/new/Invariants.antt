use Rattle.std.proofs.Common.{◌≡◌, [], vec_len, All}
use Rattle.trau_io.specs.Memory.{new_line}
use Rattle.trau_io.proofs.memory.trunk.MemTrunk.new.Given as goal

abbrev pub invariant-loop : goal.invariant-loop
invariant-loop l = record { size : vec_len l.lines ≡ l.counter; each : All (λ one. one ≡ new_line [] [] [] 0) l.lines.items }
