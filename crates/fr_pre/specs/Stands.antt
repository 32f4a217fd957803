-- The past that the memory of preprocessing stands for.
use Rattle.std.specs.Prelude.{ℤ, List, ◌≡◌}
use Rattle.fr_pre.specs.Memory.{PreMemory}
use Rattle.fr_pre.specs.History.{memory_after}

-- the memory is the one after these frames from the home state
pub record Stands (past : List (List ℤ)) (memory : PreMemory) : Type 0 where
  pub after : memory ≡ memory_after past
