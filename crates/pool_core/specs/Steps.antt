-- Whole lists of steps, the first step first.
use Rattle.std.specs.Prelude.{ℕ, ◌+◌, ◌&&◌, if◌then◌else◌, List, [], ◌∷◌}
use Rattle.pool_core.specs.declared.step.PoolStep.{PoolStep}
use Rattle.pool_core.specs.declared.step.PoolStep.TheVariants.{Run}
use Rattle.pool_core.specs.Machine.{PoolState, hand, is_legal, stepped, holds_job}

-- the state after a list of steps
abbrev pub after : PoolState → List PoolStep → PoolState
after s [] = s
after s (x ∷ xs) = after (stepped s x) xs

-- the periods by which a step runs a job: those of a legal run by the worker whose hand holds it
abbrev pub step_periods : PoolState → ℕ → PoolStep → ℕ
step_periods s job (Run w p) = if is_legal s (Run w p) && holds_job job (hand s w) then p else 0
step_periods s job _ = 0

-- the sum of a job's runs over a list of steps
abbrev pub runs : PoolState → ℕ → List PoolStep → ℕ
runs s job [] = 0
runs s job (x ∷ xs) = step_periods s job x + runs (stepped s x) job xs
