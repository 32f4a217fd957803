-- The rule of one deque.
use Rattle.std.specs.Prelude.{◌≡◌, ℕ, ◌+◌, ◌≤◌, List, [], ◌++◌, map}
use mathlib.Core.Option.{some}
use lib.ListN.{get_elem?}
use Rattle.trau_num.specs.Weights.{weigh}
use Rattle.pool_run.specs.declared.deque.View.{View}
use Rattle.pool_run.specs.declared.deque.Task.{Task}

-- each item is in both lists equally often, however they are counted
abbrev pub SameEntries : {X : Type 0} → List X → List X → Type 0
SameEntries {X} xs ys = (h : X → ℕ) → weigh h xs ≡ weigh h ys

module _ {W : Type 0} where
  abbrev pub knows : ℕ → List (ℕ × W) → List (ℕ × W) → View W
  knows parts pushed obtained = record { parts = parts; pushed = pushed; obtained = obtained }

  -- a job's number with its finished job
  abbrev pub entry_of : (W → W) → Task W → ℕ × W
  entry_of finish t = (t.number, finish t.job.value)

  -- a view after these were pushed
  abbrev pub after_push : (W → W) → View W → List (Task W) → View W
  after_push finish v xs = knows v.parts (v.pushed ++ map (entry_of finish) xs) v.obtained

  -- a view after these were popped or stolen
  abbrev pub after_take : (W → W) → View W → List (Task W) → View W
  after_take finish v xs = knows v.parts v.pushed (v.obtained ++ map (entry_of finish) xs)

  -- no entry was obtained more often than it was pushed
  abbrev pub IsCovered : View W → Type 0
  IsCovered v = (h : ℕ × W → ℕ) → weigh h v.obtained ≤ weigh h v.pushed

  -- a view with no part has pushed and obtained nothing
  abbrev pub SpentAreEmpty : List (View W) → Type 0
  SpentAreEmpty views = (port : ℕ) (v : View W) → get_elem? views port ≡ some v → v.parts ≡ 0 → (v.pushed ≡ []) × (v.obtained ≡ [])

  -- the views have 1024 parts together; what was pushed is what was obtained and what the deque holds, in some order
  abbrev pub IsKept : (W → W) → List (Task W) → List (View W) → Type 0
  IsKept finish items views =
      (weigh (λ v. v.parts) views ≡ 1024)
      × ((h : ℕ × W → ℕ) → weigh (λ v. weigh h v.pushed) views ≡ weigh (λ v. weigh h v.obtained) views + weigh h (map (entry_of finish) items))
      × SpentAreEmpty views
