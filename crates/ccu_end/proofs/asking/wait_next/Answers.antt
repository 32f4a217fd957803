use Rattle.std.proofs.Common.{◌≡◌, ◌<◌, ◌+◌, ℕ, Option, Some, refl, sym, ap, ◌∙◌, arith, rules}
use Rattle.std.proofs.lemmas.Bool.{eq-eqb, lt-ltb}
use Rattle.ccu_end.specs.Asked.{frames_of_wait}
use Rattle.ccu_end.specs.Step.{wait_next}
use Rattle.ccu_end.proofs.asking.wait_next.Goals as goal

-- the next frame in step, before the last of a wait
in-step : (w : Option ℕ) (low place count : ℕ) → w ≡ Some count → place ≡ low + 4 → count + 1 < frames_of_wait →
    Some (count + 1) ≡ wait_next w low place
in-step w low place count is step few =
    sym (ap (λ v. wait_next v low place) is ∙ rw (eq-eqb place (low + 4) step, lt-ltb (count + 1) frames_of_wait few) refl)

pub returns-then-count : goal.returns-then-count
returns-then-count c =
    in-step c.args.waiting c.args.low c.args.place c.in_ok-count.count (search rules) (omega arith) (omega arith)
