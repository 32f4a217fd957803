use Rattle.std.proofs.Common.{◌≡◌, ◌∙◌, ℕ, zero, suc, ◌+◌, ◌*◌, ◌-◌, ◌%◌, ◌^◌, ◌<◌, ap, arith}
use Rattle.farm_tests.specs.Counter.{digits_after}
use Rattle.farm_tests.proofs.pool_run_tests.CounterWork.slice.Goals as goal

one_place : (n digits : ℕ) → 0 < n → digits_after (n - 1) ((digits * 10 % 2 ^ 32 + n) % 2 ^ 32) ≡ digits_after n digits
one_place zero digits h = absurd (omega arith)
one_place (suc n) digits h =
    let e : suc n - 1 ≡ n = omega arith in
    ap (λ (k : ℕ). digits_after k ((digits * 10 % 2 ^ 32 + suc n) % 2 ^ 32)) e

pub loop-preserved : goal.loop-preserved
loop-preserved c =
    let old = c.loop.invariant in
    let some : 0 < c.loop.self.left = omega arith in record {
      left = omega (arith, old.left);
      digits = one_place c.loop.self.left c.loop.self.digits some ∙ old.digits;
      call = old.call;
    }
