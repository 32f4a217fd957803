use Rattle.std.proofs.Common.{◌≡◌, ◌<◌, ◌≤◌, ℕ, length, ap, ◌∙◌, subst, ⊎_elim, arith}
use Rattle.std.proofs.lemmas.Bool.{cases_lt}
use Rattle.pool_run.specs.Pool.{passes_of}
use Rattle.pool_run.proofs.joins.join_all.Goals as goal

pub loop-j-preserved : goal.loop-j-preserved
loop-j-preserved g c =
    let old = c.loop-j.invariant in
    let j = c.loop-j.j in
    let row = c.join_row.ensures in record {
      shared = row.shared;
      given = λ h. row.given h ∙ old.given h;
      obtained = λ h. row.obtained h ∙ old.obtained h;
      joined = λ i h. ⊎_elim (λ (lt : i < j). ap length (row.others i (λ e. absurd (omega (arith, e, lt)))) ∙ old.joined i lt)
          (λ (le : j ≤ i). let e : j ≡ i = omega (arith, le, h) in subst (λ (k : ℕ). length (passes_of c.join_row.new.members k) ≡ 0) e row.mine)
          (cases_lt i j);
    }
