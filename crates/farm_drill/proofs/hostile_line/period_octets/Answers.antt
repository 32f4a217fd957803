use Rattle.std.proofs.Common.{rules, ◌≡◌, ℕ, ◌<◌, get_or, replicate, sym, subst, arith}
use Rattle.std.proofs.lemmas.List.{get_or-replicate}
use Rattle.farm_drill.specs.Hostile.{hostile_octets}
use Rattle.farm_drill.proofs.hostile_line.period_octets.Goals as goal

pub good-requires-clause-bits : goal.good-requires-clause-bits
good-requires-clause-bits c = λ k d below.
    let one : get_or (replicate {A = ℕ} 260 1) k d ≡ 1 = get_or-replicate 260 k 1 d below in
    subst (λ (n : ℕ). n < 2) (sym one) (omega arith)
