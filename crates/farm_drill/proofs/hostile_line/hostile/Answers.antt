use Rattle.std.proofs.Common.{◌≡◌, ℕ, ◌++◌, List, sym, ap, ◌∙◌, arith}
use Rattle.std.specs.List.{range_with_len, flat_map}
use Rattle.farm_drill.specs.declared.hostile_line.HostileKind.{HostileKind}
use Rattle.farm_drill.specs.Hostile.{hostile_octets, hostile_line}
use Rattle.farm_drill.proofs.Octets.{line-more}
use Rattle.farm_drill.proofs.hostile_line.hostile.Goals as goal

pub loop-period-preserved : goal.loop-period-preserved
loop-period-preserved c =
    let period = c.loop-period.period in
    c.in_ok-extend_from_slice.ensures.items ∙ ap (λ (xs : List ℕ). xs ++ c.period_octets.result) c.loop-period.invariant
    ∙ ap (λ (xs : List ℕ). flat_map (hostile_octets c.kind_of-consists_of.result) (range_with_len 0 period) ++ xs) c.period_octets.ensures
    ∙ sym (line-more (hostile_octets c.kind_of-consists_of.result) period)

pub returns : goal.returns
unfolding hostile_line
returns c =
    let all : c.loop-period.period ≡ c.args.periods = omega (arith, c.loop-period.auto.period-end, c.loop-period-test.false) in
    c.loop-period.invariant ∙ ap (λ (n : ℕ). flat_map (hostile_octets c.kind_of-consists_of.result) (range_with_len 0 n)) all
    ∙ ap (λ (h : HostileKind). flat_map (hostile_octets h) (range_with_len 0 c.args.periods)) c.kind_of-consists_of.ensures
