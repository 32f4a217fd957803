use Rattle.std.proofs.Common.{ap, ◌∙◌, ℕ, List, ◌+◌, ◌%◌, ◌^◌, sum}
use Rattle.farm_rounds.specs.Opens.{portion_of_open}
use Rattle.farm_rounds.specs.Sums.{sum_in}
use Rattle.farm_rounds.proofs.Drain.Sums.{both_added}
use Rattle.farm_rounds.proofs.sums.Sums.add_call.Goals as goal

pub returns : goal.returns
returns c =
    let down = c.line.result in
    let out = c.line-2.result in
    both_added (portion_of_open c.args.call.now) (sum_in c.args.self.now) (sum_in c.add.new.self) (sum_in c.add-2.new.self) down out
    c.line.ensures.call c.line.ensures.side c.line-2.ensures.call c.line-2.ensures.side
    (c.add.ensures.this ∙ ap (λ (octets : List ℕ). (sum_in c.args.self.now down.call down.side + sum octets) % 2 ^ 32) c.outgoing.ensures.down)
    c.add.ensures.others
    (c.add-2.ensures.this ∙ ap (λ (octets : List ℕ). (sum_in c.add.new.self out.call out.side + sum octets) % 2 ^ 32) c.outgoing.ensures.out)
    c.add-2.ensures.others
