use Rattle.std.proofs.Common.{◌≡◌, ◌∙◌, List, Option, length, arith, sym, subst}
use Rattle.trau_files.specs.Claims.{MayHave}
use Rattle.trau_files.specs.declared.trunk.claims.Claim.{Claim}
use Rattle.trau_files.proofs.Apart.{free_of_all}
use Rattle.trau_files.proofs.trunk.claims.Claims.other.Goals as goal

pub returns-clause-free : goal.returns-clause-free
returns-clause-free g c = λ none.
    let claims = c.self.inside.of_lines.items in
    let size : length claims ≡ 16388 = sym c.self.inside.of_lines.ok.0 ∙ c.self.invariant.0 in
    subst (λ (cs : List (Option Claim)). MayHave cs c.args.place c.args.claim) c.self.view_is
    (free_of_all claims c.args.place c.args.claim c.loop-other.other (omega (arith, size, c.loop-other-test.false, c.loop-other.auto.other-end))
    c.loop-other.invariant)
