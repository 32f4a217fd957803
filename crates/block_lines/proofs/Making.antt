-- For crates above: where no octets remain, a machine makes nothing of them (`nothing_left`).
use Rattle.std.proofs.Common.{◌≡◌, inr, ℕ, List, [], ◌++◌, sym, ◌∙◌, ap, subst, arith, append-nil}
use Rattle.block_lines.specs.Machines.{IsRest, Machine}
use Rattle.block_lines.specs.Step.{Makes}
use Rattle.block_lines.proofs.Outputs.{blocks_less, next_less}

-- nothing goes out for the octets left
pub nothing_left : (M : Machine) (stands : List (List ℕ) → Type 0) (next : List ℕ) (holds : ℕ → List ℕ) (text : List ℕ) → text ≡ [] →
    ((blocks : List (List ℕ)) → M.printed blocks next ≡ M.printed blocks []) → ((j : ℕ) (blocks : List (List ℕ)) → M.made j blocks next ≡ M.made j blocks []) →
    IsRest M next → Makes M stands stands next holds text 0
nothing_left M stands next holds text none same_text same rest = record {
  bound = λ j below. omega arith;
  is = inr rest;
  stands = λ blocks now. subst stands (sym (blocks_less M next blocks rest.less)) now;
  made = λ blocks now j below. next_less M next (M.made j) blocks rest.less ∙ same j blocks ∙ sym (append-nil (M.made j blocks []));
  printed = λ blocks now. next_less M next M.printed blocks rest.less ∙ same_text blocks ∙ sym (append-nil (M.printed blocks []))
      ∙ ap (λ l. M.printed blocks [] ++ l) (sym none);
}
