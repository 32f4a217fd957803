-- A call is opened: what is noted stays right.
use Rattle.std.proofs.Common.{◌≡◌, sym, ◌∙◌, subst, ℕ, Bool, true, ◌||◌, List, map, inl, inr}
use Rattle.std.specs.Prelude.{◌==◌}
use Rattle.std.proofs.lemmas.Bool.{cases_eq, ne_eqb}
use Rattle.switchboard.specs.Calls.{Done}
use Rattle.switchboard.specs.Bridges.{bridges}
use Rattle.switchboard.proofs.Orders.OneMore.{after}
use Rattle.farm_rounds.specs.declared.tally.Tally.{Tally}
use Rattle.call_number.specs.CallNumber.{IsCallNumber}
use Rattle.run_spec.specs.Run.{Run}
use Rattle.farm_run.specs.declared.notes.SentBefore.{SentBefore}
use Rattle.farm_run.specs.Noted.{is_opened, IsNoted}
use Rattle.farm_run.proofs.Noted.Noting.{right_true, kept_after, notes_kept}

-- an order that opens a call, beside those before it
pub record IsOpening (ds now : List Done) (m : ℕ) : Type 0 where
  pub number : IsCallNumber m
  pub opened : (c : ℕ) → is_opened now c ≡ (c == m || is_opened ds c)
  pub order : Done
  pub bridges : bridges now ≡ map (after order) (bridges ds)

-- **An order that opens a call changes nothing of what is noted.**
pub noted_opened : (r : Run) (ds now : List Done) (ended : ℕ → Bool) (notes : List SentBefore)
    (tally : ℕ → Tally) (m : ℕ) → IsOpening ds now m →
    IsNoted r ds ended notes tally → IsNoted r now ended notes tally
noted_opened r ds now ended notes tally m h n = record {
  numbers = number;
  bridges = notes_kept r ds now h.order notes h.bridges n.bridges;
  kept = λ c g. kept_after r ds now h.order c (tally c) h.bridges (n.kept c g);
}
  where
    -- a call that was opened is this one, or was so before
    number : (c : ℕ) → is_opened now c ≡ true → IsCallNumber c
    number c o = elim (cases_eq c m) [
      | inl q ↦ subst IsCallNumber (sym q) h.number
      | inr q ↦ n.numbers c (right_true (c == m) (is_opened ds c) (ne_eqb c m q) (sym (h.opened c) ∙ o))
    ]
