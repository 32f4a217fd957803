-- For crates above: a call goes on as its own portion says (`goes_on_at`).
use Rattle.std.proofs.Common.{◌≡◌, refl, sym, ◌∙◌, ℕ, ◌<◌, false, List, length, arith, inl, inr}
use Rattle.std.specs.Prelude.{◌==◌, ◌&&◌}
use Rattle.std.proofs.lemmas.Bool.{cases_Bool, cases_order, eq-eqb, ne_eqb, and_from, and_left, and_right}
use Rattle.std.proofs.lemmas.List.Elements.{All-from_get_or}
use Rattle.std.proofs.lemmas.List.Folds.{list_any_at, list_any_none}
use Rattle.round_lines.specs.Portions.{PortionMemory}
use Rattle.round_lines.specs.Rounds.{Rising, no_portion, portion_at, call_at}
use Rattle.farm_rounds.specs.Settling.{goes_on_in}
use Rattle.farm_rounds.specs.Working.{goes_on_call}

-- a call goes on by its own portion
pub goes_on_at : (portions : List PortionMemory) (k : ℕ) → Rising portions → k < length portions →
    goes_on_call portions (call_at portions k) ≡ goes_on_in (portion_at portions k)
goes_on_at portions k rising l = elim (cases_Bool (goes_on_in (portion_at portions k))) [
  | inl t ↦
      list_any_at (λ s. (s.lines.call == call_at portions k) && goes_on_in s) portions k no_portion l
      (and_from (call_at portions k == call_at portions k) (goes_on_in (portion_at portions k)) (eq-eqb (call_at portions k) (call_at portions k) refl) t)
      ∙ sym t
  | inr f ↦
      list_any_none (λ s. (s.lines.call == call_at portions k) && goes_on_in s) portions
      (All-from_get_or (λ s. ((s.lines.call == call_at portions k) && goes_on_in s) ≡ false) portions no_portion (λ i li. elim (cases_order i k) [
        | inl e ↦ rw e (and_right (call_at portions k == call_at portions k) (goes_on_in (portion_at portions k)) f)
        | inr (inl b) ↦
            let less = rising i k b l in
            and_left (call_at portions i == call_at portions k) (goes_on_in (portion_at portions i))
            (ne_eqb (call_at portions i) (call_at portions k) (λ q. absurd (omega (arith, less, q))))
        | inr (inr a) ↦
            let more = rising k i a li in
            and_left (call_at portions i == call_at portions k) (goes_on_in (portion_at portions i))
            (ne_eqb (call_at portions i) (call_at portions k) (λ q. absurd (omega (arith, more, q))))
      ])) ∙ sym f
]
