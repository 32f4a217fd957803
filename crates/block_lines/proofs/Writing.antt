-- Lines that are written one behind the other.
use Rattle.std.proofs.Common.{◌≡◌, inl, inr, ℕ, ◌+◌, ◌<◌, ◌≤◌, List, Ok, Err, refl, sym, ◌∙◌, subst, arith, nat_lt, ◌==◌}
use Rattle.std.proofs.lemmas.Bool.{cases_eq, cases_lt, cond-false, cond-true, eq-eqb, le-ltb, lt-ltb, ne_eqb}
use Rattle.std.proofs.KnownBytes.{Appends-nil}
use Rattle.trau_io.specs.declared.line.Side.{Side}
use Rattle.trau_io.specs.Lines.{LineState, OthersStay}
use Rattle.trau_io.specs.Transfer.{WritesAll}
use Rattle.block_lines.specs.declared.end.RunEnd.TheVariants.{WriteFailed}
use Rattle.block_lines.specs.declared.machine.Shape.{Shape}
use Rattle.block_lines.specs.Runs.{All_of_it, None_of_it, Part_of_it, Stage, line_stage}
use Rattle.block_lines.specs.Step.{LineGains, LinesStay}

-- the first n lines have gained their octets
pub record WrittenSoFar (shape : Shape) (before now : ℕ → Side → LineState) (call : ℕ) (part : ℕ → List ℕ) (n : ℕ) : Type 0 where
  pub done : (j : ℕ) → j < n → LineGains All_of_it (before (call + j) shape.to) (now (call + j) shape.to) (part j)
  pub rest : (j : ℕ) → n ≤ j → now (call + j) shape.to ≡ before (call + j) shape.to
  pub others : LinesStay shape before now call

pub at_start : (shape : Shape) (lines : ℕ → Side → LineState) (call : ℕ) (part : ℕ → List ℕ) → WrittenSoFar shape lines lines call part 0
at_start shape lines call part = record { done = λ j below. absurd (omega arith); rest = λ j above. refl; others = λ c s not. refl }

module _ (shape : Shape) (before now after : ℕ → Side → LineState) (call : ℕ) (part : ℕ → List ℕ) (n : ℕ) (few : n < shape.lines)
    (so_far : WrittenSoFar shape before now call part n) (others : OthersStay now after (call + n) shape.to) where
  kept : (j : ℕ) → (j ≡ n → ⊥) → after (call + j) shape.to ≡ now (call + j) shape.to
  kept j ne = others (call + j) shape.to (λ e _. ne (omega (arith, e)))

  earlier : (j : ℕ) → j < n → LineGains All_of_it (before (call + j) shape.to) (after (call + j) shape.to) (part j)
  earlier j below = subst (λ l. LineGains All_of_it (before (call + j) shape.to) l (part j)) (sym (kept j (λ e. omega (arith, e, below))))
      (so_far.done j below)

  later : (j : ℕ) → n < j → after (call + j) shape.to ≡ before (call + j) shape.to
  later j above = kept j (λ e. omega (arith, e, above)) ∙ so_far.rest j (omega arith)

  pub stay : LinesStay shape before after call
  stay = λ c s not. others c s (λ e f. not n few e f) ∙ so_far.others c s not

  here : (stage : Stage) → LineGains stage (now (call + n) shape.to) (after (call + n) shape.to) (part n) →
      LineGains stage (before (call + n) shape.to) (after (call + n) shape.to) (part n)
  here stage gains = subst (λ l. LineGains stage l (after (call + n) shape.to) (part n)) (so_far.rest n (omega arith)) gains

  pub one_more : WritesAll (now (call + n) shape.to) (after (call + n) shape.to) (Ok tt) (part n) → WrittenSoFar shape before after call part (n + 1)
  one_more writes = record {
    done = λ j below. elim (cases_eq j n) [
      | inl e ↦ subst (λ i. LineGains All_of_it (before (call + i) shape.to) (after (call + i) shape.to) (part i)) (sym e)
          (here All_of_it ((writes.ok, writes.cause.ok), writes.to_come))
      | inr ne ↦ earlier j (omega (arith, below, ne))
    ];
    rest = λ j above. later j (omega arith);
    others = stay;
  }

  -- line n failed
  pub fails : WritesAll (now (call + n) shape.to) (after (call + n) shape.to) (Err (record {})) (part n) → (j : ℕ) → j < shape.lines →
      LineGains (line_stage (WriteFailed n) j) (before (call + j) shape.to) (after (call + j) shape.to) (part j)
  fails writes j within = elim (cases_eq j n) [
    | inl e ↦ subst (λ i. LineGains (line_stage (WriteFailed n) i) (before (call + i) shape.to) (after (call + i) shape.to) (part i)) (sym e)
        (staged n Part_of_it (sym (cond-false (nat_lt n n) _ _ (le-ltb n n (omega arith)) ∙ cond-true (n == n) _ _ (eq-eqb n n refl)))
        (here Part_of_it ((writes.err.0, writes.err.1, writes.err.2, writes.cause.later, writes.cause.failed), writes.to_come)))
    | inr ne ↦ elim (cases_lt j n) [
      | inl below ↦ staged j All_of_it (sym (cond-true (nat_lt j n) _ _ (lt-ltb j n below))) (earlier j below)
      | inr above ↦ staged j None_of_it
          (sym (cond-false (nat_lt j n) _ _ (le-ltb j n above) ∙ cond-false (j == n) _ _ (ne_eqb j n ne)))
          (subst (λ l. LineGains None_of_it (before (call + j) shape.to) l (part j)) (sym (later j (omega (arith, above, ne))))
          ((Appends-nil _, refl), refl))
    ]
  ]
    where
      staged : (j : ℕ) (stage : Stage) → stage ≡ line_stage (WriteFailed n) j →
          LineGains stage (before (call + j) shape.to) (after (call + j) shape.to) (part j) →
          LineGains (line_stage (WriteFailed n) j) (before (call + j) shape.to) (after (call + j) shape.to) (part j)
      staged j stage is gains = subst (λ s. LineGains s (before (call + j) shape.to) (after (call + j) shape.to) (part j)) is gains
