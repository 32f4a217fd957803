-- Incoming lines are only read, and outgoing ones only written.
use Rattle.std.proofs.Common.{◌≡◌, refl, sym, ap, ◌∙◌, subst, ℕ, zero, suc, ◌<◌, List, ◌⊎◌, inl, inr, arith}
use Rattle.std.specs.Prelude.{◌==◌}
use Rattle.std.proofs.lemmas.Bool.{cases_Bool, cases_lt, eqb-true, eq-eqb, true≢false}
use Rattle.trau_io.specs.declared.line.Side.{Side}
use Rattle.trau_io.specs.declared.line.Side.TheVariants.{Up, Pcm, Down, Out}
use Rattle.trau_io.specs.Lines.{LineState}
use Rattle.round_lines.specs.Portions.{PortionMemory, Fills, Drains}
use Rattle.round_lines.specs.Rounds.{Each, KeepsButEach, IsIncoming, IsOutgoing, portion_at, call_at}
use Rattle.farm_run.specs.Runs.{KeepsSides}

-- **If nothing has happened yet, no incoming line was written, and no outgoing one read.**
pub sides_none : (lines : ℕ → Side → LineState) → KeepsSides lines lines
sides_none lines = record { incoming = λ c s i. refl; outgoing = λ c s o. refl }

-- In two steps no incoming line was written, and no outgoing one read, if that holds of each.
pub sides_more : (first before now : ℕ → Side → LineState) → KeepsSides first before → KeepsSides before now → KeepsSides first now
sides_more first before now was is = record {
  incoming = λ c s i. is.incoming c s i ∙ was.incoming c s i;
  outgoing = λ c s o. is.outgoing c s o ∙ was.outgoing c s o;
}

-- no line is both read and written
pub not_both : (s : Side) → IsIncoming s → IsOutgoing s → ⊥
not_both Up i o = o
not_both Pcm i o = o
not_both Down i o = i
not_both Out i o = i

-- a call has one of the first n portions, or none of them
portion_place : (portions : List PortionMemory) (n c : ℕ) → ((k : ℕ) × (k < n) × (c ≡ call_at portions k)) ⊎ ((k : ℕ) → k < n → c ≡ call_at portions k → ⊥)
portion_place portions zero c = inr (λ k l e. absurd (omega arith))
portion_place portions (suc n) c = elim (portion_place portions n c) [
  | inl m ↦ inl (m.0, (let l = m.1 in omega arith), m.2)
  | inr none ↦ elim (cases_Bool (c == call_at portions n)) [
    | inl q ↦ inl (n, omega arith, eqb-true c (call_at portions n) q)
    | inr q ↦ inr (λ k l e. elim (cases_lt k n) [
      | inl less ↦ none k less e
      | inr more ↦ let last : k ≡ n = omega arith in true≢false (sym (eq-eqb c (call_at portions n) (e ∙ ap (call_at portions) last)) ∙ q)
    ])
  ]
]

module _ (before now : ℕ → Side → LineState) (portions after : List PortionMemory) (n : ℕ) where
  -- **Reading the calls' incoming lines writes none of them, and reads no outgoing one.**
  pub sides_filled : Each Fills before now portions after n → KeepsButEach IsIncoming before now portions n → KeepsSides before now
  sides_filled fills others = record { incoming = incoming; outgoing = λ c s o. ap (λ (l : LineState). l.to_come) (others c s (λ k l e i. not_both s i o)) }
    where
      side : (c : ℕ) (s : Side) (was is : PortionMemory) → IsIncoming s →
          Fills (before c) (now c) was is → (now c s).written ≡ (before c s).written
      side c Up was is i f = f.up.written
      side c Pcm was is i f = f.pcm.written
      side c Down was is i f = absurd i
      side c Out was is i f = absurd i

      incoming : (c : ℕ) (s : Side) → IsIncoming s → (now c s).written ≡ (before c s).written
      incoming c s i = elim (portion_place portions n c) [
        | inl m ↦ side c s (portion_at portions m.0) (portion_at after m.0) i
            (subst (λ d. Fills (before d) (now d) (portion_at portions m.0) (portion_at after m.0)) (sym m.2) (fills m.0 m.1))
        | inr none ↦ ap (λ (l : LineState). l.written) (others c s (λ k l e t. none k l e))
      ]

  -- **Writing the calls' outgoing lines reads none of them, and writes no incoming one.**
  pub sides_drained : Each Drains before now portions after n → KeepsButEach IsOutgoing before now portions n → KeepsSides before now
  sides_drained drains others = record { incoming = λ c s i. ap (λ (l : LineState). l.written) (others c s (λ k l e o. not_both s i o)); outgoing = outgoing }
    where
      side : (c : ℕ) (s : Side) (was is : PortionMemory) → IsOutgoing s →
          Drains (before c) (now c) was is → (now c s).to_come ≡ (before c s).to_come
      side c Up was is o d = absurd o
      side c Pcm was is o d = absurd o
      side c Down was is o d = d.down.to_come
      side c Out was is o d = d.out.to_come

      outgoing : (c : ℕ) (s : Side) → IsOutgoing s → (now c s).to_come ≡ (before c s).to_come
      outgoing c s o = elim (portion_place portions n c) [
        | inl m ↦ side c s (portion_at portions m.0) (portion_at after m.0) o
            (subst (λ d. Drains (before d) (now d) (portion_at portions m.0) (portion_at after m.0)) (sym m.2) (drains m.0 m.1))
        | inr none ↦ ap (λ (l : LineState). l.to_come) (others c s (λ k l e t. none k l e))
      ]
