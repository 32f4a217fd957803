-- The calls that end in a round are those whose portions have not all of its periods.
use Rattle.std.proofs.Common.{◌≡◌, refl, sym, ap, ◌∙◌, ℕ, suc, ◌+◌, ◌<◌, Bool, true, false, not, ◌&&◌, ◌||◌, Option, Some, None, List, [], ◌∷◌, length, inl}
use Rattle.std.proofs.Common.{inr, arith}
use Rattle.std.specs.Prelude.{◌==◌, if◌then◌else◌, IfSome}
use Rattle.std.specs.List.{AllByRecursion, filter_map, cons_option, list_any}
use Rattle.std.proofs.lemmas.Bool.{cases_Bool, eqb-true, eq-eqb, ne_eqb}
use Rattle.trau_io.specs.declared.ends.CallEnd.{CallEnd}
use Rattle.switchboard.specs.Ends.{lack_of}
use Rattle.round_lines.specs.Portions.{PortionMemory}
use Rattle.round_lines.specs.Memory as round_lines
use Rattle.round_lines.specs.Rounds.{Rising, portion_at, call_at, portion_end}
use Rattle.farm_rounds.specs.Settling.{goes_on_in}
use Rattle.farm_rounds.specs.Working.{goes_on_call}
use Rattle.farm_run.specs.Ending.{is_told}
use Rattle.farm_run.proofs.Listed.Tests.{no}

-- what holds of each portion's end, if it has one, holds of all ends
pub each_told : (Q : CallEnd → Type 0) (t : ℕ) (portions : List PortionMemory) →
    ((k : ℕ) → k < length portions → IfSome (portion_end t (portion_at portions k)) Q) →
    AllByRecursion Q (filter_map (portion_end t) portions)
each_told Q t [] h = tt
each_told Q t (s ∷ portions) h = by (portion_end t s) (h 0 (omega arith)) (each_told Q t portions (λ k l. h (suc k) (omega arith)))
  where
    by : (o : Option CallEnd) → IfSome o Q → AllByRecursion Q (filter_map (portion_end t) portions) →
        AllByRecursion Q (cons_option o (filter_map (portion_end t) portions))
    by None q k = k
    by (Some e) q k = (q, k)

-- a portion of this call is among these
abbrev pub has_call : List PortionMemory → ℕ → Bool
has_call portions c = list_any (λ s. s.lines.call == c) portions

-- the end that a portion tells of its call
abbrev pub end_of_portion : ℕ → PortionMemory → CallEnd
end_of_portion t s = record { call = s.lines.call; at = t + round_lines.whole_in s.lines; cause = lack_of (round_lines.whole_in s.lines) (round_lines.given_in s.lines) }

-- two numbers of which one is greater aren't the same
apart_test : (c d : ℕ) → c < d → ((c == d) ≡ false) × ((d == c) ≡ false)
apart_test c d l = (ne_eqb c d (λ e. omega arith), ne_eqb d c (λ e. omega arith))

-- of a call whose number lies before all portions' nothing is told, and it has no portion
pub none_above : (t c : ℕ) (portions : List PortionMemory) → ((j : ℕ) → j < length portions → c < call_at portions j) →
    (is_told c (filter_map (portion_end t) portions) ≡ false) × (goes_on_call portions c ≡ false)
none_above t c [] h = (refl, refl)
none_above t c (x ∷ portions) h =
    let rest = none_above t c portions (λ j l. h (suc j) (omega arith)) in
    let test = apart_test c x.lines.call (h 0 (omega arith)) in (
      more (goes_on_in x) test.0 rest.0,
      ap (λ b. (b && goes_on_in x) || goes_on_call portions c) test.1 ∙ rest.1,
    )
  where
    more : (b : Bool) → (c == x.lines.call) ≡ false → is_told c (filter_map (portion_end t) portions) ≡ false →
        is_told c (cons_option (if b then None else Some (end_of_portion t x)) (filter_map (portion_end t) portions)) ≡ false
    more true q e = e
    more false q e = ap (λ b. b || is_told c (filter_map (portion_end t) portions)) q ∙ e

-- **Of a call that has a portion the end is told exactly where it doesn't go on.**
pub told_goes : (t : ℕ) (portions : List PortionMemory) → Rising portions → (c : ℕ) → has_call portions c ≡ true →
    is_told c (filter_map (portion_end t) portions) ≡ not (goes_on_call portions c)
told_goes t [] r c h = cc
told_goes t (s ∷ portions) r c h = elim (cases_Bool (s.lines.call == c)) [
  | inl q ↦
      let e = eqb-true s.lines.call c q in
      let above = none_above t c portions (λ j l. let k = r 0 (suc j) (omega arith) (omega arith) in omega (arith, k, e)) in
      here (goes_on_in s) (s.lines.call == c) q (eq-eqb c s.lines.call (sym e)) above.0 above.1
  | inr q ↦ there (goes_on_in s) (s.lines.call == c) q
      (ne_eqb c s.lines.call (λ e. let f : (s.lines.call == c) ≡ true = eq-eqb s.lines.call c (sym e) in no (s.lines.call == c) q f))
      (told_goes t portions (λ i j l k. r (suc i) (suc j) (omega arith) (omega arith)) c (rest (s.lines.call == c) q h))
]
  where
    rest : (b : Bool) → b ≡ false → (b || has_call portions c) ≡ true → has_call portions c ≡ true
    rest false q e = e
    rest true q e = cc

    here : (g u : Bool) → u ≡ true → (c == s.lines.call) ≡ true →
        is_told c (filter_map (portion_end t) portions) ≡ false → goes_on_call portions c ≡ false →
        is_told c (cons_option (if g then None else Some (end_of_portion t s))
        (filter_map (portion_end t) portions)) ≡ not ((u && g) || goes_on_call portions c)
    here true true p q a b = a
    here false true p q a b = ap (λ x. x || is_told c (filter_map (portion_end t) portions)) q ∙ sym (ap not b)
    here g false p q a b = cc

    there : (g u : Bool) → u ≡ false → (c == s.lines.call) ≡ false →
        is_told c (filter_map (portion_end t) portions) ≡ not (goes_on_call portions c) →
        is_told c (cons_option (if g then None else Some (end_of_portion t s))
        (filter_map (portion_end t) portions)) ≡ not ((u && g) || goes_on_call portions c)
    there true false p q a = a
    there false false p q a = ap (λ x. x || is_told c (filter_map (portion_end t) portions)) q ∙ a
    there g true p q a = cc
