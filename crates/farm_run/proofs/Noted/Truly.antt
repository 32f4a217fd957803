-- The ends that the board was told are those of the run.
use Rattle.std.proofs.Common.{◌≡◌, sym, ap, ◌∙◌, ℕ, ◌<◌, ◌≤◌, Option, Some, None, List, [], ◌∷◌, length, get_or, set, inl, inr, ◌⊎◌, arith}
use Rattle.std.specs.Prelude.{IfSome, option_map}
use Rattle.std.specs.List.{AllByRecursion}
use Rattle.std.proofs.lemmas.Bool.{cases_eq, cases_lt}
use Rattle.std.proofs.lemmas.List.{length-set, get_or_past, get_or-set_same, get_or-set_other}
use Rattle.trau_io.specs.declared.ends.CallEnd.{CallEnd}
use Rattle.switchboard.specs.State.{State, EndBefore, end_told, told_more}
use Rattle.run_spec.specs.Run.{Run}
use Rattle.farm_run.specs.Noted.{call_end_in, TellsTruly}
use Rattle.farm_run.specs.Ending.{told_after}

-- **A board that was told no end tells none that is wrong.**
pub truly_start : (r : Run) (s : State) → EndBefore 0 s → TellsTruly r s
truly_start r s h c e q = absurd (by (end_told s c) q (h c))
  where
    by : (o : Option CallEnd) → o ≡ Some e → IfSome (option_map (λ (e : CallEnd). e.at) o) (λ at. at < 0) → ⊥
    by None q h = cc
    by (Some v) q h = omega arith

-- **A board that was told the same ends tells none that is wrong.**
pub truly_same : (r : Run) (s now : State) → now.told ≡ s.told → TellsTruly r s → TellsTruly r now
truly_same r s now e h c end f = h c end (ap (λ (told : List (Option CallEnd)). get_or told c None) (sym e) ∙ f)

-- one end more
truly_more : (r : Run) (s : State) (end : CallEnd) → end ≡ call_end_in r end.call → TellsTruly r s → TellsTruly r (told_more s end)
truly_more r s end right h c v e = elim (cases_eq c end.call) [
  | inr n ↦ h c v (sym (get_or-set_other s.told end.call c (Some end) None n) ∙ e)
  | inl q ↦ told (cases_lt end.call (length s.told)) (ap (λ (c : ℕ). end_told (told_more s end) c) (sym q) ∙ e) ∙ right ∙ ap (call_end_in r) (sym q)
]
  where
    one : (a b : CallEnd) → Some a ≡ Some b → b ≡ a
    one a b e = cc

    none : (o : Option CallEnd) → o ≡ None → o ≡ Some v → ⊥
    none o e f = cc

    told : (end.call < length s.told) ⊎ (length s.told ≤ end.call) → end_told (told_more s end) end.call ≡ Some v → v ≡ end
    told (inl l) f = one end v (sym (get_or-set_same s.told end.call (Some end) None l) ∙ f)
    told (inr l) f =
        absurd (none _ (get_or_past (set s.told end.call (Some end)) end.call None (let k = length-set s.told end.call (Some end) in omega arith)) f)

-- **A board that was told further ends, those of the run, tells none that is wrong.**
pub truly_told : (r : Run) (s : State) (ends : List CallEnd) → AllByRecursion (λ e. e ≡ call_end_in r e.call) ends → TellsTruly r s →
    TellsTruly r (told_after s ends)
truly_told r s [] a h = h
truly_told r s (e ∷ ends) a h = truly_told r (told_more s e) ends a.1 (truly_more r s e a.0 h)
