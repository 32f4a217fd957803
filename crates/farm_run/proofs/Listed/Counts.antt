-- The counts of the lines' faults, and the lines that are listed as failed.
use Rattle.std.proofs.Common.{◌≡◌, refl, sym, ap, ◌∙◌, subst, ℕ, ◌<◌, ◌≤◌, Bool, true, false, List, length, map, inl, inr}
use Rattle.std.proofs.Common.{◌⊎◌, arith}
use Rattle.std.specs.Prelude.{is_some, slice_index}
use Rattle.std.specs.List.{Contains}
use Rattle.std.proofs.lemmas.Bool.{cases_Bool, true≢false}
use Rattle.trau_io.specs.declared.line.Side.{Side}
use Rattle.trau_io.specs.declared.line.Side.TheVariants.{Up, Pcm, Down, Out}
use Rattle.trau_io.specs.Lines.{LineState, Rose}
use Rattle.trau_io.specs.declared.ends.CallEnd.{CallEnd}
use Rattle.round_lines.specs.declared.transfer.Outlet.{Outlet}
use Rattle.round_lines.specs.Memory.{fails_in, line_name}
use Rattle.round_lines.specs.Rounds.{portion_at}
use Rattle.farm_rounds.specs.Calls.{call_in}
use Rattle.farm_rounds.specs.Numbers.{is_among}
use Rattle.farm_rounds.specs.Memory.{FarmMemory}
use Rattle.farm_rounds.proofs.Failed.Names.{Name, Lists, names, portion_listed, listed_portion, listed_before, listed_after, listed_name, name_listed}
use Rattle.farm_run.proofs.Listed.Tests.{is_false}
use Rattle.farm_run.proofs.Worked.Round.{WorkedRound, among_place, drained_call, tells_portion}
use Rattle.farm_run.proofs.Worked.Facts.{portion_facts, lines_kept, down_between, out_between, up_after, pcm_after}
use Rattle.farm_run.specs.Outgoing.{PassesOn}
use Rattle.farm_run.specs.Runs.{is_listed, TellsFailed}
use Rattle.farm_run.specs.Clock.{NeverFell}
use Rattle.farm_run.specs.Stages.{NoneUsedAgain}

-- **A count that rose since some time rose since any earlier one, and is no less than it was.**
pub rose_before : (first before now : ℕ) → first ≤ before → Rose before now → Rose first now
rose_before first before now l r = omega arith

pub rose_after : (first before now : ℕ) → before ≤ now → Rose first before → Rose first now
rose_after first before now l r = omega arith

-- no count fell in two steps
pub fell_more : (first before now : ℕ → Side → LineState) → NeverFell first before → NeverFell before now → NeverFell first now
fell_more first before now l m c s = let a = l c s in let b = m c s in omega arith

-- nothing has happened
pub unused_none : (was : ℕ → Side → Bool) (lines : ℕ → Side → LineState) → NoneUsedAgain was was lines lines
unused_none was lines = record { lines = λ c s q. refl; listed = λ c s q. q }

-- **A line that isn't used in either of two steps isn't used in both.**
pub unused_more : (was then is : ℕ → Side → Bool) (first before now : ℕ → Side → LineState) →
    NoneUsedAgain was then first before → NoneUsedAgain then is before now → NoneUsedAgain was is first now
unused_more was then is first before now g h = record {
  lines = λ c s q. h.lines c s (g.listed c s q) ∙ g.lines c s q;
  listed = λ c s q. h.listed c s (g.listed c s q);
}

-- no count falls where a line is given octets, or nothing happens to it
moved_later : (before now : LineState) (was stands : Outlet) (octets : List ℕ) →
    PassesOn before now was stands octets → before.faults ≤ now.faults
moved_later before now was stands octets (inl g) = g.later
moved_later before now was stands octets (inr e) = let same = ap (λ (l : LineState). l.faults) e.0 in omega (arith, same)

-- ---- a round

module _ (t n : ℕ) (farm after : FarmMemory) (before now : ℕ → Side → LineState)
    (ends : List CallEnd) (w : WorkedRound t n farm after before now ends) where
  -- there are as many portions as open calls
  pub long : length w.drained_portions ≡ length farm.live
  long = w.drained_number ∙ w.worked_number ∙ w.filled_number ∙ w.number

  -- a call is open, and then it has a portion, or it isn't
  pub portion_cases : (c : ℕ) → ((k : ℕ) × (k < length farm.live) × (slice_index farm.live k ≡ c)) ⊎ (is_some (call_in farm.calls c) ≡ false)
  portion_cases c = elim (cases_Bool (is_among farm.live c)) [ inl q ↦ inl (among_place farm.live c q) | inr q ↦ inr (sym (w.live c) ∙ q) ]

  -- **No count falls.**
  pub fell_round : NeverFell before now
  fell_round c s = elim (portion_cases c) [
    | inl m ↦ let f = portion_facts t n farm after before now ends w m.0 c m.1 m.2 in
        side s f.2.front.fills.up.later f.2.front.fills.pcm.later (moved_later _ _ _ _ _ f.2.drains.down) (moved_later _ _ _ _ _ f.2.drains.out)
    | inr q ↦ let e = ap (λ (l : LineState). l.faults) (lines_kept t n farm after before now ends w c q s) in omega (arith, e)
  ]
    where
      faults : {a b : LineState} → a ≡ b → a.faults ≡ b.faults
      faults e = ap (λ (l : LineState). l.faults) e

      side : (s : Side) → (before c Up).faults ≤ (w.between c Up).faults → (before c Pcm).faults ≤ (w.between c Pcm).faults →
          (w.between c Down).faults ≤ (now c Down).faults →
          (w.between c Out).faults ≤ (now c Out).faults → (before c s).faults ≤ (now c s).faults
      side Up u p d o = omega (arith, u, faults (up_after t n farm after before now ends w c))
      side Pcm u p d o = omega (arith, p, faults (pcm_after t n farm after before now ends w c))
      side Down u p d o = omega (arith, d, faults (down_between t n farm after before now ends w c))
      side Out u p d o = omega (arith, o, faults (out_between t n farm after before now ends w c))

  -- **The farm goes on listing exactly the lines whose counts rose.**
  pub tells_round : (first : ℕ → Side → LineState) → NeverFell first before →
      TellsFailed first before farm.failed → TellsFailed first now after.failed
  tells_round first l h = record { failures = record { rose = rose; kept = kept }; order = (let g = w.gains in g.order) }
    where
      rose : (c : ℕ) (s : Side) → is_listed after.failed c s ≡ true → Rose (first c s).faults (now c s).faults
      rose c s k = elim (listed_after farm.failed after.failed w.drained_portions (c, s) w.gains (listed_name after.failed c s k)) [
        | inl a ↦ rose_after (first c s).faults (before c s).faults (now c s).faults (fell_round c s) (h.failures.rose c s (name_listed farm.failed c s a))
        | inr b ↦ rose_before (first c s).faults (before c s).faults (now c s).faults (l c s) (by (listed_portion w.drained_portions (c, s) b))
      ]
        where
          by : Lists w.drained_portions (c, s) → Rose (before c s).faults (now c s).faults
          by m =
              let f = portion_facts t n farm after before now ends w m.k (slice_index farm.live m.k) (omega (arith, m.within, long)) refl in
              let called : slice_index farm.live m.k ≡ c = sym (drained_call _ _ _ _ _ _ _ _ _ _ f.2) ∙ sym (ap (λ (y : Name). y.0) m.name) in
              let sided : m.side ≡ s = sym (ap (λ (y : Name). y.1) m.name) in
              subst (λ s. Rose (before c s).faults (now c s).faults) sided
              (subst (λ d. Rose (before d m.side).faults (now d m.side).faults) called ((tells_portion _ _ _ _ _ _ _ _ _ _ f.2 m.side).rose m.fails))

      kept : (c : ℕ) (s : Side) → is_listed after.failed c s ≡ false → (now c s).faults ≡ (first c s).faults
      kept c s not = same ∙ h.failures.kept c s
          (is_false (is_listed farm.failed c s) (λ a. none
          (listed_before farm.failed after.failed w.drained_portions (c, s) w.gains (inl (listed_name farm.failed c s a)))))
        where
          none : Contains (map line_name after.failed) (c, s) → ⊥
          none m = true≢false (sym (name_listed after.failed c s m) ∙ not)

          same : (now c s).faults ≡ (before c s).faults
          same = elim (portion_cases c) [
            | inl m ↦
                let f = portion_facts t n farm after before now ends w m.0 c m.1 m.2 in
                elim (cases_Bool (fails_in (portion_at w.drained_portions m.0).lines s)) [
                  | inl q ↦ absurd (none (listed_before farm.failed after.failed w.drained_portions (c, s) w.gains
                      (inr (subst (λ d. Contains (names w.drained_portions) (d, s)) (drained_call _ _ _ _ _ _ _ _ _ _ f.2)
                      (portion_listed w.drained_portions m.0 s (omega (arith, m.1, long)) q)))))
                  | inr q ↦ (tells_portion _ _ _ _ _ _ _ _ _ _ f.2 s).kept q
                ]
            | inr q ↦ ap (λ (l : LineState). l.faults) (lines_kept t n farm after before now ends w c q s)
          ]
