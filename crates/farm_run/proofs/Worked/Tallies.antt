-- What is kept of the calls that end within a round.
use Rattle.std.proofs.Common.{◌≡◌, refl, sym, ap, ◌∙◌, ℕ, ◌+◌, ◌-◌, ◌<◌, Bool, true, false, ◌&&◌, Option, List, inl, inr, arith}
use Rattle.std.specs.Prelude.{min, ◌==◌, if◌then◌else◌, nat_lt, option_map}
use Rattle.std.proofs.lemmas.Bool.{cases_lt, lt-ltb, ltb-true, eq-eqb, ne_eqb, and_parts}
use Rattle.trau_io.specs.declared.ends.CallEnd.{CallEnd}
use Rattle.trau_io.specs.declared.line.Side.{Side}
use Rattle.trau_io.specs.Lines.{LineState}
use Rattle.switchboard.specs.Calls.{is_open, gone_at}
use Rattle.switchboard.specs.Ends.{start_of}
use Rattle.switchboard.specs.State.{State}
use Rattle.call_leg.specs.Settings.{Settings}
use Rattle.call_leg.specs.Periods.{CallPeriod}
use Rattle.farm_rounds.specs.declared.tally.Tally.{Tally}
use Rattle.farm_rounds.specs.Calls.{partner_in}
use Rattle.farm_rounds.specs.Memory.{FarmMemory, tally_in}
use Rattle.farm_rounds.specs.Histories.{CallHistory, kept_of, tally_of}
use Rattle.farm_rounds.specs.Working.{goes_on_call}
use Rattle.farm_rounds.specs.RoundHistories.{history_with, worked_histories}
use Rattle.run_spec.specs.Run.{Run, whole_in, periods_to, law_in}
use Rattle.run_spec.specs.Now.{settings_now}
use Rattle.farm_run.proofs.Rounds.Taken.{IsRound, places_in, ends_within}
use Rattle.farm_run.proofs.Rounds.Outcome.{KeepsTallies}
use Rattle.farm_run.specs.Match.{Matches, past_if, histories_at}
use Rattle.farm_run.specs.Standing.{Standing, standing}
use Rattle.farm_run.specs.Clock.{IsAtClock}
use Rattle.farm_run.proofs.Worked.Round.{WorkedRound, MeetsRun}
use Rattle.farm_run.proofs.Worked.Calls.{goes_on_is}
use Rattle.farm_run.proofs.Worked.Past.{worked_past}

module _ (r : Run) (t n : ℕ) (b : State) (farm after : FarmMemory) (first before now : ℕ → Side → LineState) (ends : List CallEnd)
    (w : WorkedRound t n farm after before now ends) (h : IsRound r t n b.done b.left)
    (m : Matches b farm.calls) (b' : State) (last : Standing)
    (at : IsAtClock r t b farm.calls last first before)
    (meets : MeetsRun r n w.filled_portions (standing b' after.failed now) last) where
  -- whether a call is open at the clock
  abbrev alive : ℕ → Bool
  alive = is_open (gone_at (whole_in r) t b.done) b.done

  -- what each call has had at the round's end
  abbrev worked_at_end : ℕ → Option CallHistory
  worked_at_end = worked_histories w.filled_portions (partner_in farm.calls) (histories_at r b.done t)

  -- what was kept of each before it
  abbrev was : ℕ → Tally
  was = tally_in farm.tallies

  -- what is kept of each behind it
  kept : (c : ℕ) → tally_in after.tallies c ≡ (if goes_on_call w.worked_portions c then was c else kept_of (worked_at_end c) (was c))
  kept c = w.tallies (histories_at r b.done t) at.follows.stands c

  -- a call goes on where its lines give all periods of the round
  goes : (c : ℕ) → alive c ≡ true → goes_on_call w.worked_portions c ≡ (places_in r b.done t n c == n)
  goes c o = goes_on_is r t n b farm after first before now ends w h m b' last at meets c o

  -- of a call that ends in it the counts are kept
  ended : (c : ℕ) → ends_within r b.done t n c ≡ true →
      (last : Settings) × (last.starts
      ≡ (settings_now r b.done (t + places_in r b.done t n c) c).starts)
      × (tally_in after.tallies c ≡ tally_of (periods_to r c (t + places_in r b.done t n c - start_of b.done c)) last)
  ended c e =
      let parts = and_parts (alive c) (nat_lt (places_in r b.done t n c) n) e in
      let less = ltb-true (places_in r b.done t n c) n parts.1 in
      let p = worked_past r t n b farm after first before now ends w h m b' last at meets c parts.0 in (
        p.0.now,
        p.2.starts,
        kept c ∙ ap (λ (x : Bool). if x then was c else kept_of (worked_at_end c) (was c))
            (goes c parts.0 ∙ ne_eqb (places_in r b.done t n c) n (apart (places_in r b.done t n c) less))
            ∙ ap (λ (o : Option CallHistory). kept_of o (was c)) p.1
            ∙ ap (λ (ts : List CallPeriod). tally_of ts p.0.now) p.2.periods,
      )
    where
      apart : (k : ℕ) → k < n → k ≡ n → ⊥
      apart k l q = absurd (omega arith)

  -- of others nothing more
  others : (c : ℕ) → ends_within r b.done t n c ≡ false → tally_in after.tallies c ≡ was c
  others c e = kept c ∙ by (alive c) refl
    where
      either : (x : Bool) → (if x then was c else was c) ≡ was c
      either true = refl
      either false = refl

      all : (k : ℕ) → k ≡ min n (start_of b.done c + whole_in r c - t) → nat_lt k n ≡ false → (k == n) ≡ true
      all k q f = elim (cases_lt k n) [ inl l ↦ let g = lt-ltb k n l in cc | inr l ↦ eq-eqb k n (omega arith) ]

      by : (x : Bool) → alive c ≡ x → (if goes_on_call w.worked_portions c then was c else kept_of (worked_at_end c) (was c)) ≡ was c
      by true o = ap (λ (x : Bool). if x then was c else kept_of (worked_at_end c) (was c))
          (goes c o ∙ all (places_in r b.done t n c) refl (sym (ap (λ (x : Bool). x && nat_lt (places_in r b.done t n c) n) o) ∙ e))
      by false o =
          ap (λ (y : Option CallHistory). if goes_on_call w.worked_portions c then was c else kept_of y (was c))
          (ap (λ (x : Bool). option_map (history_with w.filled_portions (histories_at r b.done t) c (partner_in farm.calls c))
          (past_if x (law_in r c) (periods_to r c (t - start_of b.done c)) (settings_now r b.done t c))) o)
          ∙ either (goes_on_call w.worked_portions c)

  -- **A call that its lines end within the round leaves the counts of its periods, and what is kept of the others
  -- stays.**
  pub tallies_after : KeepsTallies r t n b.done farm.tallies after.tallies
  tallies_after = record { ended = ended; others = others }
