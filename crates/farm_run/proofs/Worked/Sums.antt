-- The sums of the outgoing lines behind a round.
use Rattle.std.proofs.Common.{◌≡◌, sym, ap, ◌∙◌, subst, ℕ, ◌+◌, ◌%◌, ◌^◌, ◌<◌, Bool, true, false, List, ◌++◌, length, sum, inl, inr, arith}
use Rattle.std.specs.Prelude.{is_some}
use Rattle.std.proofs.Math.Nat.{mod-add-mod}
use Rattle.std.proofs.lemmas.Bool.{cases_Bool, true≢false}
use Rattle.std.proofs.lemmas.List.Sums.{sum_by-append}
use Rattle.trau_io.specs.declared.ends.CallEnd.{CallEnd}
use Rattle.trau_io.specs.declared.line.Side.{Side}
use Rattle.trau_io.specs.declared.line.Side.TheVariants.{Down, Out}
use Rattle.trau_io.specs.Lines.{LineState}
use Rattle.round_lines.specs.Portions as portions
use Rattle.round_lines.specs.Rounds.{portion_at}
use Rattle.switchboard.specs.Calls.{is_open, gone_at}
use Rattle.switchboard.specs.State.{State}
use Rattle.farm_report.specs.Sums.{sum_of}
use Rattle.farm_rounds.specs.Calls.{call_in}
use Rattle.farm_rounds.specs.Memory.{FarmMemory}
use Rattle.farm_rounds.specs.Sums.{Adds}
use Rattle.farm_rounds.proofs.Places.Rising.{there}
use Rattle.run_spec.specs.Run.{Run, whole_in, periods_to, who_in, IsOpened, worked_to}
use Rattle.run_spec.specs.Lines.{out_line, down_octets}
use Rattle.farm_run.specs.Match.{Matches}
use Rattle.farm_run.specs.Standing.{Standing, standing}
use Rattle.farm_run.specs.Clock.{IsAtClock}
use Rattle.farm_run.specs.Stages.{SumsAt}
use Rattle.farm_run.proofs.Rounds.Taken.{IsRound}
use Rattle.farm_run.proofs.Worked.Calls.{OpenPortion, open_portion, open_is}
use Rattle.farm_run.proofs.Worked.Written.{grown_out, grown_down, idle}
use Rattle.farm_run.proofs.Worked.Round.{WorkedRound, MeetsRun}
use Rattle.farm_run.proofs.Worked.Facts.{worked_at}

-- the sum of a list in two parts
sum_both : (xs ys : List ℕ) → sum (xs ++ ys) ≡ sum xs + sum ys
sum_both xs ys = sum_by-append (λ x. x) xs ys

-- octets behind others
added : (old more : List ℕ) → (sum_of old + sum more) % 2 ^ 32 ≡ sum_of (old ++ more)
added old more = mod-add-mod (sum old) (2 ^ 32) (sum more) ∙ ap (λ (n : ℕ). n % 2 ^ 32) (sym (sum_both old more))

module _ (r : Run) (t n : ℕ) (b : State) (farm after : FarmMemory) (first before now : ℕ → Side → LineState) (ends : List CallEnd)
    (w : WorkedRound t n farm after before now ends) (h : IsRound r t n b.done b.left)
    (m : Matches b farm.calls) (b' : State) (last : Standing)
    (at : IsAtClock r t b farm.calls last first before)
    (meets : MeetsRun r n w.filled_portions (standing b' after.failed now) last)
    (was is : ℕ → Side → ℕ) (adds : Adds w.worked_portions was is) where
  -- whether a call is open at the clock
  abbrev alive : ℕ → Bool
  alive = is_open (gone_at (whole_in r) t b.done) b.done

  -- the sums of a call that has no portion stay
  stay : (c : ℕ) → alive c ≡ false → (s : Side) → is c s ≡ was c s
  stay c o s = adds.others c s (λ k l e i.
      let within : k < length farm.live = omega (arith, l, w.number, w.filled_number, w.worked_number) in
      let live : is_some (call_in farm.calls c) ≡ true = sym (w.live c)
      ∙ there farm.live c k within (sym (e ∙ worked_at t n farm after before now ends w k within)) in
      true≢false (sym live ∙ open_is r t n b farm after first before now ends w h m b' last at meets c ∙ o))

  -- what is known of its portion
  abbrev portion : (c : ℕ) → alive c ≡ true → OpenPortion r t n b farm after first before now ends w h m b' last at meets c
  portion c o = open_portion r t n b farm after first before now ends w h m b' last at meets c o

  -- **They are those of all octets up to the round's end.**
  pub sums_after : SumsAt r t was → SumsAt r (t + n) is
  sums_after sums = record { out = out; down = down }
    where
      out : (c : ℕ) → IsOpened r c → is c Out ≡ sum_of (out_line (who_in r c) (periods_to r c (worked_to r (t + n) c)))
      out c i = elim (cases_Bool (alive c)) [
        | inl o ↦
            let s = portion c o in
            let l = s.within in
            let within : s.k < length w.worked_portions = omega (arith, l, w.number, w.filled_number, w.worked_number) in
            let more = portions.out_given (portion_at w.worked_portions s.k) in
            subst (λ (d : ℕ). is d Out ≡ (was d Out + sum more) % 2 ^ 32)
            (worked_at t n farm after before now ends w s.k s.within ∙ s.here) (adds.out s.k within)
            ∙ ap (λ (v : ℕ). (v + sum more) % 2 ^ 32) (sums.out c i)
            ∙ added (out_line (who_in r c) (periods_to r c (worked_to r t c))) more
            ∙ sym (ap sum_of (grown_out r t n b farm after first before now ends w h m b' last at meets c o))
        | inr o ↦ stay c o Out ∙ sums.out c i
            ∙ ap (λ (k : ℕ). sum_of (out_line (who_in r c) (periods_to r c k)))
            (sym (idle r t n b farm after first before now ends w h m b' last at meets c i o))
      ]

      down : (c : ℕ) → IsOpened r c → is c Down ≡ sum_of (down_octets (who_in r c) (periods_to r c (worked_to r (t + n) c)))
      down c i = elim (cases_Bool (alive c)) [
        | inl o ↦
            let s = portion c o in
            let l = s.within in
            let within : s.k < length w.worked_portions = omega (arith, l, w.number, w.filled_number, w.worked_number) in
            let more = portions.down_given (portion_at w.worked_portions s.k) in
            subst (λ (d : ℕ). is d Down ≡ (was d Down + sum more) % 2 ^ 32)
            (worked_at t n farm after before now ends w s.k s.within ∙ s.here) (adds.down s.k within)
            ∙ ap (λ (v : ℕ). (v + sum more) % 2 ^ 32) (sums.down c i)
            ∙ added (down_octets (who_in r c) (periods_to r c (worked_to r t c))) more
            ∙ sym (ap sum_of (grown_down r t n b farm after first before now ends w h m b' last at meets c o))
        | inr o ↦ stay c o Down ∙ sums.down c i
            ∙ ap (λ (k : ℕ). sum_of (down_octets (who_in r c) (periods_to r c k)))
            (sym (idle r t n b farm after first before now ends w h m b' last at meets c i o))
      ]
