-- The parts of a round as one: what its work tells of histories, told of the farm's calls.
use Rattle.std.proofs.Common.{◌≡◌, ap, ◌∙◌, subst, ℕ, Option, List}
use Rattle.std.specs.Prelude.{if◌then◌else◌, is_some, ◌&&◌}
use Rattle.farm_rounds.specs.declared.tally.Tally.{Tally}
use Rattle.farm_rounds.specs.Calls.{Kept, call_in, partner_in}
use Rattle.farm_rounds.specs.Numbers.{is_among}
use Rattle.farm_rounds.specs.Memory.{FarmMemory, tally_in}
use Rattle.farm_rounds.specs.Histories.{CallHistory, CallsStand, kept_of}
use Rattle.farm_rounds.specs.Working.{RoundMemory, WorkedMemory, goes_on_call, partner_past}
use Rattle.farm_rounds.specs.RoundHistories.{worked_histories, WorkedStand, AreWorked, IsPassed, those_that}

-- a round as it was planned and filled, its work, and the farm after it
pub record IsMade (farm after : FarmMemory) (planned filled : RoundMemory) (worked : WorkedMemory) : Type 0 where
  pub kept : filled ≡ record planned { portions = filled.portions }
  pub farm_planned : planned.farm ≡ record farm { ended = planned.farm.ended }
  pub farm_worked : worked.farm ≡ record filled.farm { calls = worked.farm.calls }
  pub partners_worked : (c : ℕ) → partner_in worked.farm.calls c ≡ partner_in filled.farm.calls c
  pub stands : (h : ℕ → Option CallHistory) → CallsStand h filled.farm.calls →
      WorkedStand (worked_histories filled.portions (partner_in filled.farm.calls) h) worked
  pub octets : (h : ℕ → Option CallHistory) → CallsStand h filled.farm.calls →
      AreWorked filled.portions (worked_histories filled.portions (partner_in filled.farm.calls) h) worked.portions
  pub passed : IsPassed worked after

module _ (farm after : FarmMemory) (planned filled : RoundMemory) (worked : WorkedMemory)
    (m : IsMade farm after planned filled worked) where
  -- what each part of the round keeps of the farm
  calls : filled.farm.calls ≡ farm.calls
  calls = ap (λ (p : RoundMemory). p.farm.calls) m.kept ∙ ap (λ (f : FarmMemory). f.calls) m.farm_planned

  live : worked.farm.live ≡ farm.live
  live = ap (λ (f : FarmMemory). f.live) m.farm_worked ∙ ap (λ (p : RoundMemory). p.farm.live) m.kept ∙ ap (λ (f : FarmMemory). f.live) m.farm_planned

  tallies : worked.farm.tallies ≡ farm.tallies
  tallies =
      ap (λ (f : FarmMemory). f.tallies) m.farm_worked ∙ ap (λ (p : RoundMemory). p.farm.tallies) m.kept ∙ ap (λ (f : FarmMemory). f.tallies) m.farm_planned

  pub made_failed : worked.farm.failed ≡ farm.failed
  made_failed =
      ap (λ (f : FarmMemory). f.failed) m.farm_worked ∙ ap (λ (p : RoundMemory). p.farm.failed) m.kept ∙ ap (λ (f : FarmMemory). f.failed) m.farm_planned

  -- each call has the partner that it had
  worked_partner : (c : ℕ) → partner_in worked.farm.calls c ≡ partner_in farm.calls c
  worked_partner c = m.partners_worked c ∙ ap (λ (ks : List Kept). partner_in ks c) calls

  partner_worked : partner_in worked.farm.calls ≡ partner_in farm.calls
  partner_worked = λ i. λ c. worked_partner c i

  -- the calls come to what they have had at the round's end
  stand : (h : ℕ → Option CallHistory) → CallsStand h farm.calls →
      WorkedStand (worked_histories filled.portions (partner_in farm.calls) h) worked
  stand h = subst (λ (ks : List Kept). CallsStand h ks → WorkedStand (worked_histories filled.portions (partner_in ks) h) worked) calls (m.stands h)

  -- **The portions hold what the calls give in it.**
  pub made_octets : (h : ℕ → Option CallHistory) → CallsStand h farm.calls →
      AreWorked filled.portions (worked_histories filled.portions (partner_in farm.calls) h) worked.portions
  made_octets h = subst (λ (ks : List Kept). CallsStand h ks → AreWorked filled.portions (worked_histories filled.portions (partner_in ks) h) worked.portions)
      calls (m.octets h)

  -- **The calls that go on stay in the farm.**
  pub made_open : (c : ℕ) → is_some (call_in after.calls c) ≡ (is_among farm.live c && goes_on_call worked.portions c)
  made_open c = m.passed.is_open c ∙ m.passed.live c ∙ ap (λ (l : List ℕ). is_among l c && goes_on_call worked.portions c) live

  -- **So do the partners of which both go on.**
  pub made_partners : (c : ℕ) → partner_in after.calls c ≡ partner_past (goes_on_call worked.portions) (partner_in farm.calls) c
  made_partners c = m.passed.partners c ∙ ap (λ (q : ℕ → Option ℕ). partner_past (goes_on_call worked.portions) q c) partner_worked

  -- **The farm stands for what they have had then.**
  pub made_stands : (h : ℕ → Option CallHistory) → CallsStand h farm.calls →
      CallsStand (those_that (goes_on_call worked.portions) (worked_histories filled.portions (partner_in farm.calls) h)) after.calls
  made_stands h g = m.passed.history (worked_histories filled.portions (partner_in farm.calls) h) (stand h g)

  -- **Of the others it keeps the counts.**
  pub made_tallies : (h : ℕ → Option CallHistory) → CallsStand h farm.calls → (c : ℕ) →
      tally_in after.tallies c ≡ (if goes_on_call worked.portions c then tally_in farm.tallies c else kept_of
      (worked_histories filled.portions (partner_in farm.calls) h c) (tally_in farm.tallies c))
  made_tallies h g c =
      m.passed.tallies (worked_histories filled.portions (partner_in farm.calls) h) (stand h g) c
      ∙ ap (λ (ts : List Tally). if goes_on_call worked.portions c then tally_in ts c else kept_of (worked_histories filled.portions (partner_in farm.calls) h c)
      (tally_in ts c)) tallies
