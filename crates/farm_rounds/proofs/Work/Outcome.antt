-- The calls of a round behind its phases, in their boxes, and what the round tells of them.
use Rattle.std.proofs.Common.{◌≡◌, sym, ap, ◌∙◌, subst, ℕ, ◌<◌, Option, Some, List, ◌++◌, length, take, drop}
use Rattle.std.specs.Prelude.{map}
use Rattle.std.specs.Option.{option_map}
use Rattle.std.specs.List.{All}
use Rattle.std.specs.Global.{Box}
use Rattle.std.proofs.lemmas.List.{length-map}
use Rattle.round_lines.specs.Memory.{LinesMemory}
use Rattle.round_lines.specs.Portions.{PortionMemory}
use Rattle.round_lines.specs.Rounds.{Rising, portion_at, call_at}
use Rattle.farm_rounds.specs.declared.open.OpenCall.{OpenCall}
use Rattle.farm_rounds.specs.Calls.{Call, Kept, call_in, partner_in}
use Rattle.farm_rounds.specs.Histories.{CallHistory, CallsStand}
use Rattle.farm_rounds.specs.Opens.{opens_in, calls_of, portions_of, kept_of, portion_of_open, portion_with, open_begun, open_finished}
use Rattle.farm_rounds.specs.Opened.{standings, end_beside, all_begun, all_met, met_beside, OctetsFit}
use Rattle.farm_rounds.specs.RoundHistories.{worked_histories, WorkedCall, AreWorked}
use Rattle.farm_rounds.specs.Working.{RoundMemory, IsRound, goes_on_call}
use Rattle.farm_rounds.specs.Finishing.{half_worked}
use Rattle.farm_rounds.proofs.Places.Boxes.{opens_long}
use Rattle.farm_rounds.proofs.Places.Written.{back}
use Rattle.farm_rounds.proofs.Work.Halves.{told, all_told, done, all_done, after_first, after_second}
use Rattle.farm_rounds.proofs.Work.Histories.{came, portions_done_rising, portions_number, same_place, same_partner, leg_after, portion_left, worked_call, worked_octets}

-- ---- the boxes behind each phase

-- a step leaves as many as there were
begun_long : (was new : List (Box OpenCall)) → opens_in new ≡ all_begun (standings was) (opens_in was) → length new ≡ length was
begun_long was new e =
    sym (opens_long new) ∙ ap length e ∙ length-map (opens_in was) (λ (o : OpenCall). open_begun (end_beside (standings was) o) o) ∙ opens_long was

met_long : (was new : List (Box OpenCall)) → opens_in new ≡ all_met (opens_in was) → length new ≡ length was
met_long was new e =
    sym (opens_long new) ∙ ap length e ∙ length-map (opens_in was) (λ (o : OpenCall). met_beside (opens_in was) o o.partner) ∙ opens_long was

pub first_run : (n : ℕ) (items was new run : List (Box OpenCall)) → n ≡ length items → was ≡ items →
    opens_in new ≡ all_begun (standings was) (opens_in was) →
    opens_in run ≡ map (λ b. open_finished b.value) (take n (new ++ drop (length new) items)) → opens_in run ≡ all_told (opens_in items)
first_run n items was new run long same e f =
    let begun : opens_in new ≡ all_begun (standings items) (opens_in items) = e ∙ ap (λ (bs : List (Box OpenCall)). all_begun (standings bs) (opens_in bs)) same in
    after_first (opens_in items) new run begun
    (f ∙ ap (map (λ (b : Box OpenCall). open_finished b.value)) (back n new items long (begun_long items new begun)))

pub second_run : (n : ℕ) (os : List OpenCall) (items was new run : List (Box OpenCall)) →
    n ≡ length items → was ≡ items → opens_in items ≡ all_told os → opens_in new ≡ all_met (opens_in was) →
    opens_in run ≡ map (λ b. open_finished b.value) (take n (new ++ drop (length new) items)) → opens_in run ≡ all_done os
second_run n os items was new run long same t e f =
    let met : opens_in new ≡ all_met (opens_in items) = e ∙ ap (λ (bs : List (Box OpenCall)). all_met (opens_in bs)) same in
    after_second os items new run t met (f ∙ ap (map (λ (b : Box OpenCall). open_finished b.value)) (back n new items long (met_long items new met)))

pub told_long : (items run : List (Box OpenCall)) → opens_in run ≡ all_told (opens_in items) → length run ≡ length items
told_long items run e = sym (opens_long run) ∙ ap length e ∙ length-map (opens_in items) (told (opens_in items)) ∙ opens_long items

pub done_long : (items run : List (Box OpenCall)) → opens_in run ≡ all_done (opens_in items) → length run ≡ length items
done_long items run e = sym (opens_long run) ∙ ap length e ∙ length-map (opens_in items) (done (opens_in items)) ∙ opens_long items

-- ---- what the round tells

module _ (start ended : ℕ) (live : List ℕ) (items run : List (Box OpenCall)) (i : IsRound start ended live (opens_in items))
    (is : opens_in run ≡ all_done (opens_in items)) (r : RoundMemory) (calls : r.farm.calls ≡ calls_of items) (portions : r.portions ≡ portions_of items) where
  pub number_after : length (portions_of run) ≡ length r.portions
  number_after = ap (λ (xs : List OpenCall). length (map portion_of_open xs)) is ∙ portions_number start ended live (opens_in items) i
      ∙ ap (λ (ss : List PortionMemory). length ss) (sym portions)

  pub places_after : (k : ℕ) → k < length r.portions → (portion_at (portions_of run) k).lines ≡ (portion_at r.portions k).lines
  places_after k l =
      let lk : k < length (portions_of items) = subst (λ (ss : List PortionMemory). k < length ss) portions l in
      ap (λ (xs : List OpenCall). (portion_at (map portion_of_open xs) k).lines) is ∙ same_place start ended live (opens_in items) i k lk
      ∙ ap (λ (ss : List PortionMemory). (portion_at ss k).lines) (sym portions)

  pub calls_after : (k : ℕ) → k < length r.portions → call_at (portions_of run) k ≡ call_at r.portions k
  calls_after k l = ap (λ (p : LinesMemory). p.call) (places_after k l)

  pub rising_after : Rising (portions_of run)
  rising_after = subst (λ (xs : List OpenCall). Rising (map portion_of_open xs)) (sym is) (portions_done_rising start ended live (opens_in items) i)

  pub partners_after : (c : ℕ) → partner_in (calls_of run) c ≡ partner_in r.farm.calls c
  partners_after c =
      ap (λ (xs : List OpenCall). partner_in (map kept_of xs) c) is ∙ same_partner start ended live (opens_in items) i c
      ∙ ap (λ (ks : List Kept). partner_in ks c) (sym calls)

  pub legs_after : (k : ℕ) → k < length r.portions → let c = call_at r.portions k in
      option_map (λ (x : Call). x.leg) (call_in (calls_of run) c) ≡ Some (half_worked r c).leg
  legs_after k l =
      let lk : k < length (portions_of items) = subst (λ (ss : List PortionMemory). k < length ss) portions l in
      subst (λ (ss : List PortionMemory). option_map (λ (x : Call). x.leg) (call_in (calls_of run) (call_at ss k)) ≡ Some (half_worked r (call_at ss k)).leg)
      (sym portions)
      (subst (λ (xs : List OpenCall). option_map (λ (x : Call). x.leg) (call_in (map kept_of xs) (call_at (portions_of items) k))
      ≡ Some (half_worked r (call_at (portions_of items) k)).leg) (sym is)
      (leg_after start ended live (opens_in items) i r calls portions k lk))

  pub buffers_after : (k : ℕ) → k < length r.portions → let s = portion_at r.portions k in
      portion_at (portions_of run) k ≡ portion_with s.lines (half_worked r s.lines.call).io
  buffers_after k l =
      let lk : k < length (portions_of items) = subst (λ (ss : List PortionMemory). k < length ss) portions l in
      ap (λ (xs : List OpenCall). portion_at (map portion_of_open xs) k) is ∙ portion_left start ended live (opens_in items) i r calls portions k lk
      ∙ ap (λ (ss : List PortionMemory). portion_with (portion_at ss k).lines (half_worked r (portion_at ss k).lines.call).io) (sym portions)

  -- what the types of the calls say of them
  pub sound_after : All OctetsFit (opens_in run) → All OctetsFit (all_done (opens_in items))
  sound_after s = subst (λ (xs : List OpenCall). All OctetsFit xs) is s

  pub stands_after : All OctetsFit (opens_in run) → (h : ℕ → Option CallHistory) → CallsStand h r.farm.calls → (c : ℕ) →
      WorkedCall (goes_on_call (portions_of run)) c (worked_histories r.portions (partner_in r.farm.calls) h c) (call_in (calls_of run) c) (partner_in (calls_of run) c)
  stands_after sound h stand c =
      let within = came start ended live (opens_in items) i (sound_after sound) in
      subst (λ (xs : List OpenCall). WorkedCall (goes_on_call (map portion_of_open xs)) c (worked_histories r.portions (partner_in r.farm.calls) h c)
      (call_in (map kept_of xs) c) (partner_in (map kept_of xs) c)) (sym is)
      (subst (λ (ss : List PortionMemory). WorkedCall (goes_on_call (map portion_of_open (all_done (opens_in items)))) c (worked_histories ss (partner_in r.farm.calls) h c)
      (call_in (map kept_of (all_done (opens_in items))) c) (partner_in (map kept_of (all_done (opens_in items))) c)) (sym portions)
      (subst (λ (ks : List Kept). WorkedCall (goes_on_call (map portion_of_open (all_done (opens_in items)))) c
      (worked_histories (portions_of items) (partner_in ks) h c)
      (call_in (map kept_of (all_done (opens_in items))) c) (partner_in (map kept_of (all_done (opens_in items))) c)) (sym calls)
      (worked_call start ended live (opens_in items) i r calls portions within h (subst (CallsStand h) calls stand) c)))

  pub octets_after : All OctetsFit (opens_in run) → (h : ℕ → Option CallHistory) → CallsStand h r.farm.calls →
      AreWorked r.portions (worked_histories r.portions (partner_in r.farm.calls) h) (portions_of run)
  octets_after sound h stand =
      let within = came start ended live (opens_in items) i (sound_after sound) in
      subst (λ (xs : List OpenCall). AreWorked r.portions (worked_histories r.portions (partner_in r.farm.calls) h) (map portion_of_open xs)) (sym is)
      (subst (λ (ss : List PortionMemory). AreWorked ss (worked_histories ss (partner_in r.farm.calls) h) (map portion_of_open (all_done (opens_in items)))) (sym portions)
      (subst (λ (ks : List Kept). AreWorked (portions_of items) (worked_histories (portions_of items) (partner_in ks) h)
      (map portion_of_open (all_done (opens_in items)))) (sym calls)
      (worked_octets start ended live (opens_in items) i r calls portions within h (subst (CallsStand h) calls stand))))
