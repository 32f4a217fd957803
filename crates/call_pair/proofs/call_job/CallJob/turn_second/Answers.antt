use Rattle.std.proofs.Common.{◌≡◌, ◌≢◌, ◌∙◌, ℕ, ◌<◌, ◌≤◌, Bool, true, false, ◌&&◌, ◌==◌, if◌then◌else◌, length, vec_capacity, refl, ap, subst, arith}
use Rattle.std.proofs.lemmas.Bool.{eqb-false}
use Rattle.std.proofs.lemmas.List.{length-map}
use Rattle.rx_handler.specs.State.{effective_fields}
use Rattle.call_leg.specs.Memory.{DownMemory}
use Rattle.call_leg.specs.Step.{bridge_over}
use Rattle.call_pair.specs.Kept.{IsJob, IsSecond}
use Rattle.call_pair.specs.Phases.{CallMemory, down_before}
use Rattle.call_pair.specs.declared.call_job.Phase.{Phase}
use Rattle.call_pair.specs.contracts.call_job.CallJob.{the_view}
use Rattle.call_pair.proofs.call_job.CallJob.turn_second.Goals as goal

-- a half that is still bridged had a bridge that doesn't end here
goes_on : (b t : Bool) (d : DownMemory) → d.bridged ≡ b →
    (if b && t then bridge_over d else d).bridged ≡ true → (b ≡ true) × (t ≡ false)
goes_on true true d e on = absurd (cc)
goes_on true false d e on = (refl, refl)
goes_on false t d e on = absurd (cc)

-- If the half is bridged, the partner's frame of the place exists.
frame_there : (m k n : ℕ) (d : DownMemory) → m ≤ n → (d.bridged ≡ true → k ≤ m) →
    (down_before m k d).bridged ≡ true → k < n
frame_there m k n d le over on =
    let still = goes_on d.bridged (k == m) d refl on in
    let ne : k ≢ m = eqb-false k m still.1 in
    omega (arith, over still.0, ne, le)

pub work_down-requires-clause-partner : goal.work_down-requires-clause-partner
work_down-requires-clause-partner c =
    let job = c.self.inside in
    let second = ap (λ (j : CallMemory). j.phase) c.self.view_is ∙ c.requires.second in
    let kept : IsSecond (the_view job) =
    subst (λ (p : Phase). IsJob p (the_view job) (vec_capacity job.notes) (vec_capacity job.partner)) second c.self.invariant in
    let long = length-map job.partner.items effective_fields in
    frame_there job.bridge_end job.io.done (length c.deref-2.result.now) job.down (omega (arith, kept.partner, long, ap length c.deref-2.ensures.value))
    kept.over
