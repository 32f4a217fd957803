-- What the jobs give, for every history of their calls.
use Rattle.std.proofs.Common.{◌≡◌, ℕ, ◌≤◌, min, length, [], refl, sym, ap, subst, ◌∙◌}
use Rattle.std.proofs.Common.{arith}
use Rattle.std.proofs.lemmas.List.{length-map, length-take-le}
use Rattle.call_leg.specs.Halves.{Note}
use Rattle.call_pair.specs.Memory.{IoMemory, HalfMemory, One, Two}
use Rattle.call_pair.specs.Jobs.{finished_job}
use Rattle.call_pair.specs.History.{Start, Begins}
use Rattle.call_pair.specs.Phases.{CallMemory, first_phase, frames_in}
use Rattle.call_pair.specs.Told.{OneRuns, TwoRun}
use Rattle.call_pair.proofs.Phased.{first_effective, half_run, one-phased, two-phased}
use Rattle.call_pair.proofs.UplinkRuns.{none-done, up-run, first-is}
use Rattle.call_pair.proofs.DownlinkRuns.{half-runs}

-- ---- the jobs

-- the job of one call gives the runs of its halves
pub one-runs : (s : Start) (h : HalfMemory) → Begins s h → OneRuns s (finished_job (One h))
one-runs s h b = record { half = half_run 0 [] h; notes = (first_phase 0 h).notes; is_one = one-phased h (none-done s h 0 b); run = half-runs s h 0 b [] refl }

-- as many frames as both have places
first_frames-long : (s : Start) (h : HalfMemory) (m : ℕ) → Begins s h → m ≤ s.io.given →
    length (first_effective m h) ≡ m
first_frames-long s h m b le =
    let ns = (first_phase m h).notes in
    let all = subst (λ (j : CallMemory). length j.notes ≡ s.io.given) (sym (first-is s h m b)) (up-run s h m b).all in
    length-take-le m (frames_in ns) (omega (arith, le, all, length-map ns (λ (x : Note). x.eff)))

-- the job of two gives those of both, each with the other's frames
pub two-run : (a b : Start) (g h : HalfMemory) → Begins a g → Begins b h → TwoRun a b (finished_job (Two g h))
two-run a b g h s t =
    let m = min a.io.given b.io.given in
    let end : min g.io.given h.io.given ≡ m = ap (λ (io : IoMemory). min io.given h.io.given) s.io ∙ ap (λ (io : IoMemory). min a.io.given io.given) t.io in
    record {
      first = half_run m (first_effective m h) g;
      second = half_run m (first_effective m g) h;
      first_notes = (first_phase m g).notes;
      second_notes = (first_phase m h).notes;
      are_two = two-phased g h (none-done a g m s) (none-done b h m t) ∙ ap (λ (i : ℕ). Two (half_run i (first_effective i h) g) (half_run i (first_effective i g) h)) end;
      first_run = half-runs a g m s (first_effective m h) (first_frames-long b h m t (omega arith));
      second_run = half-runs b h m t (first_effective m g) (first_frames-long a g m s (omega arith));
    }
