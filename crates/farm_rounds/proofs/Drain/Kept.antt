-- What draining keeps of a call: all but the marks of its outgoing lines.
use Rattle.std.proofs.Common.{◌≡◌, ap, ◌∙◌, ℕ, zero, suc, ◌<◌, Option, List, [], ◌∷◌, length, arith}
use Rattle.std.specs.Prelude.{slice_set}
use Rattle.std.specs.Global.{Box}
use Rattle.trau_io.specs.declared.line.Side.{Side}
use Rattle.trau_io.specs.Lines.{LineState}
use Rattle.call_pair.specs.Phases.{CallMemory}
use Rattle.round_lines.specs.declared.transfer.Outlet.TheVariants.{Sound}
use Rattle.round_lines.specs.Memory.{LinesMemory}
use Rattle.round_lines.specs.Portions.{PortionMemory, Drains}
use Rattle.farm_rounds.specs.declared.open.OpenCall.{OpenCall}
use Rattle.farm_rounds.specs.Opens.{portion_of_open, same_call}
use Rattle.farm_rounds.specs.Opened.{open_at, same_calls}

abbrev without_marks : LinesMemory → LinesMemory
without_marks p = record p { down = Sound; out = Sound }

abbrev open_with : CallMemory → LinesMemory → Option ℕ → OpenCall
open_with j p partner = record { job = j; lines = p; partner = partner }

pub drained_same : (a b : Side → LineState) (o q : OpenCall) → Drains a b (portion_of_open o) (portion_of_open q) → q.job ≡ o.job → q.partner ≡ o.partner →
    same_call q ≡ same_call o
drained_same a b o q drains job partner =
    let place : without_marks q.lines ≡ without_marks o.lines = ap (λ (s : PortionMemory). without_marks s.lines) drains.kept in
    ap (λ (j : CallMemory). open_with j (without_marks q.lines) q.partner) job
    ∙ ap (λ (p : LinesMemory). open_with o.job p q.partner) place
    ∙ ap (λ (p : Option ℕ). open_with o.job (without_marks o.lines) p) partner

pub same_calls_set : (bs : List (Box OpenCall)) (k : ℕ) (b : Box OpenCall) → k < length bs → same_call b.value ≡ same_call (open_at bs k) →
    same_calls (slice_set bs k b) ≡ same_calls bs
same_calls_set [] k b l e = absurd (omega arith)
same_calls_set (x ∷ bs) zero b l e = ap (λ (o : OpenCall). o ∷ same_calls bs) e
same_calls_set (x ∷ bs) (suc k) b l e = ap (λ (os : List OpenCall). same_call x.value ∷ os) (same_calls_set bs k b (omega arith) e)
