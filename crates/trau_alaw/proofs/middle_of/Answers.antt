use Rattle.std.proofs.Common.{◌≡◌, ℕ, ◌+◌, ◌*◌, ◌/◌, ◌%◌, ◌^◌, ◌<◌, ap, sym, subst, ◌∙◌, arith}
use Rattle.trau_alaw.specs.Alaw.{alaw_least, alaw_width}
use Rattle.trau_alaw.proofs.Segments.{shifted_middle, middle_below}
use Rattle.trau_alaw.proofs.middle_of.Goals as goal

is_middle : (segment step n : ℕ) → segment < 8 → step < 16 → 0 < segment → n ≡ step →
    (2 * n + 1 + 32) * 2 ^ (segment + 2) % 65536 ≡ alaw_least segment step + alaw_width segment / 2
is_middle segment step n l m p e = ap (λ k. (2 * k + 1 + 32) * 2 ^ (segment + 2) % 65536) e ∙ shifted_middle segment step l m p

pub returns-else-segment-eq0-clause-value : goal.returns-else-segment-eq0-clause-value
returns-else-segment-eq0-clause-value c =
    is_middle c.args.segment c.args.step c.from.result c.requires.segment c.requires.step (omega arith) c.from.ensures

pub returns-else-segment-eq0-clause-below : goal.returns-else-segment-eq0-clause-below
returns-else-segment-eq0-clause-below c =
    let e = is_middle c.args.segment c.args.step c.from.result c.requires.segment c.requires.step (omega arith) c.from.ensures in
    subst (λ n. n < 32768) (sym e) (middle_below c.args.segment c.args.step c.requires.segment c.requires.step)
