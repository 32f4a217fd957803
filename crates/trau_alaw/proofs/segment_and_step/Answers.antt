use Rattle.std.proofs.Common.{◌∙◌, ap, min, ◌+◌, ◌/◌, ◌%◌}
use Rattle.trau_alaw.proofs.Segments.{IsAt, found}
use Rattle.trau_alaw.proofs.segment_and_step.Goals as goal

at : (c : goal.After-min-3) → IsAt (c.min-3.result / 16) (c.min-3.result % 16) c.args.magnitude
at c =
    found c.args.magnitude c.min-3.result c.requires
    (record {
      low = c.min-low.result;
      middle = c.min-middle.result;
      high = c.min-high.result;
      low_is = c.min-low.ensures;
      middle_is = c.min-middle.ensures;
      high_is = c.min-high.ensures;
      is = c.min-3.ensures ∙ (λ i. min ((c.min-2.ensures ∙ ap (λ n. min n c.min-high.result) c.min.ensures) i) (c.args.magnitude / 1024 + 96));
    })

pub returns-clause-at_least : goal.returns-clause-at_least
returns-clause-at_least c = (at c).at_least

pub returns-clause-within : goal.returns-clause-within
returns-clause-within c = (at c).within
