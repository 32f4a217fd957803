use Rattle.std.proofs.Common.{refl, ◌∙◌}
use Rattle.farm_run.proofs.saving.keep.Goals as goal

pub returns : goal.returns
returns c = record {
  failed = c.in_ok-to_vec.ensures.items_if_clones_equal (λ x y h. h) ∙ c.failed.ensures.value;
  period = refl;
  calls = c.in_ok-mark_calls.ensures.calls;
  live = c.in_ok-mark_calls.ensures.live;
  rising = c.in_ok-mark_calls.ensures.rising;
}
