use Rattle.std.proofs.Common.{refl}
use Rattle.run_spec.specs.Run.{spans_in}
use Rattle.run_calls_spec.proofs.Items.{both_have, handed_none}
use Rattle.run_calls_spec.proofs.Frames.{item_frame, item_good}
use Rattle.run_calls_spec.proofs.Told.{spans_told}
use Rattle.run_calls_spec.proofs.laws.items_are_the_partners_frames.Goals as goal

pub returns-clause-hands : goal.returns-clause-hands
returns-clause-hands g = λ r are. record {
  reported = λ failed. spans_told r (spans_in r);
  line_for_each = λ failed. refl;
  both = λ c t x. both_have r c t x are;
  within = λ c t x. item_frame (record { newest = g.the_newest_is_the_last.ensures; table = g.steps_give_effectives.ensures }) r c t x are;
  outside = λ c t. handed_none r c t are;
}

pub returns-clause-good : goal.returns-clause-good
returns-clause-good g = item_good
