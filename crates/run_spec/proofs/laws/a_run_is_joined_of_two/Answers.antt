use Rattle.run_spec.proofs.Parts.Joined.{joins}
use Rattle.run_spec.proofs.laws.a_run_is_joined_of_two.Goals as goal

pub returns : goal.returns
returns g = joins
