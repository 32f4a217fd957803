use Rattle.run_calls_spec.specs.Whole.{whole_call}
use Rattle.run_calls_spec.proofs.Apart.{other_differs}
use Rattle.run_calls_spec.proofs.Periods.{is_whole}
use Rattle.run_calls_spec.proofs.laws.items_change_nothing_else.Goals as goal

pub returns : goal.returns
returns g = λ r c other are opened. other_differs (whole_call r c) other (is_whole r c are opened)
