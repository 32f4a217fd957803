use Rattle.rx_handler.proofs.Runs.{all_received-first}
use Rattle.rx_handler.proofs.laws.steps_give_effectives.Goals as goal

pub returns : goal.returns
returns c = all_received-first
