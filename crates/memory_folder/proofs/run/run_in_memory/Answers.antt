use Rattle.memory_folder.proofs.Leaving.{left_in_memory}
use Rattle.memory_folder.proofs.run.run_in_memory.Goals as goal

pub returns-clause-files : goal.returns-clause-files
returns-clause-files g c = left_in_memory _ _ _ _ _ _ _ _ c.into_folder.ensures c.in_ok-status.ensures.top c.in_ok-status.ensures.files
