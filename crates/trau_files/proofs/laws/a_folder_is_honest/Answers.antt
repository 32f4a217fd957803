use Rattle.trau_files.proofs.Honest.OnPaper.{honest_on_paper}
use Rattle.trau_files.proofs.laws.a_folder_is_honest.Goals as goal

pub returns : goal.returns
returns c = honest_on_paper
