use Rattle.std.proofs.Common.{rules}
use Rattle.trau_frame.proofs.reading.class.Goals as goal

pub returns-in-Speech-eq0-eq2 : goal.returns-in-Speech-eq0-eq2
returns-in-Speech-eq0-eq2 c = search rules
