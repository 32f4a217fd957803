use Rattle.farm_live.proofs.Wholes.{out_whole, down_whole}
use Rattle.farm_live.proofs.laws.legal_histories_are_whole_calls.Goals as goal

pub returns-clause-out : goal.returns-clause-out
returns-clause-out c = λ call es legal. out_whole call es legal c.lines_of_a_call.ensures.out

pub returns-clause-down : goal.returns-clause-down
returns-clause-down c = λ call es legal. down_whole call es legal c.lines_of_a_call.ensures.down
