use Rattle.std.proofs.Common.{◌*◌, subst}
use Rattle.ccu_end.specs.Found.{Found, all_within}
use Rattle.ccu_end.specs.Heard.{all_of}
use Rattle.call_spec.specs.Call.{periods}
use Rattle.call_spec.specs.Down.{down}
use Rattle.call_heard.specs.Heard.{found_of}
use Rattle.call_heard.proofs.Calls.{call-each, call-found, call-places}
use Rattle.call_heard.proofs.laws.frames_of_a_call_are_found.Goals as goal

pub returns-clause-found : goal.returns-clause-found
returns-clause-found c = call-found (record { newest = c.the_newest_is_the_last.ensures; table = c.steps_give_effectives.ensures })

pub returns-clause-places : goal.returns-clause-places
returns-clause-places c = call-places (record { newest = c.the_newest_is_the_last.ensures; table = c.steps_give_effectives.ensures })

pub returns-clause-each : goal.returns-clause-each
returns-clause-each c = call-each (record { newest = c.the_newest_is_the_last.ensures; table = c.steps_give_effectives.ensures })

pub returns-clause-heard : goal.returns-clause-heard
returns-clause-heard c =
    λ call past heard whole items same are. c.one_list.ensures (down call) (all_of heard) (all_within (320 * periods call) (found_of call))
    (subst (λ bits. Found bits (all_of heard)) same are.all) (returns-clause-found c call whole items)
