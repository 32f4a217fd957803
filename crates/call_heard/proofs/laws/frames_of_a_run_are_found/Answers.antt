use Rattle.std.proofs.Common.{ap, ◌∙◌}
use Rattle.trau_bits.specs.Bits.{bits_of}
use Rattle.call_spec.proofs.Reading.{LooksBack}
use Rattle.run_calls_spec.specs.Whole.{whole_call}
use Rattle.call_heard.proofs.Lines.{line_bits-octets}
use Rattle.call_heard.proofs.Runs.{run-bits, run-hands}
use Rattle.call_heard.proofs.laws.frames_of_a_run_are_found.Goals as goal

pub returns-clause-items : goal.returns-clause-items
returns-clause-items c = run-hands

pub returns-clause-found : goal.returns-clause-found
returns-clause-found g =
    λ r c orders opened. g.frames_of_a_call_are_found.ensures.found (whole_call r c) (g.calls_are_whole.ensures.whole r c orders opened) (run-hands r c)

pub returns-clause-heard : goal.returns-clause-heard
returns-clause-heard g = λ r c past heard orders opened same are.
    let whole = g.calls_are_whole.ensures.whole r c orders opened in
    let look : LooksBack = record { newest = g.the_newest_is_the_last.ensures; table = g.steps_give_effectives.ensures } in
    g.frames_of_a_call_are_found.ensures.heard (whole_call r c) past heard whole (run-hands r c)
    (line_bits-octets past ∙ ap bits_of same ∙ run-bits look r c whole) are

pub returns-clause-each : goal.returns-clause-each
returns-clause-each g = λ r c orders opened. g.frames_of_a_call_are_found.ensures.each (whole_call r c) (g.calls_are_whole.ensures.whole r c orders opened)

pub returns-clause-places : goal.returns-clause-places
returns-clause-places g = λ r c orders opened. g.frames_of_a_call_are_found.ensures.places (whole_call r c) (g.calls_are_whole.ensures.whole r c orders opened)
