use Rattle.std.proofs.Common.{rules, ◌∙◌}
use Rattle.trau_io.proofs.Filling.{filled_more, filled_all, filled_ended, filled_failed}
use Rattle.trau_io.proofs.Runs.{length_filled}
use Rattle.trau_io.proofs.transfer.read_desk.Goals as goal

pub loop-filled-preserved : goal.loop-filled-preserved
loop-filled-preserved g c = record {
  this = filled_more _ _ _ _ _ _ _ c.loop-filled.invariant.this c.in-Ok.ensures (search rules);
  same = length_filled _ _ _ (search rules) (search rules) ∙ c.loop-filled.invariant.same;
}

pub returns-in-Ok-eq0 : goal.returns-in-Ok-eq0
returns-in-Ok-eq0 g c = filled_ended _ _ _ _ c.loop-filled.block c.read.new.buf c.loop-filled.invariant.this c.loop-filled-test.true
    (search rules) c.in-Ok-eq0.field-0 c.in-Ok-eq0.ensures c.in-Ok-eq0.field-0-test

pub returns-in-Err : goal.returns-in-Err
returns-in-Err g c = filled_failed _ _ _ _ c.loop-filled.block c.read.new.buf c.loop-filled.invariant.this c.loop-filled-test.true
    (search rules) c.in-Err.field-0 c.in-Err.ensures

pub returns : goal.returns
returns g c = filled_all _ _ _ _ c.loop-filled.invariant.this c.loop-filled-test.false
