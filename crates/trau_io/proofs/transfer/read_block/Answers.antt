use Rattle.std.proofs.Common.{rules, ◌∙◌}
use Rattle.trau_io.proofs.Runs.{filled_more, filled_all, filled_ended, filled_failed, others_more, length_filled}
use Rattle.trau_io.proofs.transfer.read_block.Goals as goal

pub loop-filled-preserved : goal.loop-filled-preserved
loop-filled-preserved g c = record {
  this = filled_more _ _ _ _ _ _ _ c.loop-filled.invariant.this c.in-Ok.ensures.this (search rules);
  others = others_more _ _ _ _ _ c.loop-filled.invariant.others c.in-Ok.ensures.others;
  same = length_filled _ _ _ (search rules) (search rules) ∙ c.loop-filled.invariant.same;
}

pub returns-in-Ok-eq0-clause-this : goal.returns-in-Ok-eq0-clause-this
returns-in-Ok-eq0-clause-this g c = filled_ended _ _ _ _ c.loop-filled.block c.read.new.buf c.loop-filled.invariant.this c.loop-filled-test.true
    (search rules) c.in-Ok-eq0.field-0 c.in-Ok-eq0.ensures.this c.in-Ok-eq0.field-0-test

pub returns-in-Err-clause-this : goal.returns-in-Err-clause-this
returns-in-Err-clause-this g c = filled_failed _ _ _ _ c.loop-filled.block c.read.new.buf c.loop-filled.invariant.this c.loop-filled-test.true
    (search rules) c.in-Err.field-0 c.in-Err.ensures.this

pub returns-clause-this : goal.returns-clause-this
returns-clause-this g c = filled_all _ _ _ _ c.loop-filled.invariant.this c.loop-filled-test.false
