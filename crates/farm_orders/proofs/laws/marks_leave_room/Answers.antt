use Rattle.std.proofs.Common.{◌++◌, length-append, refl, arith}
use Rattle.farm_checkpoint.specs.Text.{mark_text}
use Rattle.farm_orders.proofs.laws.marks_leave_room.Goals as goal

pub returns : goal.returns
returns c = λ mark rest orders desk is within spelled told.
    let short = c.marks_are_short.ensures mark is in
    let both = length-append (mark_text mark) rest in
    record {
      text = mark_text mark ++ rest;
      told = told;
      short = omega (arith, short, both, within.0);
      rest = rest;
      has = record { is = is; whole = refl };
      within = within;
      spelled = spelled;
    }
