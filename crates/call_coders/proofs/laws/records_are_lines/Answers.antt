use Rattle.call_coders.proofs.Lines.{out, down}
use Rattle.call_coders.proofs.laws.records_are_lines.Goals as goal

pub returns-clause-out : goal.returns-clause-out
returns-clause-out c = out

pub returns-clause-down : goal.returns-clause-down
returns-clause-down c =
    down (record {
      contents = c.the_transmit_side_gives_the_down_line.ensures.contents;
      line = c.the_transmit_side_gives_the_down_line.ensures.line;
      records = c.whole_frames_are_heard.ensures.records;
    })
