use Rattle.std.proofs.Common.{inl, Ok}
use Rattle.farm_top.proofs.Headlining.{orders_read, ran_and_told}
use Rattle.farm_top.proofs.farm.run_farm.Goals as goal

pub returns-in-Ok-run : goal.returns-in-Ok-run
returns-in-Ok-run g c =
    let read = c.in-Ok.ensures in
    let ran = ran_and_told c.lines_have_the_headline.ensures.whole _ c.args.settings _ c.pace_of.ensures _ _ _ _ _ _
    (orders_read _ _ _ read.reads) c.in-Ok-run.ensures.runs c.tell_report.ensures in
    record {
      read = g.D.Desk.desk c.read_orders.new.desk;
      reading = Ok c.in-Ok.orders;
      reads = read.reads;
      told = read.told;
      unread = read.unread;
      calm = read.calm;
      written = read.written;
      write_faults = read.write_faults;
      follows = inl ran;
    }
