use Rattle.std.proofs.Common.{inl, Ok}
use Rattle.farm_top.proofs.Headlining.{orders_read, saved_and_told}
use Rattle.farm_top.proofs.save.save_farm.Goals as goal

pub returns-in-Ok-save : goal.returns-in-Ok-save
returns-in-Ok-save g c =
    let read = c.in-Ok.ensures in
    let saved = saved_and_told c.lines_have_the_headline.ensures.whole _ c.args.settings _ c.pace_of.ensures _ _ _ _ _ _
    (orders_read _ _ _ read.reads) c.in-Ok-save.ensures.saves c.tell_saved.ensures in
    record {
      read = g.D.Desk.desk c.read_orders.new.desk;
      reading = Ok c.in-Ok.orders;
      reads = read.reads;
      told = read.told;
      unread = read.unread;
      calm = read.calm;
      written = read.written;
      write_faults = read.write_faults;
      follows = inl saved;
    }
