use Rattle.std.proofs.Common.{◌≡◌, max, inl, inr, subst, rules, Ok}
use Rattle.farm_run.specs.declared.pace.Pace.{Pace}
use Rattle.farm_run.specs.Resuming.{FindsDifference, IsResumeCutShort}
use Rattle.farm_top.specs.Farm.{EndsWith}
use Rattle.farm_top.specs.Resume.{differs_text}
use Rattle.farm_top.proofs.Headlining.{marked_orders_read, resumed_and_told}
use Rattle.farm_top.proofs.resume.resume_farm.Goals as goal

pub returns-in-Ok-Ran : goal.returns-in-Ok-Ran
returns-in-Ok-Ran g c =
    let read = c.in-Ok.ensures in
    let resumes = rw c.in-Ok-Ran.field-0-is at c.in-Ok-Ran.ensures.resumes in
    let ran = resumed_and_told c.lines_have_the_headline.ensures.later c.in-Ok.marked c.args.settings _ c.pace_of.ensures _ _ _ _ _ _
    (marked_orders_read _ _ c.in-Ok.marked read.reads) resumes c.tell_report.ensures in
    record {
      read = g.D.Desk.desk c.read_marked_orders.new.desk;
      reading = Ok c.in-Ok.marked;
      reads = read.reads;
      told = read.told;
      unread = read.unread;
      calm = read.calm;
      written = read.written;
      write_faults = read.write_faults;
      follows = inl ran;
    }

pub returns-in-Ok-Differs : goal.returns-in-Ok-Differs
returns-in-Ok-Differs g c =
    let read = c.in-Ok.ensures in
    let finds = subst (λ (p : Pace). FindsDifference c.in-Ok.marked.orders p c.in-Ok.marked.mark (g.T.Trunk.lines c.args.trunk.now)
    (g.T.Trunk.lines c.resume.new.trunk) c.in-Ok-Differs.call) c.pace_of.ensures (rw c.in-Ok-Differs.field-0-is at c.in-Ok-Differs.ensures.resumes) in
    let is : c.as_bytes.result.now ≡ differs_text c.in-Ok-Differs.call = search rules in
    record {
      read = g.D.Desk.desk c.read_marked_orders.new.desk;
      reading = Ok c.in-Ok.marked;
      reads = read.reads;
      told = read.told;
      unread = read.unread;
      calm = read.calm;
      written = read.written;
      write_faults = read.write_faults;
      follows = inr (inl (record {
        call = c.in-Ok-Differs.call;
        finds = finds;
        ends = subst (λ t. EndsWith (g.D.Desk.desk c.read_marked_orders.new.desk) (g.D.Desk.desk c.refuse.new.desk) t 9 c.refuse.result) is c.refuse.ensures;
      }));
    }

pub returns : goal.returns
returns g c =
    let read = c.in-Ok.ensures in
    let cut = subst
    (λ (p : Pace). IsResumeCutShort c.in-Ok.marked.orders p.batch (max c.in-Ok.marked.mark.period p.periods) c.in-Ok.marked.mark
    (g.T.Trunk.lines c.args.trunk.now) (g.T.Trunk.lines c.resume.new.trunk))
    c.pace_of.ensures c.in-Err-resume.ensures.cut in
    record {
      read = g.D.Desk.desk c.read_marked_orders.new.desk;
      reading = Ok c.in-Ok.marked;
      reads = read.reads;
      told = read.told;
      unread = read.unread;
      calm = read.calm;
      written = read.written;
      write_faults = read.write_faults;
      follows = inr (inr (cut, c.no_memory.ensures));
    }
