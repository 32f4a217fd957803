use Rattle.std.proofs.Common.{◌∙◌, subst, Ok, Err, rules}
use Rattle.trau_io.specs.Transfer.{Tells}
use Rattle.ccu_end.specs.Heard.{frames_of}
use Rattle.ccu_end.proofs.Period.{down_stays, ends_inside, fails_inside, half_answered, half_told, takes_by, up_stays, whole_taken}
use Rattle.ccu_end.proofs.recording.follow_period.Goals as goal

pub returns-in-Ended-clause-period : goal.returns-in-Ended-clause-period
returns-in-Ended-clause-period g c = ends_inside c.args.ccu.now c.args.ccu.now _ _ _ _ _ c.read_block.new.block
    (down_stays _ _ c.args.call c.in-Ended.ensures.others) c.in-Ended.count (search rules) c.in-Ended.ensures.this

pub returns-in-Failed-clause-period : goal.returns-in-Failed-clause-period
returns-in-Failed-clause-period g c = fails_inside c.args.ccu.now c.args.ccu.now _ _ _ _ _ c.read_block.new.block
    (down_stays _ _ c.args.call c.in-Failed.ensures.others) c.in-Failed.field-0 (search rules) c.in-Failed.ensures.this

pub returns-in-Err-clause-period : goal.returns-in-Err-clause-period
returns-in-Err-clause-period g c =
    half_answered c.args.ccu.now c.send_up.new.ccu _ _ _ _ _ _ _ c.read_block.new.block (frames_of c.feed-heard.result)
    c.in-Whole.ensures.this (up_stays _ _ c.args.call c.in-Err.ensures.others) (down_stays _ _ c.args.call c.in-Whole.ensures.others)
    c.feed-heard.new.self c.in-Err.ensures.same
    (takes_by c.args.ccu.now c.feed-heard.new.self c.read_block.new.block c.feed-heard.result
    (search rules) c.feed-heard.ensures.counted c.feed-heard.ensures.want c.feed-heard.ensures.history)
    c.in-Err.ensures.this

pub returns-in-Err-tell-clause-period : goal.returns-in-Err-tell-clause-period
returns-in-Err-tell-clause-period g c =
    half_told c.args.ccu.now c.send_up.new.ccu _ _ _ _ _ _ _ c.read_block.new.block (frames_of c.feed-heard.result)
    c.in-Whole.ensures.this (up_stays _ _ c.args.call c.in_default.ensures.others) (down_stays _ _ c.args.call c.in-Whole.ensures.others)
    c.feed-heard.new.self c.in_default.ensures.same
    (takes_by c.args.ccu.now c.feed-heard.new.self c.read_block.new.block c.feed-heard.result
    (search rules) c.feed-heard.ensures.counted c.feed-heard.ensures.want c.feed-heard.ensures.history)
    _ c.in_default.ensures.this
    (subst (λ text. Tells (g.D.Desk.desk c.args.desk.now) (g.D.Desk.desk c.tell.new.desk) (Err (record {})) text)
    (c.as_bytes.ensures.value ∙ c.deref.ensures.0 ∙ c.lines.ensures) c.in-Err-tell.ensures)

pub returns-in-Ok-clause-period : goal.returns-in-Ok-clause-period
returns-in-Ok-clause-period g c =
    whole_taken c.args.ccu.now c.send_up.new.ccu _ _ _ _ _ _ _ c.read_block.new.block (frames_of c.feed-heard.result)
    c.in-Whole.ensures.this (up_stays _ _ c.args.call c.in_default.ensures.others) (down_stays _ _ c.args.call c.in-Whole.ensures.others)
    c.feed-heard.new.self c.in_default.ensures.same
    (takes_by c.args.ccu.now c.feed-heard.new.self c.read_block.new.block c.feed-heard.result
    (search rules) c.feed-heard.ensures.counted c.feed-heard.ensures.want c.feed-heard.ensures.history)
    _ c.in_default.ensures.this c.count.result c.count.ensures
    (subst (λ text. Tells (g.D.Desk.desk c.args.desk.now) (g.D.Desk.desk c.tell.new.desk) (Ok tt) text)
    (c.as_bytes.ensures.value ∙ c.deref.ensures.0 ∙ c.lines.ensures) c.in-Ok.ensures)
