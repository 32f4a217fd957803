use Rattle.std.proofs.Common.{◌∙◌, ◌/◌, ap, length, take, rules}
use Rattle.trau_submux.proofs.Channels.{length-channel}
use Rattle.trau_submux.proofs.Splitting.{front_of_block, front_of_whole}
use Rattle.trau_submux.proofs.cut.cut_block.Goals as goal

pub returns-in-Some-clause-long : goal.returns-in-Some-clause-long
returns-in-Some-clause-long c = λ j below.
    let whole = c.in-Some.ensures.cases in
    ap length (c.split4.ensures.channels j below) ∙ length-channel j c.in-Some.slot.now 40 (ap length whole.same ∙ whole.long)

pub returns-in-Some-clause-channels : goal.returns-in-Some-clause-channels
returns-in-Some-clause-channels c = λ j below.
    let whole = c.in-Some.ensures.cases in
    ap (take (length c.args.block.now / 4)) (c.split4.ensures.channels j below)
    ∙ front_of_whole j c.in-Some.slot.now c.args.block.now whole.long whole.same

pub returns-in-None-clause-long : goal.returns-in-None-clause-long
returns-in-None-clause-long c = λ j below.
    ap length (c.split4-in-None.ensures.channels j below) ∙ length-channel j c.filled.result 40 (search rules)

pub returns-in-None-clause-channels : goal.returns-in-None-clause-channels
returns-in-None-clause-channels c = λ j below.
    ap (take (length c.args.block.now / 4)) (c.split4-in-None.ensures.channels j below)
    ∙ front_of_block j c.filled.result c.args.block.now (search rules) c.requires c.filled.ensures
