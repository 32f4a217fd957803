use Rattle.std.proofs.Common.{rules}
use Rattle.ccu_end.proofs.Said.{alike-synced, said-idle, said-speech, said-neither}
use Rattle.ccu_end.proofs.frame.read_down.Goals as goal

pub read_up-requires-clause-synced : goal.read_up-requires-clause-synced
read_up-requires-clause-synced c =
    alike-synced c.args.window.now c.frame_from-bits.result c.args.o c.frame_from-bits.ensures.same c.requires.synced

pub returns-in-14-clause-value : goal.returns-in-14-clause-value
returns-in-14-clause-value c =
    said-idle c.args.window.now c.frame_from-bits.result c.args.o c.pattern.result c.frame_from-bits.ensures.same c.pattern.ensures c.in-14.is

pub returns-in-28-clause-value : goal.returns-in-28-clause-value
returns-in-28-clause-value c =
    said-speech c.args.window.now c.frame_from-bits.result c.read_up.result.d c.args.o c.pattern.result c.control.result
    c.frame_from-bits.ensures.same c.pattern.ensures c.in-28.is c.read_up.ensures.data_bits c.control.ensures.value

pub returns-in_default-clause-value : goal.returns-in_default-clause-value
returns-in_default-clause-value c =
    said-neither c.args.window.now c.frame_from-bits.result c.args.o c.pattern.result c.frame_from-bits.ensures.same c.pattern.ensures
    (search rules) (search rules)
