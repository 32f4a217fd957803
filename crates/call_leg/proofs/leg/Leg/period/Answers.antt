use Rattle.std.proofs.Common.{sym, ap, ◌∙◌, ℕ, List, None}
use Rattle.trau_bits.specs.Bits.{bits_of}
use Rattle.rx_handler.specs.Origin.{EffectiveFields}
use Rattle.call_leg.specs.Memory.{DownMemory, LegMemory}
use Rattle.call_leg.specs.Step.{with_down, down_worked}
use Rattle.call_leg.proofs.leg.Leg.period.Goals as goal

pub returns-clause-history : goal.returns-clause-history
returns-clause-history c = λ who ts now h n. c.down_half.ensures.history who ts now c.args.up.now None (sym n) (c.up_half.ensures.history who ts now h)

pub returns-clause-out : goal.returns-clause-out
returns-clause-out c = λ who ts now h n. c.up_half.ensures.out c.args.pcm.now None who ts now h (sym n)

pub returns-clause-down : goal.returns-clause-down
returns-clause-down c = λ who ts now h n. c.down_half.ensures.down who ts now c.args.up.now None (sym n) (c.up_half.ensures.history who ts now h)

pub returns-clause-step : goal.returns-clause-step
returns-clause-step c =
    ap (λ (f : EffectiveFields × List ℕ × LegMemory). let last = down_worked f.2.down c.args.pcm.now in (f.1, last.0, with_down f.2 last.1))
    c.up_half.ensures.step
    ∙ ap (λ (l : List ℕ × DownMemory). (c.up_half.new.out, l.0, with_down c.up_half.new.self l.1)) c.down_half.ensures.bits
    ∙ ap (λ (m : LegMemory). (c.up_half.new.out, bits_of c.down_half.new.down, m)) (sym c.down_half.ensures.step)
