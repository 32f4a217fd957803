use Rattle.std.proofs.Common.{◌≡◌, ℕ, ◌+◌, refl, sym, ap, ◌∙◌, arith}
use Rattle.trau_bits.specs.Bits.{octets_of}
use Rattle.trau_frame.specs.UpBits.{bits_saying}
use Rattle.farm_drill.specs.Draws.{draw, first_draw, first_loud_draw}
use Rattle.farm_drill.proofs.Drawing.{state-along}
use Rattle.farm_drill.proofs.Octets.{up-none, up-some, words-drawn}
use Rattle.farm_drill.proofs.periods.uplink.Goals as goal

pub returns-then-choice-ge250-clause-octets : goal.returns-then-choice-ge250-clause-octets
returns-then-choice-ge250-clause-octets c = λ seed call e.
    sym (up-none seed call c.args.period c.draw-choice.result (c.draw-choice.ensures.draw seed call (first_draw c.args.period) e) c.if-choice-ge250.true)

pub returns-clause-now : goal.returns-clause-now
returns-clause-now c = λ seed call e.
    let first : ℕ = first_draw c.args.period in
    let same : first + 1 + 260 + 1 ≡ first_loud_draw c.args.period = omega arith in
    state-along seed call (first + 1 + 260 + 1) (first_loud_draw c.args.period) c.draw-ask.new.self.x same
    (c.draw-ask.ensures.now seed call (first + 1 + 260) (c.bits-data.ensures.now seed call (first + 1) (c.draw-choice.ensures.now seed call first e)))

pub returns-clause-octets : goal.returns-clause-octets
returns-clause-octets c = λ seed call e.
    let first : ℕ = first_draw c.args.period in
    let second = c.draw-choice.ensures.now seed call first e in
    let drawn = c.draw-choice.ensures.draw seed call first e in
    let place : first + 1 + 260 ≡ first + 261 = omega arith in
    let last = c.draw-ask.ensures.draw seed call (first + 1 + 260) (c.bits-data.ensures.now seed call (first + 1) second) ∙ ap (λ (n : ℕ). draw seed call n) place in
    let words = words-drawn seed call c.args.period c.draw-choice.result c.draw-ask.result c.bits-data.result c.kind.result c.class.result _ c.field.result
    drawn (c.bits-data.ensures.value seed call (first + 1) second) last c.kind.ensures c.class.ensures refl c.field.ensures.value in
    c.octets.ensures ∙ ap octets_of (c.bits.ensures.value ∙ ap bits_saying words)
    ∙ sym (up-some seed call c.args.period c.draw-choice.result drawn c.if-choice-ge250.false)
