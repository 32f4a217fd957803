use Rattle.std.proofs.Common.{◌≡◌, ◌+◌, ◌-◌, ◌<◌, ℕ, take, drop, sym, ap, subst, ◌∙◌, arith}
use Rattle.std.proofs.lemmas.List.Elements.{All-take, All-drop}
use Rattle.trau_bits.specs.Bits.{AreBits}
use Rattle.gsm_frame.proofs.pair.half.Goals as goal

pub returns-clause-value : goal.returns-clause-value
returns-clause-value c =
    let count : c.args.first + 260 - c.args.first ≡ 260 = omega arith in
    c.copy_from_slice.ensures.after ∙ ap (λ (n : ℕ). take n (drop c.args.first c.args.bits.now)) count

pub returns-clause-bits : goal.returns-clause-bits
returns-clause-bits c =
    subst AreBits (sym (returns-clause-value c))
    (All-take (λ bit. bit < 2) 260 (drop c.args.first c.args.bits.now) (All-drop (λ bit. bit < 2) c.args.first c.args.bits.now c.requires.bits))
