use Rattle.std.proofs.Common.{◌≤◌, ◌+◌, ◌-◌, Some, sym, ap, ◌∙◌, subst, arith}
use Rattle.frame_sync.specs.declared.yields.Yield.TheVariants.{Frame}
use Rattle.frame_sync.specs.declared.yields.Ending.TheVariants.{Framed}
use Rattle.frame_sync.specs.Step.{bit_of_two, yield_of_ending, LiesWithin}
use Rattle.frame_sync.proofs.Searched.{frame-shifted}
use Rattle.frame_sync.proofs.advance.yield_of_ending.Goals as goal

pub returns-in-Framed : goal.returns-in-Framed
returns-in-Framed c =
    let line = bit_of_two c.args.base c.args.window.now in
    let within : LiesWithin c.args.base (Framed c.in-Framed.place) = subst (LiesWithin c.args.base) c.in-Framed.is c.requires.within in
    let low : c.args.base ≤ c.in-Framed.place + 320 = within.0 in
    let same = frame-shifted c.args.window.now c.args.base c.in-Framed.place (c.in-Framed.place + 320 - c.args.base) (omega arith) in
    ap (λ bits. Some (Frame c.in-Framed.place bits)) (c.frame_from.ensures.value ∙ sym same) ∙ sym (ap (yield_of_ending line) c.in-Framed.is)
