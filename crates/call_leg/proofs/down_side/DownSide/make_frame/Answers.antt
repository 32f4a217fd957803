use Rattle.std.proofs.Common.{◌∙◌, ap, refl, sym, subst, All, FitsSigned, arith, rules, not}
use Rattle.std.proofs.lemmas.Int.{to_z-of_z}
use Rattle.std.proofs.lemmas.List.Elements.{All-drop}
use Rattle.std.specs.Int.{w16}
use Rattle.time_align.specs.Shift.{IsShift}
use Rattle.trau_bits.specs.Bits.{AreBits}
use Rattle.call_leg.specs.Memory.{down_memory}
use Rattle.call_leg.proofs.Downlink.Stepping.{make-step}
use Rattle.call_leg.proofs.down_side.DownSide.make_frame.Goals as goal

pub next_frame-frame-requires : goal.next_frame-frame-requires
next_frame-frame-requires c = record { ready = c.requires.ready; bits = c.args.self.now.are_bits }

pub write_down-requires : goal.write_down-requires
write_down-requires c = c.next_frame-frame.ensures.bits

pub frame-requires : goal.frame-requires
frame-requires c =
    let fits : FitsSigned w16 c.adopt-shift.result = search rules in
    record {
      ready = c.requires.ready;
      shift = subst IsShift (sym (to_z-of_z w16 c.adopt-shift.result fits)) c.adopt-shift.ensures.within;
      bits = c.write_down.ensures.are_bits;
    }

pub invariant_of-self : goal.invariant_of-self
invariant_of-self c = record {
  are_bits = subst (All (λ d. AreBits d)) (sym c.next_frame-frame.ensures.waiting)
      (All-drop (λ d. AreBits d) 1 c.args.self.now.waiting.items c.args.self.now.are_bits);
  room = c.next_frame-frame.ensures.room ∙ c.args.self.now.room;
}

pub returns-clause-within : goal.returns-clause-within
returns-clause-within c = c.frame.ensures.within

pub returns-clause-shorter : goal.returns-clause-shorter
returns-clause-shorter c = omega (arith, c.frame.ensures.taken, c.requires.ready)

pub returns-clause-step : goal.returns-clause-step
returns-clause-step c =
    let fx : FitsSigned w16 c.args.self.now.level = search rules in
    let fs16 : FitsSigned w16 c.adopt-shift.result = search rules in
    let next = simp to_z-of_z at c.next_frame-frame.ensures.step in
    let framed = simp to_z-of_z at c.frame.ensures.step in
    make-step (down_memory c.args.self.now) _ c.next_frame-frame.result c.write_down.new.bits c.adopt-shift.result c.adopt-shift.new.self c.dtx_on-on.result
    (not c.is_empty-waits.result) (not c.is_empty-waited.result)
    c.dtx_on-on.ensures next c.write_down.ensures.bits c.adopt-shift.ensures.step framed c.next_frame-frame.ensures.waiting
    (ap not c.is_empty-waits.ensures) c.thaw_at_end.ensures (ap not c.is_empty-waited.ensures) c.counted-self.ensures c.one_made-self.ensures refl refl refl
    refl refl refl
