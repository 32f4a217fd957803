use Rattle.std.proofs.Common.{FitsSigned, ◌≡◌, ◌≤◌, ◌++◌, ◌+◌, ◌-◌, ◌∷◌, length, sym, ap, ◌∙◌, refl, subst, rules, arith, length-drop}
use Rattle.std.proofs.lemmas.Int.{to_z-of_z}
use Rattle.std.specs.Int.{w16}
use Rattle.down_framer.specs.Made.{octets_to_next, frame_on_line, next_frame}
use Rattle.down_framer.specs.Memory.{FramerMemory, IsWithinPeriod}
use Rattle.down_framer.specs.Step.{after_frame}
use Rattle.down_framer.specs.Stands.{Holds, StandsWithin}
use Rattle.down_framer.specs.Rings.{ring_memory}
use Rattle.down_framer.proofs.Calls.{frame-holds}
use Rattle.down_framer.proofs.History.{frame-stands}
use Rattle.down_framer.proofs.Timing.{octets_of-bounds}
use Rattle.down_framer.proofs.Rings.{Framed, framed, framed-rings, framed-view, frame_within, within_when_ready}
use Rattle.down_framer.proofs.framer.Framer.frame.Goals as goal

-- what the rings held
ready_before : (c : goal.After-self-1) → 160 ≤ length c.self.inside.octets.items
ready_before c =
    let held_is : length c.self.inside.octets.items ≡ length c.args.self.now.held = ap (λ (s : FramerMemory). length s.held) c.self.view_is in
    let ready = c.requires.ready in
    omega arith

within_before : (c : goal.After-self-1) → IsWithinPeriod (ring_memory c.self.inside.bits c.self.inside.octets c.self.inside.skip)
within_before c = within_when_ready _ c.self.invariant.phase (ready_before c)

low_before : (c : goal.After-self-1) → length c.self.inside.bits.items ≤ 320
low_before c =
    let within = within_before c in
    let balance = within.balance in
    let ready = ready_before c in
    let none = c.self.invariant.none_held in
    omega arith

-- what the calls on the rings did
framed_now : (c : goal.After-self-1) →
    Framed c.self.inside.bits c.self.inside.octets c.fill_from_slice-2.new.self c.truncate_front.new.self c.args.f.now c.args.shift
    (c.step_of-step.result - c.min-gone.result)
framed_now c =
    let fits : FitsSigned w16 c.args.shift = search rules in
    let step : c.step_of-step.result ≡ octets_to_next c.args.shift = c.step_of-step.ensures.value ∙ ap octets_to_next (to_z-of_z w16 c.args.shift fits) in
    framed c.self.inside.bits c.self.inside.octets c.fill_from_slice.new.self c.fill_from_slice-2.new.self c.truncate_front.new.self
    c.args.f.now _ c.args.shift c.step_of-step.result c.len-held.result c.min-gone.result c.min-kept.result c.saturating_sub-more.result
    c.fill_from_slice.result c.fill_from_slice-2.result c.self.invariant.rooms.0 (low_before c) c.requires.shift c.told-f refl step
    c.len-held.ensures.len c.min-gone.ensures c.min-kept.ensures c.saturating_sub-more.ensures c.step_of-step.ensures.within.1
    c.fill_from_slice.ensures.count c.fill_from_slice.ensures.items c.fill_from_slice-2.ensures.count c.fill_from_slice-2.ensures.items c.truncate_front.ensures

pub invariant_of-self : goal.invariant_of-self
invariant_of-self c =
    framed-rings c.self.inside.bits c.self.inside.octets c.fill_from_slice-2.new.self c.truncate_front.new.self c.args.f.now c.args.shift _ c.self.inside.skip
    c.self.invariant (within_before c) (framed_now c) c.requires.shift c.requires.bits c.told-f (ready_before c) (low_before c)

step_now : goal.returns-clause-step
step_now c =
    framed-view c.self.inside.bits c.self.inside.octets c.fill_from_slice-2.new.self c.truncate_front.new.self c.args.f.now c.args.shift _ c.self.inside.skip
    (framed_now c) ∙
    ap (λ (s : FramerMemory). after_frame s c.args.f.now c.args.shift) c.self.view_is

pub returns-clause-step : goal.returns-clause-step
returns-clause-step c = step_now c

pub returns-clause-within : goal.returns-clause-within
returns-clause-within c =
    let ready = ready_before c in
    let none : c.args.self.now.to_skip ≡ 0 = sym (ap (λ (s : FramerMemory). s.to_skip) c.self.view_is) ∙ c.self.invariant.none_held (omega arith) in
    subst IsWithinPeriod (sym (step_now c))
    (frame_within c.args.self.now c.args.f.now c.args.shift
    (subst IsWithinPeriod c.self.view_is (within_before c)) c.requires.shift c.told-f c.requires.ready none)

pub returns-clause-taken : goal.returns-clause-taken
returns-clause-taken c =
    let bounds = octets_of-bounds c.args.shift c.requires.shift in
    let left = length-drop (octets_to_next c.args.shift) c.args.self.now.held in
    let now = ap (λ (s : FramerMemory). length s.held) (step_now c) in
    omega arith

pub returns-clause-places : goal.returns-clause-places
returns-clause-places c = λ pcm line out start o h.
    subst (λ s. Holds pcm (line ++ frame_on_line c.args.shift c.args.f.now) out (start + octets_to_next c.args.shift) s) (sym (step_now c))
    (frame-holds c.args.self.now c.args.f.now c.args.shift pcm line out start c.requires.ready o h)

pub returns-clause-history : goal.returns-clause-history
returns-clause-history c = λ bits p past fs es ef h.
    subst (λ s. StandsWithin bits p past (next_frame p past fs ∷ fs) s) (sym (step_now c))
    (frame-stands bits p past fs c.args.self.now c.args.f.now c.args.shift c.requires.ready c.told-f es ef h)
