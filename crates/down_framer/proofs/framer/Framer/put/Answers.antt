use Rattle.std.proofs.Common.{◌≡◌, ◌≤◌, ◌++◌, length, refl, sym, ap, ◌∙◌, subst, rules}
use Rattle.time_align.specs.Shift.{greatest_shift}
use Rattle.down_framer.specs.Made.{made_frames}
use Rattle.down_framer.specs.Memory.{FramerMemory, IsWithinPeriod}
use Rattle.down_framer.specs.Step.{after_put}
use Rattle.down_framer.specs.Stands.{Holds, StandsWithin}
use Rattle.down_framer.specs.contracts.framer.Framer.{the_view}
use Rattle.down_framer.proofs.Calls.{put-holds}
use Rattle.down_framer.proofs.History.{put-stands}
use Rattle.down_framer.proofs.Rings.{put-view, put_within}
use Rattle.down_framer.proofs.framer.Framer.put.Goals as goal

abbrev Afterwards : goal.After-self-1 → Type 0
Afterwards c = the_view (record { bits = c.self.inside.bits; octets = c.fill_from_slice.new.self; skip = 0 }) ≡ after_put c.args.self.now c.args.octets.now

-- what the rings hold afterwards
step_now : (c : goal.After-self-1) → Afterwards c
step_now c =
    let l : length c.args.octets.now ≡ 160 = search rules in
    put-view c.self.inside.bits c.self.inside.octets c.fill_from_slice.new.self c.args.octets.now _ c.self.inside.skip c.fill_from_slice.result
    c.self.invariant
    (ap (λ (s : FramerMemory). length s.held) c.self.view_is) c.requires.between.short l refl c.fill_from_slice.ensures.count c.fill_from_slice.ensures.items ∙
    ap (λ s. after_put s c.args.octets.now) c.self.view_is

pub returns-clause-step : goal.returns-clause-step
returns-clause-step c = step_now c

pub returns-clause-within : goal.returns-clause-within
returns-clause-within c =
    let bounded = subst (λ (s : FramerMemory). s.to_skip ≤ greatest_shift) c.self.view_is c.self.invariant.bounded in
    subst IsWithinPeriod (sym (step_now c)) (put_within c.args.self.now c.args.octets.now c.requires.between c.told-octets bounded)

pub returns-clause-places : goal.returns-clause-places
returns-clause-places c = λ pcm line out start h.
    let l : length c.args.octets.now ≡ 160 = search rules in
    subst (λ s. Holds (pcm ++ c.args.octets.now) line out start s) (sym (step_now c)) (put-holds c.args.self.now c.args.octets.now pcm line out start l h)

pub returns-clause-history : goal.returns-clause-history
returns-clause-history c = λ bits past p e h.
    let l : length c.args.octets.now ≡ 160 = search rules in
    subst (λ s. StandsWithin bits p past (made_frames past) s) (sym (step_now c)) (put-stands bits past p c.args.self.now c.args.octets.now l e h)
