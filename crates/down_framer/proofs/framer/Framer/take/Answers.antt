use Rattle.std.proofs.Common.{◌≡◌, ◌+◌, ◌∷◌, length, take, sym, ap, ◌∙◌, subst, rules, arith}
use Rattle.trau_bits.specs.Bits.{bits_of}
use Rattle.down_framer.specs.Memory.{FramerMemory, IsBetweenPeriods}
use Rattle.down_framer.specs.Step.{after_take}
use Rattle.down_framer.specs.Stands.{Holds, StandsBetween}
use Rattle.down_framer.specs.contracts.framer.Framer.{the_view}
use Rattle.down_framer.proofs.Calls.{take-holds}
use Rattle.down_framer.proofs.History.{take-stands}
use Rattle.down_framer.proofs.Rings.{take-view, read_all, taken_between, taken-rings}
use Rattle.down_framer.proofs.framer.Framer.take.Goals as goal

all_read : (c : goal.After-pack) → c.read_into.result ≡ 320
all_read c =
    let held_is : length c.self.inside.octets.items ≡ length c.args.self.now.held = ap (λ (s : FramerMemory). length s.held) c.self.view_is in
    let stored_is : length c.self.inside.bits.items ≡ length c.args.self.now.stored = ap (λ (s : FramerMemory). length s.stored) c.self.view_is in
    let balance = c.requires.within.balance in
    let short = c.requires.not_ready in
    let count = c.read_into.ensures.count in
    omega arith

step_now : (c : goal.After-pack) →
    the_view (record { bits = c.read_into.new.self; octets = c.self.inside.octets; skip = c.self.inside.skip }) ≡ after_take c.args.self.now
step_now c =
    take-view c.self.inside.bits c.read_into.new.self c.self.inside.octets c.self.inside.skip c.read_into.result (all_read c) c.read_into.ensures.items ∙
    ap after_take c.self.view_is

bits_now : (c : goal.After-pack) → bits_of c.pack.new.bytes ≡ take 320 c.args.self.now.stored
bits_now c =
    c.pack.ensures.bits ∙ read_all c.read_into.result c.self.inside.bits.items _ c.read_into.new.dst (all_read c) (search rules) c.read_into.ensures.read ∙
    ap (λ (s : FramerMemory). take 320 s.stored) c.self.view_is

pub returns-clause-step : goal.returns-clause-step
returns-clause-step c = step_now c

pub returns-clause-bits : goal.returns-clause-bits
returns-clause-bits c = bits_now c

pub returns-clause-between : goal.returns-clause-between
returns-clause-between c = subst IsBetweenPeriods (sym (step_now c)) (taken_between c.args.self.now c.requires.within c.requires.not_ready)

pub invariant_of-self : goal.invariant_of-self
invariant_of-self c =
    taken-rings c.self.inside.bits c.read_into.new.self c.self.inside.octets c.self.inside.skip c.read_into.result c.self.invariant
    (returns-clause-between c) c.read_into.ensures.items

pub returns-clause-places : goal.returns-clause-places
returns-clause-places c = λ pcm line out start h. (
  subst (λ s. Holds pcm line (out + 320) start s) (sym (step_now c)) (take-holds c.args.self.now pcm line out start h),
  bits_now c ∙ ap (take 320) h.stored,
)

pub returns-clause-history : goal.returns-clause-history
returns-clause-history c = λ bits p past fs h.
    let out = take-stands bits p past fs c.args.self.now c.requires.not_ready h in
    (subst (λ s. StandsBetween bits (p ∷ past) s) (sym (step_now c)) out.0, bits_now c ∙ out.1)
