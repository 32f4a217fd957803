use Rattle.std.proofs.Common.{◌≡◌, ◌∙◌, ◌+◌, ◌-◌, ◌*◌, ap, refl, true, ltb, List, ℕ, arith}
use Rattle.std.proofs.lemmas.Bool.{ltb-true}
use Rattle.std.proofs.lemmas.List.{get_or_default}
use Rattle.trau_bits.proofs.BitList.{bits_of-below}
use Rattle.trau_bits.proofs.Octets.{octets_of-bits_of}
use Rattle.std.specs.Vec.{with_items}
use borrow.Rule.Slice.PartMut.{put_mid}
use Rattle.call_pair.specs.Memory.{IoMemory}
use Rattle.call_pair.specs.Periods.{with_period}
use Rattle.call_pair.specs.contracts.io.LegIo.{the_view}
use Rattle.call_pair.proofs.Places.{io-stands, length-with_items, with_items-written}
use Rattle.call_pair.proofs.io.LegIo.put_down.Goals as goal

pub invariant_of-self : goal.invariant_of-self
invariant_of-self c =
    let io = the_view c.self.inside in
    let start = 40 * io.done in
    let now = with_items c.self.inside.down (put_mid start ((start + 40) - start) c.deref_mut.result.now c.copy_from_slice.new.self) in
    let kept = io-stands io io.up io.pcm io.out now.items c.self.invariant refl refl refl (length-with_items c.self.inside.down _) in
    let remains : ltb io.done io.given ≡ true = ap (λ (was : IoMemory). ltb was.done was.given) c.self.view_is ∙ c.requires in
    record { number = kept.number; room = kept.room; within = omega (arith, ltb-true io.done io.given remains) }

pub returns-clause-io : goal.returns-clause-io
returns-clause-io c =
    let io = c.self.inside in
    let octets = c.args.octets.now in
    let down = with_items-written io.down (40 * io.done) 40 c.deref_mut.result.now c.copy_from_slice.new.self octets c.deref_mut.ensures.value
    c.copy_from_slice.ensures.len
    c.copy_from_slice.ensures.after c.told-octets in
    ap (λ (xs : List ℕ). record { call = io.call; up = io.up.items; pcm = io.pcm.items; out = io.out.items; down = xs; given = io.given; done = io.done + 1 })
    down ∙
    ap (λ (was : IoMemory). with_period was octets) c.self.view_is

pub returns-clause-packed : goal.returns-clause-packed
returns-clause-packed c =
    let octets = c.args.octets.now in
    octets_of-bits_of octets (λ k d below. omega (arith, get_or_default octets k d 0 below, c.fits-octets k)) (bits_of-below octets)
