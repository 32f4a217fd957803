use Rattle.std.proofs.Common.{◌∙◌, ◌+◌, ◌-◌, ◌*◌, ap, refl, List, ℕ}
use Rattle.std.specs.Vec.{with_items}
use borrow.Rule.Slice.PartMut.{put_mid}
use Rattle.call_pair.specs.Memory.{IoMemory}
use Rattle.call_pair.specs.Periods.{with_out}
use Rattle.call_pair.specs.contracts.io.LegIo.{the_view}
use Rattle.call_pair.proofs.Places.{io-stands, length-with_items, with_items-written}
use Rattle.call_pair.proofs.io.LegIo.put_out.Goals as goal

pub invariant_of-self : goal.invariant_of-self
invariant_of-self c =
    let io = the_view c.self.inside in
    let start = 160 * io.done in
    let now = with_items c.self.inside.out (put_mid start ((start + 160) - start) c.deref_mut.result.now c.copy_from_slice.new.self) in
    io-stands io io.up io.pcm now.items io.down c.self.invariant refl refl (length-with_items c.self.inside.out _) refl

pub returns : goal.returns
returns c =
    let io = c.self.inside in
    let octets = c.args.octets.now in
    let out = with_items-written io.out (160 * io.done) 160 c.deref_mut.result.now c.copy_from_slice.new.self octets c.deref_mut.ensures.value
    c.copy_from_slice.ensures.len
    c.copy_from_slice.ensures.after c.told-octets in
    ap (λ (xs : List ℕ). record { call = io.call; up = io.up.items; pcm = io.pcm.items; out = xs; down = io.down.items; given = io.given; done = io.done }) out
    ∙
    ap (λ (was : IoMemory). with_out was octets) c.self.view_is
