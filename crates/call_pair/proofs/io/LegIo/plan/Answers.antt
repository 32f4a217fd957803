use Rattle.std.proofs.Common.{ap, ◌∙◌, refl, length, ◌*◌, arith}
use Rattle.std.proofs.lemmas.List.{length-replicate}
use Rattle.call_pair.specs.Memory.{IoMemory}
use Rattle.call_pair.specs.contracts.io.LegIo.{the_view}
use Rattle.call_pair.proofs.Places.{io-stands}
use Rattle.call_pair.proofs.io.LegIo.plan.Goals as goal

pub invariant_of-self : goal.invariant_of-self
invariant_of-self c =
    let io = the_view c.self.inside in
    io-stands io c.make_room.new.octets.items io.pcm io.out io.down c.self.invariant (ap length c.make_room.ensures.same) refl refl refl

pub invariant_of-self-in_err-make_room-2 : goal.invariant_of-self-in_err-make_room-2
invariant_of-self-in_err-make_room-2 c =
    let io = the_view c.self.inside in
    io-stands io c.make_room.new.octets.items c.make_room-2.new.octets.items io.out io.down c.self.invariant (ap length c.make_room.ensures.same)
    (ap length c.make_room-2.ensures.same) refl refl

pub invariant_of-self-in_err-make_room-3 : goal.invariant_of-self-in_err-make_room-3
invariant_of-self-in_err-make_room-3 c =
    let io = the_view c.self.inside in
    io-stands io c.make_room.new.octets.items c.make_room-2.new.octets.items c.make_room-3.new.octets.items io.down c.self.invariant
    (ap length c.make_room.ensures.same) (ap length c.make_room-2.ensures.same) (ap length c.make_room-3.ensures.same) refl

pub invariant_of-self-in_err-make_room-4 : goal.invariant_of-self-in_err-make_room-4
invariant_of-self-in_err-make_room-4 c =
    io-stands (the_view c.self.inside) c.make_room.new.octets.items c.make_room-2.new.octets.items c.make_room-3.new.octets.items
    c.make_room-4.new.octets.items c.self.invariant
    (ap length c.make_room.ensures.same) (ap length c.make_room-2.ensures.same) (ap length c.make_room-3.ensures.same)
    (ap length c.make_room-4.ensures.same)

pub invariant_of-self-2 : goal.invariant_of-self-2
invariant_of-self-2 c =
    let n = c.args.periods in
    let none = ap (λ (io : IoMemory). io.done) (c.self.view_is ∙ c.rest.ensures) in record {
      number = c.self.invariant.number;
      room = record {
        periods = n;
        enough = omega arith;
        up_room = ap length c.put_zeros.ensures ∙ length-replicate (40 * n) 0;
        pcm_room = ap length c.put_zeros-2.ensures ∙ length-replicate (160 * n) 0;
        out_room = ap length c.put_zeros-3.ensures ∙ length-replicate (160 * n) 0;
        down_room = ap length c.put_zeros-4.ensures ∙ length-replicate (40 * n) 0;
      };
      within = omega (arith, none);
    }
