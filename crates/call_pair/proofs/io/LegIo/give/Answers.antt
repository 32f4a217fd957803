use Rattle.std.proofs.Common.{ap, arith}
use Rattle.call_pair.specs.Memory.{IoMemory}
use Rattle.call_pair.proofs.io.LegIo.give.Goals as goal

pub invariant_of-self : goal.invariant_of-self
invariant_of-self c =
    let was = ap (λ (io : IoMemory). io.given) c.self.view_is in
    let none = ap (λ (io : IoMemory). io.done) c.self.view_is in
    let room = c.self.invariant.room in record {
      number = c.self.invariant.number;
      room = record {
        periods = room.periods;
        enough = omega (arith, c.requires.fewer, was, room.enough);
        up_room = room.up_room;
        pcm_room = room.pcm_room;
        out_room = room.out_room;
        down_room = room.down_room;
      };
      within = omega (arith, none, c.requires.none);
    }
