use Rattle.pool_run.proofs.room.new_member.Goals as goal

pub returns : goal.returns
returns g c =
    let own = c.in_ok-own.ensures in record {
      fifo = own.0;
      view = own.1;
      passes = c.new.ensures.items;
      done = c.in_ok-done.ensures.items;
      left = (own.2, own.3);
    }
