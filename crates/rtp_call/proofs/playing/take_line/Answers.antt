use Rattle.std.proofs.Common.{ℕ, subst}
use Rattle.rtp_session.specs.Playing.{IsTaken}
use Rattle.rtp_call.proofs.Moved.{only_buffer, counts_moved}
use Rattle.rtp_call.proofs.playing.take_line.Goals as goal

pub returns-clause-plays : goal.returns-clause-plays
returns-clause-plays c = record {
  plays = record {
    prepared = c.prepare-wish.new.self.stream.buffer;
    wish = c.prepare-wish.result;
    slips = c.is_line_slip-is_slip.result;
    moved = c.slip_if.new.stream.stream.buffer;
    prepared_is = c.prepare-wish.ensures.prepared;
    slips_is = c.is_line_slip-is_slip.ensures;
    slipped_is = c.slip_if.ensures.slips;
    stays = c.slip_if.ensures.stays;
    taken =
        subst (λ (f : ℕ). IsTaken c.slip_if.new.stream.stream.buffer c.take.new.self.stream.buffer c.args.tick f c.take.result) c.idle_octet.ensures
        c.take.ensures.taken;
  };
  counts =
      counts_moved c.is_line_slip-is_slip.result c.args.pcm.now c.prepare-wish.new.self c.slip_if.new.stream c.take.new.self c.prepare-wish.ensures.others
      c.slip_if.ensures.counts c.take.ensures.others;
  others =
      only_buffer c.args.pcm.now c.prepare-wish.new.self c.slip_if.new.stream c.take.new.self c.prepare-wish.ensures.others c.slip_if.ensures.others
      c.take.ensures.others;
}
