use Rattle.rtp_call.proofs.Moved.{only_buffer, counts_moved}
use Rattle.rtp_call.proofs.playing.take_frame.Goals as goal

pub returns-clause-plays : goal.returns-clause-plays
returns-clause-plays c = record {
  plays = record {
    prepared = c.prepare-wish.new.self.stream.buffer;
    wish = c.prepare-wish.result;
    slips = c.is_frame_slip-is_slip.result;
    moved = c.slip_if.new.stream.stream.buffer;
    prepared_is = c.prepare-wish.ensures.prepared;
    slips_is = c.is_frame_slip-is_slip.ensures;
    slipped_is = c.slip_if.ensures.slips;
    stays = c.slip_if.ensures.stays;
    taken = c.take.ensures.taken;
  };
  counts =
      counts_moved c.is_frame_slip-is_slip.result c.args.gsm.now c.prepare-wish.new.self c.slip_if.new.stream c.take.new.self c.prepare-wish.ensures.others
      c.slip_if.ensures.counts c.take.ensures.others;
  others =
      only_buffer c.args.gsm.now c.prepare-wish.new.self c.slip_if.new.stream c.take.new.self c.prepare-wish.ensures.others c.slip_if.ensures.others
      c.take.ensures.others;
}
