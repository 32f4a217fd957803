use Rattle.std.proofs.Common.{◌≡◌, length, subst, rules, FitsSigned, w16}
use Rattle.std.proofs.lemmas.Int.{to_z-of_z}
use Rattle.fr_sides.specs.Downlink.{WrittenDownlink}
use Rattle.call_coders.specs.declared.coders.DownKind.{DownKind}
use Rattle.call_coders.specs.Replay.{number_of}
use Rattle.call_coders.proofs.Step.{quiet_then, sounding_then}
use Rattle.call_coders.proofs.coders.Coders.period.Goals as goal

pub returns-then-hear-clause-replay : goal.returns-then-hear-clause-replay
returns-then-hear-clause-replay c number past stands =
    let octets : length c.args.recorded.now.pcm ≡ 160 = search rules in
    let bits : length c.write_uplink-recorded.result ≡ 40 = search rules in
    let g : FitsSigned w16 c.args.level = c.ranges.level in
    let spoken = simp to_z-of_z at c.speak.ensures.period in
    sounding_then
    (record {
      out = c.the_receive_side_gives_the_out_line.ensures.octets;
      contents = c.the_transmit_side_gives_the_down_line.ensures.contents;
      records = c.whole_frames_are_heard.ensures.records;
      sent = c.written_frames_are_those_of_the_line.ensures.sent;
      handed = c.written_frames_are_those_of_the_line.ensures.handed;
      idle = c.written_frames_are_those_of_the_line.ensures.idle;
      effective = c.the_receive_side_gives_the_out_line.ensures.effective;
    })
    number c.args.input.now.law past _ _ _ _ c.write_uplink-recorded.result c.args.recorded.now.pcm c.hear.new.out _ _ _ c.args.level c.args.dtx stands octets
    (record {
      frame = c.args.input.now.brought.frame;
      kind = c.args.input.now.brought.kind;
      taf = c.args.input.now.brought.taf;
      octets = c.are_octets.ensures;
      written = (bits, c.write_uplink-recorded.ensures.bits);
      heard_is = rw (← c.if-hear.true) c.hear.ensures;
    })
    spoken

pub returns-else-hear-clause-replay : goal.returns-else-hear-clause-replay
returns-else-hear-clause-replay c number past stands =
    let octets : length c.args.recorded.now.pcm ≡ 160 = search rules in
    let bits : length c.write_uplink-recorded.result ≡ 40 = search rules in
    quiet_then
    (record {
      out = c.the_receive_side_gives_the_out_line.ensures.octets;
      contents = c.the_transmit_side_gives_the_down_line.ensures.contents;
      records = c.whole_frames_are_heard.ensures.records;
      sent = c.written_frames_are_those_of_the_line.ensures.sent;
      handed = c.written_frames_are_those_of_the_line.ensures.handed;
      idle = c.written_frames_are_those_of_the_line.ensures.idle;
      effective = c.the_receive_side_gives_the_out_line.ensures.effective;
    })
    number c.args.input.now.law past _ _ _ _ c.write_uplink-recorded.result c.args.recorded.now.pcm c.hear.new.out _ c.keep_quiet.new.down c.args.level c.args.dtx stands octets
    (record {
      frame = c.args.input.now.brought.frame;
      kind = c.args.input.now.brought.kind;
      taf = c.args.input.now.brought.taf;
      octets = c.are_octets.ensures;
      written = (bits, c.write_uplink-recorded.ensures.bits);
      heard_is = rw (← c.if-hear.false) c.hear.ensures;
    })
    c.home-self.ensures.history (subst (λ (k : DownKind). WrittenDownlink c.keep_quiet.result.frame (number_of k) c.keep_quiet.new.down) c.keep_quiet.ensures.kind
    c.keep_quiet.ensures.carried.written)
