use Rattle.rtp_call.proofs.call.Call.input.Goals as goal

pub returns-clause-station : goal.returns-clause-station
returns-clause-station c = record {
  came = c.take_frame-frame.result;
  plays = c.take_frame-frame.ensures.plays;
  hears = c.hear-brought.ensures;
}

pub returns-clause-exchange : goal.returns-clause-exchange
returns-clause-exchange c = record {
  came = c.take_line-line.result;
  plays = c.take_line-line.ensures.plays;
  no_line = c.octets_of-recorded.ensures.count;
  pcm_is = c.octets_of-recorded.ensures.octets;
}
