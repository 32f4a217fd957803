use Rattle.std.proofs.lemmas.List.{get_or-replicate}
use Rattle.rtp_buffer.proofs.octet.fill.Goals as goal

pub returns : goal.returns
returns g c k h = get_or-replicate g.row.N k c.args.filler 0 h
