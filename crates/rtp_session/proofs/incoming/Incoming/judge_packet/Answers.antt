use Rattle.std.proofs.Common.{refl}
use Rattle.rtp_session.proofs.Taken.{kept_unplayed}
use Rattle.rtp_session.proofs.incoming.Incoming.judge_packet.Goals as goal

pub returns-in-None-clause-only : goal.returns-in-None-clause-only
returns-in-None-clause-only g c n = c.take_packet.ensures.only (n (c.in-None.ensures.payload_type refl))

pub returns-in-Some-clause-settings : goal.returns-in-Some-clause-settings
returns-in-Some-clause-settings g c =
    kept_unplayed c.args.self.now c.count_unplayed.new.self c.refuse.new.self _ _ c.count_unplayed.ensures.others c.refuse.ensures.value
