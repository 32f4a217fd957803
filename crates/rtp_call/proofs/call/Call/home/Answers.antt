use Rattle.std.proofs.Common.{rules, refl}
use Rattle.rtp_call.proofs.call.Call.home.Goals as goal

pub returns-clause-some : goal.returns-clause-some
returns-clause-some c = record {
  gsm = c.is_media.ensures.yes (search rules);
  pcm = c.is_media-else-not-is_media.ensures.yes (search rules);
  law = refl;
  hearing = c.home-2.ensures;
  no_line = refl;
  from_gsm = c.home-3.ensures.begins;
  from_pcm = c.home-4.ensures.begins;
  pause = refl;
  to_gsm = c.home-5.ensures;
  to_pcm = c.home-6.ensures;
}
