use Rattle.std.proofs.Common.{◌≡◌, [], length}
use Rattle.std.specs.Prelude.{true, is_some}
use Rattle.std.proofs.lemmas.List.Elements.{All-nil}
use Rattle.call_leg.specs.Periods.{CallPeriod}
use Rattle.call_coders.proofs.coders.Coders.home.Goals as goal

pub returns : goal.returns
returns c law = record {
  heard = [];
  records = tt;
  receiver_is = c.home.ensures.history;
  sender_is = c.home-2.ensures.history;
  pcms = All-nil (λ (t : CallPeriod). length t.pcm ≡ 160);
  bridges = tt;
  begun = All-nil (λ (t : CallPeriod). t.starts ≡ true → is_some t.handed ≡ true);
}
