use Rattle.std.proofs.Common.{◌≡◌, [], length, get_or}
use Rattle.trau_submux.proofs.Channels.{AreGathered, for_four, gathered_carries, gathered_octets, slot_again}
use Rattle.trau_submux.proofs.four.merge4.Goals as goal

gathered : (c : goal.After-merge_channels) → AreGathered c.args.subs.now c.merge_channels.new.slot
gathered c =
    let each = c.merge_channels.ensures.lengths in
    record {
      long = c.merge_channels.array_long;
      each_long = for_four (λ j. length (get_or c.args.subs.now j []) ≡ 40) each.0 each.1 each.2 each.3;
      each = c.merge_channels.ensures.octets;
    }

pub returns-clause-channels : goal.returns-clause-channels
returns-clause-channels c = gathered_carries c.args.subs.now c.merge_channels.new.slot (gathered c)

pub returns-clause-split : goal.returns-clause-split
returns-clause-split c = λ octets. slot_again c.args.subs.now c.merge_channels.new.slot octets (gathered c)

pub returns-clause-octets : goal.returns-clause-octets
returns-clause-octets c = gathered_octets c.args.subs.now c.merge_channels.new.slot (gathered c)
