use Rattle.std.proofs.Common.{ap, subst, sym, ◌∙◌}
use Rattle.trau_frame.specs.Frame.{Synced, data_of}
use Rattle.trau_frame.specs.DownFrame.{down_data, down_bits}
use Rattle.trau_frame.proofs.Again.{synced-down_bits}
use Rattle.fr_sides.proofs.Heard.{carried-if}
use Rattle.fr_sides.proofs.Down.{data-down_bits}
use Rattle.fr_sides.proofs.downlink.write_downlink.Goals as goal

pub returns : goal.returns
returns c =
    let given = c.unpack-given in
    let down = c.down_frame in
    let bits = c.pack.ensures.bits ∙ c.write_down.ensures.bits in
    record {
      given = given.result;
      carried = carried-if c.args.frame.now given.result given.ensures.carried given.ensures.shape given.ensures.variant;
      bits = bits ∙ ap down_bits down.ensures.value;
      synced = subst Synced (sym bits) (synced-down_bits down.result);
      data_bits = ap data_of bits ∙ data-down_bits down.result down.ensures.data_bits ∙ ap down_data down.ensures.value;
    }
