use Rattle.std.proofs.Common.{ap, subst, sym, ◌∙◌}
use Rattle.trau_frame.specs.Frame.{Synced}
use Rattle.trau_frame.specs.UpFrame.{UpWords, words_in}
use Rattle.trau_frame.specs.UpBits.{bits_saying}
use Rattle.trau_frame.proofs.UpAgain.{synced-up_bits, says-up_bits}
use Rattle.rx_handler.specs.Heard.{heard_frame}
use Rattle.fr_sides.proofs.Heard.{heard-written, carried-if}
use Rattle.fr_sides.proofs.uplink.write_uplink.Goals as goal

written : goal.returns-clause-bits
written c =
    let up = c.up_frame-up in
    let given = c.unpack in
    let bits = c.pack.ensures.bits ∙ c.write_up.ensures.bits in
    record {
      given = given.result;
      carried = carried-if c.args.frame.now given.result given.ensures.carried given.ensures.shape given.ensures.variant;
      bits = bits ∙ ap bits_saying up.ensures.words;
      synced = subst Synced (sym bits) (synced-up_bits up.result);
      says = ap words_in bits ∙ sym (says-up_bits up.result up.ensures.data_bits up.ensures.fits) ∙ up.ensures.words;
    }

pub returns-clause-bits : goal.returns-clause-bits
returns-clause-bits c = written c

pub returns-clause-heard : goal.returns-clause-heard
unfolding written
returns-clause-heard c = record {
  frame = c.unpack.result;
  carried = (written c).carried;
  heard = ap (λ (w : UpWords). heard_frame w.kind w.class w.taf w.d) (written c).says
      ∙ heard-written c.args.kind c.args.taf c.unpack.result c.unpack.ensures.shape;
}
