use Rattle.std.proofs.Common.{ap, sym, ◌∙◌, Some}
use Rattle.trau_params.specs.Fields.{Fields, fields_in}
use Rattle.trau_frame.specs.UpFrame.{UpWords}
use Rattle.rx_handler.specs.Heard.{heard_frame}
use Rattle.fr_sides.specs.Octets.{heard_by}
use Rattle.fr_sides.specs.Uplink.{heard_in_uplink, kind_heard, taf_heard}
use Rattle.fr_sides.proofs.Heard.{heard-read}
use Rattle.fr_sides.proofs.uplink.read_uplink.Goals as goal

pub returns-clause-heard : goal.returns-clause-heard
returns-clause-heard c =
    let up = c.read_up-up.result in
    let kind = kind_heard up.kind up.class in
    let taf = taf_heard up.kind up.class up.taf in
    record {
      frame = Some c.from_bits.result;
      carried = (c.pack.ensures.carried, c.pack.ensures.shape);
      heard = ap heard_in_uplink (sym c.unpack.ensures.bits)
          ∙ ap (λ (w : UpWords). heard_frame w.kind w.class w.taf w.d) (sym c.read_up-up.ensures.says)
          ∙ heard-read up.kind up.class up.taf up.d
          ∙ ap (λ k. heard_by k taf (Some (fields_in up.d))) (sym c.kind_heard.ensures)
          ∙ ap (λ t. heard_by c.kind_heard.result t (Some (fields_in up.d))) (sym c.taf_heard.ensures)
          ∙ ap (λ (f : Fields). heard_by c.kind_heard.result c.taf_heard.result (Some f)) (sym c.from_bits.ensures.fields);
    }
