use Rattle.std.proofs.Common.{◌++◌, ◌∷◌, [], string_bytes, take, ap, sym, ◌∙◌}
use Rattle.std.proofs.lemmas.List.{flat_map_more, take_more}
use Rattle.std.specs.List.{flat_map}
use Rattle.farm_report.proofs.text.put_all.Goals as goal

pub loop-one-preserved : goal.loop-one-preserved
loop-one-preserved g c =
    let i = c.loop-one.one-index in
    let told = c.args.told.now in
    let old = string_bytes c.args.text.now in
    c.in_ok-put.ensures ∙ ap (λ bytes. bytes ++ g.T.Told.lines c.one-item.result) c.loop-one.invariant
    ∙ flat_map_more g.T.Told.lines old (take i told) c.one-item.result
    ∙ ap (λ ts. old ++ flat_map g.T.Told.lines ts) (ap (λ one. take i told ++ one ∷ []) c.one-item.is
    ∙ sym (take_more told i c.one-item.result c.loop-one-test.true))
