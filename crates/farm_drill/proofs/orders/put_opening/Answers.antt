use Rattle.std.proofs.Common.{rules, ◌≡◌, ◌++◌, List, ℕ, string_bytes, sym, ap, ◌∙◌}
use Rattle.std.specs.Prelude.{codes, decimal, OnOk}
use Rattle.std.proofs.lemmas.Result.{on_ok_weaker}
use Rattle.farm_drill.proofs.Texts.{opening-text}
use Rattle.farm_drill.proofs.orders.put_opening.Goals as goal

pub returns : goal.returns
returns c =
    let put : OnOk c.write.result (string_bytes c.write.new.self ≡ string_bytes c.args.text.now
    ++ (codes "0 open " ++ (decimal c.args.call ++ codes "\n"))) = search rules in
    on_ok_weaker c.write.result (λ h. h ∙ ap (λ (t : List ℕ). string_bytes c.args.text.now ++ t) (sym (opening-text c.args.call))) put
