use Rattle.std.proofs.Common.{rules, ◌≡◌, ◌++◌, ◌/◌, List, ℕ, string_bytes, sym, ap, ◌∙◌}
use Rattle.std.specs.Prelude.{codes, decimal, OnOk}
use Rattle.std.proofs.lemmas.List.{append-nil}
use Rattle.std.proofs.lemmas.Result.{on_ok_weaker}
use Rattle.farm_drill.specs.Orders.{unbridging}
use Rattle.farm_drill.proofs.Texts.{unbridging-text, one_bridged, none_bridged}
use Rattle.farm_drill.proofs.orders.put_unbridging.Goals as goal

pub returns-then-not-has_bridge : goal.returns-then-not-has_bridge
returns-then-not-has_bridge c =
    sym (append-nil (string_bytes c.args.text.now))
    ∙ ap (λ (t : List ℕ). string_bytes c.args.text.now ++ t) (sym (none_bridged (unbridging c.args.periods) c.args.call (sym c.has_bridge.ensures ∙ c.if-not-has_bridge.true)))

pub returns : goal.returns
returns c =
    let put : OnOk c.write.result (string_bytes c.write.new.self ≡ string_bytes c.args.text.now
    ++ (decimal (c.args.periods / 2) ++ (codes " unbridge " ++ (decimal c.args.call ++ codes "\n")))) = search rules in
    on_ok_weaker c.write.result
    (λ h. h ∙ ap (λ (t : List ℕ). string_bytes c.args.text.now ++ t)
    (sym (one_bridged (unbridging c.args.periods) c.args.call (sym c.has_bridge.ensures ∙ c.if-not-has_bridge.false) ∙ unbridging-text c.args.periods c.args.call))) put
