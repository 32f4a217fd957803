use Rattle.std.proofs.Common.{◌≡◌, ◌++◌, ◌-◌, List, ℕ, map, string_bytes, sym, ap, ◌∙◌}
use Rattle.std.specs.Prelude.{filter}
use Rattle.std.specs.List.{range_with_len}
use Rattle.farm_drill.specs.Orders.{opening, bridging, unbridging, is_bridged, drilled_orders, text_of}
use Rattle.farm_drill.proofs.Texts.{text-whole, bridged-is}
use Rattle.farm_drill.proofs.Spelling.{spelled, short_enough}
use Rattle.farm_drill.proofs.orders.orders_text.Goals as goal

pub returns : goal.returns
returns c =
    let opened = c.in_ok-put_openings.ensures ∙ ap (λ (t : List ℕ). t ++ text_of (map opening (range_with_len 1 c.args.calls))) c.new-text.ensures.bytes in
    let followed : c.saturating_sub-followed.result ≡ c.args.calls - 1 = c.saturating_sub-followed.ensures in
    let calls = ap (λ (n : ℕ). filter is_bridged (range_with_len 1 n)) followed ∙ sym (bridged-is c.args.calls) in
    let begun = c.in_ok-put_bridgings.ensures
    ∙ ap (λ (cs : List ℕ). string_bytes c.put_openings.new.text ++ text_of (map (bridging c.args.periods) cs)) calls in
    let ended = c.in_ok-put_unbridgings.ensures
    ∙ ap (λ (cs : List ℕ). string_bytes c.put_bridgings.new.text ++ text_of (map (unbridging c.args.periods) cs)) calls in
    let whole : c.into_bytes.result.items ≡ text_of (drilled_orders c.args.calls c.args.periods) =
    ap (λ v. v.items) c.into_bytes.ensures.value
    ∙ text-whole c.args.calls c.args.periods (string_bytes c.put_openings.new.text) (string_bytes c.put_bridgings.new.text)
    (string_bytes c.put_unbridgings.new.text)
    opened begun ended in
    record {
      text = whole;
      orders = spelled c.into_bytes.result.items c.args.calls c.args.periods c.requires.calls c.requires.periods whole;
      within = short_enough c.into_bytes.result.items c.args.calls c.args.periods c.requires.calls c.requires.periods whole;
    }
