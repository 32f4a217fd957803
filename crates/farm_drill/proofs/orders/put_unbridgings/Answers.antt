use Rattle.std.proofs.Common.{◌≡◌, ◌++◌, List, ℕ, map, string_bytes, sym, ap, ◌∙◌, arith}
use Rattle.std.specs.Prelude.{filter}
use Rattle.std.specs.List.{range_with_len}
use Rattle.std.proofs.lemmas.List.{append-nil}
use Rattle.farm_drill.specs.Orders.{unbridging, is_bridged, text_of}
use Rattle.farm_drill.proofs.Texts.{text-none, bridges-more}
use Rattle.farm_drill.proofs.orders.put_unbridgings.Goals as goal

pub loop-earlier-init : goal.loop-earlier-init
loop-earlier-init c =
    sym (append-nil (string_bytes c.args.text.now)) ∙ ap (λ (t : List ℕ). string_bytes c.args.text.now ++ t) (sym text-none)

pub loop-earlier-preserved : goal.loop-earlier-preserved
loop-earlier-preserved c =
    bridges-more (unbridging c.args.periods) (string_bytes c.args.text.now) (string_bytes c.put_unbridging.new.text)
    (string_bytes c.loop-earlier.text) c.loop-earlier.earlier
    c.loop-earlier.invariant c.in_ok-put_unbridging.ensures

pub returns : goal.returns
returns c =
    let all : c.loop-earlier.earlier ≡ c.args.count = omega (arith, c.loop-earlier.auto.earlier-end, c.loop-earlier-test.false) in
    c.loop-earlier.invariant
    ∙ ap (λ (n : ℕ). string_bytes c.args.text.now ++ text_of (map (unbridging c.args.periods) (filter is_bridged (range_with_len 1 n)))) all
