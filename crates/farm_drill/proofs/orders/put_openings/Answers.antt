use Rattle.std.proofs.Common.{◌++◌, List, ℕ, string_bytes, sym, ap, ◌∙◌}
use Rattle.std.proofs.lemmas.List.{append-nil}
use Rattle.farm_drill.proofs.Texts.{text-none, openings-more}
use Rattle.farm_drill.proofs.orders.put_openings.Goals as goal

pub loop-earlier-init : goal.loop-earlier-init
loop-earlier-init c =
    sym (append-nil (string_bytes c.args.text.now)) ∙ ap (λ (t : List ℕ). string_bytes c.args.text.now ++ t) (sym text-none)

pub loop-earlier-preserved : goal.loop-earlier-preserved
loop-earlier-preserved c =
    openings-more (string_bytes c.args.text.now) (string_bytes c.put_opening.new.text) (string_bytes c.loop-earlier.text) c.loop-earlier.earlier
    c.loop-earlier.invariant c.in_ok-put_opening.ensures
