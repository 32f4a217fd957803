-- The first bad line of a mark and the orders after it.
use Rattle.std.proofs.Common.{◌≡◌, ◌∙◌, ℕ, List, ◌-◌, length, take, drop, refl, sym, ap, subst, arith}
use Rattle.std.proofs.lemmas.List.{take_all, length-drop}
use Rattle.std.proofs.Math.Seq.{drop-append_seam}
use Rattle.trau_orders.specs.Text.{text_lines, IsFirstBad}
use Rattle.farm_checkpoint.specs.Marks.{MarkView}
use Rattle.farm_checkpoint.specs.Text.{mark_text, IsRead}
use Rattle.farm_checkpoint.specs.Text.{IsFirstBad as IsFirstBadOfMark}
use Rattle.farm_orders.specs.declared.reason.TextFault.{TextFault}
use Rattle.farm_orders.specs.declared.reason.TextFault.TheVariants.{Mark, Orders}
use Rattle.farm_orders.specs.Reasons.{IsFaultOfMarked}

-- where a mark was read, and no line after it is bad, there is no fault
pub none_behind : (text rest : List ℕ) (octets : ℕ) → rest ≡ take (length text - octets) (drop octets text) → ((n : ℕ) → IsFirstBad (text_lines rest) n → ⊥) →
    ((n : ℕ) → IsFirstBadOfMark text n → ⊥) → ((mark : MarkView) (k : ℕ) → IsRead text mark k → octets ≡ k) → (fault : TextFault) →
    IsFaultOfMarked text fault → ⊥
none_behind text rest octets part none good one (Mark n) bad = good n bad
none_behind text rest octets part none good one (Orders fault) (mark, (orders, (has, lines))) =
    let read : IsRead text mark (length (mark_text mark)) = record { is = has.is; orders = orders; whole = has.whole; place = refl } in
    let e : rest ≡ orders =
    part ∙ take_all (length text - octets) (drop octets text) (omega (arith, length-drop octets text)) ∙ ap (λ k. drop k text) (one mark (length (mark_text mark)) read)
    ∙ ap (drop (length (mark_text mark))) has.whole ∙ drop-append_seam (mark_text mark) orders in
    none fault.line (subst (λ t. IsFirstBad (text_lines t) fault.line) (sym e) lines.line)
