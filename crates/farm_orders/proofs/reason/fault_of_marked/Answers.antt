use Rattle.std.proofs.Common.{◌≡◌, None, refl, sym, subst}
use Rattle.std.specs.Prelude.{IsNone}
use Rattle.farm_orders.proofs.Behind.{none_behind}
use Rattle.farm_orders.proofs.reason.fault_of_marked.Goals.{in-Ok, in-Err-Line, in-Err-Memory}
use Rattle.farm_orders.proofs.reason.fault_of_marked.Goals as goal

pub returns-clause-none : goal.returns-clause-none
returns-clause-none c = λ none short fault bad. elim c.match-read_mark.branch [
  | in-Ok w ↦
      let is = w.result-is in
      let found : w.fault_of_orders.result ≡ None = cc in
      none_behind c.args.text.now _ w.in-Ok.octets refl (w.fault_of_orders.ensures.none (subst (λ r. IsNone r) (sym found) refl)) (λ n first. (w.in-Ok.ensures.first n first).0)
      (λ mark k read. (w.in-Ok.ensures.known mark k read).0.1) fault bad
  | in-Err-Line w ↦ let is = w.result-is in cc
  | in-Err-Memory w ↦ let is = w.result-is in cc
]
