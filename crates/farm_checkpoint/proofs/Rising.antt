-- Calls whose numbers rise: those in front of one are below it, those behind it above.
use Rattle.std.proofs.Common.{suc, ◌+◌, ◌<◌, List, ◌∷◌, ◌++◌, length, arith}
use Rattle.std.specs.List.{All}
use Rattle.std.proofs.lemmas.List.{length-append, get_or_append_left, get_or-append-add}
use Rattle.std.proofs.lemmas.List.Elements.{All-from_get_or}
use Rattle.std.proofs.Math.Seq.{get_or-append_seam}
use Rattle.farm_checkpoint.specs.declared.mark.MarkCall.{MarkCall}
use Rattle.farm_checkpoint.specs.Marks.{NumbersRise}

pub front_below : (front : List MarkCall) (x : MarkCall) (back : List MarkCall) → NumbersRise (front ++ x ∷ back) → All (λ e. e.call < x.call) front
front_below front x back rises =
    All-from_get_or (λ e. e.call < x.call) front x
    (λ i within.
    let pair = rises i (length front) x within (omega (arith, length-append front (x ∷ back))) in
    rw (get_or_append_left front (x ∷ back) x i within, get_or-append_seam front x back x) at pair)

pub back_above : (front : List MarkCall) (x : MarkCall) (back : List MarkCall) → NumbersRise (front ++ x ∷ back) → All (λ e. x.call < e.call) back
back_above front x back rises =
    All-from_get_or (λ e. x.call < e.call) back x
    (λ i within.
    let pair = rises (length front) (length front + suc i) x (omega arith) (omega (arith, within, length-append front (x ∷ back))) in
    rw (get_or-append_seam front x back x, get_or-append-add front (x ∷ back) (suc i) x) at pair)
