-- What each part of a run leaves where it runs out of memory.
use Rattle.std.proofs.Common.{◌≡◌, sym, subst, ℕ, ◌≤◌, true, false, inl, inr}
use Rattle.std.specs.Prelude.{Result, Ok, Err, IfOk, OnErr}
use Rattle.trau_io.specs.declared.line.Side.{Side}
use Rattle.trau_io.specs.Lines.{LineState}
use Rattle.trau_orders.specs.declared.order.Order.{Order}
use Rattle.farm_checkpoint.specs.Marks.{MarkView}
use Rattle.std.specs.Prelude.{List}
use Rattle.farm_run.specs.declared.outgoing.Outgoing.{Outgoing}
use Rattle.farm_run.specs.Fronts.{IsCutShort}
use Rattle.farm_run.specs.Outgoing.{is_held}
use Rattle.farm_run.specs.Resuming.{IsResumeCutShort}
use Rattle.farm_run.specs.Parts.{StopsShort}
use Rattle.farm_run.proofs.Lines.Cutting.{cut_first}
use Rattle.farm_run.proofs.Marked.Resumption.{part_cut, held_cut, unbegun_cut}

-- what follows from what a function gives, if it gives a value
pub ok_then : {T E : Type 0} {P Q : T → Type 0} (o : Result T E) → IfOk o P → ((x : T) → P x → Q x) → IfOk o Q
ok_then (Ok x) p h = h x p
ok_then (Err e) p h = tt

-- what follows if it gives an error
pub err_then : {T E P Q : Type 0} (o : Result T E) → OnErr o P → (P → Q) → OnErr o Q
err_then (Ok x) p h = tt
err_then (Err e) p h = h p

-- what follows from either
pub either_way : {T E Q R : Type 0} {P : T → Type 0} (o : Result T E) → IfOk o P → OnErr o Q → ((x : T) → P x → R) → (Q → R) → R
either_way (Ok x) p q f h = f x p
either_way (Err e) p q f h = h q

-- **A run that stops short of its end is cut short.**
pub part_short : (os : List Order) (batch periods : ℕ) (o : Outgoing) (first now : ℕ → Side → LineState) → is_held o ≡ false →
    StopsShort os o batch periods first now → IsCutShort os batch periods first now
part_short os batch periods o first now written (inl same) = subst (λ (lines : ℕ → Side → LineState). IsCutShort os batch periods first lines) (sym same)
    (cut_first os batch periods first)
part_short os batch periods o first now written (inr x) = part_cut os batch periods o x.first first now x.is_first written x.after

-- **A resumed run that stops short of the mark is cut short.**
pub held_short : (os : List Order) (batch periods until : ℕ) (mark : MarkView) (o : Outgoing)
    (first now : ℕ → Side → LineState) → is_held o ≡ true →
    until ≤ periods → until ≤ mark.period → StopsShort os o batch until first now → IsResumeCutShort os batch periods mark first now
held_short os batch periods until mark o first now held within early (inl same) =
    subst (λ (lines : ℕ → Side → LineState). IsResumeCutShort os batch periods mark first lines) (sym same) (unbegun_cut os batch periods mark first)
held_short os batch periods until mark o first now held within early (inr x) =
    held_cut os batch periods until mark o x.first first now x.is_first held within early x.after
