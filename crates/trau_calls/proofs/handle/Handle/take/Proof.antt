use Rattle.std.proofs.Common.{List, [], ◌∷◌, refl, sym, ap, ◌∙◌}
use Rattle.std.specs.Prelude.{Option, None}
use Rattle.std.proofs.raw_atomic.Walks.{proved}
use base.Fraction.{full_share}
use base.Logic.{id⊢, fst∗, never}
use base.Fml.{ftrue, flft}
use mir.Syntax.{named}
use mir.Raw.{raw as bare}
use mir.Val.{Val}
use contract.Monad.{fact}
use contract.Running.{tables}
use types.Logic.{sem}
use types.Kit.{‵, raw, ◌⊛◌, ◌$◌, ◌∵◌, !, qed, done, move, keep, use1, split, join, fsplit, fsplit3, fjoin, rewrite, suffices, frame, group}
use types.Run.{enter, load, stop, fld, no_more, and_then, of_opd, returns}
use types.ByLocal.{alloc_all, pass_all, free_all, look_at, get, through, sets}
use types.Part.{whole, sub, look_in, agg}
use denote.Exit.{yes}
use denote.Laws.{shows}
use denote.Memory.{cell_at}
use denote.RawPtr.{Ptr, block_ptr, null_ptr, in_a_block}
use denote.Ref.{MutRef, mut_vals, mut_Tells}
use denote.Signature.{plain}
use denote.Steps.{nothing, opens, closes, heard, peeks}
use denote.Triple.Walked.{Stays, walk_of, says, stay_ref, Goes-ref, stay_dropped, Goes-dropped, ends_at}
use Rattle.std.proofs.alloc.Calls.{token}
use Rattle.std.specs.Box.Ownership.{box_owns}
use Rattle.std_alloc.proofs.BoxSteps.Form.{D, τ, word, box_typed}
use Rattle.std_alloc.proofs.BoxSteps.Steps.{box_in}
use Rattle.std.specs.contracts.alloc.Global.{the_row as G}
use Rattle.std.proofs.alloc.Global.TheLaws as of_global
use Rattle.rtp_call.specs.contracts.call.Call.{the_row as C}
use Rattle.trau_calls.specs.Held.{held}
use Rattle.trau_calls.specs.Begun.{IsBegun}
use Rattle.trau_calls.specs.contracts.handle.Handle.{the_row as R}
use Rattle.trau_calls.proofs.handle.Handle.TheLaws.{lowers}
use Rattle.trau_calls.specs.contracts.parts.Parts as parts
use Rattle.std.specs.contracts.impls.GlobalAllocator.TheImpl.{ghosts}
use denote.RattleType.{RattleType}
use Rattle.trau_calls.specs.contracts.handle.Handle.take as f
use Rattle.trau_calls.proofs.handle.Handle.take.Statement.{statement}
use Rattle.trau_calls.proofs.handle.Handle.take.Code as code
use Rattle.trau_calls.proofs.Steps.{boxed, is_begun, word-of, global-fits}

abbrev To : RattleType
To = parts.the_row C G ghosts

abbrev stayed : Stays f.ended.signature.params f.ended.kept
stayed = (stay_ref (0 ∷ []) tt (plain (λ _. R)), (stay_dropped (plain (λ _. G)) yes, tt))

pub take_spec : {M : Type 1} → statement M
take_spec 𝓤 𝓛 𝓜 𝓡 wired =
    let c = f.clauses 𝓛 𝓜.mem 𝓡.returns in let W = walk_of 𝓛 f.ended stayed c in let 𝓣 = tables 𝓤 𝓛.H 𝓜 𝓡 𝓡.env in
    proved 𝓛 f.ended stayed c 𝓜 𝓡 (Goes-ref 𝓛 1 0 tt (plain (λ _. R)), (Goes-dropped 𝓛 1 (plain (λ _. G)) yes (λ κs x w. refl), tt))
    f.Key.name code.function (code.unfolded 𝓤 𝓛.H 𝓜 𝓡 wired)
    (λ κs. (mut_vals, ((λ g. word-of g ∷ []), tt))) (λ κs. (mut_Tells (named 0) κs.0 R, (of_global.lowers.val_is, tt))) (λ κs qs bounds a _ are.
    let b = a.0.ref_ptr.0 in let o = a.0.ref_ptr.1 in let h = a.0.now in let vs = mut_vals a.0 in let g = a.1.0 in let hw = word-of g in
    let y : W.Ghost = ((κs, qs, bounds, a, (vs, (hw ∷ [], tt))), tt) in
    qed 𝓛 (((‵ (flft κs.0 qs.0) ⊛ ‵ ftrue) ⊛ (‵ ((MutRef (named 0) κs.0 R).own_val a.0 vs) ⊛ (‵ (G.own_val g (hw ∷ [])) ⊛ ‵ ftrue))) ∷ raw (fact 𝓤 (IsBegun h.call)) ∷ []) ∵
    move ! (1 ∷ []) $ heard ! _ (λ begun. let there = is_begun h.call begun in let x = there.call in
    split ! $ split ! $ move ! (2 ∷ []) $ split ! $ move ! (1 ∷ []) $ split ! $ keep ! (2 ∷ 3 ∷ 0 ∷ []) $
    -- [self; the token; the allocator]
    enter ! _ _ _ _ _ $ alloc_all ! (λ l. pass_all ! refl ((tt, tt), (global-fits g, tt)) $
    fsplit3 ! $ move ! (1 ∷ 2 ∷ 3 ∷ []) $ opens ! tt R b o (λ us.
    move ! (1 ∷ []) $ peeks ! R _ (shows 𝓛 R) h us (λ is. fsplit ! $ move ! (1 ∷ []) $
    rewrite ! 0 (λ (m : Option C.Denot). ‵ (held h.heap h.state m)) there.is refl $
    in_a_block ! h.state (λ p. box_owns (token boxed.al h.heap) C p x) (fst∗ 𝓤 (never 𝓤) (sem 𝓛 (token boxed.al h.heap (bare (τ boxed)) null_ptr))) (λ b' o' e. fsplit ! $
    let word-is = lowers.val_is h us is ∙ ap (λ (p : Ptr). lowers.lowered (record h { state = p }) ∷ []) e in
    let Cell = λ (ws : List Val). ‵ (cell_at full_share R.mir ws b o) in
    rewrite ! 3 Cell word-is refl $
    -- [the call; the right to free it; what the fields own; the handle's cell; the open borrow, in three entries; the
    -- allocator]
    sets ! (of_opd ! (load ! (through ! refl (fld ! refl (stop !))) (look_in ! 3 (sub ! 0 refl (whole !))))) refl (tt, tt) $
    sets ! (agg ! (and_then ! (get ! refl) (and_then ! (get ! refl) (no_more !)))) refl (box_typed boxed hw b' o' (global-fits g)) $
    rewrite ! 3 Cell (sym word-is) refl $
    nothing ! $ move ! (3 ∷ 0 ∷ []) $ fjoin ! $ move ! (3 ∷ 0 ∷ 4 ∷ 5 ∷ 6 ∷ []) $ closes ! tt R (record h { call = None }) us b o $
    -- [two parts of self; the token; the call; the right to free it; self's first part; the allocator]
    move ! (3 ∷ 4 ∷ 6 ∷ []) $
    let d : D boxed = record { ptr = block_ptr b' o'; alloc = g; value = x } in let made : To.Denot = record { ptr = block_ptr b' o'; alloc = g; value = x } in
    box_in boxed ! d b' o' x refl refl $ use1 𝓛 (‵ (To.own_val made (word boxed hw b' o' ∷ []))) (id⊢ 𝓤 _) $
    returns ! (look_at ! 0 refl) $ free_all ! refl $
    -- [the result; two parts of self; the token; self's first part]
    move ! (4 ∷ 1 ∷ 2 ∷ 3 ∷ 0 ∷ []) $
    suffices ! _ (ends_at 𝓛 f.ended stayed c y (word boxed hw b' o') made (record h { call = None }, (tt, tt)) (tt, (tt, tt))) $ says ! (there.is, there.ready, refl) $
    group ! 3 $ nothing ! $ nothing ! $ join ! $ move ! (1 ∷ 0 ∷ []) $ join ! $ nothing ! $ move ! (2 ∷ 0 ∷ []) $ join ! $ frame ! $ frame ! $ done !))))))
