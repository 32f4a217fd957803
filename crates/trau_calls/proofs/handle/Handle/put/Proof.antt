use Rattle.std.proofs.Common.{◌≡◌, List, [], ◌∷◌, ◌++◌, refl, sym}
use Rattle.std.specs.Prelude.{Some, None}
use Rattle.std.proofs.raw_atomic.Walks.{proved_at}
use base.Fraction.{full_share}
use base.Logic.{id⊢}
use base.Fml.{ftrue, flft}
use mir.Syntax.{named}
use mir.Val.{Val, vunit, vptr}
use contract.Monad.{fact}
use contract.Running.{tables}
use prog.Wp.{WpFn}
use types.Kit.{‵, raw, prop, ◌⊛◌, ◌$◌, ◌∵◌, !, qed, done, move, keep, drop, use1, split, join, fsplit, fsplit3, fjoin, fpack, feq_i, rewrite, regoal, suffices, frame, group}
use types.Run.{enter, stop, fld, of_opd, unit_lit, assigns, returns}
use types.ByLocal.{alloc_all, pass_all, free_all, look_at, get, get_in, through, sets}
use types.Part.{whole, sub, store_in}
use denote.Exit.{yes}
use denote.Laws.{shows}
use denote.Memory.{cell_at}
use denote.RattleType.{RattleType, Valss}
use denote.RawPtr.{RawPtr, block_ptr}
use denote.Ref.{MutRef, mut_at, mut_vals, mut_Tells}
use denote.Signature.{plain}
use denote.Steps.{nothing, opens, closes, heard, peeks}
use denote.Struct.Struct.{within}
use denote.Struct.Owning.{shape}
use denote.Triple.Walked.{Stays, walk_of, says, stay_ref, Goes-ref, stay_dropped, ends_at}
use Rattle.std.proofs.alloc.Calls.{Goes-blank}
use Rattle.std_alloc.proofs.BoxSteps.Form.{B, D, word, box_typed}
use Rattle.std_alloc.proofs.BoxSteps.Steps.{box_out}
use Rattle.std.specs.contracts.alloc.Global.{the_row as G}
use Rattle.std.specs.contracts.impls.GlobalAllocator.TheImpl.{ghosts}
use Rattle.rtp_call.specs.contracts.call.Call.{the_row as C}
use Rattle.trau_calls.specs.contracts.parts.Parts as parts
use Rattle.trau_calls.specs.contracts.handle.Handle.{the_row as R, the_type}
use Rattle.trau_calls.proofs.handle.Handle.TheLaws.{lowers}
use Rattle.trau_calls.specs.contracts.handle.Handle.put as f
use Rattle.trau_calls.proofs.handle.Handle.put.Statement.{statement}
use Rattle.trau_calls.proofs.handle.Handle.put.Code as code
use Rattle.trau_calls.proofs.Steps.{boxed}

abbrev From : RattleType
From = parts.the_row C G ghosts

abbrev stayed : Stays f.ended.signature.params f.ended.kept
stayed = (stay_ref (0 ∷ []) tt (plain (λ _. R)), (stay_dropped (plain (λ _. From)) yes, tt))

pub put_spec : {M : Type 1} → statement M
put_spec 𝓤 𝓛 𝓜 𝓡 wired =
    let c = f.clauses 𝓛 𝓜.mem 𝓡.returns in let 𝓣 = tables 𝓤 𝓛.H 𝓜 𝓡 𝓡.env in
    proved_at 𝓛 f.ended stayed c 𝓜 𝓡 (Goes-ref 𝓛 1 0 tt (plain (λ _. R)), (Goes-blank 𝓛 1 (plain (λ _. From)) yes (λ κs x f. tt), tt))
    f.Key.name code.function (code.unfolded 𝓤 𝓛.H 𝓜 𝓡 wired) (λ y are.
    let κ = y.0.0.0 in let q = y.0.1.0 in let self = y.0.3.0 in let b = self.ref_ptr.0 in let o = self.ref_ptr.1 in let h = self.now in
    let v = y.0.3.1.0 in let vs = y.0.4.0 in let ws = y.0.4.1.0 in
    let d : D boxed = record { ptr = v.ptr; alloc = v.alloc; value = v.value } in
    let told : vs ≡ mut_vals self = mut_Tells (named 0) κ R self vs are.0 in
    let Self = λ (us : List Val). ‵ ((MutRef (named 0) κ R).own_val self us) in
    qed 𝓛 (((‵ (flft κ q) ⊛ ‵ ftrue) ⊛ (Self vs ⊛ (‵ (From.own_val v ws) ⊛ ‵ ftrue))) ∷ raw (fact 𝓤 (h.call ≡ None)) ∷ []) ∵
    move ! (1 ∷ []) $ heard ! _ (λ none.
    split ! $ split ! $ move ! (2 ∷ []) $ split ! $ move ! (1 ∷ []) $ split ! $ keep ! (2 ∷ 3 ∷ 0 ∷ []) $
    -- [self; the token; the parts]
    rewrite ! 0 Self told refl $ move ! (2 ∷ []) $ use1 𝓛 (‵ ((B boxed).own_val d ws)) (id⊢ 𝓤 _) $ box_out boxed ! d ws (λ b' o' hw e is' fits.
    -- [the call; the right to free it; the allocator; self; the token]
    let w : Val = word boxed hw b' o' in
    move ! (3 ∷ 4 ∷ 0 ∷ 1 ∷ []) $
    regoal ! (λ us. prop (WpFn 𝓤 𝓛.H 𝓣.C 𝓣.Λ code.function us ((walk_of 𝓛 f.ended stayed c).post y))) (λ i. told i ++ (is' i ++ [])) refl $
    enter ! _ _ _ _ _ $ alloc_all ! (λ l. pass_all ! refl ((tt, tt), (box_typed boxed hw b' o' fits, tt)) $
    sets ! (of_opd ! (get_in ! (fld ! refl (stop !)) (sub ! 0 refl (whole !)))) refl (tt, tt) $
    -- [self; the token; the call; the right to free it; the allocator]
    fsplit3 ! $ move ! (1 ∷ 2 ∷ 3 ∷ []) $ opens ! tt R b o (λ us.
    move ! (1 ∷ []) $ peeks ! R _ (shows 𝓛 R) h us (λ is. fsplit ! $ drop ! $ drop ! $
    rewrite ! 0 (λ (xs : List Val). ‵ (cell_at full_share R.mir xs b o)) (lowers.val_is h us is) refl $
    -- [the handle's cell; the open borrow, in three entries; self's first part; the call; the right to free it]
    assigns ! (of_opd ! (get ! refl)) (through ! refl (fld ! refl (stop !))) (store_in ! 0 (sub ! 0 refl (whole !)) (tt, tt)) $
    sets ! (of_opd ! (unit_lit !)) refl (tt, tt) $
    let u : Val = lowers.lowered (record h { state = block_ptr b' o' }) in
    move ! (5 ∷ 6 ∷ []) $ fjoin ! $
    nothing ! $ feq_i ! (List Val) (vptr b' o' ∷ []) (vptr b' o' ∷ []) refl $ fjoin ! $ feq_i ! (List Val) (u ∷ []) (u ∷ []) refl $ fjoin ! $
    fpack ! (Valss (RawPtr ∷ [])) (within (shape the_type) (block_ptr b' o', tt) (u ∷ [])) (vptr b' o' ∷ [], tt) $ fjoin ! $
    move ! (1 ∷ 0 ∷ []) $ closes ! tt R (record h { state = block_ptr b' o'; call = Some v.value }) (u ∷ []) b o $
    -- [two parts of self; the token; self's first part]
    returns ! (look_at ! 0 refl) $ free_all ! refl $ keep ! (3 ∷ 0 ∷ 1 ∷ 2 ∷ []) $ rewrite ! 0 (λ (xs : List Val). ‵ (mut_at self xs)) (sym told) refl $
    suffices ! _ (ends_at 𝓛 f.ended stayed c y vunit tt (record h { state = block_ptr b' o'; call = Some v.value }, (tt, tt)) (tt, (tt, tt))) $ says ! refl $
    group ! 3 $ nothing ! $ nothing ! $ join ! $ move ! (1 ∷ 0 ∷ []) $ join ! $ nothing ! $ move ! (2 ∷ 0 ∷ []) $ join ! $ frame ! $ frame ! $
    feq_i ! _ (vunit ∷ []) _ refl $ done !))))))
