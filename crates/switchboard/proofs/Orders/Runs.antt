-- The replies to a whole list of orders, one more at a time.
use Rattle.std.proofs.Common.{◌≡◌, refl, sym, ap, ◌∙◌, ℕ, Bool, true, Option, Some, None, List, [], ◌∷◌, ◌++◌, map}
use Rattle.std.specs.Prelude.{◌&&◌, not, is_some, is_none, find}
use Rattle.std.proofs.lemmas.List.{map-append}
use Rattle.trau_orders.specs.declared.order.Order.{Order}
use Rattle.switchboard.specs.Calls.{Done, opened_at, is_open, gone_at}
use Rattle.switchboard.specs.Replies.{Known, reply_from, reply_to}
use Rattle.switchboard.specs.Bridges.{joins, bridge_ended, bridges}
use Rattle.switchboard.specs.Runs.{done_after, IsRun, TellsEnds}
use Rattle.switchboard.specs.State.{State, gone_in, after_turn}

done_after-more : (whole : ℕ → ℕ) (ds : List Done) (os : List Order) (o : Order) →
    done_after whole ds (os ++ o ∷ []) ≡ done_after whole ds os
    ++ record { order = o; result = reply_to (gone_at whole o.stamp (done_after whole ds os)) (done_after whole ds os) o } ∷ []
done_after-more whole ds [] o = refl
done_after-more whole ds (p ∷ os) o = done_after-more whole (ds ++ record { order = p; result = reply_to (gone_at whole p.stamp ds) ds p } ∷ []) os o

-- a call is open as before where only the ends of calls that are not open differ
open_same : (o l : Option ℕ) (x y : Bool) → (is_some o ≡ true → l ≡ None → x ≡ y) → (is_some o && not (is_some l) && not x)
    ≡ (is_some o && not (is_some l) && not y)
open_same None l x y h = refl
open_same (Some s) (Some t) x y h = refl
open_same (Some s) None x y h = ap not (h refl refl)

abbrev known_by : (ℕ → Bool) → ℕ → List Done → Known
known_by f t ds = record {
  is_open = f;
  has_ended = λ c. is_some (opened_at c ds) && not (f c);
  bridge_of = λ c. find (λ x. joins c x && (is_none x.ended && f x.a && f x.b)) (bridges ds);
  bridge_ended = bridge_ended t ds;
}

-- the reply depends on which calls are open alone
same_reply : (g h : ℕ → Bool) (ds : List Done) (o : Order) → ((c : ℕ) → is_open g ds c ≡ is_open h ds c) → reply_to g ds o ≡ reply_to h ds o
same_reply g h ds o e =
    let f : is_open g ds ≡ is_open h ds = λ i. λ c. e c i in
    ap (λ f. reply_from (known_by f o.stamp ds) o.what) f

-- one more order of a run
pub run_more : (whole : ℕ → ℕ) (s : State) (o : Order) → IsRun whole s.done → TellsEnds whole o.stamp s → IsRun whole (after_turn s (Some o)).done
run_more whole s o r t =
    let x = reply_to (gone_in s) s.done o in
    let e = same_reply (gone_in s) (gone_at whole o.stamp s.done) s.done o (λ c. open_same _ _ _ _ (t c)) in
    ap (λ x. s.done ++ record { order = o; result = x } ∷ []) e
    ∙ ap (λ ds. ds ++ record { order = o; result = reply_to (gone_at whole o.stamp ds) ds o } ∷ []) r
    ∙ sym (done_after-more whole [] (map (λ d. d.order) s.done) o)
    ∙ ap (done_after whole []) (sym (map-append (λ (d : Done). d.order) s.done (record { order = o; result = x } ∷ [])))
