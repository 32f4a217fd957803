-- An order that was due: what it leaves, and that ends are told in time after it too.
use Rattle.std.proofs.Common.{◌≡◌, refl, sym, ap, ◌∙◌, subst, ℕ, ◌+◌, ◌≤◌, Bool, true, false, not, ◌&&◌, Option, Some, None, List, [], ◌∷◌, ◌++◌, length}
use Rattle.std.proofs.Common.{map, drop, arith, inl, inr}
use Rattle.std.specs.Prelude.{if◌then◌else◌, ◌==◌, is_some, IfSome, Result}
use Rattle.std.proofs.Math.Seq.{drop-append_seam}
use Rattle.std.proofs.lemmas.Bool.{eqb-true, le-ltb}
use Rattle.trau_orders.specs.declared.order.Order.{Order}
use Rattle.trau_orders.specs.Lists.{AreOrders}
use Rattle.switchboard.specs.declared.act.Act.{Act}
use Rattle.switchboard.specs.declared.act.Refusal.{Refusal}
use Rattle.switchboard.specs.declared.act.Reply.{Reply}
use Rattle.switchboard.specs.Calls.{Done, opened_at, closed_at, is_open, gone_at}
use Rattle.switchboard.specs.Runs.{TellsEnds}
use Rattle.switchboard.specs.State.{State, gone_in, first_stamp, orders_of, due, done_by, after_turn, reply_of}
use Rattle.switchboard.specs.Stands.{AreRising}
use Rattle.switchboard.specs.Open.{open_now}
use Rattle.switchboard.proofs.Orders.InRange.{left_rising}
use Rattle.run_spec.proofs.Orders.OpenCalls.{closed_kept, gone_is, gone_kept, opened_cases}

-- an order was due, and this is its reply
pub record Due (s : State) (t : ℕ) (reply : Reply) (n : State) : Type 0 where
  pub order : Order
  pub rest : List Order
  pub left : s.left ≡ order ∷ rest
  pub stamp : order.stamp ≡ t
  pub result : reply.result ≡ (done_by s order).result
  pub new : n ≡ record { left = rest; done = s.done ++ done_by s order ∷ []; told = s.told }

-- a step that replied executed an order that was due
pub due_of : (s n : State) (t : ℕ) (reply : Reply) → Some reply ≡ reply_of s (due s.left t) →
    n ≡ after_turn s (due s.left t) → Due s t reply n
due_of s n t reply e f = by s.left refl
  where
    one : (o : Order) (rest : List Order) (b : Bool) → (o.stamp == t) ≡ b → s.left ≡ o ∷ rest →
        Some reply ≡ reply_of s (if b then Some o else None) →
        n ≡ after_turn s (if b then Some o else None) → Due s t reply n
    one o rest true q l h k = record {
      order = o;
      rest = rest;
      left = l;
      stamp = eqb-true o.stamp t q;
      result = ap (λ (x : Option Reply). elim x as (λ _. Result Act Refusal) [ None ↦ reply.result | Some x ↦ x.result ]) h;
      new = k ∙ ap (λ os. record { left = drop 1 os; done = s.done ++ done_by s o ∷ []; told = s.told }) l;
    }
    one o rest false q l h k = cc

    by : (os : List Order) → s.left ≡ os → Due s t reply n
    by [] l = let h = e ∙ ap (λ os. reply_of s (due os t)) l in cc
    by (o ∷ rest) l = one o rest (o.stamp == t) refl l (e ∙ ap (λ os. reply_of s (due os t)) l) (f ∙ ap (λ os. after_turn s (due os t)) l)

-- a step tells no end
pub told_kept : (s n : State) (o : Option Order) → n ≡ after_turn s o → n.told ≡ s.told
told_kept s n None e = ap (λ (m : State). m.told) e
told_kept s n (Some o) e = ap (λ (m : State). m.told) e

-- one that executes an order leaves one order less
pub left_fewer : (s n : State) (t : ℕ) (reply : Reply) → Due s t reply n → length n.left + 1 ≡ length s.left
left_fewer s n t reply d = omega (arith, ap (λ (m : State). length m.left) d.new, ap length d.left)

-- the orders that are left after it come no earlier
pub ahead_more : (s n : State) (t : ℕ) (reply : Reply) → AreOrders (orders_of s) → Due s t reply n →
    IfSome (first_stamp n.left) (λ u. t ≤ u)
ahead_more s n t reply a d = subst (λ (m : State). IfSome (first_stamp m.left) (λ u. t ≤ u)) (sym d.new)
    (by d.rest (subst AreRising (drop-left ∙ d.left) (left_rising (orders_of s) (length (map (λ (e : Done). e.order) s.done)) a)))
  where
    drop-left : drop (length (map (λ (e : Done). e.order) s.done)) (orders_of s) ≡ s.left
    drop-left = drop-append_seam (map (λ (e : Done). e.order) s.done) s.left

    by : (os : List Order) → AreRising (d.order ∷ os) → IfSome (first_stamp os) (λ u. t ≤ u)
    by [] r = tt
    by (p ∷ os) r = let h = r.rising 1 p (omega arith) in let e = d.stamp in omega arith

-- where the ends are told in time, the same calls are open as by the definition
pub open_told : (whole : ℕ → ℕ) (t : ℕ) (s : State) → TellsEnds whole t s → (c : ℕ) →
    open_now s c ≡ is_open (gone_at whole t s.done) s.done c
open_told whole t s tells c = by (opened_at c s.done) (closed_at c s.done) (tells c)
  where
    by : (o l : Option ℕ) → (is_some o ≡ true → l ≡ None → gone_in s c ≡ gone_at whole t s.done c) →
        (is_some o && not (is_some l) && not (gone_in s c)) ≡ (is_some o && not (is_some l) && not (gone_at whole t s.done c))
    by None l h = refl
    by (Some a) (Some b) h = refl
    by (Some a) None h = ap not (h refl refl)

-- ---- ends are told in time after an order too

-- the executed orders with one more behind them
abbrev more : State → Done → List Done
more s d = s.done ++ d ∷ []

module _ (whole : ℕ → ℕ) (t : ℕ) (s n : State) (d : Done) (told : (c : ℕ) → gone_in n c ≡ gone_in s c) (done : n.done ≡ more s d) where
  -- a call that no order closed by then was closed by none before
  was_open : (c : ℕ) → closed_at c n.done ≡ None → closed_at c s.done ≡ None
  was_open c e = by (closed_at c s.done) refl
    where
      by : (o : Option ℕ) → closed_at c s.done ≡ o → closed_at c s.done ≡ None
      by None q = q
      by (Some u) q = let k : closed_at c n.done ≡ Some u = ap (closed_at c) done ∙ closed_kept s.done (d ∷ []) c u q in cc

  -- a call that was opened before
  old_tells : TellsEnds whole t s → (c u : ℕ) → opened_at c s.done ≡ Some u →
      closed_at c n.done ≡ None → gone_in n c ≡ gone_at whole t n.done c
  old_tells tells c u o e =
      told c ∙ tells c (ap is_some o) (was_open c e) ∙ sym (gone_kept whole t s.done (d ∷ []) c u o) ∙ ap (λ ds. gone_at whole t ds c) (sym done)

  -- a call that the order opened
  new_tells : (c u : ℕ) → opened_at c n.done ≡ Some u → t ≤ u → gone_in n c ≡ false → gone_in n c ≡ gone_at whole t n.done c
  new_tells c u o l g = g ∙ sym (gone_is whole t n.done c u o ∙ le-ltb (u + whole c) t (omega arith))

  -- **So the ends are told in time after the order, where a call that it opens begins at the clock and isn't gone.**
  pub tells_more : TellsEnds whole t s → ((c u : ℕ) → opened_at c (d ∷ []) ≡ Some u → (t ≤ u) × (gone_in n c ≡ false)) → TellsEnds whole t n
  tells_more tells fresh c o e = by (opened_at c n.done) refl o
    where
      by : (p : Option ℕ) → opened_at c n.done ≡ p → is_some (opened_at c n.done) ≡ true → gone_in n c ≡ gone_at whole t n.done c
      by None q o = let k = ap is_some q in cc
      by (Some u) q o = elim (opened_cases s.done (d ∷ []) c u (sym (ap (opened_at c) done) ∙ q)) [
        | inl h ↦ old_tells tells c u h e
        | inr h ↦ let f = fresh c u h.1 in new_tells c u q f.0 f.1
      ]
