-- For crates above: what an accepted order shows of the orders before it (`shown`), and that a call opens at its
-- order's stamp (`opens`).
use Rattle.std.proofs.Common.{◌≡◌, refl, sym, ap, subst, ℕ, Bool, true, false, Option, Some, None, [], ◌∷◌, inl, inr}
use Rattle.std.specs.Prelude.{Result, Ok, Err, not, option_map, ◌==◌, if◌then◌else◌}
use Rattle.std.proofs.lemmas.Bool.{eqb-true}
use Rattle.trau_alaw.specs.declared.Law.{Law}
use Rattle.trau_orders.specs.declared.order.Order.{Order}
use Rattle.trau_orders.specs.declared.order.What.{What}
use Rattle.trau_orders.specs.declared.order.What.TheVariants as what
use Rattle.switchboard.specs.declared.act.Act.{Act}
use Rattle.switchboard.specs.declared.act.Act.TheVariants as act
use Rattle.switchboard.specs.declared.act.Refusal.{Refusal}
use Rattle.switchboard.specs.declared.table.Bridge.{Bridge}
use Rattle.switchboard.specs.Calls.{Done, opened_at, closed_at}
use Rattle.switchboard.specs.Bridges.{other}
use Rattle.switchboard.specs.Replies.{Known, refuse_if, reply_from}
use Rattle.switchboard.proofs.Orders.Replies.{IsRefused, reply, Joined, open_accepted, close_accepted, bridge_accepted, unbridge_accepted}

-- what an accepted order shows of what was known before it
abbrev pub ShownBy : Known → Result Act Refusal → Type 0
ShownBy k (Ok (act.Opened c law)) = (k.is_open c ≡ false) × (k.has_ended c ≡ false)
ShownBy k (Ok (act.Closed c p)) = (k.is_open c ≡ true) × (p ≡ option_map (other c) (k.bridge_of c))
ShownBy k (Ok (act.Bridged a b)) = Joined k a b
ShownBy k (Ok (act.Unbridged a b)) = (c : ℕ) × (x : Bridge) × (k.bridge_of c ≡ Some x) × (a ≡ x.a) × (b ≡ x.b)
ShownBy k (Ok (act.LevelSet c v)) = k.is_open c ≡ true
ShownBy k (Ok (act.DtxSet c m)) = k.is_open c ≡ true
ShownBy k (Err e) = Unit {0}

refused : (k : Known) (r : Result Act Refusal) → IsRefused r → ShownBy k r
refused k r e = subst (ShownBy k) (sym e.1) tt

-- an order that is refused only where its call isn't open
setting : (k : Known) (b : Bool) (e : Refusal) (a : Act) → (b ≡ true → ShownBy k (Ok a)) → ShownBy k (reply (refuse_if (not b) e ∷ []) a)
setting k true e a h = h refl
setting k false e a h = tt

-- **An order is accepted only where this holds.**
pub shown : (k : Known) (w : What) → ShownBy k (reply_from k w)
shown k (what.OpenCall c law) = elim (open_accepted k c law) [ inl e ↦ refused k _ e | inr p ↦ subst (ShownBy k) (sym p.0) (p.1, p.2) ]
shown k (what.CloseCall c) = elim (close_accepted k c) [ inl e ↦ refused k _ e | inr p ↦ subst (ShownBy k) (sym p.0) (p.1, refl) ]
shown k (what.Bridge a b) = elim (bridge_accepted k a b) [ inl e ↦ refused k _ e | inr p ↦ subst (ShownBy k) (sym p.0) p.1 ]
shown k (what.Unbridge c) = elim (unbridge_accepted k c) [ inl e ↦ refused k _ e | inr p ↦ subst (ShownBy k) (sym p.1) (c, p.0, p.3, refl, refl) ]
shown k (what.Level c v) = setting k (k.is_open c) _ (act.LevelSet c v) (λ e. e)
shown k (what.Dtx c m) = setting k (k.is_open c) _ (act.DtxSet c m) (λ e. e)

-- ---- what one order opens and closes

-- an executed order
abbrev pub done : Order → Result Act Refusal → Done
done o r = record { order = o; result = r }

one_stamp : (t : Bool) (d : Done) (e : ℕ) → option_map (λ d. d.order.stamp) (if t then Some d else None) ≡ Some e → (t ≡ true) × (e ≡ d.order.stamp)
one_stamp true d e h = (refl, cc)
one_stamp false d e h = cc

-- the call that an order opens was not known
pub opens : (c s : ℕ) (o : Order) (r : Result Act Refusal) → opened_at c (done o r ∷ []) ≡ Some s → ((law : Law) × (r ≡ Ok (act.Opened c law))) × (s ≡ o.stamp)
opens c s o (Ok (act.Opened d law)) e =
    let h = one_stamp (c == d) (done o (Ok (act.Opened d law))) s e in ((law, ap (λ (d : ℕ). Ok (act.Opened d law)) (sym (eqb-true c d h.0))), h.1)
opens c s o (Ok (act.Closed d p)) e = cc
opens c s o (Ok (act.Bridged a b)) e = cc
opens c s o (Ok (act.Unbridged a b)) e = cc
opens c s o (Ok (act.LevelSet d v)) e = cc
opens c s o (Ok (act.DtxSet d m)) e = cc
opens c s o (Err f) e = cc

-- the call that it closes was open
pub closes : (c s : ℕ) (o : Order) (r : Result Act Refusal) → closed_at c (done o r ∷ []) ≡ Some s → (p : Option ℕ) × (r ≡ Ok (act.Closed c p)) × (s ≡ o.stamp)
closes c s o (Ok (act.Closed d p)) e =
    let h = one_stamp (c == d) (done o (Ok (act.Closed d p))) s e in (p, ap (λ (d : ℕ). Ok (act.Closed d p)) (sym (eqb-true c d h.0)), h.1)
closes c s o (Ok (act.Opened d law)) e = cc
closes c s o (Ok (act.Bridged a b)) e = cc
closes c s o (Ok (act.Unbridged a b)) e = cc
closes c s o (Ok (act.LevelSet d v)) e = cc
closes c s o (Ok (act.DtxSet d m)) e = cc
closes c s o (Err f) e = cc
