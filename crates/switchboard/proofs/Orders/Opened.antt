-- An order that changes nothing, and one that opens a call, in the table and in the list of orders.
use Rattle.std.proofs.Common.{◌≡◌, refl, sym, ap, ◌∙◌, subst, ℕ, ◌<◌, ◌≤◌, Bool, true, false, Option, Some, None, List, [], ◌∷◌, ◌++◌, length, map, arith}
use Rattle.std.proofs.Common.{inl, inr, ◌⊎◌}
use Rattle.std.specs.Prelude.{Result, Ok, not, if◌then◌else◌, ◌&&◌, is_some, ◌==◌, option_map, IfSome}
use Rattle.std.proofs.lemmas.Bool.{eqb-true}
use Rattle.std.proofs.lemmas.List.{append-nil}
use Rattle.trau_alaw.specs.declared.Law.{Law}
use Rattle.trau_orders.specs.declared.order.Order.{Order}
use Rattle.switchboard.specs.declared.act.Act.{Act}
use Rattle.switchboard.specs.declared.act.Act.TheVariants as act
use Rattle.switchboard.specs.declared.act.Refusal.{Refusal}
use Rattle.switchboard.specs.declared.table.Call.{Call}
use Rattle.switchboard.specs.Calls.{Done, opened_at, closed_at}
use Rattle.switchboard.specs.Bridges.{ends_bridge, bridge_by}
use Rattle.switchboard.specs.Rows.{Rows, call_in, opened_in, gone_from_in}
use Rattle.switchboard.specs.State.{last_stamp}
use Rattle.switchboard.specs.Stands.{IsTable, Stands}
use Rattle.switchboard.proofs.Orders.OneMore.{or_else, after, bridges-more}
use Rattle.switchboard.proofs.Orders.Steps.{or_else-none, last-more, opened-more, closed-more, field_kept, field_set, after_kept, map_after_same, table_later}
use Rattle.switchboard.proofs.Tables.Calls.{table_opened}
use Rattle.switchboard.proofs.Lists.{none_of}

-- one of two is there
some_either : (u v : Option ℕ) → is_some (or_else u v) ≡ true → (is_some u ≡ true) ⊎ (is_some v ≡ true)
some_either None v e = inr e
some_either (Some x) v e = inl refl

abbrev pub done_from : Order → Result Act Refusal → Done
done_from o r = record { order = o; result = r }

-- a table after an order, from the change of its calls and of its bridges
pub stands_by : (r n : Rows) (ds : List Done) (d : Done) → Stands r ds →
    ((c : ℕ) → c < 4097 → (call_in n c).opened ≡ or_else (call_in r c).opened (opened_at c (d ∷ []))) →
    ((c : ℕ) → c < 4097 → (call_in n c).closed ≡ or_else (call_in r c).closed (closed_at c (d ∷ []))) →
    ((c : ℕ) → is_some (opened_at c (d ∷ [])) ≡ true → c < 4097) →
    n.bridges ≡ map (after d) r.bridges ++ bridge_by d.order.stamp d.result [] →
    IsTable n d.order.stamp → Stands n (ds ++ d ∷ [])
stands_by r n ds d s opened closed inside br t = record {
  opened = λ c h. opened c h ∙ ap (λ o. or_else o (opened_at c (d ∷ []))) (s.opened c h) ∙ sym (opened-more c ds d);
  closed = λ c h. closed c h ∙ ap (λ o. or_else o (closed_at c (d ∷ []))) (s.closed c h) ∙ sym (closed-more c ds d);
  inside = λ c e. elim (some_either (opened_at c ds) (opened_at c (d ∷ [])) (ap is_some (sym (opened-more c ds d)) ∙ e))
      [ inl p ↦ s.inside c p | inr p ↦ inside c p ];
  bridges = br ∙ ap (λ bs. map (after d) bs ++ bridge_by d.order.stamp d.result []) s.bridges ∙ sym (bridges-more ds d);
  table = subst (λ (m : ℕ). IsTable n m) (sym (last-more ds d)) t;
}

-- a reply that changes nothing
pub stands_same : (r : Rows) (ds : List Done) (d : Done) → Stands r ds → last_stamp ds ≤ d.order.stamp →
    ((c : ℕ) → opened_at c (d ∷ []) ≡ None) → ((c : ℕ) → closed_at c (d ∷ []) ≡ None) → ((a b : ℕ) → ends_bridge a b d.result ≡ false) →
    bridge_by d.order.stamp d.result [] ≡ [] → Stands r (ds ++ d ∷ [])
stands_same r ds d s late opened closed ends begins =
    stands_by r r ds d s
    (λ c h. sym (ap (λ o. or_else (call_in r c).opened o) (opened c) ∙ or_else-none _))
    (λ c h. sym (ap (λ o. or_else (call_in r c).closed o) (closed c) ∙ or_else-none _))
    (λ c e. absurd (let q : is_some (opened_at c (d ∷ [])) ≡ false = ap is_some (opened c) in cc))
    (sym (ap (λ bs. map (after d) r.bridges ++ bs) begins ∙ append-nil _ ∙ map_after_same d r.bridges (λ j l. after_kept d _ (ends _ _))))
    (table_later r _ _ s.table late)

abbrev pub IsSome_before : Rows → ℕ → Type 0
IsSome_before r t = (c : ℕ) → IfSome (gone_from_in r c) (λ u. u < t)

pub stamped : (t : Bool) (d : Done) → (if t then Some d.order.stamp else None) ≡ option_map (λ d. d.order.stamp) (if t then Some d else None)
stamped true d = refl
stamped false d = refl

-- neither open nor ended
pub never_opened : (o t : Bool) → t ≡ false → (o && not t) ≡ false → o ≡ false
never_opened o true p q = cc
never_opened true false p q = cc
never_opened false false p q = refl

pub stands_opened : (r : Rows) (ds : List Done) (o : Order) (c : ℕ) (law : Law) → Stands r ds →
    length r.calls ≡ 4097 → last_stamp ds ≤ o.stamp → c < 4097 → is_some (call_in r c).opened ≡ false →
    Stands (opened_in r o.stamp c) (ds ++ done_from o (Ok (act.Opened c law)) ∷ [])
stands_opened r ds o c law s len late h fresh =
    let d : Done = done_from o (Ok (act.Opened c law)) in
    let e : Call = record (call_in r c) { opened = Some o.stamp } in
    let old : (call_in r c).opened ≡ None = none_of _ fresh in
    stands_by r (opened_in r o.stamp c) ds d s
    (λ k l. field_set (λ x. x.opened) r.calls c e o.stamp (omega arith) refl old k ∙ ap (λ u. or_else (call_in r k).opened u) (stamped (k == c) d))
    (λ k l. field_kept (λ x. x.closed) r.calls c e refl k ∙ sym (or_else-none _))
    (λ k q. inside_one (k == c) k c d (eqb-true k c) q h)
    (sym (append-nil _ ∙ map_after_same d r.bridges (λ j l. after_kept d _ refl)))
    (table_opened r o.stamp o.stamp c (table_later r _ _ s.table late) (omega arith) old)
  where
    inside_one : (t : Bool) (k c : ℕ) (d : Done) → (t ≡ true → k ≡ c) →
        is_some (option_map (λ d. d.order.stamp) (if t then Some d else None)) ≡ true → c < 4097 → k < 4097
    inside_one true k c d e q h = let p : k ≡ c = e refl in omega arith
    inside_one false k c d e q h = cc
