-- An order that begins a bridge, and any order, in the table and in the list of orders.
use Rattle.std.proofs.Common.{◌≡◌, refl, sym, ap, ◌∙◌, subst, ℕ, ◌<◌, ◌≤◌, ◌≢◌, true, false, Option, Some, None, List, [], ◌∷◌, ◌++◌, length, arith, inl}
use Rattle.std.proofs.Common.{inr}
use Rattle.std.specs.Prelude.{Result, Ok, Err, option_map}
use Rattle.std.proofs.lemmas.Bool.{eq-eqb, cases_order}
use Rattle.trau_orders.specs.declared.order.Order.{Order}
use Rattle.trau_orders.specs.declared.order.What.{What}
use Rattle.trau_orders.specs.declared.order.What.TheVariants as what
use Rattle.trau_orders.specs.Lists.{NamesCalls}
use Rattle.switchboard.specs.declared.act.Act.{Act}
use Rattle.switchboard.specs.declared.act.Act.TheVariants as act
use Rattle.switchboard.specs.declared.act.Refusal.{Refusal}
use Rattle.switchboard.specs.declared.table.Bridge.{Bridge}
use Rattle.switchboard.specs.Calls.{Done, is_this}
use Rattle.switchboard.specs.Bridges.{joins, other}
use Rattle.switchboard.specs.Replies.{reply_from}
use Rattle.switchboard.specs.Rows.{Rows, IsSized, call_in, bridge_at_place, is_open_in, is_live_in, bridge_in, bridge_ended_in, bridge_end_in, some_if}
use Rattle.switchboard.specs.Rows.{gone_from_in}
use Rattle.switchboard.specs.Rows.{known_in, rows_after, bridged_in}
use Rattle.switchboard.specs.Ends.{least}
use Rattle.switchboard.specs.State.{last_stamp}
use Rattle.switchboard.specs.Stands.{IsOver, IsLatest, IsSound, Stands}
use Rattle.switchboard.proofs.Orders.Steps.{or_else-none, after_kept, map_after_same, table_later}
use Rattle.switchboard.proofs.Tables.Calls.{least_before, none_live, over_by}
use Rattle.switchboard.proofs.Tables.Bridged.{bridged_field, table_bridged}
use Rattle.switchboard.proofs.Orders.Replies.{IsRefused, Joined, open_accepted, close_accepted, bridge_accepted, unbridge_accepted, level_accepted, dtx_accepted}
use Rattle.switchboard.proofs.Orders.Opened.{done_from, stands_by, stands_same, IsSome_before, never_opened, stands_opened}
use Rattle.switchboard.proofs.Orders.Parted.{some_if-none, not_live_at, bridge_found, stands_unbridged, stands_closed, stands_closed_bridge}
use Rattle.switchboard.proofs.Lists.{not_both}

-- ---- a bridge begins

-- a bridge that no order of this stamp ended, ended before it
ended_before : (r : Rows) (now t : ℕ) (x : Bridge) → IsSound r now x → now ≤ t → IsSome_before r t →
    is_this t x.ended ≡ false → (o : Option ℕ) → x.ended ≡ o → (v : ℕ) → bridge_end_in r x ≡ Some v → v < t
ended_before r now t x s late told no_end None e v f =
    least_before t v (gone_from_in r x.a) (gone_from_in r x.b) (told x.a) (told x.b)
    (sym (ap (λ o. least o (least (gone_from_in r x.a) (gone_from_in r x.b))) e) ∙ f)
ended_before r now t x s late told no_end (Some u) e v f =
    let k = s.ended u e in
    let g : u ≡ v = cc (k.0, f) in
    let ne : t ≢ u = λ h. not_both _ (sym (ap (is_this t) e) ∙ no_end) (eq-eqb t u h) in
    omega (arith, k.1, ne)

-- where a call has no bridge now, and none ended with this stamp, each of its bridges is over
pub over_before : (r : Rows) (ds : List Done) (t c : ℕ) → Stands r ds → last_stamp ds ≤ t → IsSome_before r t → c < 4097 → bridge_in r c ≡ None →
    bridge_ended_in r t c ≡ None → (j : ℕ) → j < length r.bridges → joins c (bridge_at_place r j) ≡ true → IsOver r t (bridge_at_place r j)
over_before r ds t c s late told h none no_end j l q = by r ds t c s late told h none no_end j l q (call_in r c).bridge refl (s.table.latest c h)
  where
    by : (r : Rows) (ds : List Done) (t c : ℕ) → Stands r ds → last_stamp ds ≤ t →
        IsSome_before r t → c < 4097 → bridge_in r c ≡ None → bridge_ended_in r t c ≡ None →
        (j : ℕ) → j < length r.bridges → joins c (bridge_at_place r j) ≡ true → (o : Option ℕ) → (call_in r c).bridge ≡ o → IsLatest r.bridges c o →
        IsOver r t (bridge_at_place r j)
    by r ds t c s late told h none no_end j l q None e is = absurd (not_both _ (is j l) q)
    by r ds t c s late told h none no_end j l q (Some k) e is = elim (cases_order j k) [
      | inl p ↦
          let x = bridge_at_place r j in
          let no_end_k : is_this t (bridge_at_place r k).ended ≡ false = some_if-none _ (bridge_at_place r k)
          (sym (ap (λ (i : Option ℕ). elim i [ None ↦ None | Some k ↦ some_if (is_this t (bridge_at_place r k).ended) (bridge_at_place r k) ]) e)
          ∙ no_end) in
          over_by r t x
          (none_live r _ c s.table (Some k) is (λ m f. ap (λ (m : ℕ). is_live_in r (bridge_at_place r m)) (let g : m ≡ k = cc in g) ∙ not_live_at r c k none e)
          j l q)
          (λ v f. ended_before r _ t x (s.table.sound j l) late told (ap (λ (j : ℕ). is_this t (bridge_at_place r j).ended) p ∙ no_end_k) x.ended refl v f)
          (bridge_end_in r x) refl
      | inr (inl p) ↦
          let v = s.table.over c j k p is.0 q is.1 in
          let f = (s.table.sound k is.0).from in
          record { at = v.at; ended = v.ended; before = let b = v.before in omega arith }
      | inr (inr p) ↦ absurd (not_both _ (is.2 j p l) q)
    ]

pub stands_bridged : (r : Rows) (ds : List Done) (o : Order) (a b : ℕ) → Stands r ds → length r.calls ≡ 4097 → last_stamp ds ≤ o.stamp →
    IsSome_before r o.stamp → a < 4097 → b < 4097 → Joined (known_in r o.stamp) a b →
    Stands (bridged_in r o.stamp a b) (ds ++ done_from o (Ok (act.Bridged a b)) ∷ [])
stands_bridged r ds o a b s len late told la lb j =
    let d : Done = done_from o (Ok (act.Bridged a b)) in
    let k = length r.bridges in
    stands_by r (bridged_in r o.stamp a b) ds d s
    (λ c h. bridged_field (λ x. x.opened) r k a b (λ e. refl) c ∙ sym (or_else-none _))
    (λ c h. bridged_field (λ x. x.closed) r k a b (λ e. refl) c ∙ sym (or_else-none _))
    (λ c q. cc)
    (ap (λ bs. bs ++ record { a = a; b = b; from = o.stamp; ended = None } ∷ []) (sym (map_after_same d r.bridges (λ j l. after_kept d _ refl))))
    (table_bridged r o.stamp a b (table_later r _ _ s.table late) len la lb j.apart j.open_a j.open_b
    (λ c i q l p. elim q [
      | inl e ↦ over_before r ds o.stamp c s late told (omega arith) (ap (bridge_in r) e ∙ j.alone_a) (ap (bridge_ended_in r o.stamp) e ∙ j.drained_a) i l p
      | inr e ↦ over_before r ds o.stamp c s late told (omega arith) (ap (bridge_in r) e ∙ j.alone_b) (ap (bridge_ended_in r o.stamp) e ∙ j.drained_b) i l p
    ]))

-- ---- any order

abbrev Next : Rows → List Done → Order → Result Act Refusal → Type 0
Next r ds o x = Stands (rows_after r o.stamp x) (ds ++ done_from o x ∷ [])

-- a refusal changes nothing
refused : (r : Rows) (ds : List Done) (o : Order) (x : Result Act Refusal) → Stands r ds → last_stamp ds ≤ o.stamp → IsRefused x → Next r ds o x
refused r ds o x s late e = subst (λ (x : Result Act Refusal). Next r ds o x) (sym e.1) (stands_same r ds (done_from o (Err e.0)) s late (λ c. refl) (λ c. refl)
    (λ a b. refl) refl)

-- **The table stands for one more executed order.**
pub stands_more : (r : Rows) (ds : List Done) (t : ℕ) (w : What) → Stands r ds → IsSized r.calls r.bridges → last_stamp ds ≤ t → IsSome_before r t →
    NamesCalls w → Next r ds (record { stamp = t; what = w }) (reply_from (known_in r t) w)
stands_more r ds t (what.OpenCall c law) s z late told n =
    let o : Order = record { stamp = t; what = what.OpenCall c law } in
    elim (open_accepted (known_in r t) c law) [
      | inl e ↦ refused r ds o _ s late e
      | inr p ↦ subst (λ (x : Result Act Refusal). Next r ds o x) (sym p.0) (stands_opened r ds o c law s z.all late (omega (arith, n.1))
          (never_opened _ _ p.1 p.2))
    ]
stands_more r ds t (what.CloseCall c) s z late told n =
    let o : Order = record { stamp = t; what = what.CloseCall c } in
    let h : c < 4097 = omega (arith, n.1) in
    elim (close_accepted (known_in r t) c) [
      | inl e ↦ refused r ds o _ s late e
      | inr p ↦ subst (λ (x : Result Act Refusal). Next r ds o x) (sym p.0) (closing r ds o c s z late h p.1 told (bridge_in r c) refl)
    ]
  where
    closing : (r : Rows) (ds : List Done) (o : Order) (c : ℕ) → Stands r ds →
        IsSized r.calls r.bridges → last_stamp ds ≤ o.stamp → c < 4097 → is_open_in r c
        ≡ true → IsSome_before r o.stamp → (i : Option Bridge) → bridge_in r c ≡ i → Next r ds o (Ok (act.Closed c (option_map (other c) i)))
    closing r ds o c s z late h lasts told None e = stands_closed r ds o c s z.all late h lasts told e
    closing r ds o c s z late h lasts told (Some x) e =
        let f = bridge_found r x (call_in r c).bridge e in
        subst (λ (x : Bridge). Next r ds o (Ok (act.Closed c (Some (other c x))))) f.3 (stands_closed_bridge r ds o c f.0 s z.all late h lasts told f.1 f.2)
stands_more r ds t (what.Bridge a b) s z late told n =
    let o : Order = record { stamp = t; what = what.Bridge a b } in
    elim (bridge_accepted (known_in r t) a b) [
      | inl e ↦ refused r ds o _ s late e
      | inr p ↦ subst (λ (x : Result Act Refusal). Next r ds o x) (sym p.0) (stands_bridged r ds o a b s z.all late told (omega (arith, n.0.1))
          (omega (arith, n.1.1)) p.1)
    ]
stands_more r ds t (what.Unbridge c) s z late told n =
    let o : Order = record { stamp = t; what = what.Unbridge c } in
    let h : c < 4097 = omega (arith, n.1) in
    elim (unbridge_accepted (known_in r t) c) [
      | inl e ↦ refused r ds o _ s late e
      | inr p ↦
          let f = bridge_found r p.0 (call_in r c).bridge p.3 in
          let l = subst (λ (i : Option ℕ). IsLatest r.bridges c i) f.1 (s.table.latest c h) in
          subst (λ (x : Result Act Refusal). Next r ds o x) (sym p.1)
          (subst (λ (x : Bridge). Next r ds o (Ok (act.Unbridged x.a x.b))) f.3 (stands_unbridged r ds o f.0 s z late l.0 f.2))
    ]
stands_more r ds t (what.Level c v) s z late told n =
    let o : Order = record { stamp = t; what = what.Level c v } in
    elim (level_accepted (known_in r t) c v) [
      | inl e ↦ refused r ds o _ s late e
      | inr p ↦ subst (λ (x : Result Act Refusal). Next r ds o x) (sym p.0) (stands_same r ds (done_from o (Ok (act.LevelSet c v))) s late (λ c. refl) (λ c. refl)
          (λ a b. refl) refl)
    ]
stands_more r ds t (what.Dtx c m) s z late told n =
    let o : Order = record { stamp = t; what = what.Dtx c m } in
    elim (dtx_accepted (known_in r t) c m) [
      | inl e ↦ refused r ds o _ s late e
      | inr p ↦ subst (λ (x : Result Act Refusal). Next r ds o x) (sym p.0) (stands_same r ds (done_from o (Ok (act.DtxSet c m))) s late (λ c. refl) (λ c. refl)
          (λ a b. refl) refl)
    ]
