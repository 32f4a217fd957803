-- For crates above: the end of a call that started at s, by where it was closed (`end_by`).
-- The spans, once each call has ended.
use Rattle.std.proofs.Common.{true, ◌≡◌, refl, sym, ap, ◌∙◌, subst, ℕ, suc, ◌+◌, ◌<◌, ◌≤◌, min, true, Option, Some, None, List, [], ◌∷◌, length, map}
use Rattle.std.proofs.Common.{get_or, arith}
use Rattle.std.specs.Prelude.{if◌then◌else◌, nat_le, is_some, option_map, unwrap_or}
use Rattle.std.specs.List.{filter_map}
use Rattle.trau_io.specs.declared.ends.Cause.TheVariants.{Closed, Limit}
use Rattle.trau_io.specs.declared.ends.CallEnd.{CallEnd}
use Rattle.trau_orders.specs.declared.order.Order.{Order}
use Rattle.switchboard.specs.declared.act.Reply.{Reply}
use Rattle.switchboard.specs.declared.table.Bridge.{Bridge}
use Rattle.switchboard.specs.Calls.{Done, opened_at, closed_at}
use Rattle.switchboard.specs.Bridges.{joins, no_bridge}
use Rattle.switchboard.specs.Rows.{Rows, IsSized, call_in, bridge_at_place, bridge_end_in, span_in, gone_from_in}
use Rattle.switchboard.specs.Runs.{AllEnded, AllEndedAt}
use Rattle.switchboard.specs.Ends.{Given, whole_of, lack_of, start_of, ends_at, span_of, spans_of, least, span_to}
use Rattle.switchboard.specs.State.{State}
use Rattle.switchboard.specs.Stands.{Stands, IsBoard, dones, board_state}
use Rattle.switchboard.proofs.Orders.Steps.{cons_same}
use Rattle.switchboard.proofs.Tables.Calls.{joins_left, joins_right}
use Rattle.switchboard.proofs.Boards.States.{told_is}

-- the end of a call that began at s and was closed there, if it was
abbrev pub end_by : (ℕ → Given) → ℕ → ℕ → ℕ → Option ℕ → CallEnd
end_by given P c s o = elim o [
  | Some t ↦ record { call = c; at = t; cause = Closed }
  | None ↦ if nat_le P (s + whole_of (given c)) then record { call = c; at = P; cause = Limit }
      else record { call = c; at = s + whole_of (given c); cause = lack_of (whole_of (given c)) (given c) }
]

-- a closed call ends where it was closed
closed_end : (given : ℕ → Given) (P : ℕ) (ds : List Done) (c t : ℕ) → closed_at c ds ≡ Some t → ends_at given P ds c ≡ t
closed_end given P ds c t e = ap (λ (o : Option ℕ). let x : CallEnd = end_by given P c (start_of ds c) o in x.at) e

-- the least of what ended a bridge
end_math : (e ga gb : Option ℕ) (a b : ℕ) → ((w : ℕ) → ga ≡ Some w → w ≡ a) → ((w : ℕ) → gb ≡ Some w → w ≡ b) →
    (ga ≡ None → (v : ℕ) → least e (least ga gb) ≡ Some v → v ≤ a) → (gb ≡ None → (v : ℕ) → least e (least ga gb) ≡ Some v → v ≤ b) →
    (ga ≡ None → least e (least ga gb) ≡ None → ⊥) → least e (least ga gb) ≡ Some (min (unwrap_or e (min a b)) (min a b))
end_math None None None a b ha hb la lb some = absurd (some refl refl)
end_math None None (Some u) a b ha hb la lb some = let p = hb u refl in let q = la refl u refl in ap Some (omega arith)
end_math None (Some u) None a b ha hb la lb some = let p = ha u refl in let q = lb refl u refl in ap Some (omega arith)
end_math None (Some u) (Some w) a b ha hb la lb some = let p = ha u refl in let q = hb w refl in ap Some (omega arith)
end_math (Some s) None None a b ha hb la lb some = let p = la refl s refl in let q = lb refl s refl in ap Some (omega arith)
end_math (Some s) None (Some u) a b ha hb la lb some = let p = hb u refl in let q = la refl (min s u) refl in ap Some (omega arith)
end_math (Some s) (Some u) None a b ha hb la lb some = let p = ha u refl in let q = lb refl (min s u) refl in ap Some (omega arith)
end_math (Some s) (Some u) (Some w) a b ha hb la lb some = let p = ha u refl in let q = hb w refl in ap Some (omega arith)

-- a filter over a list that is made of another
filter_map_map : {X Y : Type 0} (f : X → Option Y) (g : X → Y) (xs : List X) (d : X) →
    ((j : ℕ) → j < length xs → f (get_or xs j d) ≡ Some (g (get_or xs j d))) → filter_map f xs ≡ map g xs
filter_map_map f g [] d h = refl
filter_map_map f g (x ∷ xs) d h = cons_same (f x) (Some (g x)) (filter_map f xs) (map g xs) (h 0 (omega arith))
    (filter_map_map f g xs d (λ j l. h (suc j) (omega arith)))

-- what is known of the end of a call of a bridge
record Known (r : Rows) (x : Bridge) (c end : ℕ) : Type 0 where
  told : (w : ℕ) → gone_from_in r c ≡ Some w → w ≡ end
  over : gone_from_in r c ≡ None → (v : ℕ) → bridge_end_in r x ≡ Some v → v ≤ end
  some : gone_from_in r c ≡ None → bridge_end_in r x ≡ None → ⊥

-- once each call has ended, the table knows each end
known : (given : ℕ → Given) (P : ℕ) (r : Rows) (ds : List Done) → Stands r ds → ((c : ℕ) → is_some (opened_at c ds) ≡ true → closed_at c ds ≡ None →
    gone_from_in r c ≡ Some (ends_at given P ds c)) → (c j : ℕ) → c < 4097 → j < length r.bridges → joins c (bridge_at_place r j) ≡ true →
    is_some (call_in r c).opened ≡ true → (o : Option ℕ) → closed_at c ds ≡ o → Known r (bridge_at_place r j) c (ends_at given P ds c)
known given P r ds s all c j h l q opened None e =
    let g = all c (ap is_some (sym (s.opened c h)) ∙ opened) e in
    record { told = λ w f. cc (g, f); over = λ f. absurd (cc (g, f)); some = λ f. absurd (cc (g, f)) }
known given P r ds s all c j h l q opened (Some t) e =
    let k : (call_in r c).closed ≡ Some t = s.closed c h ∙ e in
    let g = s.table.untold c t k in
    let v = s.table.shut c t j k l q in
    let n = closed_end given P ds c t e in
    record {
      told = λ w f. absurd (cc (g, f));
      over = λ f w z. let y : v.at ≡ w = cc (v.ended, z) in let b = v.before in omega arith;
      some = λ f z. let y = v.ended in cc (y, z);
    }

-- The end of each bridge is that of the whole list of orders.
bridge_end : (given : ℕ → Given) (P : ℕ) (r : Rows) (ds : List Done) → Stands r ds → IsSized r.calls r.bridges →
    ((c : ℕ) → is_some (opened_at c ds) ≡ true → closed_at c ds ≡ None → gone_from_in r c ≡ Some (ends_at given P ds c)) →
    (j : ℕ) → j < length r.bridges → span_in r (bridge_at_place r j) ≡ Some (span_of given P ds (bridge_at_place r j))
bridge_end given P r ds s z all j l =
    let x = bridge_at_place r j in
    let n = z.named j l in
    let y = s.table.sound j l in
    let a = known given P r ds s all x.a j n.0 l (joins_left x.a x refl) y.known.0 (closed_at x.a ds) refl in
    let b = known given P r ds s all x.b j n.1 l (joins_right x.b x refl) y.known.1 (closed_at x.b ds) refl in
    ap (option_map (span_to x)) (end_math x.ended (gone_from_in r x.a) (gone_from_in r x.b) (ends_at given P ds x.a) (ends_at given P ds x.b) a.told b.told
    a.over b.over a.some)

-- **The spans are those of the whole list of orders.**
pub spans_whole : (os : List Order) (xs : List Reply) (r : Rows) (s : State) → IsBoard os xs r → IsSized r.calls r.bridges → board_state os xs r ≡ s →
    (given : ℕ → Given) (P : ℕ) → AllEndedAt given P s → r.spans ≡ spans_of given P s.done
spans_whole os xs r s b z e given P all =
    let ds = dones os xs in
    let told = λ (c : ℕ) (p : is_some (opened_at c ds) ≡ true) (q : closed_at c ds ≡ None).
    sym (ap (λ f. f c) (told_is os xs r)) ∙ subst (λ (s : State). AllEndedAt given P s) (sym e) all c p q in
    b.stands.table.spans ∙ filter_map_map (span_in r) (span_of given P ds) r.bridges no_bridge (bridge_end given P r ds b.stands z told)
    ∙ ap (map (span_of given P ds)) b.stands.bridges ∙ ap (λ (s : State). spans_of given P s.done) e

-- ---- the ends, once each call has ended

-- ends that are told with their causes are told at their periods
pub all_ended_at : (given : ℕ → Given) (P : ℕ) (s : State) → AllEnded given P s → AllEndedAt given P s
all_ended_at given P s all c o l = ap (option_map (λ (e : CallEnd). e.at)) (all c o l)
