-- What changes of calls alone keep of the table.
use Rattle.std.proofs.Common.{◌≡◌, refl, sym, ap, ◌∙◌, subst, ℕ, ◌+◌, ◌<◌, ◌≤◌, ◌≢◌, min, true, false, Option, Some, None, List, length, get_or, set}
use Rattle.std.proofs.Common.{arith, inl, inr, ◌⊎◌}
use Rattle.std.specs.Prelude.{not, ◌&&◌, ◌||◌, is_some, ◌==◌, option_map, IfSome}
use Rattle.std.proofs.lemmas.Bool.{eqb-true, eq-eqb, or_cases, cases_eq, cases_order}
use Rattle.std.proofs.lemmas.List.{get_or-set_same, get_or-set_other}
use Rattle.std.proofs.Math.Bool.{or-true}
use Rattle.switchboard.specs.declared.table.Bridge.{Bridge}
use Rattle.switchboard.specs.declared.table.Call.{Call}
use Rattle.switchboard.specs.Bridges.{joins}
use Rattle.switchboard.specs.Rows.{Rows, never, call_in, bridge_at_place, is_open_in, is_live_in, bridge_end_in, span_in, opened_in, closed_in}
use Rattle.switchboard.specs.Rows.{gone_from_in, gone_from}
use Rattle.switchboard.specs.Ends.{least, span_to}
use Rattle.switchboard.specs.Stands.{IsOver, IsLatest, IsSound, IsTable}
use Rattle.switchboard.proofs.Tables.Known.{open_parts, no_end-live, over-not_live}
use Rattle.switchboard.proofs.Orders.OneMore.{or_else}
use Rattle.switchboard.proofs.Orders.Steps.{field_kept, field_set, filter_map_same, Keeps, end_kept, over_kept}
use Rattle.switchboard.proofs.Lists.{not_both}

-- a call that was opened, and neither closed nor ended by its lines, is open
pub open_made : (o l g : Option ℕ) → is_some o ≡ true → l ≡ None → g ≡ None → (is_some o && not (is_some l) && not (is_some g)) ≡ true
open_made o l g p q r = cc

pub some_left : (u v : Option ℕ) → is_some u ≡ true → is_some (or_else u v) ≡ true
some_left None v e = cc
some_left (Some x) v e = refl

-- a bridge joins its two calls, and no other
pub joins_left : (c : ℕ) (x : Bridge) → c ≡ x.a → joins c x ≡ true
joins_left c x e = ap (λ t. t || c == x.b) (eq-eqb c x.a e)

pub joins_right : (c : ℕ) (x : Bridge) → c ≡ x.b → joins c x ≡ true
joins_right c x e = ap (λ t. (c == x.a) || t) (eq-eqb c x.b e) ∙ or-true _

pub joins_cases : (c : ℕ) (x : Bridge) → joins c x ≡ true → (c ≡ x.a) ⊎ (c ≡ x.b)
joins_cases c x e = elim (or_cases (c == x.a) (c == x.b) e) [ inl p ↦ inl (eqb-true c x.a p) | inr p ↦ inr (eqb-true c x.b p) ]

-- ---- changes of calls alone

-- calls that keep their bridges and ends keep the table
pub table_kept : (r : Rows) (now : ℕ) (cs : List Call) → Keeps r (record r { calls = cs }) → IsTable r now →
    ((j : ℕ) → j < length r.bridges → bridge_end_in r (bridge_at_place r j) ≡ None → (is_open_in (record r { calls = cs }) (bridge_at_place r j).a ≡ true)
    × (is_open_in (record r { calls = cs }) (bridge_at_place r j).b ≡ true)) →
    ((c s j : ℕ) → (get_or cs c never).closed ≡ Some s → j < length r.bridges → joins c (bridge_at_place r j) ≡ true → IsOver r (s + 1) (bridge_at_place r j)) →
    ((c : ℕ) → is_some (call_in r c).opened ≡ true → is_some (get_or cs c never).opened ≡ true) →
    ((c s : ℕ) → (get_or cs c never).closed ≡ Some s → gone_from (get_or cs c never) ≡ None) →
    ((c : ℕ) → (get_or cs c never).opened ≡ None → ((get_or cs c never).closed ≡ None) × (gone_from (get_or cs c never) ≡ None)) →
    IsTable (record r { calls = cs }) now
table_kept r now cs k s lasts shut known untold unused =
    let n : Rows = record r { calls = cs } in
    record {
      latest = λ c h. subst (λ (o : Option ℕ). IsLatest r.bridges c o) (sym (k.place c)) (s.latest c h);
      sound = λ j l. let q = s.sound j l in record {
        from = q.from;
        apart = q.apart;
        known = (known (bridge_at_place r j).a q.known.0, known (bridge_at_place r j).b q.known.1);
        ended = λ u e. let z = q.ended u e in (end_kept r n k (bridge_at_place r j) ∙ z.0, z.1);
        lasts = λ e. lasts j l (sym (end_kept r n k (bridge_at_place r j)) ∙ e);
      };
      over = λ c i j l m p q. over_kept r n (bridge_at_place r j).from (bridge_at_place r i) (end_kept r n k (bridge_at_place r i)) (s.over c i j l m p q);
      untold = untold;
      unused = unused;
      shut = λ c t j e l q. over_kept r n (t + 1) (bridge_at_place r j) (end_kept r n k (bridge_at_place r j)) (shut c t j e l q);
      spans = s.spans ∙ filter_map_same (span_in r) (span_in n) r.bridges (λ j d l. ap (option_map (span_to (get_or r.bridges j d)))
          (sym (end_kept r n k (get_or r.bridges j d))));
    }

-- a call that was opened is changed
pub unused_set : (r : Rows) (now c : ℕ) (e : Call) → IsTable r now → c < length r.calls → (e.opened ≡ None → ⊥) → (d : ℕ) →
    (get_or (set r.calls c e) d never).opened ≡ None → ((get_or (set r.calls c e) d never).closed ≡ None)
    × (gone_from (get_or (set r.calls c e) d never) ≡ None)
unused_set r now c e s l opened d h = elim (cases_eq d c) [
  | inl p ↦ absurd (opened (sym (ap (λ (d : ℕ). (get_or (set r.calls c e) d never).opened) p
      ∙ ap (λ (x : Call). x.opened) (get_or-set_same r.calls c e never l)) ∙ h))
  | inr n ↦
      let q = get_or-set_other r.calls c d e never n in
      let u = s.unused d (sym (ap (λ (x : Call). x.opened) q) ∙ h) in
      (ap (λ (x : Call). x.closed) q ∙ u.0, ap gone_from q ∙ u.1)
]

pub some_not_none : (o : Option ℕ) → is_some o ≡ true → o ≡ None → ⊥
some_not_none None e h = cc
some_not_none (Some x) e h = cc

-- a changed call keeps them
pub keeps_calls : (r : Rows) (c : ℕ) (e : Call) → gone_from e ≡ gone_from_in r c → e.bridge ≡ (call_in r c).bridge → Keeps r (record r { calls = set r.calls c e })
keeps_calls r c e p q = record {
  gone = field_kept gone_from r.calls c e p;
  place = field_kept (λ x. x.bridge) r.calls c e q;
  bridges = refl;
  spans = refl;
}

-- to open a call leaves each open call open
pub open_more : (r : Rows) (t c k : ℕ) → c < length r.calls → (call_in r c).opened ≡ None →
    is_open_in r k ≡ true → is_open_in (opened_in r t c) k ≡ true
open_more r t c k l old h =
    let e : Call = record (call_in r c) { opened = Some t } in
    let p = open_parts _ _ _ h in
    open_made _ _ _ (ap is_some (field_set (λ x. x.opened) r.calls c e t l refl old k) ∙ some_left _ _ p.0)
    (field_kept (λ x. x.closed) r.calls c e refl k ∙ p.1) (field_kept gone_from r.calls c e refl k ∙ p.2)

pub table_opened : (r : Rows) (now t c : ℕ) → IsTable r now → c < length r.calls → (call_in r c).opened ≡ None → IsTable (opened_in r t c) now
table_opened r now t c s l old =
    table_kept r now _ (keeps_calls r c (record (call_in r c) { opened = Some t }) refl refl) s
    (λ j m e. let q = (s.sound j m).lasts e in (open_more r t c _ l old q.0, open_more r t c _ l old q.1))
    (λ d u j e m q. s.shut d u j (sym (field_kept (λ x. x.closed) r.calls c (record (call_in r c) { opened = Some t }) refl d) ∙ e) m q)
    (λ d h. ap is_some (field_set (λ x. x.opened) r.calls c (record (call_in r c) { opened = Some t }) t l refl old d) ∙ some_left _ _ h)
    (λ d u e. field_kept gone_from r.calls c (record (call_in r c) { opened = Some t }) refl d
    ∙ s.untold d u (sym (field_kept (λ x. x.closed) r.calls c (record (call_in r c) { opened = Some t }) refl d) ∙ e))
    (unused_set r now c (record (call_in r c) { opened = Some t }) s l (λ e. cc))

-- a changed call changes nothing of whether another is open
pub open_other : (r : Rows) (c k : ℕ) (e : Call) → k ≢ c → is_open_in (record r { calls = set r.calls c e }) k ≡ is_open_in r k
open_other r c k e n = ap (λ (x : Call). is_some x.opened && not (is_some x.closed) && not (is_some (gone_from x))) (get_or-set_other r.calls c k e never n)

-- the lesser of two lies before what both lie before
pub least_before : (t v : ℕ) (a b : Option ℕ) → IfSome a (λ u. u < t) → IfSome b (λ u. u < t) → least a b ≡ Some v → v < t
least_before t v None None p q e = cc
least_before t v None (Some y) p q e = let f : y ≡ v = cc in omega arith
least_before t v (Some x) None p q e = let f : x ≡ v = cc in omega arith
least_before t v (Some x) (Some y) p q e = let f : min x y ≡ v = cc in omega arith

-- a bridge with an end ended before t, where each end that was told did
ended_by : (r : Rows) (now t : ℕ) (x : Bridge) → IsSound r now x → now ≤ t → ((d : ℕ) → IfSome (gone_from_in r d) (λ u. u < t + 1)) → (o : Option ℕ) →
    x.ended ≡ o → (v : ℕ) → bridge_end_in r x ≡ Some v → v < t + 1
ended_by r now t x s late told None e v f =
    least_before (t + 1) v (gone_from_in r x.a) (gone_from_in r x.b) (told x.a) (told x.b)
    (sym (ap (λ o. least o (least (gone_from_in r x.a) (gone_from_in r x.b))) e) ∙ f)
ended_by r now t x s late told (Some u) e v f =
    let k = s.ended u e in
    let g : u ≡ v = cc (k.0, f) in
    omega (arith, k.1)

-- a bridge that has an end before t is over then
pub over_by : (r : Rows) (t : ℕ) (x : Bridge) → (bridge_end_in r x ≡ None → ⊥) → ((v : ℕ) → bridge_end_in r x ≡ Some v → v < t) → (o : Option ℕ) →
    bridge_end_in r x ≡ o → IsOver r t x
over_by r t x some before None e = absurd (some e)
over_by r t x some before (Some v) e = record { at = v; ended = e; before = before v e }

-- the stamp of the `close`
closed_stamp : (r : Rows) (t c d u : ℕ) → c < length r.calls → d ≡ c → (call_in (closed_in r t c) d).closed ≡ Some u → u ≡ t
closed_stamp r t c d u l p e =
    let f : (call_in (closed_in r t c) d).closed ≡ Some t = ap (λ (d : ℕ). (call_in (closed_in r t c) d).closed) p
    ∙ ap (λ (x : Call). x.closed) (get_or-set_same r.calls c (record (call_in r c) { closed = Some t }) never l) in
    cc

pub table_closed : (r : Rows) (now t c : ℕ) → IsTable r now → c < length r.calls →
    is_some (call_in r c).opened ≡ true → gone_from_in r c ≡ None → now ≤ t → ((d : ℕ) → IfSome (gone_from_in r d) (λ u. u < t + 1)) →
    ((j : ℕ) → j < length r.bridges → joins c (bridge_at_place r j) ≡ true → bridge_end_in r (bridge_at_place r j) ≡ None → ⊥) → IsTable (closed_in r t c) now
table_closed r now t c s lc opened here late told none =
    table_kept r now _ (keeps_calls r c (record (call_in r c) { closed = Some t }) refl refl) s
    (λ j m e.
    let q = (s.sound j m).lasts e in
    let x = bridge_at_place r j in
    (open_other r c x.a _ (λ h. none j m (joins_left c x (sym h)) e) ∙ q.0, open_other r c x.b _ (λ h. none j m (joins_right c x (sym h)) e) ∙ q.1))
    (λ d u j e m q. elim (cases_eq d c) [
      | inl p ↦
          let f : u ≡ t = closed_stamp r t c d u lc p e in
          subst (λ (u : ℕ). IsOver r (u + 1) (bridge_at_place r j)) (sym f)
          (over_by r (t + 1) (bridge_at_place r j) (none j m (subst (λ (d : ℕ). joins d (bridge_at_place r j) ≡ true) p q))
          (ended_by r now t (bridge_at_place r j) (s.sound j m) late told (bridge_at_place r j).ended refl) (bridge_end_in r (bridge_at_place r j)) refl)
      | inr n ↦ s.shut d u j (sym (ap (λ (x : Call). x.closed) (get_or-set_other r.calls c d (record (call_in r c) { closed = Some t }) never n)) ∙ e) m q
    ])
    (λ d h. ap is_some (field_kept (λ x. x.opened) r.calls c (record (call_in r c) { closed = Some t }) refl d) ∙ h)
    (λ d u e. field_kept gone_from r.calls c (record (call_in r c) { closed = Some t }) refl d ∙ elim (cases_eq d c) [
      | inl p ↦ ap (λ (d : ℕ). gone_from_in r d) p ∙ here
      | inr n ↦ s.untold d u (sym (ap (λ (x : Call). x.closed) (get_or-set_other r.calls c d (record (call_in r c) { closed = Some t }) never n)) ∙ e)
    ])
    (unused_set r now c (record (call_in r c) { closed = Some t }) s lc (some_not_none _ opened))

-- where a call has no live bridge, each of its bridges is over
pub none_live : (r : Rows) (now c : ℕ) → IsTable r now → (o : Option ℕ) → IsLatest r.bridges c o →
    ((k : ℕ) → o ≡ Some k → is_live_in r (bridge_at_place r k) ≡ false) → (j : ℕ) → j < length r.bridges → joins c (bridge_at_place r j) ≡ true →
    bridge_end_in r (bridge_at_place r j) ≡ None → ⊥
none_live r now c s None l live j h q e = not_both _ (l j h) q
none_live r now c s (Some k) l live j h q e =
    elim (cases_order j k) [
      | inl p ↦ not_both _ (subst (λ (i : ℕ). is_live_in r (bridge_at_place r i) ≡ false) (sym p) (live k refl)) (no_end-live r now _ (s.sound j h) e)
      | inr (inl p) ↦ not_both _ (over-not_live r _ _ (s.over c j k p l.0 q l.1)) (no_end-live r now _ (s.sound j h) e)
      | inr (inr p) ↦ not_both _ (l.2 j p h) q
    ]

-- a further end, of one of the calls of a bridge or of both: the end of the bridge is the lesser
pub least_a : (at : ℕ) (e b : Option ℕ) → least e (least (Some at) b) ≡ least (least e (least None b)) (Some at)
least_a at None None = refl
least_a at None (Some w) = ap Some (omega arith)
least_a at (Some s) None = refl
least_a at (Some s) (Some w) = ap Some (omega arith)

pub least_b : (at : ℕ) (e a : Option ℕ) → least e (least a (Some at)) ≡ least (least e (least a None)) (Some at)
least_b at None None = refl
least_b at None (Some w) = refl
least_b at (Some s) None = refl
least_b at (Some s) (Some w) = ap Some (omega arith)

pub least_ab : (at : ℕ) (e : Option ℕ) → least e (least (Some at) (Some at)) ≡ least (least e (least None None)) (Some at)
least_ab at None = ap Some (omega arith)
least_ab at (Some s) = ap Some (omega arith)

-- the lesser of two is there where one is
pub least_never : (o : Option ℕ) (at : ℕ) → least o (Some at) ≡ None → ⊥
least_never None at e = cc
least_never (Some v) at e = cc
