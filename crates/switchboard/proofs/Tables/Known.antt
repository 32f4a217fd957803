-- What the table knows is what the executed orders say. A call has at most one live bridge.
use Rattle.std.proofs.Common.{◌≡◌, refl, sym, ap, ◌∙◌, subst, ℕ, ◌<◌, ◌≤◌, ◌≢◌, Bool, true, false, Option, Some, None, List, length, get_or, arith, inl, inr}
use Rattle.std.specs.Prelude.{find, not, ◌&&◌, is_some, is_none}
use Rattle.std.proofs.lemmas.Bool.{and_parts, and_from, cases_order, eqb-true}
use Rattle.trau_alaw.specs.declared.Law.{Law}
use Rattle.trau_orders.specs.declared.order.What.{What}
use Rattle.trau_orders.specs.declared.order.What.TheVariants as what
use Rattle.trau_orders.specs.Lists.{NamesCalls}
use Rattle.switchboard.specs.declared.table.Bridge.{Bridge}
use Rattle.switchboard.specs.Calls.{has_ended, Done, is_open, is_this, opened_at}
use Rattle.switchboard.specs.Replies.{Known, known_of, reply_from}
use Rattle.switchboard.specs.Bridges.{lasts, joins, bridge_of, bridge_ended, no_bridge}
use Rattle.switchboard.specs.Rows.{Rows, IsSized, has_ended_in, call_in, bridge_at_place, is_open_in, is_live_in, bridge_in, bridge_ended_in, bridge_end_in}
use Rattle.switchboard.specs.Rows.{gone_from_in}
use Rattle.switchboard.specs.Rows.{known_in, some_if}
use Rattle.switchboard.specs.Ends.{least}
use Rattle.switchboard.specs.State.{last_stamp}
use Rattle.switchboard.specs.Stands.{IsOver, IsLatest, IsSound, Stands}
use Rattle.switchboard.proofs.Tables.Sizes.{gone_of}
use Rattle.switchboard.proofs.Lists.{find-none, find-only, not_both}

-- ---- open calls and live bridges

pub not_true : (b : Bool) → (b ≡ true → ⊥) → b ≡ false
not_true true h = absurd (h refl)
not_true false h = refl

-- an open call was opened, and neither closed nor ended by its lines
pub open_parts : (o l g : Option ℕ) → (is_some o && not (is_some l) && not (is_some g)) ≡ true → (is_some o ≡ true) × (l ≡ None) × (g ≡ None)
open_parts None l g e = cc
open_parts (Some x) (Some y) g e = cc
open_parts (Some x) None (Some z) e = cc
open_parts (Some x) None None e = (refl, refl, refl)

-- the lesser of two is none only where both are
pub least_none : (a b : Option ℕ) → least a b ≡ None → (a ≡ None) × (b ≡ None)
least_none None b e = (refl, e)
least_none (Some x) None e = cc
least_none (Some x) (Some y) e = cc

is_none-none : (o : Option ℕ) → is_none o ≡ true → o ≡ None
is_none-none None e = refl
is_none-none (Some x) e = cc

-- a live bridge was not ended, and both of its calls are open
pub live_parts : (r : Rows) (x : Bridge) → is_live_in r x ≡ true → (x.ended ≡ None) × (is_open_in r x.a ≡ true) × (is_open_in r x.b ≡ true)
live_parts r x e =
    let p = and_parts (is_none x.ended && is_open_in r x.a) (is_open_in r x.b) e in
    let q = and_parts (is_none x.ended) (is_open_in r x.a) p.0 in
    (is_none-none x.ended q.0, q.1, p.1)

-- a live bridge has no end, and one without an end is live
pub live-no_end : (r : Rows) (x : Bridge) → is_live_in r x ≡ true → bridge_end_in r x ≡ None
live-no_end r x e =
    let p = live_parts r x e in
    let a = open_parts _ _ _ p.1 in
    let b = open_parts _ _ _ p.2 in
    ap (λ o. least o (least (gone_from_in r x.a) (gone_from_in r x.b))) p.0 ∙ ap (λ o. least o (gone_from_in r x.b)) a.2 ∙ b.2

pub no_end-live : (r : Rows) (now : ℕ) (x : Bridge) → IsSound r now x → bridge_end_in r x ≡ None → is_live_in r x ≡ true
no_end-live r now x s e =
    let p = least_none x.ended (least (gone_from_in r x.a) (gone_from_in r x.b)) e in
    let o = s.lasts e in
    and_from _ _ (and_from _ _ (ap is_none p.0) o.0) o.1

-- a bridge that was over isn't live
pub over-not_live : (r : Rows) (t : ℕ) (x : Bridge) → IsOver r t x → is_live_in r x ≡ false
over-not_live r t x o = not_true _ (λ e. let n = live-no_end r x e in let s = o.ended in cc)

-- ---- the latest bridge of a call

-- what fails where a test passes, fails with it
miss : (t w : Bool) → (t ≡ true → w ≡ false) → (t && w) ≡ false
miss true w h = h refl
miss false w h = refl

-- two numbers that differ, of which the second is not the lesser
less : (j k : ℕ) → j ≢ k → (k < j → ⊥) → j < k
less j k ne not_above = elim (cases_order j k) [ inl e ↦ absurd (ne e) | inr (inl l) ↦ l | inr (inr l) ↦ absurd (not_above l) ]

-- a test of a call's bridges that only the latest may pass
pub latest-find : (bs : List Bridge) (c : ℕ) (o : Option ℕ) (P V : Bridge → Bool) → IsLatest bs c o →
    ((j : ℕ) → j < length bs → P (get_or bs j no_bridge) ≡ (joins c (get_or bs j no_bridge) && V (get_or bs j no_bridge))) →
    ((j k : ℕ) → o ≡ Some k → j < k → joins c (get_or bs j no_bridge) ≡ true → V (get_or bs j no_bridge) ≡ false) →
    find P bs ≡ elim o [ None ↦ None | Some k ↦ some_if (V (get_or bs k no_bridge)) (get_or bs k no_bridge) ]
latest-find bs c None P V latest is earlier =
    find-none P bs no_bridge (λ j l. is j l ∙ ap (λ t. t && V (get_or bs j no_bridge)) (latest j l))
latest-find bs c (Some k) P V latest is earlier =
    find-only P bs k no_bridge latest.0 (λ j l ne. is j l ∙ miss _ _ (λ e. earlier j k refl (less j k ne (λ m. not_both _ (latest.2 j m l) e)) e))
    ∙ ap (λ t. some_if t (get_or bs k no_bridge)) (is k latest.0 ∙ ap (λ t. t && V (get_or bs k no_bridge)) latest.1)

-- a call's bridges before its latest were over before that began
pub earlier_over : (r : Rows) (ds : List Done) (c j k : ℕ) → Stands r ds → c < 4097 → (call_in r c).bridge ≡ Some k → j < k →
    joins c (bridge_at_place r j) ≡ true → IsOver r (bridge_at_place r k).from (bridge_at_place r j)
earlier_over r ds c j k s h e l q =
    let t = subst (λ (o : Option ℕ). IsLatest r.bridges c o) e (s.table.latest c h) in
    s.table.over c j k l t.0 q t.1

-- ---- what is known

-- The table agrees with the executed orders on whether a call is open.
pub open_agrees : (r : Rows) (ds : List Done) (c : ℕ) → Stands r ds → c < 4097 → is_open_in r c ≡ is_open (gone_of r) ds c
open_agrees r ds c s h =
    ap (λ o. is_some o && not (is_some (call_in r c).closed) && not (is_some (gone_from_in r c))) (s.opened c h)
    ∙ ap (λ o. is_some (opened_at c ds) && not (is_some o) && not (is_some (gone_from_in r c))) (s.closed c h)

-- The table agrees with them on whether a call has ended.
ended_call_agrees : (r : Rows) (ds : List Done) (c : ℕ) → Stands r ds → c < 4097 → has_ended_in r c ≡ has_ended (gone_of r) ds c
ended_call_agrees r ds c s h =
    ap (λ o. is_some o && not (is_open_in r c)) (s.opened c h) ∙ ap (λ t. is_some (opened_at c ds) && not t) (open_agrees r ds c s h)

-- For a call's bridges, lasting by the orders is being live in the table.
is_latest : (r : Rows) (ds : List Done) (c : ℕ) → Stands r ds → c < 4097 → (j : ℕ) → j < length r.bridges → IsSized r.calls r.bridges →
    (joins c (bridge_at_place r j) && lasts (gone_of r) ds (bridge_at_place r j))
    ≡ (joins c (bridge_at_place r j) && is_live_in r (bridge_at_place r j))
is_latest r ds c s h j l z =
    let x = bridge_at_place r j in
    let n = z.named j l in
    ap (λ t. joins c x && (is_none x.ended && t && is_open (gone_of r) ds x.b)) (sym (open_agrees r ds x.a s n.0))
    ∙ ap (λ t. joins c x && (is_none x.ended && is_open_in r x.a && t)) (sym (open_agrees r ds x.b s n.1))

-- The table agrees with the orders on a call's bridge.
pub bridge_agrees : (r : Rows) (ds : List Done) (c : ℕ) → Stands r ds → IsSized r.calls r.bridges →
    c < 4097 → bridge_in r c ≡ bridge_of (gone_of r) ds c
bridge_agrees r ds c s z h =
    sym (ap (find (λ x. joins c x && lasts (gone_of r) ds x)) (sym s.bridges)
    ∙ latest-find r.bridges c (call_in r c).bridge (λ x. joins c x && lasts (gone_of r) ds x) (is_live_in r)
    (s.table.latest c h) (λ j l. is_latest r ds c s h j l z)
    (λ j k e l q. over-not_live r _ _ (earlier_over r ds c j k s h e l q)))

is_call_some : (t s : ℕ) → is_this t (Some s) ≡ true → s ≡ t
is_call_some t s e = sym (eqb-true t s e)

-- a bridge that was over before the latest began didn't end at t
not_ended_at : (r : Rows) (now t u : ℕ) (x : Bridge) → IsSound r now x → IsOver r u x → u ≤ t → (o : Option ℕ) → x.ended ≡ o → is_this t o ≡ false
not_ended_at r now t u x s o h None e = refl
not_ended_at r now t u x s o h (Some w) e = not_true _ (λ q.
    let p : w ≡ t = is_call_some t w q in
    let k = s.ended w e in
    let v : o.at ≡ w = cc (o.ended, k.0) in
    omega (arith, o.before))

-- The table agrees with the orders on the bridge that an order of this stamp ended.
pub ended_agrees : (r : Rows) (ds : List Done) (c t : ℕ) → Stands r ds → last_stamp ds ≤ t → c < 4097 → bridge_ended_in r t c ≡ bridge_ended t ds c
ended_agrees r ds c t s now h =
    sym (ap (find (λ x. joins c x && is_this t x.ended)) (sym s.bridges)
    ∙ latest-find r.bridges c (call_in r c).bridge (λ x. joins c x && is_this t x.ended) (λ x. is_this t x.ended)
    (s.table.latest c h) (λ j l. refl)
    (λ j k e l q.
    let places = subst (λ (o : Option ℕ). IsLatest r.bridges c o) e (s.table.latest c h) in
    let from = (s.table.sound k places.0).from in
    let lj : j < length r.bridges = omega (arith, places.0) in
    not_ended_at r (last_stamp ds) t _ _ (s.table.sound j lj) (earlier_over r ds c j k s h e l q) (omega arith) _ refl))

-- ---- the reply

-- the reply to an order depends on what is known of its calls alone: `open`
same_open : (k l : Known) (c : ℕ) (law : Law) → k.is_open c ≡ l.is_open c → k.has_ended c ≡ l.has_ended c → reply_from k (what.OpenCall c law)
    ≡ reply_from l (what.OpenCall c law)
same_open k l c law p q = cc

-- `close`
same_close : (k l : Known) (c : ℕ) → k.is_open c ≡ l.is_open c → k.bridge_of c ≡ l.bridge_of c → reply_from k (what.CloseCall c)
    ≡ reply_from l (what.CloseCall c)
same_close k l c p q = cc

-- `bridge`
same_bridge : (k l : Known) (a b : ℕ) → k.is_open a ≡ l.is_open a → k.is_open b ≡ l.is_open b →
    k.bridge_of a ≡ l.bridge_of a → k.bridge_of b ≡ l.bridge_of b → k.bridge_ended a ≡ l.bridge_ended a → k.bridge_ended b ≡ l.bridge_ended b →
    reply_from k (what.Bridge a b) ≡ reply_from l (what.Bridge a b)
same_bridge k l a b p q r s t u = cc

-- `unbridge`
same_unbridge : (k l : Known) (c : ℕ) → k.is_open c ≡ l.is_open c → k.bridge_of c ≡ l.bridge_of c → reply_from k (what.Unbridge c)
    ≡ reply_from l (what.Unbridge c)
same_unbridge k l c p q = cc

-- `level`
same_level : (k l : Known) (w : What) → (c : ℕ) → (v : _) → k.is_open c ≡ l.is_open c → reply_from k (what.Level c v) ≡ reply_from l (what.Level c v)
same_level k l w c v p = cc

-- `dtx`
same_dtx : (k l : Known) (w : What) → (c : ℕ) → (m : _) → k.is_open c ≡ l.is_open c → reply_from k (what.Dtx c m) ≡ reply_from l (what.Dtx c m)
same_dtx k l w c m p = cc

-- **The reply from the table is that from the executed orders.**
pub reply_agrees : (r : Rows) (ds : List Done) (t : ℕ) (w : What) → Stands r ds → IsSized r.calls r.bridges → last_stamp ds ≤ t → NamesCalls w →
    reply_from (known_in r t) w ≡ reply_from (known_of (gone_of r) t ds) w
reply_agrees r ds t (what.OpenCall c law) s z now n =
    let h : c < 4097 = omega arith in
    same_open (known_in r t) (known_of (gone_of r) t ds) c law (open_agrees r ds c s h) (ended_call_agrees r ds c s h)
reply_agrees r ds t (what.CloseCall c) s z now n =
    let h : c < 4097 = omega arith in
    same_close (known_in r t) (known_of (gone_of r) t ds) c (open_agrees r ds c s h) (bridge_agrees r ds c s z h)
reply_agrees r ds t (what.Bridge a b) s z now n =
    let h : a < 4097 = omega (arith, n.0.1) in
    let i : b < 4097 = omega (arith, n.1.1) in
    same_bridge (known_in r t) (known_of (gone_of r) t ds) a b (open_agrees r ds a s h) (open_agrees r ds b s i) (bridge_agrees r ds a s z h)
    (bridge_agrees r ds b s z i)
    (ended_agrees r ds a t s now h) (ended_agrees r ds b t s now i)
reply_agrees r ds t (what.Unbridge c) s z now n =
    let h : c < 4097 = omega arith in
    same_unbridge (known_in r t) (known_of (gone_of r) t ds) c (open_agrees r ds c s h) (bridge_agrees r ds c s z h)
reply_agrees r ds t (what.Level c v) s z now n =
    let h : c < 4097 = omega arith in
    same_level (known_in r t) (known_of (gone_of r) t ds) (what.Level c v) c v (open_agrees r ds c s h)
reply_agrees r ds t (what.Dtx c m) s z now n =
    let h : c < 4097 = omega arith in
    same_dtx (known_in r t) (known_of (gone_of r) t ds) (what.Dtx c m) c m (open_agrees r ds c s h)
