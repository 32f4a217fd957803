-- For crates above: accepted acts are in range (`in_range`), stamps that are left rise (`left_rising`), and one more
-- end is in time (`before_more`).
-- Laws of the board's steps.
use Rattle.std.proofs.Common.{◌≡◌, refl, sym, ap, ◌∙◌, ℕ, zero, suc, ◌+◌, ◌<◌, ◌≤◌, ◌≢◌, Bool, false, Option, Some, None, List, [], ◌∷◌, ◌++◌, get_or, set}
use Rattle.std.proofs.Common.{drop, replicate, arith, length-drop, subst, true, inl, inr}
use Rattle.std.specs.Prelude.{Result, Ok, Err, not, ◌&&◌, is_some, is_none, option_map, find, if◌then◌else◌, ◌==◌, IfSome, IfOk, IsNone, OnErr, ◌↔◌}
use Rattle.std.specs.List.{All, filter_map}
use Rattle.std.proofs.lemmas.List.{append-nil, get_or-drop}
use Rattle.std.proofs.lemmas.Bool.{eq-eqb, ne_eqb}
use Rattle.trau_io.specs.declared.ends.CallEnd.{CallEnd}
use Rattle.trau_orders.specs.declared.order.What.{What}
use Rattle.trau_orders.specs.declared.order.What.TheVariants as what
use Rattle.trau_orders.specs.Lists.{AreOrders, NamesCalls, HasLevel}
use Rattle.switchboard.specs.declared.act.Reply.{Reply}
use Rattle.std.proofs.lemmas.List.Elements.{All-nil, All-get_or, All-from_get_or}
use Rattle.trau_orders.specs.declared.order.Order.{Order}
use Rattle.switchboard.specs.declared.act.Act.{Act}
use Rattle.switchboard.specs.declared.act.Act.TheVariants as act
use Rattle.switchboard.specs.declared.act.Refusal.{Refusal}
use Rattle.switchboard.specs.declared.table.Bridge.{Bridge}
use Rattle.switchboard.specs.Calls.{Done, is_this, opened_at, closed_at}
use Rattle.switchboard.specs.Bridges.{bridges, joins, other}
use Rattle.switchboard.specs.Replies.{Known, known_of, reply_from, IsInRange}
use Rattle.switchboard.specs.State.{State, EndBefore, told_more, new_board, gone_in, told_in, after_turn, done_by, due, reply_of, first_order}
use Rattle.switchboard.specs.State.{first_stamp, last_stamp}
use Rattle.switchboard.specs.Stands.{AreRising}
use Rattle.switchboard.specs.Runs.{IsUnchanged}
use Rattle.switchboard.specs.Ends.{span_to, end_now}
use Rattle.switchboard.proofs.Orders.OneMore.{bridges-more}
use Rattle.switchboard.proofs.Orders.GivenLaws.{law_kept}
use Rattle.switchboard.proofs.Orders.Replies.{IsRefused, open_accepted, close_accepted, bridge_accepted, unbridge_accepted, level_accepted, dtx_accepted}
use Rattle.switchboard.proofs.Orders.Steps.{last-more, or_else-none, opened-more, closed-more, after_kept, map_after_same}

-- before the first order no end is told
abbrev no_ends : ℕ → List (Option CallEnd)
no_ends n = replicate n None

-- a new board was told no end
none_at : (n c : ℕ) → get_or (no_ends n) c None ≡ None
none_at zero c = refl
none_at (suc n) zero = refl
none_at (suc n) (suc c) = none_at n c

none_before : (t : ℕ) (o : Option ℕ) → o ≡ None → IfSome o (λ at. at < t)
none_before t None e = tt
none_before t (Some u) e = absurd cc

pub told_none : (s : State) (os : List Order) → s ≡ new_board os → (t : ℕ) → EndBefore t s
told_none s os e t c = none_before t (told_in s c) (ap (λ (s : State). told_in s c) e ∙ ap (option_map (λ (end : CallEnd). end.at)) (none_at 4097 c))

-- the period of the end that is told of a call
abbrev at_in : List (Option CallEnd) → ℕ → Option ℕ
at_in xs c = option_map (λ (end : CallEnd). end.at) (get_or xs c None)

-- one end more
before_set : (t : ℕ) (end : CallEnd) (xs : List (Option CallEnd)) (i : ℕ) → end.at < t → ((c : ℕ) → IfSome (at_in xs c) (λ u. u < t)) → (c : ℕ) →
    IfSome (at_in (set xs i (Some end)) c) (λ u. u < t)
before_set t end [] i l h c = h c
before_set t end (x ∷ xs) zero l h zero = l
before_set t end (x ∷ xs) zero l h (suc c) = h (suc c)
before_set t end (x ∷ xs) (suc i) l h zero = h zero
before_set t end (x ∷ xs) (suc i) l h (suc c) = before_set t end xs i l (λ k. h (suc k)) c

-- one more end before t
pub before_more : (s n : State) (end : CallEnd) → n ≡ told_more s end → (t : ℕ) → end.at < t → EndBefore t s → EndBefore t n
before_more s n end e t l h = subst (λ (n : State). EndBefore t n) (sym e) (before_set t end s.told end.call l h)

-- ---- a refused order changes nothing

-- what is known, from what the orders did
abbrev known_from : (ℕ → Bool) → ℕ → (ℕ → Option ℕ) → (ℕ → Option ℕ) → List Bridge → Known
known_from gone t opened closed xs =
    let lives : ℕ → Bool = λ c. is_some (opened c) && not (is_some (closed c)) && not (gone c) in
    record {
      is_open = lives;
      has_ended = λ c. is_some (opened c) && not (lives c);
      bridge_of = λ c. find (λ x. joins c x && (is_none x.ended && lives x.a && lives x.b)) xs;
      bridge_ended = λ c. find (λ x. joins c x && is_this t x.ended) xs;
    }

-- A refused order opens no call.
refused_opened : (ds : List Done) (o : Order) (e : Refusal) (c : ℕ) → opened_at c (ds ++ record { order = o; result = Err e } ∷ []) ≡ opened_at c ds
refused_opened ds o e c = opened-more c ds (record { order = o; result = Err e }) ∙ or_else-none _

-- A refused order closes no call.
refused_closed : (ds : List Done) (o : Order) (e : Refusal) (c : ℕ) → closed_at c (ds ++ record { order = o; result = Err e } ∷ []) ≡ closed_at c ds
refused_closed ds o e c = closed-more c ds (record { order = o; result = Err e }) ∙ or_else-none _

-- A refused order begins and ends no bridge.
refused_bridges : (ds : List Done) (o : Order) (e : Refusal) → bridges (ds ++ record { order = o; result = Err e } ∷ []) ≡ bridges ds
refused_bridges ds o e =
    let d : Done = record { order = o; result = Err e } in
    bridges-more ds d ∙ append-nil _ ∙ map_after_same d (bridges ds) (λ j l. after_kept d _ refl)

-- After a refused order each later order finds the same.
refused_known : (gone : ℕ → Bool) (t : ℕ) (ds : List Done) (o : Order) (e : Refusal) → known_of gone t (ds ++ record { order = o; result = Err e } ∷ [])
    ≡ known_of gone t ds
refused_known gone t ds o e =
    let more : List Done = ds ++ record { order = o; result = Err e } ∷ [] in
    let opened : (λ c. opened_at c more) ≡ (λ c. opened_at c ds) = λ i. λ c. refused_opened ds o e c i in
    let closed : (λ c. closed_at c more) ≡ (λ c. closed_at c ds) = λ i. λ c. refused_closed ds o e c i in
    ap (λ f. known_from gone t f (λ c. closed_at c more) (bridges more)) opened
    ∙ ap (λ f. known_from gone t (λ c. opened_at c ds) f (bridges more)) closed
    ∙ ap (known_from gone t (λ c. opened_at c ds) (λ c. closed_at c ds)) (refused_bridges ds o e)

refused_same : (s : State) (o : Order) (x : Result Act Refusal) (e : Refusal) → x ≡ Err e →
    IsUnchanged s (record s { left = drop 1 s.left; done = s.done ++ record { order = o; result = x } ∷ [] })
refused_same s o x e p = subst (λ (x : Result Act Refusal). IsUnchanged s
    (record s { left = drop 1 s.left; done = s.done ++ record { order = o; result = x } ∷ [] })) (sym p) (record {
      known = λ t. refused_known (gone_in s) t s.done o e;
      told = refl;
      law = λ c. law_kept c s.done (record { order = o; result = Err e }) refl;
      spans = ap (filter_map (λ x. option_map (span_to x) (end_now (told_in s) x))) (refused_bridges s.done o e);
    })

-- a reply that refuses leaves all as it was
pub refused_unchanged : (s n : State) (o : Order) → n ≡ after_turn s (Some o) → OnErr (done_by s o).result (IsUnchanged s n)
refused_unchanged s n o e = by s n o (done_by s o).result refl e
  where
    by : (s n : State) (o : Order) (x : Result Act Refusal) → (done_by s o).result ≡ x → n ≡ after_turn s (Some o) → OnErr x (IsUnchanged s n)
    by s n o (Ok a) p e = tt
    by s n o (Err r) p e = subst (λ (n : State). IsUnchanged s n) (sym e) (refused_same s o (done_by s o).result r p)

pub refused_answer : (s n : State) (o : Order) (r : Reply) → Some r ≡ reply_of s (Some o) →
    n ≡ after_turn s (Some o) → OnErr r.result (IsUnchanged s n)
refused_answer s n o r p e = subst (λ (x : Result Act Refusal). OnErr x (IsUnchanged s n)) (let q : (done_by s o).result ≡ r.result = cc in q)
    (refused_unchanged s n o e)

-- the stamp of the last executed order, after the next one
pub last_is : (s n : State) (o : Order) (t : ℕ) → n ≡ after_turn s (Some o) → o.stamp ≡ t → last_stamp n.done ≡ t
last_is s n o t e q = ap (λ (s : State). last_stamp s.done) e ∙ last-more s.done (done_by s o) ∙ q

-- ---- no order is due exactly where none that is left has the stamp

-- the orders that are left have rising stamps
pub left_rising : (os : List Order) (n : ℕ) → AreOrders os → AreRising (drop n os)
left_rising os n a = record {
  rising = λ k d l. let r = a.rising n (n + k) d (omega arith) (omega (arith, l, length-drop n os)) in
      let z : n + 0 ≡ n = omega arith in
      omega (
        arith,
        r,
        ap (λ (o : Order). o.stamp) (get_or-drop n os 0 d ∙ ap (λ (i : ℕ). get_or os i d) z),
        ap (λ (o : Order). o.stamp)
            (get_or-drop n os k d),
      );
}

-- where none is due, no order has this stamp
none_due : (os : List Order) (t : ℕ) → AreRising os → IfSome (first_stamp os) (λ s. t ≤ s) → due os t ≡ None → All (λ o. o.stamp ≢ t) os
none_due [] t r h e = All-nil _
none_due (o ∷ os) t r h e =
    let n : o.stamp ≢ t = λ q. let b = eq-eqb o.stamp t q in absurd (some_due (o.stamp == t) o b e) in
    All-from_get_or (λ o. o.stamp ≢ t) (o ∷ os) o (λ k l. let u = r.rising k o l in λ q. n (omega (arith, u, q, h)))
  where
    some_due : (b : Bool) (o : Order) → b ≡ true → (if b then Some o else None) ≡ None → ⊥
    some_due true o p e = cc
    some_due false o p e = cc

-- Where no order has this stamp, none is due.
due_none : (os : List Order) (t : ℕ) → All (λ o. o.stamp ≢ t) os → due os t ≡ None
due_none [] t h = refl
due_none (o ∷ os) t h = ap (λ (b : Bool). if b then Some o else None) (ne_eqb o.stamp t (All-get_or (λ o. o.stamp ≢ t) (o ∷ os) 0 o (omega arith) h))

reply_none : (s : State) (o : Option Order) → (o ≡ None → is_some (reply_of s o) ≡ false) × (is_some (reply_of s o) ≡ false → o ≡ None)
reply_none s None = (λ e. refl, λ e. refl)
reply_none s (Some o) = (λ e. absurd cc, λ e. cc)

-- there is no reply exactly where no order has this stamp
pub none_exactly : (s : State) (t : ℕ) (answer : Option Reply) → AreRising s.left → IfSome (first_stamp s.left) (λ s. t ≤ s) →
    answer ≡ reply_of s (due s.left t) → IsNone answer ↔ All (λ o. o.stamp ≢ t) s.left
none_exactly s t answer r h e =
    let p = reply_none s (due s.left t) in
    (λ n. none_due s.left t r h (p.1 (ap is_some (sym e) ∙ n)), λ a. ap is_some e ∙ p.0 (due_none s.left t a))

-- no order is left, or the next one has another stamp
pub none_left : (os : List Order) (t : ℕ) → None ≡ first_order os → due os t ≡ None
none_left [] t e = refl
none_left (o ∷ os) t e = cc

-- an order with another stamp is not due
pub other_stamp : (os : List Order) (o : Order) (t : ℕ) → Some o ≡ first_order os → o.stamp ≢ t → due os t ≡ None
other_stamp [] o t e n = cc
other_stamp (p ∷ os) o t e n =
    let q : o ≡ p = cc in
    ap (λ (b : Bool). if b then Some p else None) (ne_eqb p.stamp t (λ h. n (ap (λ (o : Order). o.stamp) q ∙ h)))

-- a clause about a reply, where there is none
pub without_reply : (r : Option Reply) (P : Reply → Type 0) → r ≡ None → IfSome r P
without_reply None P e = tt
without_reply (Some x) P e = cc

pub no_reply : (r : Option Reply) (P : Type 0) → r ≡ None → is_some r ≡ true → P
no_reply None P e h = cc
no_reply (Some x) P e h = cc

-- ---- ranges

refused_range : (x : Result Act Refusal) → IsRefused x → IfOk x IsInRange
refused_range x e = subst (λ (x : Result Act Refusal). IfOk x IsInRange) (sym e.1) tt

accepted_range : (x : Result Act Refusal) (a : Act) → x ≡ Ok a → IsInRange a → IfOk x IsInRange
accepted_range x a e h = subst (λ (x : Result Act Refusal). IfOk x IsInRange) (sym e) h

-- an accepted act names call numbers and levels in their ranges
pub in_range : (k : Known) (w : What) → NamesCalls w → HasLevel w → IfOk (reply_from k w) IsInRange
in_range k (what.OpenCall c law) n l = elim (open_accepted k c law) [ inl e ↦ refused_range _ e | inr p ↦ accepted_range _ (act.Opened c law) p.0 n ]
in_range k (what.CloseCall c) n l = elim (close_accepted k c)
    [ inl e ↦ refused_range _ e | inr p ↦ accepted_range _ (act.Closed c (option_map (other c) (k.bridge_of c))) p.0 tt ]
in_range k (what.Bridge a b) n l = elim (bridge_accepted k a b) [ inl e ↦ refused_range _ e | inr p ↦ accepted_range _ (act.Bridged a b) p.0 tt ]
in_range k (what.Unbridge c) n l = elim (unbridge_accepted k c) [ inl e ↦ refused_range _ e | inr p ↦ accepted_range _ (act.Unbridged p.0.a p.0.b) p.1 tt ]
in_range k (what.Level c v) n l = elim (level_accepted k c v) [ inl e ↦ refused_range _ e | inr p ↦ accepted_range _ (act.LevelSet c v) p.0 l.0 ]
in_range k (what.Dtx c m) n l = elim (dtx_accepted k c m) [ inl e ↦ refused_range _ e | inr p ↦ accepted_range _ (act.DtxSet c m) p.0 tt ]
