-- For crates above: orders that are executed after others add their replies (`done_after-added`, `AreReplies`),
-- openings and closings.
use Rattle.std.proofs.Common.{◌≡◌, refl, sym, ap, ◌∙◌, subst, ℕ, Bool, true, false, Option, Some, List, [], ◌∷◌, ◌++◌, map}
use Rattle.std.specs.Prelude.{Result, Ok, Err, find, option_map, if◌then◌else◌, filter, nat_lt}
use Rattle.std.proofs.lemmas.List.{append_assoc, append-nil, map-append}
use Rattle.std.proofs.lemmas.List.Elements.{filter-append}
use Rattle.std.specs.List.{AllByRecursion}
use Rattle.trau_orders.specs.declared.order.Order.{Order}
use Rattle.switchboard.specs.declared.act.Act.{Act}
use Rattle.switchboard.specs.declared.act.Act.TheVariants as act
use Rattle.switchboard.specs.declared.act.Refusal.{Refusal}
use Rattle.switchboard.specs.declared.table.Bridge.{Bridge}
use Rattle.switchboard.specs.Calls.{Done, is_this, opened_by, closed_by, opened_at, closed_at, gone_at}
use Rattle.switchboard.specs.Bridges.{ends_bridge, bridge_by, bridges}
use Rattle.switchboard.specs.Replies.{reply_to}
use Rattle.switchboard.specs.Runs.{done_after, done_of, IsRun}
use Rattle.switchboard.proofs.Orders.OneMore.{or_else, stamp_of}

-- ---- the orders that come later change

-- the first of both
stamps_append : (t : Bool) (e : Done) (u v : Option Done) (w : Option ℕ) → stamp_of u ≡ or_else (stamp_of v) w →
    stamp_of (if t then Some e else u) ≡ or_else (stamp_of (if t then Some e else v)) w
stamps_append true e u v w h = refl
stamps_append false e u v w h = h

-- in two lists the first is in the first one, if it is there
found_append : (p : Done → Bool) (ds later : List Done) → stamp_of (find p (ds ++ later)) ≡ or_else (stamp_of (find p ds)) (stamp_of (find p later))
found_append p [] later = refl
found_append p (d ∷ ds) later = stamps_append (p d) d _ _ _ (found_append p ds later)

-- a call was opened by the first orders, or else by the later ones
pub opened-append : (c : ℕ) (ds later : List Done) → opened_at c (ds ++ later) ≡ or_else (opened_at c ds) (opened_at c later)
opened-append c ds later = found_append (λ d. is_this c (opened_by d.result)) ds later

-- and closed
pub closed-append : (c : ℕ) (ds later : List Done) → closed_at c (ds ++ later) ≡ or_else (closed_at c ds) (closed_at c later)
closed-append c ds later = found_append (λ d. is_this c (closed_by d.result)) ds later

-- a bridge after later orders, the first of which ends it where none did before
abbrev pub after_all : List Done → Bridge → Bridge
after_all later x = record x { ended = or_else x.ended (option_map (λ d. d.order.stamp) (find (λ d. ends_bridge x.a x.b d.result) later)) }

bridge_by-append : (t : ℕ) (r : Result Act Refusal) (ds later : List Done) → bridge_by t r (ds ++ later) ≡ map (after_all later) (bridge_by t r ds)
bridge_by-append t (Ok (act.Bridged a b)) ds later =
    ap (λ o. record { a = a; b = b; from = t; ended = o } ∷ []) (found_append (λ d. ends_bridge a b d.result) ds later)
bridge_by-append t (Ok (act.Opened c law)) ds later = refl
bridge_by-append t (Ok (act.Closed c p)) ds later = refl
bridge_by-append t (Ok (act.Unbridged a b)) ds later = refl
bridge_by-append t (Ok (act.LevelSet c v)) ds later = refl
bridge_by-append t (Ok (act.DtxSet c m)) ds later = refl
bridge_by-append t (Err e) ds later = refl

-- later orders end some of the bridges, and begin others
pub bridges-append : (ds later : List Done) → bridges (ds ++ later) ≡ map (after_all later) (bridges ds) ++ bridges later
bridges-append [] later = refl
bridges-append (d ∷ ds) later =
    ap (λ xs. xs ++ bridges (ds ++ later)) (bridge_by-append d.order.stamp d.result ds later)
    ∙ ap (λ xs. map (after_all later) (bridge_by d.order.stamp d.result ds) ++ xs) (bridges-append ds later)
    ∙ sym (append_assoc (map (after_all later) (bridge_by d.order.stamp d.result ds)) (map (after_all later) (bridges ds)) (bridges later))
    ∙ ap (λ xs. xs ++ bridges later) (sym (map-append (after_all later) (bridge_by d.order.stamp d.result ds) (bridges ds)))

-- ---- replies, one after another

-- the replies to these orders are those after all before them
abbrev pub AreReplies : (ℕ → ℕ) → List Done → List Done → Type 0
AreReplies whole ds [] = Unit {0}
AreReplies whole ds (d ∷ later) = (d.result ≡ reply_to (gone_at whole d.order.stamp ds) ds d.order) × AreReplies whole (ds ++ d ∷ []) later

-- an order with its reply after these
abbrev pub done_next : (ℕ → ℕ) → List Done → Order → Done
done_next whole ds o = record { order = o; result = reply_to (gone_at whole o.stamp ds) ds o }

-- what executing these orders adds
abbrev pub added : (ℕ → ℕ) → List Done → List Order → List Done
added whole ds [] = []
added whole ds (o ∷ os) = done_next whole ds o ∷ added whole (ds ++ done_next whole ds o ∷ []) os

-- executing orders adds their replies
pub done_after-added : (whole : ℕ → ℕ) (ds : List Done) (os : List Order) → done_after whole ds os ≡ ds ++ added whole ds os
done_after-added whole ds [] = sym (append-nil ds)
done_after-added whole ds (o ∷ os) =
    done_after-added whole (ds ++ done_next whole ds o ∷ []) os
    ∙ append_assoc ds (done_next whole ds o ∷ []) (added whole (ds ++ done_next whole ds o ∷ []) os)

-- these are theirs
pub added_orders : (whole : ℕ → ℕ) (ds : List Done) (os : List Order) → map (λ d. d.order) (added whole ds os) ≡ os
added_orders whole ds [] = refl
added_orders whole ds (o ∷ os) = ap (λ xs. o ∷ xs) (added_orders whole (ds ++ done_next whole ds o ∷ []) os)

-- and the replies are right
pub added_replies : (whole : ℕ → ℕ) (ds : List Done) (os : List Order) → AreReplies whole ds (added whole ds os)
added_replies whole ds [] = tt
added_replies whole ds (o ∷ os) = (refl, added_replies whole (ds ++ done_next whole ds o ∷ []) os)

-- orders are executed in one go or in two
pub done_after-append : (whole : ℕ → ℕ) (ds : List Done) (xs ys : List Order) → done_after whole ds (xs ++ ys) ≡ done_after whole (done_after whole ds xs) ys
done_after-append whole ds [] ys = refl
done_after-append whole ds (o ∷ xs) ys = done_after-append whole (ds ++ done_next whole ds o ∷ []) xs ys

-- in a run each reply is right
pub run_replies : (whole : ℕ → ℕ) (ds : List Done) → IsRun whole ds → AreReplies whole [] ds
run_replies whole ds r =
    let e : added whole [] (map (λ d. d.order) ds) ≡ ds = sym (done_after-added whole [] (map (λ d. d.order) ds)) ∙ sym r in
    subst (λ (ds : List Done). AreReplies whole [] ds) e (added_replies whole [] (map (λ d. d.order) ds))

-- and those to the second one
pub replies_back : (whole : ℕ → ℕ) (ds xs ys : List Done) → AreReplies whole ds (xs ++ ys) → AreReplies whole (ds ++ xs) ys
replies_back whole ds [] ys h = subst (λ (ds : List Done). AreReplies whole ds ys) (sym (append-nil ds)) h
replies_back whole ds (d ∷ xs) ys h =
    subst (λ (ds : List Done). AreReplies whole ds ys) (append_assoc ds (d ∷ []) xs) (replies_back whole (ds ++ d ∷ []) xs ys h.1)

-- the reply to the last order of a run is that after all before it
pub last_reply : (whole : ℕ → ℕ) (ds : List Done) (d : Done) → IsRun whole (ds ++ d ∷ []) → d.result ≡ reply_to (gone_at whole d.order.stamp ds) ds d.order
last_reply whole ds d r = (replies_back whole [] ds (d ∷ []) (run_replies whole (ds ++ d ∷ []) r)).0

-- ---- the whole run

-- all orders so far are below the end
passes_all : (P : ℕ) (ds : List Done) → AllByRecursion (λ d. nat_lt d.order.stamp P ≡ true) ds →
    filter (λ o. nat_lt o.stamp P) (map (λ d. d.order) ds) ≡ map (λ d. d.order) ds
passes_all P [] h = refl
passes_all P (d ∷ ds) h =
    ap (λ t. if t then d.order ∷ filter (λ o. nat_lt o.stamp P) (map (λ d. d.order) ds) else filter (λ o. nat_lt o.stamp P) (map (λ d. d.order) ds)) h.0
    ∙ ap (λ xs. d.order ∷ xs) (passes_all P ds h.1)

-- what is executed after the orders so far
abbrev pub rest_of : (ℕ → ℕ) → ℕ → List Done → List Order → List Done
rest_of whole P ds left = added whole ds (filter (λ o. nat_lt o.stamp P) left)

-- **What a run executes is what it executed so far, and then the rest.**
pub done-split : (whole : ℕ → ℕ) (P : ℕ) (orders left : List Order) (ds : List Done) → IsRun whole ds → map (λ d. d.order) ds ++ left ≡ orders →
    AllByRecursion (λ d. nat_lt d.order.stamp P ≡ true) ds → done_of whole P orders ≡ ds ++ rest_of whole P ds left
done-split whole P orders left ds r e below =
    ap (λ os. done_after whole [] (filter (λ o. nat_lt o.stamp P) os)) (sym e)
    ∙ ap (done_after whole [])
    (filter-append (λ o. nat_lt o.stamp P) (map (λ d. d.order) ds) left ∙ ap (λ os. os ++ filter (λ o. nat_lt o.stamp P) left) (passes_all P ds below))
    ∙ done_after-append whole [] (map (λ d. d.order) ds) (filter (λ o. nat_lt o.stamp P) left)
    ∙ ap (λ ds. done_after whole ds (filter (λ o. nat_lt o.stamp P) left)) (sym r)
    ∙ done_after-added whole ds (filter (λ o. nat_lt o.stamp P) left)
