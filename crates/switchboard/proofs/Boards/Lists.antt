-- The lists of a board: its orders with their replies, the ends that were told, and the room for bridges and spans.
use Rattle.std.proofs.Common.{◌≡◌, refl, sym, ap, ◌∙◌, ℕ, zero, suc, ◌+◌, ◌<◌, ◌≤◌, Option, Some, None, List, [], ◌∷◌, ◌++◌, length, map, get_or, set, drop}
use Rattle.std.proofs.Common.{arith}
use Rattle.std.specs.Prelude.{Result, Ok, Err, is_some, option_map}
use Rattle.std.proofs.lemmas.List.{length-append, length-map, map-set, set-get_or}
use Rattle.trau_io.specs.declared.ends.CallEnd.{CallEnd}
use Rattle.trau_orders.specs.declared.order.Order.{Order}
use Rattle.trau_orders.specs.Lists.{AreOrders}
use Rattle.switchboard.specs.declared.act.Act.{Act}
use Rattle.switchboard.specs.declared.act.Act.TheVariants as act
use Rattle.switchboard.specs.declared.act.Refusal.{Refusal}
use Rattle.switchboard.specs.declared.act.Reply.{Reply}
use Rattle.switchboard.specs.declared.table.Call.{Call}
use Rattle.switchboard.specs.Calls.{Done}
use Rattle.switchboard.specs.Bridges.{bridge_by, bridges}
use Rattle.switchboard.specs.Rows.{Rows, never, call_in, rows_after, with_latest, parted_at, parted_in, span_in}
use Rattle.switchboard.specs.State.{first_order, last_stamp, replies_from, gone_in}
use Rattle.switchboard.specs.Stands.{IsBoard, dones, board_state}
use Rattle.switchboard.proofs.Tables.Sizes.{gone_of}
use Rattle.switchboard.proofs.Lists.{filter_map-somes, somes-fewer, get_or-map_all}

-- ---- orders and replies

pub length-dones : (os : List Order) (xs : List Reply) → length xs ≤ length os → length (dones os xs) ≡ length xs
length-dones [] [] h = refl
length-dones [] (x ∷ xs) h = absurd (omega arith)
length-dones (o ∷ os) [] h = refl
length-dones (o ∷ os) (x ∷ xs) h = let e = length-dones os xs (omega arith) in omega arith

pub dones-nil : (os : List Order) → dones os [] ≡ []
dones-nil [] = refl
dones-nil (o ∷ os) = refl

pub dones-more : (os : List Order) (xs : List Reply) (x : Reply) (o : Order) → first_order (drop (length xs) os) ≡ Some o → dones os (xs ++ x ∷ [])
    ≡ dones os xs ++ record { order = o; result = x.result } ∷ []
dones-more [] [] x o e = cc
dones-more [] (y ∷ xs) x o e = cc
dones-more (p ∷ os) [] x o e = let q : p ≡ o = cc in ap (λ ds. record { order = p; result = x.result } ∷ ds) (dones-nil os)
    ∙ ap (λ (p : Order). record { order = p; result = x.result } ∷ []) q
dones-more (p ∷ os) (y ∷ xs) x o e = ap (λ ds. record { order = p; result = y.result } ∷ ds) (dones-more os xs x o e)

pub replies_from-more : (n : ℕ) (ds : List Done) (d : Done) → replies_from n (ds ++ d ∷ []) ≡ replies_from n ds ++ record { order = n + length ds + 1; result = d.result } ∷
    []
replies_from-more n [] d = ap (λ k. record { order = k; result = d.result } ∷ []) (omega arith)
replies_from-more n (e ∷ ds) d = ap (λ xs. record { order = n + 1; result = e.result } ∷ xs) (replies_from-more (n + 1) ds d
    ∙ ap (λ k. replies_from (n + 1) ds ++ record { order = k; result = d.result } ∷ []) (omega arith))

pub left-more : (os : List Order) (xs : List Reply) (x : Reply) → drop (length (xs ++ x ∷ [])) os ≡ drop 1 (drop (length xs) os)
left-more [] [] x = refl
left-more [] (y ∷ xs) x = refl
left-more (o ∷ os) [] x = refl
left-more (o ∷ os) (y ∷ xs) x = left-more os xs x

-- where there is a next order, it stands in the list
pub next-within : (os : List Order) (n : ℕ) (o : Order) → first_order (drop n os) ≡ Some o → (n < length os) × (get_or os n o ≡ o)
next-within [] zero o e = cc
next-within [] (suc n) o e = cc
next-within (p ∷ os) zero o e = (omega arith, cc)
next-within (p ∷ os) (suc n) o e = let h = next-within os n o e in (omega (arith, h.0), h.1)

-- the stamp of the last executed order is that of an order of the list
last-dones : (os : List Order) (xs : List Reply) (m : ℕ) (d : Order) → length xs ≤ length os → ((i : ℕ) → i < length xs → (get_or os i d).stamp ≤ m) →
    last_stamp (dones os xs) ≤ m
last-dones [] xs m d l h = omega arith
last-dones (o ∷ os) [] m d l h = omega arith
last-dones (o ∷ os) (x ∷ []) m d l h = last_one os o m (h 0 (omega arith))
  where
    last_one : (os : List Order) (o : Order) (m : ℕ) → o.stamp ≤ m → last_stamp (record { order = o; result = x.result } ∷ dones os []) ≤ m
    last_one [] o m h = h
    last_one (p ∷ os) o m h = h
last-dones (o ∷ []) (x ∷ y ∷ xs) m d l h = absurd (omega arith)
last-dones (o ∷ p ∷ os) (x ∷ y ∷ xs) m d l h = last-dones (p ∷ os) (y ∷ xs) m d (omega arith) (λ i q. h (suc i) (omega arith))

-- no executed order has a later stamp than the next one
pub last-before : (os : List Order) (xs : List Reply) (o : Order) → AreOrders os → first_order (drop (length xs) os) ≡ Some o →
    last_stamp (dones os xs) ≤ o.stamp
last-before os xs o a e =
    let w = next-within os (length xs) o e in
    last-dones os xs o.stamp o (omega (arith, w.0)) (λ i l. let r = a.rising i (length xs) o (omega arith) w.0 in omega
    (arith, r, ap (λ (p : Order). p.stamp) w.1))

-- ---- what was told

-- the ends that a board was told are those of its table
pub gone_same : (os : List Order) (xs : List Reply) (r : Rows) → gone_in (board_state os xs r) ≡ gone_of r
gone_same os xs r = λ i. λ c. is_some (option_map (λ (e : CallEnd). e.at) (get_or-map_all (λ (e : Call). e.gone) r.calls c never i))

-- a call that keeps its end is put in the place of another
gone_set : (cs : List Call) (c : ℕ) (e : Call) → e.gone ≡ (get_or cs c never).gone →
    map (λ (e : Call). e.gone) (set cs c e) ≡ map (λ (e : Call). e.gone) cs
gone_set cs c e h =
    map-set (λ (e : Call). e.gone) cs c e
    ∙ ap (λ g. set (map (λ (e : Call). e.gone) cs) c g) (h ∙ sym (get_or-map_all (λ (e : Call). e.gone) cs c never))
    ∙ set-get_or (map (λ (e : Call). e.gone) cs) c None

-- to part two calls changes no row of a call
parted_keeps : (r : Rows) (t c : ℕ) → (parted_in r t c).calls ≡ r.calls
parted_keeps r t c = by r t (call_in r c).bridge
  where
    by : (r : Rows) (t : ℕ) (o : Option ℕ) → (elim o as (λ _. Rows) [ None ↦ r | Some k ↦ parted_at r t k ]).calls ≡ r.calls
    by r t None = refl
    by r t (Some k) = refl

-- a reply changes no end that was told
pub told_same : (r : Rows) (t : ℕ) (x : Result Act Refusal) → map (λ (e : Call). e.gone) (rows_after r t x).calls ≡ map (λ (e : Call). e.gone) r.calls
told_same r t (Ok (act.Opened c law)) = gone_set r.calls c _ refl
told_same r t (Ok (act.Closed c None)) = gone_set r.calls c _ refl
told_same r t (Ok (act.Closed c (Some p))) =
    gone_set (parted_in r t c).calls c _ refl ∙ ap (map (λ (e : Call). e.gone)) (parted_keeps r t c)
told_same r t (Ok (act.Bridged a b)) = gone_set (with_latest r.calls (length r.bridges) a) b _ refl ∙ gone_set r.calls a _ refl
told_same r t (Ok (act.Unbridged a b)) = ap (map (λ (e : Call). e.gone)) (parted_keeps r t a)
told_same r t (Ok (act.LevelSet c v)) = refl
told_same r t (Ok (act.DtxSet c m)) = refl
told_same r t (Err e) = refl

pub calls_same : (r : Rows) (t : ℕ) (x : Result Act Refusal) → length (rows_after r t x).calls ≡ length r.calls
calls_same r t x =
    let gone : Call → Option CallEnd = λ e. e.gone in
    sym (length-map (rows_after r t x).calls gone) ∙ ap length (told_same r t x) ∙ length-map r.calls gone

-- the end of a bridge keeps the room
most_parted : (r : Rows) (t : ℕ) (o : Option ℕ) → (elim o as (λ _. Rows) [ None ↦ r | Some k ↦ parted_at r t k ]).most ≡ r.most
most_parted r t None = refl
most_parted r t (Some k) = refl

pub most_same : (r : Rows) (t : ℕ) (x : Result Act Refusal) → (rows_after r t x).most ≡ r.most
most_same r t (Ok (act.Opened c law)) = refl
most_same r t (Ok (act.Closed c None)) = refl
most_same r t (Ok (act.Closed c (Some p))) = most_parted r t (call_in r c).bridge
most_same r t (Ok (act.Bridged a b)) = refl
most_same r t (Ok (act.Unbridged a b)) = most_parted r t (call_in r a).bridge
most_same r t (Ok (act.LevelSet c v)) = refl
most_same r t (Ok (act.DtxSet c m)) = refl
most_same r t (Err e) = refl

-- ---- room

-- at most one bridge comes of an order
few_bridges : (ds : List Done) → length (bridges ds) ≤ length ds
few_bridges [] = omega arith
few_bridges (d ∷ ds) = let h = few_bridges ds in omega (
  arith,
  length-append (bridge_by d.order.stamp d.result ds) (bridges ds),
  one_bridge d.order.stamp
      d.result ds,
)
  where
    one_bridge : (t : ℕ) (x : Result Act Refusal) (ds : List Done) → length (bridge_by t x ds) ≤ 1
    one_bridge t (Ok (act.Bridged a b)) ds = omega arith
    one_bridge t (Ok (act.Opened c law)) ds = omega arith
    one_bridge t (Ok (act.Closed c p)) ds = omega arith
    one_bridge t (Ok (act.Unbridged a b)) ds = omega arith
    one_bridge t (Ok (act.LevelSet c v)) ds = omega arith
    one_bridge t (Ok (act.DtxSet c m)) ds = omega arith
    one_bridge t (Err e) ds = omega arith

pub bridges-bound : (os : List Order) (xs : List Reply) (r : Rows) → IsBoard os xs r → length r.bridges ≤ length xs
bridges-bound os xs r b = omega (arith, few_bridges (dones os xs), ap length b.stands.bridges, length-dones os xs b.few)

pub spans-bound : (os : List Order) (xs : List Reply) (r : Rows) → IsBoard os xs r → length r.spans ≤ length r.bridges
spans-bound os xs r b =
    omega (
      arith,
      ap length (b.stands.table.spans ∙ filter_map-somes (span_in r) r.bridges),
      somes-fewer (map (span_in r) r.bridges),
      length-map r.bridges
          (span_in r),
    )
