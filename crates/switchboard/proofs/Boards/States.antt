-- The board before and after an order, and after an end.
use Rattle.std.proofs.Common.{◌≡◌, refl, sym, ap, ◌∙◌, subst, ℕ, zero, suc, ◌+◌, ◌<◌, ◌≤◌, true, Option, Some, None, List, [], ◌∷◌, ◌++◌, length, map, drop}
use Rattle.std.proofs.Common.{replicate, arith}
use Rattle.std.specs.Prelude.{Result, IfSome, option_map}
use Rattle.std.specs.List.{filter_map}
use Rattle.std.proofs.lemmas.List.{length-append, length-replicate, length-set, map-set}
use Rattle.trau_io.specs.declared.ends.CallEnd.{CallEnd}
use Rattle.trau_orders.specs.declared.order.Order.{Order}
use Rattle.trau_orders.specs.Lists.{AreOrders, NamesCalls}
use Rattle.switchboard.specs.declared.act.Act.{Act}
use Rattle.switchboard.specs.declared.act.Refusal.{Refusal}
use Rattle.switchboard.specs.declared.act.Reply.{Reply}
use Rattle.switchboard.specs.declared.table.Call.{Call}
use Rattle.switchboard.specs.Calls.{Done, is_open}
use Rattle.switchboard.specs.Replies.{reply_from, reply_to}
use Rattle.switchboard.specs.Rows.{Rows, IsSized, never, call_in, is_open_in, known_in, rows_after, call_ended_in, span_in, gone_from_in, gone_from}
use Rattle.switchboard.specs.State.{State, new_board, first_order, last_stamp, replies_from, end_told, told_in, gone_in, told_more, after_turn, reply_of}
use Rattle.switchboard.specs.Ends.{spans_now}
use Rattle.switchboard.specs.Stands.{IsLatest, Stands, IsBoard, dones, board_state}
use Rattle.switchboard.proofs.Tables.Sizes.{rows, gone_of}
use Rattle.switchboard.proofs.Lists.{get_or-map_all}
use Rattle.switchboard.proofs.Tables.Known.{open_parts, open_agrees, reply_agrees}
use Rattle.switchboard.proofs.Tables.Lost.{table_lost}
use Rattle.switchboard.proofs.Orders.Steps.{field_kept}
use Rattle.switchboard.proofs.Orders.Opened.{IsSome_before}
use Rattle.switchboard.proofs.Orders.Moves.{stands_more}
use Rattle.switchboard.proofs.Boards.Lists.{length-dones, dones-nil, dones-more, replies_from-more, left-more, next-within, last-before, gone_same, told_same}
use Rattle.switchboard.proofs.Boards.Lists.{calls_same, most_same, bridges-bound, spans-bound}
use Rattle.switchboard.proofs.Spans.{never_past}

-- ---- the three changes of a board

pub board-new : (os : List Order) (t : Rows) → AreOrders os → t ≡ rows (replicate 4097 never) [] [] (length os) → IsBoard os [] t
board-new os t a e = subst (λ (t : Rows). IsBoard os [] t) (sym e) (record {
  orders = a;
  few = omega arith;
  numbered = sym (ap (replies_from 0) (dones-nil os));
  most = refl;
  places = length-replicate 4097 never;
  stands = subst (λ (ds : List Done). Stands (rows (replicate 4097 never) [] [] (length os)) ds) (sym (dones-nil os)) (record {
    opened = λ c h. ap (λ (e : Call). e.opened) (never_past 4097 c);
    closed = λ c h. ap (λ (e : Call). e.closed) (never_past 4097 c);
    inside = λ c q. cc;
    bridges = refl;
    table = record {
      latest = λ c h. subst (λ (o : Option ℕ). IsLatest [] c o) (sym (ap (λ (e : Call). e.bridge) (never_past 4097 c))) (λ j l. absurd (omega arith));
      sound = λ k l. absurd (omega arith);
      over = λ c i j l h p q. absurd (omega arith);
      shut = λ c s j e l q. absurd (omega arith);
      untold = λ c s e. ap gone_from (never_past 4097 c);
      unused = λ c e. (ap (λ (e : Call). e.closed) (never_past 4097 c), ap gone_from (never_past 4097 c));
      spans = refl;
    };
  });
})

pub state-new : (os : List Order) (t : Rows) → t ≡ rows (replicate 4097 never) [] [] (length os) → board_state os [] t ≡ new_board os
state-new os t e = ap (board_state os []) e ∙ ap (λ ds. record { left = os; done = ds; told = map (λ (e : Call). e.gone) (replicate 4097 never) })
    (dones-nil os)
    ∙ ap (λ ts. record { left = os; done = []; told = ts }) (map_replicate 4097)
  where
    map_replicate : (n : ℕ) → map (λ (e : Call). e.gone) (replicate n never) ≡ replicate n None
    map_replicate zero = refl
    map_replicate (suc n) = ap (λ ts. None ∷ ts) (map_replicate n)

abbrev pub reply_of_order : ℕ → Result Act Refusal → Reply
reply_of_order k x = record { order = k + 1; result = x }

abbrev pub reply_at : List Reply → Rows → Order → Reply
reply_at xs r o = record { order = length xs + 1; result = reply_from (known_in r o.stamp) o.what }

pub board-more : (os : List Order) (xs : List Reply) (r : Rows) (o : Order) → IsBoard os xs r →
    IsSized r.calls r.bridges → first_order (drop (length xs) os) ≡ Some o → NamesCalls o.what → IsSome_before r o.stamp →
    IsBoard os (xs ++ reply_at xs r o ∷ []) (rows_after r o.stamp (reply_from (known_in r o.stamp) o.what))
board-more os xs r o b z next n told =
    let x = reply_at xs r o in
    let w = next-within os (length xs) o next in
    let e = dones-more os xs x o next in
    record {
      orders = b.orders;
      few = omega (arith, length-append xs (x ∷ []), w.0);
      numbered = ap (λ ys. ys ++ x ∷ []) b.numbered ∙ ap (λ k. replies_from 0 (dones os xs) ++ record { order = k; result = x.result } ∷ [])
          (let l = length-dones os xs b.few in omega arith)
          ∙ sym (ap (replies_from 0) e ∙ replies_from-more 0 (dones os xs) (record { order = o; result = x.result }));
      most = most_same r o.stamp x.result ∙ b.most;
      places = calls_same r o.stamp x.result ∙ b.places;
      stands = subst (λ (ds : List Done). Stands (rows_after r o.stamp x.result) ds) (sym e) (stands_more r (dones os xs) o.stamp o.what b.stands z
          (last-before os xs o b.orders next) told n);
    }

-- the reply from the table is that of the board
pub reply_is : (os : List Order) (xs : List Reply) (r : Rows) (o : Order) → IsBoard os xs r →
    IsSized r.calls r.bridges → first_order (drop (length xs) os) ≡ Some o → NamesCalls o.what → reply_from (known_in r o.stamp) o.what
    ≡ reply_to (gone_in (board_state os xs r)) (dones os xs) o
reply_is os xs r o b z next n =
    reply_agrees r (dones os xs) o.stamp o.what b.stands z (last-before os xs o b.orders next) n
    ∙ ap (λ g. reply_to g (dones os xs) o) (sym (gone_same os xs r))

pub state-more : (os : List Order) (xs : List Reply) (r : Rows) (o : Order) → IsBoard os xs r →
    IsSized r.calls r.bridges → first_order (drop (length xs) os) ≡ Some o → NamesCalls o.what →
    board_state os (xs ++ reply_at xs r o ∷ []) (rows_after r o.stamp (reply_from (known_in r o.stamp) o.what)) ≡ after_turn (board_state os xs r) (Some o)
state-more os xs r o b z next n =
    let x = reply_at xs r o in
    ap (λ ds. record { left = drop (length (xs ++ x ∷ [])) os; done = ds; told = map (λ (e : Call). e.gone) (rows_after r o.stamp x.result).calls })
    (dones-more os xs x o next)
    ∙ ap (λ l. record {
      left = l;
      done = dones os xs ++ record { order = o; result = x.result } ∷ [];
      told = map (λ (e : Call). e.gone) (rows_after r o.stamp x.result).calls;
    }) (left-more os xs x)
    ∙ ap (λ ts. record { left = drop 1 (drop (length xs) os); done = dones os xs ++ record { order = o; result = x.result } ∷ []; told = ts })
    (told_same r o.stamp x.result)
    ∙ ap (λ y. record {
      left = drop 1 (drop (length xs) os);
      done = dones os xs ++ record { order = o; result = y } ∷ [];
      told = map (λ (e : Call). e.gone) r.calls;
    }) (reply_is os xs r o b z next n)

pub answer-more : (os : List Order) (xs : List Reply) (r : Rows) (o : Order) → IsBoard os xs r →
    IsSized r.calls r.bridges → first_order (drop (length xs) os) ≡ Some o → NamesCalls o.what →
    Some (reply_at xs r o) ≡ reply_of (board_state os xs r) (Some o)
answer-more os xs r o b z next n =
    ap (λ k. Some (record { order = k + 1; result = reply_from (known_in r o.stamp) o.what })) (sym (length-dones os xs b.few))
    ∙ ap (λ y. Some (record { order = length (dones os xs) + 1; result = y })) (reply_is os xs r o b z next n)

-- the call that is told to have ended
pub told_call : (os : List Order) (xs : List Reply) (r : Rows) (c : ℕ) → IsBoard os xs r →
    is_open (gone_in (board_state os xs r)) (dones os xs) c ≡ true → (c < 4097) × (is_open_in r c ≡ true)
told_call os xs r c b e =
    let f : is_open (gone_of r) (dones os xs) c ≡ true = ap (λ g. is_open g (dones os xs) c) (sym (gone_same os xs r)) ∙ e in
    let h = b.stands.inside c (open_parts _ _ _ f).0 in
    (h, open_agrees r (dones os xs) c b.stands h ∙ f)

pub board-told : (os : List Order) (xs : List Reply) (r : Rows) (end : CallEnd) → IsBoard os xs r → IsSized r.calls r.bridges →
    last_stamp (dones os xs) ≤ end.at → (end.call < 4097) × (is_open_in r end.call ≡ true) → IsBoard os xs (call_ended_in r end)
board-told os xs r end b z late o =
    let e : Call = record (call_in r end.call) { gone = Some end } in
    record {
      orders = b.orders;
      few = b.few;
      numbered = b.numbered;
      most = b.most;
      places = length-set r.calls end.call e ∙ b.places;
      stands = record {
        opened = λ k h. field_kept (λ (x : Call). x.opened) r.calls end.call e refl k ∙ b.stands.opened k h;
        closed = λ k h. field_kept (λ (x : Call). x.closed) r.calls end.call e refl k ∙ b.stands.closed k h;
        inside = b.stands.inside;
        bridges = b.stands.bridges;
        table = table_lost r _ end b.stands.table late (omega (arith, o.0, z.all)) o.0 o.1;
      };
    }

pub state-told : (os : List Order) (xs : List Reply) (r : Rows) (end : CallEnd) →
    board_state os xs (call_ended_in r end) ≡ told_more (board_state os xs r) end
state-told os xs r end =
    ap (λ ts. record { left = drop (length xs) os; done = dones os xs; told = ts })
    (map-set (λ (e : Call). e.gone) r.calls end.call (record (call_in r end.call) { gone = Some end }))

-- ---- as the board's functions meet them: `s` is what is seen of the board

pub record Ready (os : List Order) (xs : List Reply) (r : Rows) (s : State) (o : Order) : Type 0 where
  pub board : IsBoard os xs r
  pub sized : IsSized r.calls r.bridges
  pub seen : board_state os xs r ≡ s
  pub next : first_order s.left ≡ Some o
  pub calls : NamesCalls o.what
  pub ends : (c : ℕ) → IfSome (told_in s c) (λ at. at < o.stamp)

-- the next order of the list is the one that the board executes
pub next_of : (os : List Order) (xs : List Reply) (r : Rows) (s : State) (o : Order) → Ready os xs r s o → first_order (drop (length xs) os) ≡ Some o
next_of os xs r s o y = ap (λ (s : State). first_order s.left) y.seen ∙ y.next

-- the end that a board was told of a call is that of its table
pub end_is : (os : List Order) (xs : List Reply) (r : Rows) (c : ℕ) → end_told (board_state os xs r) c ≡ (call_in r c).gone
end_is os xs r c = get_or-map_all (λ (e : Call). e.gone) r.calls c never

end_from : (os : List Order) (xs : List Reply) (r : Rows) (c : ℕ) → told_in (board_state os xs r) c ≡ gone_from_in r c
end_from os xs r c = ap (option_map (λ (e : CallEnd). e.at)) (end_is os xs r c)

-- each end that was told lies before it
pub told_of : (os : List Order) (xs : List Reply) (r : Rows) (s : State) (o : Order) → Ready os xs r s o → IsSome_before r o.stamp
told_of os xs r s o y c =
    let e : told_in s c ≡ gone_from_in r c = sym (ap (λ (s : State). told_in s c) y.seen) ∙ end_from os xs r c in
    subst (λ (i : Option ℕ). IfSome i (λ at. at < o.stamp)) e (y.ends c)

-- the replies after this order
pub replied : (xs ys : List Reply) (r : Rows) (o : Order) (x : Result Act Refusal) (k : ℕ) →
    x ≡ reply_from (known_in r o.stamp) o.what → k ≡ length xs →
    ys ≡ xs ++ record { order = k + 1; result = x } ∷ [] → ys ≡ xs ++ reply_at xs r o ∷ []
replied xs ys r o x k p q e = e ∙ ap (λ (k : ℕ). xs ++ record { order = k + 1; result = x } ∷ []) q
    ∙ ap (λ (x : Result Act Refusal). xs ++ record { order = length xs + 1; result = x } ∷ []) p

pub execute_board : (os : List Order) (xs ys : List Reply) (r n : Rows) (s : State) (o : Order) (x : Result Act Refusal) → Ready os xs r s o →
    x ≡ reply_from (known_in r o.stamp) o.what → n ≡ rows_after r o.stamp x → ys ≡ xs ++ reply_at xs r o ∷ [] → IsBoard os ys n
execute_board os xs ys r n s o x y p q e =
    subst (λ (ys : List Reply). IsBoard os ys n) (sym e) (subst (λ (n : Rows). IsBoard os (xs ++ reply_at xs r o ∷ []) n) (sym (q ∙ ap (rows_after r o.stamp) p))
    (board-more os xs r o y.board y.sized (next_of os xs r s o y) y.calls (told_of os xs r s o y)))

pub execute_state : (os : List Order) (xs ys : List Reply) (r n : Rows) (s : State) (o : Order) (x : Result Act Refusal) → Ready os xs r s o →
    x ≡ reply_from (known_in r o.stamp) o.what → n ≡ rows_after r o.stamp x →
    ys ≡ xs ++ reply_at xs r o ∷ [] → board_state os ys n ≡ after_turn s (Some o)
execute_state os xs ys r n s o x y p q e =
    ap (λ ys. board_state os ys n) e ∙ ap (board_state os (xs ++ reply_at xs r o ∷ [])) (q ∙ ap (rows_after r o.stamp) p)
    ∙ state-more os xs r o y.board y.sized (next_of os xs r s o y) y.calls ∙ ap (λ s. after_turn s (Some o)) y.seen

pub execute_answer : (os : List Order) (xs : List Reply) (r : Rows) (s : State) (o : Order) (x : Result Act Refusal) (k : ℕ) → Ready os xs r s o →
    x ≡ reply_from (known_in r o.stamp) o.what → k ≡ length xs → Some (reply_of_order k x) ≡ reply_of s (Some o)
execute_answer os xs r s o x k y p q =
    ap (λ (k : ℕ). Some (reply_of_order k x)) q ∙ ap (λ (x : Result Act Refusal). Some (reply_of_order (length xs) x)) p
    ∙ answer-more os xs r o y.board y.sized (next_of os xs r s o y) y.calls ∙ ap (λ s. reply_of s (Some o)) y.seen

-- the ends that were told are those of the table
pub told_is : (os : List Order) (xs : List Reply) (r : Rows) → told_in (board_state os xs r) ≡ gone_from_in r
told_is os xs r = λ i. λ c. end_from os xs r c i

-- the spans of the table are those of the board
pub spans_seen : (os : List Order) (xs : List Reply) (r : Rows) (s : State) → IsBoard os xs r →
    board_state os xs r ≡ s → r.spans ≡ spans_now (told_in s) s.done
spans_seen os xs r s b e =
    b.stands.table.spans ∙ ap (filter_map (span_in r)) b.stands.bridges
    ∙ sym (ap (λ f. spans_now f (dones os xs)) (told_is os xs r)) ∙ ap (λ (s : State). spans_now (told_in s) s.done) e

-- there is room for one more bridge and span
pub room : (os : List Order) (xs : List Reply) (r : Rows) (s : State) (o : Order) →
    IsBoard os xs r → board_state os xs r ≡ s → first_order s.left ≡ Some o → (length r.bridges < r.most) × (length r.spans < r.most)
room os xs r s o b e n =
    let w = next-within os (length xs) o (ap (λ (s : State). first_order s.left) e ∙ n) in
    (omega (arith, w.0, bridges-bound os xs r b, b.most), omega (arith, w.0, bridges-bound os xs r b, spans-bound os xs r b, b.most))

-- A board with a due order has room for one more reply.
pub reply_room : (os : List Order) (xs : List Reply) (r : Rows) (s : State) (o : Order) → board_state os xs r ≡ s → first_order s.left ≡ Some o →
    length xs < length os
reply_room os xs r s o e n = (next-within os (length xs) o (ap (λ (s : State). first_order s.left) e ∙ n)).0
