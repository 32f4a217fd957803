-- Who is open, and who is bridged with whom, before and after an order or an end.
use Rattle.std.proofs.Common.{◌≡◌, refl, sym, ap, ◌∙◌, subst, ℕ, ◌<◌, Bool, true, false, Option, Some, None, List, [], ◌∷◌, ◌++◌, length, arith, inl, inr}
use Rattle.std.specs.Prelude.{Result, Ok, Err, not, ◌&&◌, ◌||◌, is_some, option_map, find, IfOk, IfSome, OnErr}
use Rattle.std.proofs.lemmas.Bool.{cases_lt}
use Rattle.std.proofs.lemmas.List.{length-set}
use Rattle.trau_io.specs.declared.ends.CallEnd.{CallEnd}
use Rattle.trau_orders.specs.declared.order.Order.{Order}
use Rattle.switchboard.specs.declared.act.Act.{Act}
use Rattle.switchboard.specs.declared.act.Refusal.{Refusal}
use Rattle.switchboard.specs.declared.act.Reply.{Reply}
use Rattle.switchboard.specs.declared.table.Bridge.{Bridge}
use Rattle.switchboard.specs.declared.table.Call.{Call}
use Rattle.switchboard.specs.Calls.{Done, opened_at, is_open, has_ended}
use Rattle.switchboard.specs.Bridges.{bridges, joins, lasts, other, bridge_of, no_bridge}
use Rattle.switchboard.specs.Replies.{Known, reply_from, reply_to}
use Rattle.switchboard.specs.Rows.{Rows, IsSized, call_in, bridge_at_place, is_open_in, bridge_in, known_in, rows_after, call_ended_in, gone_from_in, gone_from}
use Rattle.switchboard.specs.State.{State, new_board, told_in, gone_in}
use Rattle.switchboard.specs.Stands.{IsLatest, IsTable, Stands, IsBoard, dones, board_state}
use Rattle.switchboard.specs.Runs.{IsUnchanged}
use Rattle.switchboard.specs.Open.{opened_now, open_now, law_now, partner_now, ArePairs, opened_after, open_after, law_after, partner_after, open_without}
use Rattle.switchboard.specs.Open.{partner_without, Finds, Rests, IsExecuted, IsAsBefore}
use Rattle.switchboard.proofs.Tables.Sizes.{gone_of}
use Rattle.switchboard.proofs.Tables.Known.{not_true, open_parts, open_agrees, bridge_agrees}
use Rattle.switchboard.proofs.Lists.{find-none}
use Rattle.switchboard.proofs.Orders.Steps.{field_kept}
use Rattle.switchboard.proofs.Tables.Calls.{joins_left, joins_right}
use Rattle.switchboard.proofs.Orders.Parted.{latest_live}
use Rattle.switchboard.proofs.Tables.Pairs.{partner_in, was_opened, past, named, latest_any, pairs_in}
use Rattle.switchboard.proofs.Tables.Partners.{shut_open, shut_partner}
use Rattle.switchboard.proofs.Boards.Lists.{gone_same, calls_same, last-before}
use Rattle.switchboard.proofs.Boards.States.{Ready, reply_at, reply_is, told_is, next_of, told_of, execute_board, execute_state}
use Rattle.switchboard.proofs.Orders.GivenLaws.{law_more}
use Rattle.switchboard.proofs.Tables.Changes.{Moved, Does, moved}

-- ---- what is seen of the table

pub record Seen (r : Rows) (s : State) : Type 0 where
  pub opened : opened_now s ≡ was_opened r
  pub lives : open_now s ≡ is_open_in r
  pub partner : partner_now s ≡ partner_in r
  pub told : told_in s ≡ gone_from_in r
  pub bridges : bridges s.done ≡ r.bridges

-- the latest bridge of a call stands in the list
place_in : (bs : List Bridge) (c : ℕ) (o : Option ℕ) → IsLatest bs c o → IfSome o (λ k. k < length bs)
place_in bs c None l = tt
place_in bs c (Some k) l = l.0

-- a table whose bridges are sound has the places that it names
sized_by : (r : Rows) (now : ℕ) → IsTable r now → length r.calls ≡ 4097 → IsSized r.calls r.bridges
sized_by r now s len = record {
  all = len;
  places = λ c. place_in r.bridges c _ (latest_any r now c s len);
  named = λ k l. let x = bridge_at_place r k in (named r now x.a k s len l (joins_left x.a x refl), named r now x.b k s len l (joins_right x.b x refl));
}

-- the places and numbers that a board's table keeps are there
pub board_sized : (os : List Order) (xs : List Reply) (r : Rows) → IsBoard os xs r → IsSized r.calls r.bridges
board_sized os xs r b = sized_by r _ b.stands.table b.places

-- The table agrees with the executed orders for each number, also one past the table: whether the call was opened.
opened_agrees : (r : Rows) (ds : List Done) (c : ℕ) → Stands r ds → length r.calls ≡ 4097 → is_some (opened_at c ds) ≡ was_opened r c
opened_agrees r ds c s len = elim (cases_lt c 4097) [
  | inl h ↦ sym (ap is_some (s.opened c h))
  | inr h ↦ not_true _ (λ q. let k = s.inside c q in omega arith) ∙ sym (ap (λ (e : Call). is_some e.opened) (past r c len h))
]

-- The table agrees with them on whether a call is open.
lives_agrees : (r : Rows) (ds : List Done) (c : ℕ) → Stands r ds → length r.calls ≡ 4097 → is_open (gone_of r) ds c ≡ is_open_in r c
lives_agrees r ds c s len = elim (cases_lt c 4097) [
  | inl h ↦ sym (open_agrees r ds c s h)
  | inr h ↦ not_true _ (λ q. let k = s.inside c (open_parts _ _ _ q).0 in omega arith)
      ∙ sym (ap (λ (e : Call). is_some e.opened && not (is_some e.closed) && not (is_some (gone_from e))) (past r c len h))
]

-- The table agrees with them on a call's bridge.
partner_agrees : (r : Rows) (ds : List Done) (c : ℕ) → Stands r ds → length r.calls ≡ 4097 → bridge_of (gone_of r) ds c ≡ bridge_in r c
partner_agrees r ds c s len = elim (cases_lt c 4097) [
  | inl h ↦ sym (bridge_agrees r ds c s (sized_by r _ s.table len) h)
  | inr h ↦
      ap (find (λ x. joins c x && lasts (gone_of r) ds x)) (sym s.bridges)
      ∙ find-none (λ x. joins c x && lasts (gone_of r) ds x) r.bridges no_bridge (λ j l.
      ap (λ t. t && lasts (gone_of r) ds (bridge_at_place r j)) (not_true _ (λ q. let n = named r _ c j s.table len l q in omega arith)))
      ∙ sym (ap (λ (e : Call). latest_live r e.bridge) (past r c len h))
]

-- a table that stands for a board shows what is seen of the board
pub seen : (os : List Order) (xs : List Reply) (r : Rows) (s : State) → IsBoard os xs r → length r.calls ≡ 4097 → board_state os xs r ≡ s → Seen r s
seen os xs r s b len e =
    let ds = dones os xs in
    let t = b.stands in
    subst (λ (s : State). Seen r s) e (record {
      opened = λ i. λ c. opened_agrees r ds c t len i;
      lives = ap (λ g. is_open g ds) (gone_same os xs r) ∙ (λ i. λ c. lives_agrees r ds c t len i);
      partner = ap (λ g. λ c. option_map (other c) (bridge_of g ds c)) (gone_same os xs r) ∙ (λ i. λ c. option_map (other c) (partner_agrees r ds c t len i));
      told = told_is os xs r;
      bridges = sym t.bridges;
    })

-- ---- the changes of a board

-- what moves in the table changes of the board, but for the laws
changes : (r n : Rows) (s m : State) (t : ℕ) (a : Act) → Seen r s → Seen n m → Moved r n t a →
    (Finds a (opened_now s) (open_now s) (partner_now s) → (c : ℕ) → law_now m c ≡ law_after a (law_now s) c) → IsExecuted s m t a
changes r n s m t a x y v laws =
    let finds = subst (λ (f : ℕ → Bool). Finds a f (open_now s) (partner_now s)) (sym x.opened)
    (subst (λ (f : ℕ → Bool). Finds a (was_opened r) f (partner_now s)) (sym x.lives)
    (subst (λ (f : ℕ → Option ℕ). Finds a (was_opened r) (is_open_in r) f) (sym x.partner) v.finds)) in
    record {
      finds = finds;
      rests = subst (λ (f : ℕ → Option ℕ). Rests a f (bridges s.done) t) (sym x.told)
          (subst (λ (bs : List Bridge). Rests a (gone_from_in r) bs t) (sym x.bridges) v.rests);
      opened = λ c. ap (λ f. f c) y.opened ∙ v.opened c ∙ ap (λ f. opened_after a f c) (sym x.opened);
      is_open = λ c. ap (λ f. f c) y.lives ∙ v.lives c ∙ ap (λ f. open_after a f c) (sym x.lives);
      law = laws finds;
      partner = λ c. ap (λ f. f c) y.partner ∙ v.partner c ∙ ap (λ f. partner_after a f c) (sym x.partner);
    }

-- of an act that was accepted more can be said
each_ok : (x : Result Act Refusal) (P Q : Act → Type 0) → ((a : Act) → x ≡ Ok a → P a → Q a) → IfOk x P → IfOk x Q
each_ok (Ok a) P Q h p = h a refl p
each_ok (Err e) P Q h p = tt

-- an order
pub execute_changes : (os : List Order) (xs ys : List Reply) (r n : Rows) (s : State) (o : Order) (x : Result Act Refusal) → Ready os xs r s o →
    x ≡ reply_from (known_in r o.stamp) o.what → n ≡ rows_after r o.stamp x → ys ≡ xs ++ reply_at xs r o ∷ [] →
    IfOk x (IsExecuted s (board_state os ys n) o.stamp)
execute_changes os xs ys r n s o x y p q e =
    let t = o.stamp in
    let z = y.sized in
    let first = next_of os xs r s o y in
    let before = seen os xs r s y.board z.all y.seen in
    let after = seen os ys n (board_state os ys n) (execute_board os xs ys r n s o x y p q e) (ap (λ (n : Rows). length n.calls) q ∙ calls_same r t x
    ∙ z.all) refl in
    let replied = sym (p ∙ reply_is os xs r o y.board z first y.calls ∙ ap (λ (s : State). reply_to (gone_in s) s.done o) y.seen) in
    let next = execute_state os xs ys r n s o x y p q e in
    each_ok x (Moved r n t) _ (λ a is m. changes r n s (board_state os ys n) t a before after m (law_more s _ o a (replied ∙ is) next))
    (subst (λ (n : Rows). IfOk x (Moved r n t)) (sym q) (subst (λ (x : Result Act Refusal). Does r t x) (sym p)
    (moved r (dones os xs) t o.what y.board.stands z.all (last-before os xs o y.board.orders first) (told_of os xs r s o y) y.calls)))

-- an end
pub record Without (s n : State) (m : ℕ) : Type 0 where
  pub opened : (c : ℕ) → opened_now n c ≡ opened_now s c
  pub lives : (c : ℕ) → open_now n c ≡ open_without m (open_now s) c
  pub partner : (c : ℕ) → partner_now n c ≡ partner_without m (partner_now s) c

-- a call that its lines ended is not open
shut_by_end : (o l : Bool) → (o && l && false) ≡ false
shut_by_end true true = refl
shut_by_end true false = refl
shut_by_end false l = refl

pub ended_changes : (os : List Order) (xs : List Reply) (r n : Rows) (s : State) (end : CallEnd) → IsBoard os xs r → IsSized r.calls r.bridges →
    board_state os xs r ≡ s → end.call < 4097 → n ≡ call_ended_in r end → IsBoard os xs n → Without s (board_state os xs n) end.call
ended_changes os xs r n s end b z e l q next =
    let m = end.call in
    let g : Call = record (call_in r m) { gone = Some end } in
    let k : Rows = call_ended_in r end in
    let before = seen os xs r s b z.all e in
    let after = seen os xs n (board_state os xs n) next (ap (λ (n : Rows). length n.calls) q ∙ length-set r.calls m g ∙ z.all) refl in
    let lm : m < length r.calls = omega (arith, z.all) in
    record {
      opened = λ c. ap (λ f. f c) after.opened ∙ ap (λ (n : Rows). was_opened n c) q ∙ ap is_some (field_kept (λ (x : Call). x.opened) r.calls m g refl c)
          ∙ ap (λ f. f c) (sym before.opened);
      lives = λ c. ap (λ f. f c) after.lives ∙ ap (λ (n : Rows). is_open_in n c) q
          ∙ shut_open r m g k.spans lm (shut_by_end (is_some (call_in r m).opened) (not (is_some (call_in r m).closed))) c
          ∙ ap (λ f. open_without m f c) (sym before.lives);
      partner = λ c. ap (λ f. f c) after.partner ∙ ap (λ (n : Rows). partner_in n c) q ∙ shut_partner r _ m g k.spans b.stands.table z.all lm
          (shut_by_end (is_some (call_in r m).opened) (not (is_some (call_in r m).closed))) refl c
          ∙ ap (λ f. partner_without m f c) (sym before.partner);
    }

-- a board before the first order
pub start_alone : (s : State) (os : List Order) → s ≡ new_board os → (c : ℕ) →
    (opened_now s c ≡ false) × (open_now s c ≡ false) × (partner_now s c ≡ None)
start_alone s os e c = (ap (λ (s : State). opened_now s c) e, ap (λ (s : State). open_now s c) e, ap (λ (s : State). partner_now s c) e)

-- partners are pairs of open calls
pub pairs_now : (os : List Order) (xs : List Reply) (r : Rows) (s : State) → IsBoard os xs r → IsSized r.calls r.bridges → board_state os xs r ≡ s →
    ArePairs (open_now s) (partner_now s)
pairs_now os xs r s b z e =
    let k = seen os xs r s b z.all e in
    subst (λ (f : ℕ → Bool). ArePairs f (partner_now s)) (sym k.lives) (subst (λ (f : ℕ → Option ℕ). ArePairs (is_open_in r) f) (sym k.partner)
    (pairs_in r _ b.stands.table z.all))

-- ---- no change

-- where nothing is changed, no call is opened or closed, and each has the law and partner that it had
pub as_before : (s n : State) → IsUnchanged s n → IsAsBefore s n
as_before s n u = record {
  opened = λ c. opened_known n c ∙ ap (λ (k : Known). k.is_open c || k.has_ended c) (u.known 0) ∙ sym (opened_known s c);
  is_open = λ c. ap (λ (k : Known). k.is_open c) (u.known 0);
  law = u.law;
  partner = λ c. ap (λ (k : Known). option_map (other c) (k.bridge_of c)) (u.known 0);
}
  where
    three : (o l g : Bool) → o ≡ (o && l && g || o && not (o && l && g))
    three false l g = refl
    three true true true = refl
    three true true false = refl
    three true false g = refl

    opened_known : (s : State) (c : ℕ) → opened_now s c ≡ (open_now s c || has_ended (gone_in s) s.done c)
    opened_known s c = three _ _ _

-- A refused order leaves the calls, laws and partners as they were.
pub refused_before : (s n : State) (x : Result Act Refusal) → OnErr x (IsUnchanged s n) → OnErr x (IsAsBefore s n)
refused_before s n (Ok a) h = tt
refused_before s n (Err e) h = as_before s n h
