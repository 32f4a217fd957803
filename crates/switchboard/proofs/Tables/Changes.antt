-- Who is open, and who is bridged with whom, in the table before and after an accepted order.
use Rattle.std.proofs.Common.{◌≡◌, refl, sym, ap, ◌∙◌, subst, ℕ, ◌<◌, ◌≤◌, Bool, true, false, Option, Some, None, List, length, arith, inl, inr}
use Rattle.std.specs.Prelude.{Result, Ok, not, ◌&&◌, ◌||◌, ◌==◌, if◌then◌else◌, is_some, option_map, IfOk}
use Rattle.std.proofs.lemmas.Bool.{eqb-true}
use Rattle.std.proofs.lemmas.List.Elements.{All-from_get_or}
use Rattle.trau_alaw.specs.declared.Law.{Law}
use Rattle.trau_orders.specs.declared.order.What.{What}
use Rattle.trau_orders.specs.declared.order.What.TheVariants as what
use Rattle.trau_orders.specs.Lists.{NamesCalls}
use Rattle.switchboard.specs.declared.act.Act.{Act}
use Rattle.switchboard.specs.declared.act.Act.TheVariants as act
use Rattle.switchboard.specs.declared.act.Refusal.{Refusal}
use Rattle.switchboard.specs.declared.table.Bridge.{Bridge}
use Rattle.switchboard.specs.declared.table.Call.{Call}
use Rattle.switchboard.specs.Calls.{Done}
use Rattle.switchboard.specs.Bridges.{joins, other, no_bridge}
use Rattle.switchboard.specs.Replies.{reply_from}
use Rattle.switchboard.specs.Rows.{Rows, call_in, bridge_at_place, is_open_in, is_live_in, bridge_in, bridge_ended_in, known_in, rows_after, closed_in, parted_at}
use Rattle.switchboard.specs.Rows.{gone_from_in}
use Rattle.switchboard.specs.Rows.{parted_in}
use Rattle.switchboard.specs.State.{last_stamp}
use Rattle.switchboard.specs.Stands.{IsTable, Stands}
use Rattle.switchboard.specs.Open.{opened_after, open_after, partner_after, open_without, partner_without_both, partner_without, Finds, HasEnded, HasRested}
use Rattle.switchboard.specs.Open.{Rests}
use Rattle.switchboard.proofs.Tables.Known.{live_parts}
use Rattle.switchboard.proofs.Orders.Steps.{field_kept, table_later}
use Rattle.switchboard.proofs.Tables.Calls.{joins_left, joins_right}
use Rattle.switchboard.proofs.Tables.Bridged.{bridged_field, bridged_open}
use Rattle.switchboard.proofs.Tables.Parted.{table_parted}
use Rattle.switchboard.proofs.Orders.Replies.{IsRefused, Joined, open_accepted, close_accepted, bridge_accepted, unbridge_accepted, level_accepted, dtx_accepted}
use Rattle.switchboard.proofs.Orders.Opened.{IsSome_before, never_opened}
use Rattle.switchboard.proofs.Orders.Parted.{bridge_found}
use Rattle.switchboard.proofs.Orders.Moves.{over_before}
use Rattle.switchboard.proofs.Tables.Pairs.{partner_in, was_opened, latest_at, latest_is, partner_some, other_a, other_b, this_pair}
use Rattle.switchboard.proofs.Tables.Partners.{shut_open, shut_partner, parted_partner, bridged_partner, opened_was, opened_open, opened_partner}
use Rattle.switchboard.proofs.Lists.{none_of}

-- ---- an accepted order, in the table

pub record Moved (r n : Rows) (t : ℕ) (a : Act) : Type 0 where
  pub finds : Finds a (was_opened r) (is_open_in r) (partner_in r)
  pub opened : (c : ℕ) → was_opened n c ≡ opened_after a (was_opened r) c
  pub lives : (c : ℕ) → is_open_in n c ≡ open_after a (is_open_in r) c
  pub partner : (c : ℕ) → partner_in n c ≡ partner_after a (partner_in r) c
  pub rests : Rests a (gone_from_in r) r.bridges t

-- `open`
moved_opened : (r : Rows) (now t m : ℕ) (law : Law) → IsTable r now → length r.calls ≡ 4097 → (1 ≤ m) × (m ≤ 4096) → was_opened r m ≡ false →
    Moved r (rows_after r t (Ok (act.Opened m law))) t (act.Opened m law)
moved_opened r now t m law s len n fresh =
    let l : m < length r.calls = omega (arith, n.1) in
    let new : (call_in r m).opened ≡ None = none_of _ fresh in
    record { finds = (n, fresh); opened = opened_was r t m l; lives = opened_open r now t m s l new; partner = opened_partner r now t m s len new; rests = tt }

-- `close`

abbrev closed_call : Rows → ℕ → ℕ → Call
closed_call r t m = record (call_in r m) { closed = Some t }

-- a call that an order closed is not open
shut_by_order : (o g : Bool) → (o && false && g) ≡ false
shut_by_order true g = refl
shut_by_order false g = refl

-- Closing a call changes nothing about which calls were opened.
closed_was : (r : Rows) (t m c : ℕ) → was_opened (closed_in r t m) c ≡ was_opened r c
closed_was r t m c = ap is_some (field_kept (λ (x : Call). x.opened) r.calls m (closed_call r t m) refl c)

-- After the closing of a call the others are open as before, and it is not.
closed_lives : (r : Rows) (t m : ℕ) → m < length r.calls → (c : ℕ) → is_open_in (closed_in r t m) c ≡ open_without m (is_open_in r) c
closed_lives r t m l c = shut_open r m (closed_call r t m) r.spans l (shut_by_order (is_some (call_in r m).opened) (not (is_some (gone_from_in r m)))) c

-- neither that call nor its partner has one any more
closed_partner : (r : Rows) (now t m : ℕ) → IsTable r now → length r.calls ≡ 4097 → m < 4097 → (c : ℕ) → partner_in (closed_in r t m) c
    ≡ partner_without m (partner_in r) c
closed_partner r now t m s len l c = shut_partner r now m (closed_call r t m) r.spans s len (omega arith)
    (shut_by_order (is_some (call_in r m).opened) (not (is_some (gone_from_in r m)))) refl c

-- parted, and then closed
closed_parted : (t q w : Bool) (o : Option ℕ) → (t ≡ true → q ≡ true) → w ≡ q →
    (if t || false then None else if q then None else o) ≡ (if w then None else o)
closed_parted true q w o h e = sym (ap (λ (t : Bool). if t then None else o) (e ∙ h refl))
closed_parted false q w o h e = sym (ap (λ (t : Bool). if t then None else o) e)

moved_closed : (r : Rows) (t m : ℕ) → IsTable r t → length r.calls ≡ 4097 → m < 4097 →
    is_open_in r m ≡ true → (i : Option Bridge) → bridge_in r m ≡ i →
    Moved r (rows_after r t (Ok (act.Closed m (option_map (other m) i)))) t (act.Closed m (option_map (other m) i))
moved_closed r t m s len l lives None e =
    let none : partner_in r m ≡ None = ap (option_map (other m)) e in
    record {
      finds = (lives, none);
      opened = closed_was r t m;
      lives = closed_lives r t m (omega arith);
      partner = λ c. closed_partner r t t m s len l c ∙ ap (λ f. partner_without_both m f (partner_in r) c) none;
      rests = tt;
    }
moved_closed r t m s len l lives (Some y) e =
    let f = bridge_found r y (call_in r m).bridge e in
    let k = f.0 in
    let x = bridge_at_place r k in
    let q = latest_at r t m k s len f.1 in
    let n : Rows = parted_at r t k in
    let s1 : IsTable n t = table_parted r t k s q.0 f.2 in
    let is = parted_partner r t t k s len q.0 f.2 in
    let none : partner_in n m ≡ None = is m ∙ ap (λ (t : Bool). if t then None else partner_in r m) q.1 in
    let at : parted_in r t m ≡ n = ap (λ (i : Option ℕ). elim i [ None ↦ r | Some k ↦ parted_at r t k ]) f.1 in
    subst (λ (x : Bridge). Moved r (closed_in (parted_in r t m) t m) t (act.Closed m (Some (other m x)))) f.3
    (subst (λ (p : Rows). Moved r (closed_in p t m) t (act.Closed m (Some (other m x)))) (sym at) (record {
      finds = (lives, partner_some r m k f.1 f.2);
      opened = closed_was n t m;
      lives = closed_lives n t m (omega arith);
      partner = λ c. closed_partner n t t m s1 len l c ∙ ap (λ f. partner_without_both m f (partner_in n) c) none
          ∙ ap (λ o. if c == m || false then None else o) (is c)
          ∙ closed_parted (c == m) (joins c x) (c == m || c == other m x) (partner_in r c) (λ h. ap (λ c. joins c x) (eqb-true c m h) ∙ q.1)
          (this_pair m c x q.1 (s.sound k q.0).apart);
      rests = tt;
    }))

-- `bridge`

-- where a call has no bridge now, its earlier bridges are over
rested : (r : Rows) (ds : List Done) (t c : ℕ) → Stands r ds → last_stamp ds ≤ t →
    IsSome_before r t → c < 4097 → bridge_in r c ≡ None → bridge_ended_in r t c ≡ None → HasRested (gone_from_in r) r.bridges t c
rested r ds t c s late told h none no_end =
    All-from_get_or (λ x. joins c x ≡ true → HasEnded (gone_from_in r) t x) r.bridges no_bridge (λ j l q.
    let o = over_before r ds t c s late told h none no_end j l q in
    record {
      at = o.at;
      ended = o.ended;
      before = o.before;
      no_order = λ e. let k = (s.table.sound j l).ended t e in let p : o.at ≡ t = let z = o.ended in cc (k.0, z) in omega (arith, o.before);
    })

moved_bridged : (r : Rows) (ds : List Done) (t a b : ℕ) → Stands r ds → length r.calls ≡ 4097 →
    last_stamp ds ≤ t → IsSome_before r t → a < 4097 → b < 4097 → Joined (known_in r t) a b →
    Moved r (rows_after r t (Ok (act.Bridged a b))) t (act.Bridged a b)
moved_bridged r ds t a b s len late told la lb j = record {
  finds = (j.apart, (j.open_a, j.open_b), (ap (option_map (other a)) j.alone_a, ap (option_map (other b)) j.alone_b));
  opened = λ c. ap is_some (bridged_field (λ x. x.opened) r (length r.bridges) a b (λ e. refl) c);
  lives = bridged_open r t a b;
  partner = bridged_partner r t a b (table_later r _ _ s.table late) len la lb j.apart j.open_a j.open_b;
  rests = (rested r ds t a s late told la j.alone_a j.drained_a, rested r ds t b s late told lb j.alone_b j.drained_b);
}

-- `unbridge`

moved_unbridged : (r : Rows) (t k : ℕ) → IsTable r t → length r.calls ≡ 4097 → k < length r.bridges → is_live_in r (bridge_at_place r k) ≡ true →
    Moved r (rows_after r t (Ok (act.Unbridged (bridge_at_place r k).a (bridge_at_place r k).b))) t (act.Unbridged (bridge_at_place r k).a (bridge_at_place r k).b)
moved_unbridged r t k s len l live =
    let x = bridge_at_place r k in
    let v = live_parts r x live in
    let a = latest_is r t x.a k s len l (joins_left x.a x refl) live in
    let b = latest_is r t x.b k s len l (joins_right x.b x refl) live in
    let at : parted_in r t x.a ≡ parted_at r t k = ap (λ (i : Option ℕ). elim i [ None ↦ r | Some k ↦ parted_at r t k ]) a in
    subst (λ (p : Rows). Moved r p t (act.Unbridged x.a x.b)) (sym at) (record {
      finds = ((v.1, v.2), (partner_some r x.a k a live ∙ ap Some (other_a x), partner_some r x.b k b live ∙ ap Some (other_b x (s.sound k l).apart)));
      opened = λ c. refl;
      lives = λ c. refl;
      partner = parted_partner r t t k s len l live;
      rests = tt;
    })

-- any order

abbrev pub Does : Rows → ℕ → Result Act Refusal → Type 0
Does r t x = IfOk x (Moved r (rows_after r t x) t)

-- a refusal does nothing
does_nothing : (r : Rows) (t : ℕ) (x : Result Act Refusal) → IsRefused x → Does r t x
does_nothing r t x e = subst (λ (x : Result Act Refusal). Does r t x) (sym e.1) tt

-- an act does what moves in the table
does : (r : Rows) (t : ℕ) (x : Result Act Refusal) (a : Act) → x ≡ Ok a → Moved r (rows_after r t (Ok a)) t a → Does r t x
does r t x a e m = subst (λ (x : Result Act Refusal). Does r t x) (sym e) m

pub moved : (r : Rows) (ds : List Done) (t : ℕ) (w : What) → Stands r ds → length r.calls ≡ 4097 →
    last_stamp ds ≤ t → IsSome_before r t → NamesCalls w → Does r t (reply_from (known_in r t) w)
moved r ds t (what.OpenCall c law) s len late told n =
    elim (open_accepted (known_in r t) c law) [
      | inl e ↦ does_nothing r t _ e
      | inr p ↦ does r t _ (act.Opened c law) p.0 (moved_opened r _ t c law s.table len n (never_opened _ _ p.1 p.2))
    ]
moved r ds t (what.CloseCall c) s len late told n =
    elim (close_accepted (known_in r t) c) [
      | inl e ↦ does_nothing r t _ e
      | inr p ↦ does r t _ (act.Closed c (option_map (other c) (bridge_in r c))) p.0 (moved_closed r t c (table_later r _ _ s.table late) len
          (omega (arith, n.1)) p.1 (bridge_in r c) refl)
    ]
moved r ds t (what.Bridge a b) s len late told n =
    elim (bridge_accepted (known_in r t) a b) [
      | inl e ↦ does_nothing r t _ e
      | inr p ↦ does r t _ (act.Bridged a b) p.0 (moved_bridged r ds t a b s len late told (omega (arith, n.0.1)) (omega (arith, n.1.1)) p.1)
    ]
moved r ds t (what.Unbridge c) s len late told n =
    elim (unbridge_accepted (known_in r t) c) [
      | inl e ↦ does_nothing r t _ e
      | inr p ↦
          let f = bridge_found r p.0 (call_in r c).bridge p.3 in
          let l = table_later r _ _ s.table late in
          let m = moved_unbridged r t f.0 l len (latest_at r t c f.0 l len f.1).0 f.2 in
          does r t _ (act.Unbridged p.0.a p.0.b) p.1 (subst (λ (x : Bridge). Moved r (rows_after r t (Ok (act.Unbridged x.a x.b))) t (act.Unbridged x.a x.b)) f.3
          m)
    ]
moved r ds t (what.Level c v) s len late told n =
    elim (level_accepted (known_in r t) c v) [
      | inl e ↦ does_nothing r t _ e
      | inr p ↦ does r t _ (act.LevelSet c v) p.0 (record { finds = p.1; opened = λ c. refl; lives = λ c. refl; partner = λ c. refl; rests = tt })
    ]
moved r ds t (what.Dtx c m) s len late told n =
    elim (dtx_accepted (known_in r t) c m) [
      | inl e ↦ does_nothing r t _ e
      | inr p ↦ does r t _ (act.DtxSet c m) p.0 (record { finds = p.1; opened = λ c. refl; lives = λ c. refl; partner = λ c. refl; rests = tt })
    ]
