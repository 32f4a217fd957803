-- Who is open, and who is bridged with whom, in a table before and after a change.
use Rattle.std.proofs.Common.{◌≡◌, refl, sym, ap, ◌∙◌, ℕ, ◌<◌, ◌≢◌, Bool, true, false, Option, Some, None, List, length, set, arith, inl, inr}
use Rattle.std.specs.Prelude.{not, ◌&&◌, ◌||◌, if◌then◌else◌, ◌==◌, is_some, is_none, option_map}
use Rattle.std.proofs.lemmas.Bool.{cases_Bool, cases_eq, eq-eqb, ne_eqb}
use Rattle.std.proofs.lemmas.List.{get_or-set_same, get_or-set_other}
use Rattle.switchboard.specs.declared.act.Act.TheVariants as act
use Rattle.switchboard.specs.declared.act.Span.{Span}
use Rattle.switchboard.specs.declared.table.Bridge.{Bridge}
use Rattle.switchboard.specs.declared.table.Call.{Call}
use Rattle.switchboard.specs.Bridges.{joins, other, no_bridge}
use Rattle.switchboard.specs.Rows.{Rows, never, call_in, bridge_at_place, is_open_in, is_live_in, opened_in, bridged_in, parted_at, gone_from_in, gone_from}
use Rattle.switchboard.specs.Stands.{IsTable}
use Rattle.switchboard.specs.Open.{open_without, partner_without_both, partner_without, partner_after}
use Rattle.switchboard.proofs.Tables.Known.{not_true, live_parts}
use Rattle.switchboard.proofs.Orders.Steps.{field_kept}
use Rattle.switchboard.proofs.Tables.Calls.{joins_cases, open_other}
use Rattle.switchboard.proofs.Tables.Bridged.{placed, old_place, new_place, new_bridge, bridged_open}
use Rattle.switchboard.proofs.Tables.Lost.{lost_apart}
use Rattle.switchboard.proofs.Orders.Parted.{latest_live, one_live, parted_not_live}
use Rattle.switchboard.proofs.Tables.Pairs.{partner_in, was_opened, latest_at, latest_is, partner_none, partner_some, partner_kept, partner_found, this_pair}
use Rattle.switchboard.proofs.Lists.{not_both}

-- ---- a call m is open no more

abbrev is_open_call : Call → Bool
is_open_call e = is_some e.opened && not (is_some e.closed) && not (is_some (gone_from e))

abbrev pub with_call : Rows → ℕ → Call → List Span → Rows
with_call r m e ss = record r { calls = set r.calls m e; spans = ss }

pub shut_open : (r : Rows) (m : ℕ) (e : Call) (ss : List Span) → m < length r.calls →
    is_open_call e ≡ false → (c : ℕ) → is_open_in (with_call r m e ss) c ≡ open_without m (is_open_in r) c
shut_open r m e ss l shut c = elim (cases_eq c m) [
  | inl p ↦ ap (is_open_in (with_call r m e ss)) p ∙ ap is_open_call (get_or-set_same r.calls m e never l) ∙ shut
      ∙ sym (ap (λ (t : Bool). if t then false else is_open_in r c) (eq-eqb c m p))
  | inr n ↦ open_other r m c e n ∙ sym (ap (λ (t : Bool). if t then false else is_open_in r c) (ne_eqb c m n))
]

-- a bridge of m is live no more
shut_joined : (r : Rows) (m : ℕ) (e : Call) (ss : List Span) → m < length r.calls → is_open_call e ≡ false → (x : Bridge) → joins m x ≡ true →
    is_live_in (with_call r m e ss) x ≡ false
shut_joined r m e ss l shut x q = not_true _ (λ live.
    let n = with_call r m e ss in
    let v = live_parts n x live in
    let z : is_open_in n m ≡ false = ap is_open_call (get_or-set_same r.calls m e never l) ∙ shut in
    not_both _ z (elim (joins_cases m x q) [ inl p ↦ ap (is_open_in n) p ∙ v.1 | inr p ↦ ap (is_open_in n) p ∙ v.2 ]))

-- a bridge of other calls is as it was
shut_apart : (r : Rows) (m : ℕ) (e : Call) (ss : List Span) (x : Bridge) → x.a ≢ m → x.b ≢ m → is_live_in (with_call r m e ss) x ≡ is_live_in r x
shut_apart r m e ss x na nb =
    ap (λ t. is_none x.ended && t && is_open_in (with_call r m e ss) x.b) (open_other r m x.a e na)
    ∙ ap (λ t. is_none x.ended && is_open_in r x.a && t) (open_other r m x.b e nb)

-- a bridge of m isn't live before or after, and others are as they were
shut_live : (r : Rows) (m : ℕ) (e : Call) (ss : List Span) → m < length r.calls → is_open_call e ≡ false → (x : Bridge) →
    (joins m x ≡ true → is_live_in r x ≡ false) → is_live_in (with_call r m e ss) x ≡ is_live_in r x
shut_live r m e ss l shut x h = elim (cases_Bool (joins m x)) [
  | inl q ↦ shut_joined r m e ss l shut x q ∙ sym (h q)
  | inr q ↦ let n = lost_apart m x q in shut_apart r m e ss x n.0 n.1
]

pub shut_partner : (r : Rows) (now m : ℕ) (e : Call) (ss : List Span) → IsTable r now →
    length r.calls ≡ 4097 → m < length r.calls → is_open_call e ≡ false → e.bridge ≡ (call_in r m).bridge →
    (c : ℕ) → partner_in (with_call r m e ss) c ≡ partner_without m (partner_in r) c
shut_partner r now m e ss s len lm shut place c =
    ap (λ (o : Option ℕ). option_map (other c) (latest_live (with_call r m e ss) o)) (field_kept (λ (x : Call). x.bridge) r.calls m e place c)
    ∙ by (partner_in r m) refl
  where
    n : Rows
    n = with_call r m e ss

    by : (f : Option ℕ) → partner_in r m ≡ f → option_map (other c) (latest_live n (call_in r c).bridge) ≡ partner_without_both m f (partner_in r) c
    by None z =
        partner_kept r n c (call_in r c).bridge (λ k i. (
          refl,
          shut_live r m e ss lm shut (bridge_at_place r k) (λ q. not_true _ (λ live.
              let h = latest_at r now c k s len i in
              let p = partner_some r m k (latest_is r now m k s len h.0 q live) live in
              cc)),
        ))
        ∙ elim (cases_eq c m) [
          | inl p ↦ ap (partner_in r) p ∙ z ∙ sym (ap (λ (t : Bool). if t || false then None else partner_in r c) (eq-eqb c m p))
          | inr d ↦ sym (ap (λ (t : Bool). if t || false then None else partner_in r c) (ne_eqb c m d))
        ]
    by (Some p) z =
        let f = partner_found r m p (call_in r m).bridge z in
        let k = f.0 in
        let x = bridge_at_place r k in
        let l = latest_at r now m k s len f.1 in
        let w : (c == m || c == p) ≡ joins c x = ap (λ i. c == m || c == i) (sym f.3) ∙ this_pair m c x l.1 (s.sound k l.0).apart in
        elim (cases_Bool (joins c x)) [
          | inl q ↦
              partner_none n c (call_in r c).bridge (λ j i.
              let g : j ≡ k = let y = latest_is r now c k s len l.0 q f.2 in cc in
              ap (λ (j : ℕ). is_live_in n (bridge_at_place r j)) g ∙ shut_joined r m e ss lm shut x l.1)
              ∙ sym (ap (λ (t : Bool). if t then None else partner_in r c) (w ∙ q))
          | inr q ↦
              partner_kept r n c (call_in r c).bridge (λ j i. (
                refl,
                shut_live r m e ss lm shut (bridge_at_place r j) (λ qj. not_true _ (λ live.
                    let h = latest_at r now c j s len i in
                    let g = one_live r now m j k s h.0 l.0 qj l.1 live f.2 in
                    not_both _ q (ap (λ (j : ℕ). joins c (bridge_at_place r j)) (sym g) ∙ h.1))),
              ))
              ∙ sym (ap (λ (t : Bool). if t then None else partner_in r c) (w ∙ q))
        ]

-- ---- an order parts two calls

pub parted_partner : (r : Rows) (now t k : ℕ) → IsTable r now → length r.calls ≡ 4097 →
    k < length r.bridges → is_live_in r (bridge_at_place r k) ≡ true → (c : ℕ) → partner_in (parted_at r t k) c
    ≡ partner_without_both (bridge_at_place r k).a (Some (bridge_at_place r k).b) (partner_in r) c
parted_partner r now t k s len l live c =
    let x = bridge_at_place r k in
    let n = parted_at r t k in
    elim (cases_Bool (joins c x)) [
      | inl q ↦
          partner_none n c (call_in r c).bridge (λ j i.
          let g : j ≡ k = let y = latest_is r now c k s len l q live in cc in
          ap (λ (j : ℕ). is_live_in n (bridge_at_place n j)) g ∙ parted_not_live r t k l)
          ∙ sym (ap (λ (t : Bool). if t then None else partner_in r c) q)
      | inr q ↦
          partner_kept r n c (call_in r c).bridge (λ j i.
          let h = latest_at r now c j s len i in (
            get_or-set_other r.bridges k j (record x { ended = Some t }) no_bridge (λ g. not_both _ q (ap (λ (j : ℕ). joins c (bridge_at_place r j)) (sym g)
                ∙ h.1)),
            refl,
          ))
          ∙ sym (ap (λ (t : Bool). if t then None else partner_in r c) q)
    ]

-- ---- an order joins two calls

pub bridged_partner : (r : Rows) (t a b : ℕ) → IsTable r t → length r.calls ≡ 4097 → a < 4097 →
    b < 4097 → a ≢ b → is_open_in r a ≡ true → is_open_in r b ≡ true →
    (c : ℕ) → partner_in (bridged_in r t a b) c ≡ partner_after (act.Bridged a b) (partner_in r) c
bridged_partner r t a b s len la lb apart oa ob c =
    let n = bridged_in r t a b in
    let k = length r.bridges in
    let y : Bridge = new_bridge t a b in
    let at : bridge_at_place n k ≡ y = new_place r.bridges y in
    let live : is_live_in n (bridge_at_place n k) ≡ true = ap (is_live_in n) at ∙ ap (λ t. t && is_open_in n b) (bridged_open r t a b a ∙ oa)
    ∙ bridged_open r t a b b ∙ ob in
    elim (placed r a b k c (omega arith) (omega arith)) [
      | inl p ↦ partner_some n c k p.0 live ∙ ap (λ x. Some (other c x)) at ∙ elim p.1 [
        | inl e ↦
            ap (λ (t : Bool). Some (if t then b else a)) (eq-eqb c a e)
            ∙ sym (ap (λ (t : Bool). if t then Some b else if c == b then Some a else partner_in r c) (eq-eqb c a e))
        | inr e ↦
            let z : (c == a) ≡ false = ne_eqb c a (λ h. apart (sym h ∙ e)) in
            ap (λ (t : Bool). Some (if t then b else a)) z ∙ sym (ap (λ (t : Bool). if t then Some b else if c == b then Some a else partner_in r c) z
            ∙ ap (λ (t : Bool). if t then Some a else partner_in r c) (eq-eqb c b e))
      ]
      | inr p ↦
          ap (λ (o : Option ℕ). option_map (other c) (latest_live n o)) p.0
          ∙ partner_kept r n c (call_in r c).bridge (λ j i.
          let h = latest_at r t c j s len i in
          let x = bridge_at_place r j in (
            old_place r.bridges y j h.0,
            ap (λ t. is_none x.ended && t && is_open_in n x.b) (bridged_open r t a b x.a)
                ∙ ap (λ t. is_none x.ended && is_open_in r x.a && t) (bridged_open r t a b x.b),
          ))
          ∙ sym (ap (λ (t : Bool). if t then Some b else if c == b then Some a else partner_in r c) (ne_eqb c a p.1)
          ∙ ap (λ (t : Bool). if t then Some a else partner_in r c) (ne_eqb c b p.2))
    ]

-- ---- an order opens a call

abbrev opened_call : Rows → ℕ → ℕ → Call
opened_call r t m = record (call_in r m) { opened = Some t }

pub opened_was : (r : Rows) (t m : ℕ) → m < length r.calls → (c : ℕ) → was_opened (opened_in r t m) c ≡ (c == m || was_opened r c)
opened_was r t m l c = elim (cases_eq c m) [
  | inl p ↦ ap (was_opened (opened_in r t m)) p ∙ ap (λ (e : Call). is_some e.opened) (get_or-set_same r.calls m (opened_call r t m) never l)
      ∙ sym (ap (λ (t : Bool). t || was_opened r c) (eq-eqb c m p))
  | inr n ↦ ap (λ (e : Call). is_some e.opened) (get_or-set_other r.calls m c (opened_call r t m) never n)
      ∙ sym (ap (λ (t : Bool). t || was_opened r c) (ne_eqb c m n))
]

pub opened_open : (r : Rows) (now t m : ℕ) → IsTable r now → m < length r.calls →
    (call_in r m).opened ≡ None → (c : ℕ) → is_open_in (opened_in r t m) c ≡ (c == m || is_open_in r c)
opened_open r now t m s l new c =
    let u = s.unused m new in
    elim (cases_eq c m) [
      | inl p ↦
          ap (is_open_in (opened_in r t m)) p ∙ ap is_open_call (get_or-set_same r.calls m (opened_call r t m) never l)
          ∙ ap (λ o. not (is_some o) && not (is_some (gone_from_in r m))) u.0 ∙ ap (λ o. not (is_some o)) u.1
          ∙ sym (ap (λ (t : Bool). t || is_open_in r c) (eq-eqb c m p))
      | inr n ↦ open_other r m c (opened_call r t m) n ∙ sym (ap (λ (t : Bool). t || is_open_in r c) (ne_eqb c m n))
    ]

pub opened_partner : (r : Rows) (now t m : ℕ) → IsTable r now → length r.calls ≡ 4097 →
    (call_in r m).opened ≡ None → (c : ℕ) → partner_in (opened_in r t m) c ≡ partner_in r c
opened_partner r now t m s len new c =
    let n = opened_in r t m in
    let fresh : was_opened r m ≡ false = ap is_some new in
    ap (λ (o : Option ℕ). option_map (other c) (latest_live n o)) (field_kept (λ (x : Call). x.bridge) r.calls m (opened_call r t m) refl c)
    ∙ partner_kept r n c (call_in r c).bridge (λ k i.
    let h = latest_at r now c k s len i in
    let x = bridge_at_place r k in
    let q = (s.sound k h.0).known in (
      refl,
      shut_apart r m (opened_call r t m) r.spans x (λ e. not_both _ fresh (ap (was_opened r) (sym e) ∙ q.0))
          (λ e. not_both _ fresh (ap (was_opened r) (sym e) ∙ q.1)),
    ))
