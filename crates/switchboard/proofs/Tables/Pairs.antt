-- Partners in the table: pairs of open calls, by their latest bridges.
use Rattle.std.proofs.Common.{◌≡◌, refl, sym, ap, ◌∙◌, subst, ℕ, ◌<◌, ◌≤◌, ◌≢◌, Bool, true, false, Option, Some, None, length, arith, inl, inr, ◌⊎◌}
use Rattle.std.specs.Prelude.{◌||◌, if◌then◌else◌, ◌==◌, is_some, option_map}
use Rattle.std.proofs.Math.Bool.{or_comm}
use Rattle.std.proofs.lemmas.Bool.{cases_lt, eq-eqb, ne_eqb}
use Rattle.std.proofs.lemmas.List.{get_or_past}
use Rattle.switchboard.specs.declared.table.Bridge.{Bridge}
use Rattle.switchboard.specs.declared.table.Call.{Call}
use Rattle.switchboard.specs.Bridges.{joins, other}
use Rattle.switchboard.specs.Rows.{Rows, never, call_in, bridge_at_place, is_open_in, is_live_in, bridge_in, some_if}
use Rattle.switchboard.specs.Stands.{IsLatest, IsTable}
use Rattle.switchboard.specs.Open.{ArePairs}
use Rattle.switchboard.proofs.Tables.Known.{not_true, live_parts}
use Rattle.switchboard.proofs.Tables.Calls.{joins_left, joins_right, joins_cases}
use Rattle.switchboard.proofs.Orders.Parted.{latest_live, same_latest}
use Rattle.switchboard.proofs.Lists.{not_both}

abbrev pub partner_in : Rows → ℕ → Option ℕ
partner_in r c = option_map (other c) (bridge_in r c)

abbrev pub was_opened : Rows → ℕ → Bool
was_opened r c = is_some (call_in r c).opened

-- ---- numbers past the table

-- past the table no call was ever opened
pub past : (r : Rows) (c : ℕ) → length r.calls ≡ 4097 → 4097 ≤ c → call_in r c ≡ never
past r c l h = get_or_past r.calls c never (omega arith)

-- the calls of bridges are in the table
pub named : (r : Rows) (now c k : ℕ) → IsTable r now → length r.calls ≡ 4097 → k < length r.bridges → joins c (bridge_at_place r k) ≡ true → c < 4097
named r now c k s len l q = elim (cases_lt c 4097) [
  | inl h ↦ h
  | inr h ↦
      let x = bridge_at_place r k in
      let n : is_some (call_in r c).opened ≡ false = ap (λ (e : Call). is_some e.opened) (past r c len h) in
      absurd (not_both _ n (elim (joins_cases c x q) [
        | inl p ↦ ap (was_opened r) p ∙ (s.sound k l).known.0
        | inr p ↦ ap (was_opened r) p ∙ (s.sound k l).known.1
      ]))
]

-- each call has its latest bridge, also past the table
pub latest_any : (r : Rows) (now c : ℕ) → IsTable r now → length r.calls ≡ 4097 → IsLatest r.bridges c (call_in r c).bridge
latest_any r now c s len = elim (cases_lt c 4097) [
  | inl h ↦ s.latest c h
  | inr h ↦ subst (λ (o : Option ℕ). IsLatest r.bridges c o) (sym (ap (λ (e : Call). e.bridge) (past r c len h)))
      (λ j l. not_true _ (λ q. let n = named r now c j s len l q in omega arith))
]

-- the place of a call's latest bridge
pub latest_at : (r : Rows) (now c k : ℕ) → IsTable r now → length r.calls ≡ 4097 → (call_in r c).bridge ≡ Some k →
    (k < length r.bridges) × (joins c (bridge_at_place r k) ≡ true)
latest_at r now c k s len e = let l = subst (λ (o : Option ℕ). IsLatest r.bridges c o) e (latest_any r now c s len) in (l.0, l.1)

-- a live bridge is the latest of its calls
pub latest_is : (r : Rows) (now c k : ℕ) → IsTable r now → length r.calls ≡ 4097 → k < length r.bridges → joins c (bridge_at_place r k) ≡ true →
    is_live_in r (bridge_at_place r k) ≡ true → (call_in r c).bridge ≡ Some k
latest_is r now c k s len l q live = same_latest r now c k _ s (latest_any r now c s len) l q live

-- ---- a partner

-- a call without a live bridge has no partner
pub partner_none : (r : Rows) (c : ℕ) (o : Option ℕ) → ((k : ℕ) → o ≡ Some k → is_live_in r (bridge_at_place r k) ≡ false) →
    option_map (other c) (latest_live r o) ≡ None
partner_none r c None h = refl
partner_none r c (Some k) h = ap (λ (t : Bool). option_map (other c) (some_if t (bridge_at_place r k))) (h k refl)

-- a call with one has the other call of it
pub partner_some : (r : Rows) (c k : ℕ) → (call_in r c).bridge ≡ Some k → is_live_in r (bridge_at_place r k) ≡ true → partner_in r c
    ≡ Some (other c (bridge_at_place r k))
partner_some r c k e live = ap (λ (o : Option ℕ). option_map (other c) (latest_live r o)) e
    ∙ ap (λ (t : Bool). option_map (other c) (some_if t (bridge_at_place r k))) live

-- a call keeps its partner where its latest bridge and that one's calls stay as they are
pub partner_kept : (r n : Rows) (c : ℕ) (o : Option ℕ) →
    ((k : ℕ) → o ≡ Some k → (bridge_at_place n k ≡ bridge_at_place r k) × (is_live_in n (bridge_at_place r k) ≡ is_live_in r (bridge_at_place r k))) →
    option_map (other c) (latest_live n o) ≡ option_map (other c) (latest_live r o)
partner_kept r n c None h = refl
partner_kept r n c (Some k) h =
    let e = h k refl in
    ap (λ (x : Bridge). option_map (other c) (some_if (is_live_in n x) x)) e.0 ∙ ap (λ (t : Bool). option_map (other c) (some_if t (bridge_at_place r k))) e.1

-- what is found of a bridge
some_mapped : (t : Bool) (c p : ℕ) (x : Bridge) → option_map (other c) (some_if t x) ≡ Some p → (t ≡ true) × (other c x ≡ p)
some_mapped true c p x e = (refl, cc)
some_mapped false c p x e = cc

-- the bridge with a partner
pub partner_found : (r : Rows) (c p : ℕ) (o : Option ℕ) → option_map (other c) (latest_live r o) ≡ Some p →
    (k : ℕ) × (o ≡ Some k) × (is_live_in r (bridge_at_place r k) ≡ true) × (other c (bridge_at_place r k) ≡ p)
partner_found r c p None e = cc
partner_found r c p (Some k) e = let q = some_mapped _ c p (bridge_at_place r k) e in (k, refl, q.0, q.1)

-- ---- the other call of a bridge

-- each call of a bridge is the other one's other
pub other_a : (x : Bridge) → other x.a x ≡ x.b
other_a x = ap (λ (t : Bool). if t then x.b else x.a) (eq-eqb x.a x.a refl)

pub other_b : (x : Bridge) → x.a ≢ x.b → other x.b x ≡ x.a
other_b x n = ap (λ (t : Bool). if t then x.b else x.a) (ne_eqb x.b x.a (λ h. n (sym h)))

-- either call of a bridge, with the other
each_call : (c : ℕ) (x : Bridge) → joins c x ≡ true → x.a ≢ x.b → ((c ≡ x.a) × (other c x ≡ x.b)) ⊎ ((c ≡ x.b) × (other c x ≡ x.a))
each_call c x q n = elim (joins_cases c x q) [
  | inl p ↦ inl (p, ap (λ c. other c x) p ∙ other_a x)
  | inr p ↦ inr (p, ap (λ c. other c x) p ∙ other_b x n)
]

-- the two calls of a bridge are one of its calls and that one's other
pub this_pair : (m c : ℕ) (x : Bridge) → joins m x ≡ true → x.a ≢ x.b → (c == m || c == other m x) ≡ joins c x
this_pair m c x q n = elim (each_call m x q n) [
  | inl p ↦ ap (λ i. c == i || c == other m x) p.0 ∙ ap (λ i. c == x.a || c == i) p.1
  | inr p ↦ ap (λ i. c == i || c == other m x) p.0 ∙ ap (λ i. c == x.b || c == i) p.1 ∙ or_comm (c == x.b) (c == x.a)
]

-- ---- partners are pairs of open calls

-- **The partners of a table are pairs of open calls.**
pub pairs_in : (r : Rows) (now : ℕ) → IsTable r now → length r.calls ≡ 4097 → ArePairs (is_open_in r) (partner_in r)
pairs_in r now s len = record {
  both_ways = λ c p e.
      let f = partner_found r c p (call_in r c).bridge e in
      let k = f.0 in
      let x = bridge_at_place r k in
      let l = latest_at r now c k s len f.1 in
      elim (each_call c x l.1 (s.sound k l.0).apart) [
        | inl q ↦
            let b : p ≡ x.b = sym f.3 ∙ q.1 in
            partner_some r p k (latest_is r now p k s len l.0 (joins_right p x b) f.2) f.2 ∙ ap (λ i. Some (other i x)) b
            ∙ ap Some (other_b x (s.sound k l.0).apart ∙ sym q.0)
        | inr q ↦
            let a : p ≡ x.a = sym f.3 ∙ q.1 in
            partner_some r p k (latest_is r now p k s len l.0 (joins_left p x a) f.2) f.2 ∙ ap (λ i. Some (other i x)) a ∙ ap Some (other_a x ∙ sym q.0)
      ];
  apart = λ c p e.
      let f = partner_found r c p (call_in r c).bridge e in
      let k = f.0 in
      let x = bridge_at_place r k in
      let l = latest_at r now c k s len f.1 in
      let n = (s.sound k l.0).apart in
      elim (each_call c x l.1 n) [ inl q ↦ λ h. n (sym q.0 ∙ h ∙ sym f.3 ∙ q.1) | inr q ↦ λ h. n (sym (sym q.0 ∙ h ∙ sym f.3 ∙ q.1)) ];
  both_open = λ c p e.
      let f = partner_found r c p (call_in r c).bridge e in
      let k = f.0 in
      let x = bridge_at_place r k in
      let l = latest_at r now c k s len f.1 in
      let v = live_parts r x f.2 in
      elim (each_call c x l.1 (s.sound k l.0).apart) [
        | inl q ↦ (ap (is_open_in r) q.0 ∙ v.1, ap (is_open_in r) (sym f.3 ∙ q.1) ∙ v.2)
        | inr q ↦ (ap (is_open_in r) q.0 ∙ v.2, ap (is_open_in r) (sym f.3 ∙ q.1) ∙ v.1)
      ];
}
