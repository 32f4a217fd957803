-- A bridge begins while both of its calls last, and so not after its span's end.
use Rattle.std.proofs.Common.{◌≡◌, refl, sym, ◌∙◌, subst, ℕ, ◌+◌, ◌≤◌, min, Bool, true, false, Option, Some, None, List, [], ◌∷◌, ◌++◌, inl, inr, arith}
use Rattle.std.specs.Prelude.{Result, Ok, Err, IfSome, unwrap_or, filter, nat_lt, nat_le, if◌then◌else◌}
use Rattle.std.specs.List.{AllByRecursion}
use Rattle.std.proofs.lemmas.Bool.{ltb-false}
use Rattle.std.proofs.lemmas.List.{append_assoc}
use Rattle.trau_io.specs.declared.ends.Cause.TheVariants.{Limit}
use Rattle.trau_orders.specs.Lists.{AreOrders}
use Rattle.switchboard.specs.declared.act.Act.{Act}
use Rattle.switchboard.specs.declared.act.Act.TheVariants as act
use Rattle.switchboard.specs.declared.act.Refusal.{Refusal}
use Rattle.switchboard.specs.declared.table.Bridge.{Bridge}
use Rattle.switchboard.specs.Calls.{Done, opened_at, closed_at, is_open, gone_at}
use Rattle.switchboard.specs.Bridges.{ends_bridge, bridge_by, bridges}
use Rattle.switchboard.specs.Replies.{known_of}
use Rattle.switchboard.specs.Ends.{Given, whole_of, lack_of, ends_at, span_of}
use Rattle.run_spec.specs.Run.{Run, whole_in, done_in}
use Rattle.run_spec.proofs.Lists.{each_append}
use Rattle.run_spec.proofs.Orders.Executed.{AreReplies, added_replies, done_after-added}
use Rattle.run_spec.proofs.Orders.Shown.{ShownBy, shown}
use Rattle.run_spec.proofs.Bridges.Standing.{RisesFrom}
use Rattle.run_spec.proofs.Orders.OpenCalls.{open_facts, gone_is, opened_kept, closed_cases}
use Rattle.run_spec.proofs.Periods.Settled.{at_of, to_of, ends_by, found_stamp, closed_stamp}
use Rattle.run_spec.proofs.Periods.SoFar.{run_rises}
use Rattle.run_spec.proofs.Bridges.Covered.{from_above}

-- ---- a call that lasts to period t: neither its lines nor an order end it before

-- a call that lasts up to period t
pub record LastsTo (whole : ℕ → ℕ) (ds : List Done) (c t : ℕ) : Type 0 where
  pub start : ℕ
  pub opened : opened_at c ds ≡ Some start
  pub lines : t ≤ start + whole c
  pub closed : (e : ℕ) → closed_at c ds ≡ Some e → t ≤ e

-- a bridge whose two calls last up to its start
pub record IsInTime (whole : ℕ → ℕ) (ds : List Done) (x : Bridge) : Type 0 where
  pub a : LastsTo whole ds x.a x.from
  pub b : LastsTo whole ds x.b x.from
  pub ended : (e : ℕ) → x.ended ≡ Some e → x.from ≤ e

-- what holds of a value, if any
of_some : (Q : ℕ → Type 0) (o : Option ℕ) (e : ℕ) → IfSome o Q → o ≡ Some e → Q e
of_some Q o e h f = subst (λ (o : Option ℕ). IfSome o Q) f h

none_some : (o : Option ℕ) (e : ℕ) → o ≡ None → o ≡ Some e → ⊥
none_some o e f g = cc

-- an open call lasts
lasts_to : (whole : ℕ → ℕ) (ds later : List Done) (t c : ℕ) → is_open (gone_at whole t ds) ds c ≡ true → AllByRecursion (λ d. t ≤ d.order.stamp) later →
    LastsTo whole (ds ++ later) c t
lasts_to whole ds later t c o above =
    let p = open_facts (gone_at whole t ds) ds c o in
    record {
      start = p.0;
      opened = opened_kept ds later c p.0 p.1;
      lines = ltb-false (p.0 + whole c) t (sym (gone_is whole t ds c p.0 p.1) ∙ p.3);
      closed = λ e f. elim (closed_cases ds later c e f) [
        | inl q ↦ absurd (none_some (closed_at c ds) e p.2 q)
        | inr q ↦ of_some (λ s. t ≤ s) (closed_at c later) e (closed_stamp (λ s. t ≤ s) c later above) q.1
      ];
    }

-- the bridge that an order makes
new_in_time : (whole : ℕ → ℕ) (ds later : List Done) (d : Done) (r : Result Act Refusal) →
    ShownBy (known_of (gone_at whole d.order.stamp ds) d.order.stamp ds) r →
    AllByRecursion (λ e. d.order.stamp ≤ e.order.stamp) later → AllByRecursion (IsInTime whole (ds ++ d ∷ later)) (bridge_by d.order.stamp r later)
new_in_time whole ds later d (Ok (act.Bridged a b)) h above = (
  record {
    a = lasts_to whole ds (d ∷ later) d.order.stamp a h.open_a (omega arith, above);
    b = lasts_to whole ds (d ∷ later) d.order.stamp b h.open_b (omega arith, above);
    ended = λ e f. of_some (λ s. d.order.stamp ≤ s) _ e (found_stamp (λ s. d.order.stamp ≤ s) (λ d. ends_bridge a b d.result) later above) f;
  },
  tt,
)
new_in_time whole ds later d (Ok (act.Opened c law)) h above = tt
new_in_time whole ds later d (Ok (act.Closed c p)) h above = tt
new_in_time whole ds later d (Ok (act.Unbridged a b)) h above = tt
new_in_time whole ds later d (Ok (act.LevelSet c v)) h above = tt
new_in_time whole ds later d (Ok (act.DtxSet c m)) h above = tt
new_in_time whole ds later d (Err e) h above = tt

-- so each bridge is in time
in_time : (whole : ℕ → ℕ) (t : ℕ) (ds later : List Done) → AreReplies whole ds later → RisesFrom t later →
    AllByRecursion (IsInTime whole (ds ++ later)) (bridges later)
in_time whole t ds [] h r = tt
in_time whole t ds (d ∷ later) h r =
    let known = known_of (gone_at whole d.order.stamp ds) d.order.stamp ds in
    each_append _ (bridge_by d.order.stamp d.result later) (bridges later)
    (new_in_time whole ds later d d.result (subst (ShownBy known) (sym h.0) (shown known d.order.what)) (from_above d.order.stamp later r.1))
    (subst (λ (all : List Done). AllByRecursion (IsInTime whole all) (bridges later)) (append_assoc ds (d ∷ []) later)
    (in_time whole d.order.stamp (ds ++ d ∷ []) later h.1 r.1))

-- **Each bridge of a run is.**
pub bridges_in_time : (r : Run) → AreOrders r.orders → AllByRecursion (IsInTime (whole_in r) (done_in r)) (bridges (done_in r))
bridges_in_time r a =
    let os = filter (λ o. nat_lt o.stamp r.periods) r.orders in
    in_time (whole_in r) 0 [] (done_in r) (subst (AreReplies (whole_in r) []) (sym (done_after-added (whole_in r) [] os)) (added_replies (whole_in r) [] os))
    (run_rises r a)

-- ---- the end of its span

-- its end is no earlier
lasting_end : (given : ℕ → Given) (P : ℕ) (ds : List Done) (c t : ℕ) → t ≤ P → LastsTo (λ c. whole_of (given c)) ds c t → t ≤ ends_at given P ds c
lasting_end given P ds c t l k = by (closed_at c ds) refl
  where
    limit : (b : Bool) →
        t ≤ at_of (if b then record { call = c; at = P; cause = Limit }
        else record { call = c; at = k.start + whole_of (given c); cause = lack_of (whole_of (given c)) (given c) })
    limit true = l
    limit false = k.lines

    by : (o : Option ℕ) → closed_at c ds ≡ o → t ≤ ends_at given P ds c
    by None e = subst (λ (n : ℕ). t ≤ n) (sym (ends_by given P ds c k.start None k.opened e)) (limit (nat_le P (k.start + whole_of (given c))))
    by (Some s) e = subst (λ (n : ℕ). t ≤ n) (sym (ends_by given P ds c k.start (Some s) k.opened e)) (k.closed s e)

-- **A bridge's span doesn't end before it begins.**
pub ends_after : (given : ℕ → Given) (P : ℕ) (ds : List Done) (x : Bridge) → x.from ≤ P → IsInTime (λ c. whole_of (given c)) ds x →
    x.from ≤ to_of (span_of given P ds x)
ends_after given P ds x l k =
    least x.ended (ends_at given P ds x.a) (ends_at given P ds x.b) (lasting_end given P ds x.a x.from l k.a) (lasting_end given P ds x.b x.from l k.b) k.ended
  where
    least : (o : Option ℕ) (a b : ℕ) → x.from ≤ a → x.from ≤ b → ((e : ℕ) → o ≡ Some e → x.from ≤ e) → x.from ≤ min (unwrap_or o (min a b)) (min a b)
    least None a b p q h = omega arith
    least (Some e) a b p q h = let m = h e refl in omega arith
