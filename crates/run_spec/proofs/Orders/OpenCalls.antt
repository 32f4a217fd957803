-- For crates above: which calls are opened, closed, open or gone after some orders, and after more of them or later.
use Rattle.std.proofs.Common.{◌≡◌, refl, sym, ap, ◌∙◌, ℕ, ◌+◌, ◌≤◌, Bool, true, false, Option, Some, None, List, ◌++◌, inl, inr, ◌⊎◌, arith}
use Rattle.std.specs.Prelude.{not, ◌&&◌, is_some, nat_lt}
use Rattle.std.proofs.lemmas.Bool.{ltb-true, lt-ltb}
use Rattle.switchboard.specs.Calls.{Done, opened_at, closed_at, is_open, gone_at}
use Rattle.switchboard.proofs.Orders.OneMore.{or_else}
use Rattle.run_spec.proofs.Orders.Executed.{opened-append, closed-append}

-- an open call was opened, not closed, and is not gone
pub open_facts : (gone : ℕ → Bool) (ds : List Done) (c : ℕ) → is_open gone ds c ≡ true →
    (s : ℕ) × (opened_at c ds ≡ Some s) × (closed_at c ds ≡ None) × (gone c ≡ false)
open_facts gone ds c e = by (opened_at c ds) (closed_at c ds) (gone c) e
  where
    by : (o l : Option ℕ) (g : Bool) → (is_some o && not (is_some l) && not g) ≡ true → (s : ℕ) × (o ≡ Some s) × (l ≡ None) × (g ≡ false)
    by None l g e = cc
    by (Some s) (Some u) g e = cc
    by (Some s) None true e = cc
    by (Some s) None false e = (s, refl, refl, refl)

-- and one of which that holds is open
pub open_from : (gone : ℕ → Bool) (ds : List Done) (c s : ℕ) → opened_at c ds ≡ Some s → closed_at c ds ≡ None → gone c ≡ false → is_open gone ds c ≡ true
open_from gone ds c s o l g = cc

-- one that is not open was closed or is gone
pub shut_cases : (gone : ℕ → Bool) (ds : List Done) (c s : ℕ) → opened_at c ds ≡ Some s → is_open gone ds c ≡ false →
    ((e : ℕ) × (closed_at c ds ≡ Some e)) ⊎ (gone c ≡ true)
shut_cases gone ds c s o e = by (opened_at c ds) (closed_at c ds) (gone c) o e
  where
    by : (o l : Option ℕ) (g : Bool) → o ≡ Some s → (is_some o && not (is_some l) && not g) ≡ false → ((e : ℕ) × (l ≡ Some e)) ⊎ (g ≡ true)
    by None l g o e = cc
    by (Some u) (Some w) g o e = inl (w, refl)
    by (Some u) None true o e = inr refl
    by (Some u) None false o e = cc

-- it is gone where its lines ended it
pub gone_is : (whole : ℕ → ℕ) (t : ℕ) (ds : List Done) (c s : ℕ) → opened_at c ds ≡ Some s → gone_at whole t ds c ≡ nat_lt (s + whole c) t
gone_is whole t ds c s e = ap (λ (o : Option ℕ). elim o [ None ↦ false | Some s ↦ nat_lt (s + whole c) t ]) e

-- later orders open no call again
pub opened_kept : (ds later : List Done) (c s : ℕ) → opened_at c ds ≡ Some s → opened_at c (ds ++ later) ≡ Some s
opened_kept ds later c s e = opened-append c ds later ∙ ap (λ o. or_else o (opened_at c later)) e

-- and close none again
pub closed_kept : (ds later : List Done) (c s : ℕ) → closed_at c ds ≡ Some s → closed_at c (ds ++ later) ≡ Some s
closed_kept ds later c s e = closed-append c ds later ∙ ap (λ o. or_else o (closed_at c later)) e

-- nor do they change whether it is gone
pub gone_kept : (whole : ℕ → ℕ) (t : ℕ) (ds later : List Done) (c s : ℕ) → opened_at c ds ≡ Some s → gone_at whole t (ds ++ later) c ≡ gone_at whole t ds c
gone_kept whole t ds later c s e = gone_is whole t (ds ++ later) c s (opened_kept ds later c s e) ∙ sym (gone_is whole t ds c s e)

-- what is gone stays gone
pub gone_later : (whole : ℕ → ℕ) (v u : ℕ) (ds : List Done) (c : ℕ) → v ≤ u → gone_at whole v ds c ≡ true → gone_at whole u ds c ≡ true
gone_later whole v u ds c l e = by (whole c) v u (opened_at c ds) l e
  where
    by : (n v u : ℕ) (o : Option ℕ) → v ≤ u → elim o [ None ↦ false | Some s ↦ nat_lt (s + n) v ] ≡ true →
        elim o [ None ↦ false | Some s ↦ nat_lt (s + n) u ] ≡ true
    by n v u None l e = e
    by n v u (Some s) l e = lt-ltb (s + n) u (omega (arith, ltb-true (s + n) v e))

-- of one answer, or else another
pub either : (u v : Option ℕ) (s : ℕ) → or_else u v ≡ Some s → (u ≡ Some s) ⊎ ((u ≡ None) × (v ≡ Some s))
either None v s e = inr (refl, e)
either (Some x) v s e = inl e

-- a call was opened by the first orders or by the later ones
pub opened_cases : (ds later : List Done) (c s : ℕ) → opened_at c (ds ++ later) ≡ Some s →
    (opened_at c ds ≡ Some s) ⊎ ((opened_at c ds ≡ None) × (opened_at c later ≡ Some s))
opened_cases ds later c s e = either _ _ s (sym (opened-append c ds later) ∙ e)

-- and closed
pub closed_cases : (ds later : List Done) (c s : ℕ) → closed_at c (ds ++ later) ≡ Some s →
    (closed_at c ds ≡ Some s) ⊎ ((closed_at c ds ≡ None) × (closed_at c later ≡ Some s))
closed_cases ds later c s e = either _ _ s (sym (closed-append c ds later) ∙ e)

-- an opening has a stamp
pub opened_some : (ds : List Done) (c : ℕ) → is_some (opened_at c ds) ≡ true → (s : ℕ) × (opened_at c ds ≡ Some s)
opened_some ds c e = by (opened_at c ds) e
  where
    by : (o : Option ℕ) → is_some o ≡ true → (s : ℕ) × (o ≡ Some s)
    by None e = cc
    by (Some s) e = (s, refl)
