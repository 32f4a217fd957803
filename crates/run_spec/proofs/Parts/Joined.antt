-- What a run writes is what it writes to an earlier end, and behind that the octets of the later periods.
use Rattle.std.proofs.Common.{◌≡◌, refl, sym, ap, ◌∙◌, subst, ℕ, ◌+◌, ◌-◌, ◌*◌, ◌≤◌, Bool, true, false, Option, Some, None, List, ◌++◌, length, drop, min, inl}
use Rattle.std.proofs.Common.{inr, arith}
use Rattle.std.specs.Prelude.{IfSome, is_some, nat_le, if◌then◌else◌}
use Rattle.std.proofs.Math.Seq.{drop-append_seam}
use Rattle.std.proofs.lemmas.Bool.{leb-true, leb-false}
use Rattle.trau_io.specs.declared.ends.Cause.TheVariants.{Limit}
use Rattle.trau_orders.specs.Lists.{AreOrders}
use Rattle.switchboard.specs.Calls.{Done, opened_at, closed_at}
use Rattle.switchboard.specs.Runs.{left_of}
use Rattle.switchboard.specs.Ends.{Given, whole_of, lack_of}
use Rattle.switchboard.proofs.Orders.OneMore.{or_else}
use Rattle.call_leg.specs.Who.{Who}
use Rattle.run_spec.specs.Run.{Run, given_in, whole_in, done_in, start_in, end_in, who_in, IsOpened, worked_to, periods_to}
use Rattle.call_leg.specs.Out.{out_line}
use Rattle.run_spec.specs.Lines.{down_octets, out_of_call, down_of_call}
use Rattle.run_spec.specs.Now.{IsSoFar}
use Rattle.run_spec.specs.Mark.{cut_at, Joins}
use Rattle.run_spec.proofs.Orders.Executed.{closed-append}
use Rattle.run_spec.proofs.Orders.OpenCalls.{opened_cases, opened_some}
use Rattle.switchboard.proofs.Boards.Whole.{end_by}
use Rattle.run_spec.proofs.Periods.Settled.{found_stamp, closed_stamp, at_of, ends_by, start_is}
use Rattle.run_spec.proofs.Periods.SoFar.{rest_in, done-rest, rest_from, standing_now, standing_end}
use Rattle.run_spec.proofs.Periods.Next.{opened_run, start_run, law_run}
use Rattle.call_leg.proofs.LineLaws.{length-out_line}
use Rattle.run_spec.proofs.Parts.LongerLines.{length-periods_to, length-down_octets, out_more, down_on}
use Rattle.run_spec.proofs.Parts.Cut.{so_far_below, periods_kept}
use Rattle.run_spec.proofs.Lists.{one_value}

-- ---- the end of a call

-- a call that isn't closed ends at the run's end or where its lines end it
natural : (given : ℕ → Given) (P c s : ℕ) → at_of (end_by given P c s None) ≡ min P (s + whole_of (given c))
natural given P c s = by (nat_le P (s + whole_of (given c))) refl
  where
    by : (b : Bool) → nat_le P (s + whole_of (given c)) ≡ b →
        at_of (if b then record { call = c; at = P; cause = Limit }
        else record { call = c; at = s + whole_of (given c); cause = lack_of (whole_of (given c)) (given c) }) ≡ min P (s + whole_of (given c))
    by true e = let l = leb-true P (s + whole_of (given c)) e in omega arith
    by false e = let l = leb-false P (s + whole_of (given c)) e in omega arith

-- at the earlier end the run has executed what the cut run executes
so_far_cut : (r : Run) (p : ℕ) → AreOrders r.orders → p ≤ r.periods → IsSoFar r p (done_in (cut_at p r)) (left_of p r.orders)
so_far_cut r p a l = so_far_below r p p a (omega arith) (omega arith) l

-- **A call ends at the earlier end, or where it ends anyway.**
end_cut : (r : Run) (p c s : ℕ) → AreOrders r.orders → p ≤ r.periods → opened_at c (done_in (cut_at p r)) ≡ Some s → end_in (cut_at p r) c ≡ min p (end_in r c)
end_cut r p c s a l o = by (closed_at c ds) (closed_at c rest) refl refl
  where
    ds : List Done
    ds = done_in (cut_at p r)

    so : IsSoFar r p ds (left_of p r.orders)
    so = so_far_cut r p a l

    rest : List Done
    rest = rest_in r ds (left_of p r.orders)

    opened : opened_at c (done_in r) ≡ Some s
    opened = opened_run r p ds (left_of p r.orders) c s so o

    closed : (v w : Option ℕ) → closed_at c ds ≡ v → closed_at c rest ≡ w → closed_at c (done_in r) ≡ or_else v w
    closed v w e f =
        ap (closed_at c) (done-rest r p ds (left_of p r.orders) so) ∙ closed-append c ds rest ∙ ap (λ v. or_else v (closed_at c rest)) e
        ∙ ap (λ w. or_else v w) f

    first : (v : Option ℕ) → closed_at c ds ≡ v → end_in (cut_at p r) c ≡ at_of (end_by (given_in r) p c s v)
    first v e = ends_by (given_in r) p ds c s v o e

    whole : (v : Option ℕ) → closed_at c (done_in r) ≡ v → end_in r c ≡ at_of (end_by (given_in r) r.periods c s v)
    whole v e = ends_by (given_in r) r.periods (done_in r) c s v opened e

    by : (v w : Option ℕ) → closed_at c ds ≡ v → closed_at c rest ≡ w → end_in (cut_at p r) c ≡ min p (end_in r c)
    by (Some e) w f g =
        let past : e ≤ p = ((standing_now r p ds (left_of p r.orders) so).closed c e f).past in
        omega (arith, first (Some e) f, whole (Some e) (closed (Some e) w f g))
    by None (Some e) f g =
        let k = (standing_end r a).closed c e (closed None (Some e) f g) in
        let m : k.start ≡ s = one_value (opened_at c (done_in r)) k.start s k.opened opened in
        let low : p ≤ e = subst (λ (v : Option ℕ). IfSome v (λ e. p ≤ e)) g (closed_stamp (λ e. p ≤ e) c rest (rest_from r p ds (left_of p r.orders) so)) in
        let high : e ≤ k.start + whole_in r c = k.alive in
        omega (arith, m, first None f, natural (given_in r) p c s, whole (Some e) (closed None (Some e) f g))
    by None None f g = omega (arith, first None f, natural (given_in r) p c s, whole None (closed None None f g), natural (given_in r) r.periods c s)

-- ---- its lines

-- A list is its front, and what comes behind so many as the front has.
joined : (first front more whole : List ℕ) (n : ℕ) → first ≡ front → whole ≡ front ++ more → length front ≡ n → whole ≡ first ++ drop n whole
joined first front more whole n e f long =
    f ∙ ap (λ xs. xs ++ more) (sym e) ∙ ap (λ ys. first ++ ys) (sym (ap (drop n) f ∙ ap (λ k. drop k (front ++ more)) (sym long) ∙ drop-append_seam front more))

-- What is known of a call that is opened before the earlier end: where it begins, whose it is, and how many periods it
-- has.
record IsCutCall (r : Run) (p c : ℕ) : Type 0 where
  who : who_in (cut_at p r) c ≡ who_in r c
  count : end_in (cut_at p r) c - start_in (cut_at p r) c ≡ worked_to r p c
  periods : periods_to (cut_at p r) c (worked_to r p c) ≡ periods_to r c (worked_to r p c)
  all : end_in r c - start_in r c ≡ worked_to r p c + (end_in r c - start_in r c - worked_to r p c)

-- **A call that is opened before the earlier end has the same periods before it.**
cut_call : (r : Run) (p c : ℕ) → AreOrders r.orders → p ≤ r.periods → IsOpened (cut_at p r) c → IsCutCall r p c
cut_call r p c a l is = record {
  who = ap {B = Who} (λ law. record { number = c; law = law }) (sym (law_run r p ds (left_of p r.orders) c s.0 so s.1));
  count = let e = end_cut r p c s.0 a l s.1 in omega (arith, e, first, begun);
  periods = periods_kept r p c s.0 (worked_to r p c) a l s.1 (omega (arith, begun, early));
  all = omega arith;
}
  where
    ds : List Done
    ds = done_in (cut_at p r)

    s : (s : ℕ) × (opened_at c ds ≡ Some s)
    s = opened_some ds c is

    so : IsSoFar r p ds (left_of p r.orders)
    so = so_far_cut r p a l

    first : start_in (cut_at p r) c ≡ s.0
    first = start_is ds c s.0 s.1

    begun : start_in r c ≡ s.0
    begun = start_run r p ds (left_of p r.orders) c s.0 so s.1

    early : s.0 ≤ p
    early = (standing_now r p ds (left_of p r.orders) so).opened c s.0 s.1

-- **A call that is opened before the earlier end is opened in the whole run.**
opened_anyway : (r : Run) (p c : ℕ) → AreOrders r.orders → p ≤ r.periods → IsOpened (cut_at p r) c → IsOpened r c
opened_anyway r p c a l is =
    let s = opened_some (done_in (cut_at p r)) c is in
    ap is_some (opened_run r p (done_in (cut_at p r)) (left_of p r.orders) c s.0 (so_far_cut r p a l) s.1)

-- **What a run writes on the lines of a call is what it writes to the earlier end, and behind that the octets of the
-- later periods.**
joins_out : (r : Run) (p c : ℕ) → IsCutCall r p c → out_of_call r c ≡ out_of_call (cut_at p r) c ++ drop (160 * worked_to r p c) (out_of_call r c)
joins_out r p c is =
    let w = worked_to r p c in
    let more = out_more r c w (end_in r c - start_in r c - w) (end_in r c - start_in r c) is.all in
    joined (out_of_call (cut_at p r) c) (out_line (who_in r c) (periods_to r c w)) more.0 (out_of_call r c) (160 * w)
    (ap (λ (n : ℕ). out_line (who_in (cut_at p r) c) (periods_to (cut_at p r) c n)) is.count
    ∙ ap (λ who. out_line who (periods_to (cut_at p r) c w)) is.who ∙ ap (out_line (who_in r c)) is.periods)
    more.1 (omega (arith, length-out_line (who_in r c) (periods_to r c w), length-periods_to r c w))

-- **So it is with the Down line.**
joins_down : (r : Run) (p c : ℕ) → IsCutCall r p c → down_of_call r c ≡ down_of_call (cut_at p r) c ++ drop (40 * worked_to r p c) (down_of_call r c)
joins_down r p c is =
    let w = worked_to r p c in
    let more = down_on r c w (end_in r c - start_in r c - w) (end_in r c - start_in r c) is.all in
    joined (down_of_call (cut_at p r) c) (down_octets (who_in r c) (periods_to r c w)) more.0 (down_of_call r c) (40 * w)
    (ap (λ (n : ℕ). down_octets (who_in (cut_at p r) c) (periods_to (cut_at p r) c n)) is.count
    ∙ ap (λ who. down_octets who (periods_to (cut_at p r) c w)) is.who ∙ ap (down_octets (who_in r c)) is.periods)
    more.1 (omega (arith, length-down_octets (who_in r c) (periods_to r c w), length-periods_to r c w))

-- **A call that is opened later has no period before the earlier end.**
opens_later : (r : Run) (p c : ℕ) → AreOrders r.orders → p ≤ r.periods → IsOpened r c → (IsOpened (cut_at p r) c → ⊥) → worked_to r p c ≡ 0
opens_later r p c a l is shut = elim (opened_cases ds rest c s.0 (sym (ap (opened_at c) (done-rest r p ds (left_of p r.orders) so)) ∙ s.1)) [
  | inl e ↦ absurd (shut (ap is_some e))
  | inr e ↦
      let late : p ≤ s.0 = subst (λ (v : Option ℕ). IfSome v (λ s. p ≤ s)) e.1 (found_stamp (λ s. p ≤ s) _ rest (rest_from r p ds (left_of p r.orders) so)) in
      let begun : start_in r c ≡ s.0 = start_is (done_in r) c s.0 s.1 in
      omega (arith, begun)
]
  where
    ds : List Done
    ds = done_in (cut_at p r)

    so : IsSoFar r p ds (left_of p r.orders)
    so = so_far_cut r p a l

    rest : List Done
    rest = rest_in r ds (left_of p r.orders)

    s : (s : ℕ) × (opened_at c (done_in r) ≡ Some s)
    s = opened_some (done_in r) c is

-- **A run is joined of two.**
pub joins : (r : Run) (p : ℕ) → AreOrders r.orders → p ≤ r.periods → Joins r p
joins r p a l = record {
  opened = λ c is. opened_anyway r p c a l is;
  out = λ c is. joins_out r p c (cut_call r p c a l is);
  down = λ c is. joins_down r p c (cut_call r p c a l is);
  later = λ c is shut. opens_later r p c a l is shut;
}
