-- The board after ends are reported to it, and which calls are gone after a round.
use Rattle.std.proofs.Common.{◌≡◌, refl, sym, ap, ◌∙◌, ℕ, ◌+◌, ◌-◌, ◌<◌, ◌≤◌, Bool, true, false, Option, Some, None, List, [], ◌∷◌, ◌++◌}
use Rattle.std.proofs.Common.{inl, inr, arith}
use Rattle.std.specs.Prelude.{min, ◌&&◌, ◌||◌, is_some, option_map, nat_lt, IfSome}
use Rattle.std.specs.List.{AllByRecursion}
use Rattle.std.proofs.lemmas.Bool.{lt-ltb, le-ltb, cases_lt, or_left}
use Rattle.trau_io.specs.declared.ends.CallEnd.{CallEnd}
use Rattle.trau_orders.specs.declared.order.Order.{Order}
use Rattle.switchboard.specs.Calls.{Done, opened_at, closed_at, gone_at}
use Rattle.switchboard.specs.State.{State, EndBefore, told_in, told_more, orders_of}
use Rattle.switchboard.proofs.Orders.InRange.{before_more}
use Rattle.run_spec.specs.Run.{Run, whole_in}
use Rattle.run_spec.specs.Now.{IsSoFar}
use Rattle.run_spec.proofs.Periods.Settled.{start_is}
use Rattle.run_spec.proofs.Orders.OpenCalls.{open_from, gone_is}
use Rattle.run_spec.proofs.Periods.SoFar.{so_far_later}
use Rattle.farm_run.proofs.Rounds.Taken.{IsRound, places_in, ends_within}
use Rattle.farm_run.specs.Ending.{told_after}

-- **A run so far goes on to the end of the round.**
pub round_over : (r : Run) (t n : ℕ) (ds : List Done) (left : List Order) → IsRound r t n ds left → IsSoFar r (t + n) ds left
round_over r t n ds left h = so_far_later r t (t + n) ds left h.so_far (omega arith) h.clear

-- ---- who is gone after the round

-- **After a round those calls are gone that were gone at the clock, and those that their lines ended within it.**
pub gone_round : (r : Run) (t n : ℕ) (ds : List Done) (c : ℕ) → is_some (opened_at c ds) ≡ true → closed_at c ds ≡ None →
    gone_at (whole_in r) (t + n) ds c ≡ (gone_at (whole_in r) t ds c || ends_within r ds t n c)
gone_round r t n ds c o l = by (opened_at c ds) refl o
  where
    by : (x : Option ℕ) → opened_at c ds ≡ x → is_some x ≡ true →
        gone_at (whole_in r) (t + n) ds c ≡ (gone_at (whole_in r) t ds c || ends_within r ds t n c)
    by None e k = cc
    by (Some s) e k = gone_is (whole_in r) (t + n) ds c s e ∙ elim (cases_lt (s + whole_in r c) t) [
      | inl m ↦
          lt-ltb (s + whole_in r c) (t + n) (omega arith)
          ∙ sym (or_left (gone_at (whole_in r) t ds c) (ends_within r ds t n c) (gone_is (whole_in r) t ds c s e ∙ lt-ltb (s + whole_in r c) t m))
      | inr m ↦
          let stays : gone_at (whole_in r) t ds c ≡ false = gone_is (whole_in r) t ds c s e ∙ le-ltb (s + whole_in r c) t m in
          late (s + whole_in r c) t n m
          ∙ ap (λ (s : ℕ). nat_lt (min n (s + whole_in r c - t)) n) (sym (start_is ds c s e))
          ∙ sym (ap (λ (b : Bool). b || ends_within r ds t n c) stays ∙ ap (λ (b : Bool). b && nat_lt (places_in r ds t n c) n)
          (open_from (gone_at (whole_in r) t ds) ds c s e l stays))
    ]
      where
        late : (last t n : ℕ) → t ≤ last → nat_lt last (t + n) ≡ nat_lt (min n (last - t)) n
        late last t n m = elim (cases_lt last (t + n)) [
          | inl h ↦ lt-ltb last (t + n) h ∙ sym (lt-ltb (min n (last - t)) n (omega arith))
          | inr h ↦ le-ltb last (t + n) h ∙ sym (le-ltb (min n (last - t)) n (omega arith))
        ]

-- ---- ends, one after another

-- no order is executed, and there is room for the ends of as many calls
pub told_done : (s : State) (ends : List CallEnd) → (told_after s ends).done ≡ s.done
told_done s [] = refl
told_done s (e ∷ ends) = told_done (told_more s e) ends

-- the orders that are left stay
pub told_left : (s : State) (ends : List CallEnd) → (told_after s ends).left ≡ s.left
told_left s [] = refl
told_left s (e ∷ ends) = told_left (told_more s e) ends

-- all orders stay
pub told_orders : (s : State) (ends : List CallEnd) → orders_of (told_after s ends) ≡ orders_of s
told_orders s [] = refl
told_orders s (e ∷ ends) = told_orders (told_more s e) ends

-- one end more, behind the others
pub told_next : (s : State) (ends : List CallEnd) (e : CallEnd) → told_after s (ends ++ e ∷ []) ≡ told_more (told_after s ends) e
told_next s [] e = refl
told_next s (d ∷ ends) e = told_next (told_more s d) ends e

abbrev pub is_told_end : Option CallEnd → Bool
is_told_end o = is_some (option_map (λ (e : CallEnd). e.at) o)

-- **All ends that were told lie before the round's end.**
pub before_round : (t n : ℕ) (s : State) (ends : List CallEnd) → EndBefore t s →
    AllByRecursion (λ e. e.at < t + n) ends → EndBefore (t + n) (told_after s ends)
before_round t n s ends h l = go s ends (λ c. by (told_in s c) (h c)) l
  where
    by : (o : Option ℕ) → IfSome o (λ at. at < t) → IfSome o (λ at. at < t + n)
    by None k = tt
    by (Some at) k = omega arith

    go : (s : State) (ends : List CallEnd) → EndBefore (t + n) s →
        AllByRecursion (λ e. e.at < t + n) ends → EndBefore (t + n) (told_after s ends)
    go s [] h l = h
    go s (e ∷ ends) h l = go (told_more s e) ends (before_more s (told_more s e) e refl (t + n) l.0 h) l.1
