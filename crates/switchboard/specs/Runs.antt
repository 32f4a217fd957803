-- The replies to a whole list of orders, and how a board relates to it.
use Rattle.std.specs.Prelude.{◌≡◌, ℕ, true, not, nat_lt, None, Some, is_some, List, [], ◌∷◌, ◌++◌, map, filter}
use Rattle.trau_orders.specs.declared.order.Order.{Order}
use Rattle.switchboard.specs.Calls.{Done, opened_at, closed_at, law_at, gone_at}
use Rattle.switchboard.specs.Replies.{known_of, reply_to}
use Rattle.switchboard.specs.State.{State, gone_in, end_told, told_in}
use Rattle.switchboard.specs.Ends.{Given, whole_end, ends_at, spans_now}

-- Orders are executed one after another; `whole` is the number of whole periods that each call's lines give.
abbrev pub done_after : (ℕ → ℕ) → List Done → List Order → List Done
done_after whole ds [] = ds
done_after whole ds (o ∷ os) = done_after whole
    (ds ++ record { order = o; result = reply_to (gone_at whole o.stamp ds) ds o } ∷ []) os

-- In a run of P periods an order is executed if and only if its stamp is below P.
abbrev pub done_of : (ℕ → ℕ) → ℕ → List Order → List Done
done_of whole P orders = done_after whole [] (filter (λ o. nat_lt o.stamp P) orders)

-- the other orders
abbrev pub left_of : ℕ → List Order → List Order
left_of P orders = filter (λ o. not (nat_lt o.stamp P)) orders

-- the replies of these orders are those of their whole list
abbrev pub IsRun : (ℕ → ℕ) → List Done → Type 0
IsRun whole ds = ds ≡ done_after whole [] (map (λ d. d.order) ds)

-- Of the calls that were opened and not closed, the reported ones are those that are gone at period t.
abbrev pub TellsEnds : (ℕ → ℕ) → ℕ → State → Type 0
TellsEnds whole t s = (c : ℕ) → is_some (opened_at c s.done) ≡ true → closed_at c s.done ≡ None →
    gone_in s c ≡ gone_at whole t s.done c

-- Each call that was opened was closed, or was reported as ended where its lines and the run's P periods end it.
abbrev pub AllEndedAt : (ℕ → Given) → ℕ → State → Type 0
AllEndedAt given P s = (c : ℕ) → is_some (opened_at c s.done) ≡ true → closed_at c s.done ≡ None →
    told_in s c ≡ Some (ends_at given P s.done c)

-- Each call has ended where its lines and the run end it, with the cause that they give.
abbrev pub AllEnded : (ℕ → Given) → ℕ → State → Type 0
AllEnded given P s = (c : ℕ) → is_some (opened_at c s.done) ≡ true → closed_at c s.done ≡ None →
    end_told s c ≡ Some (whole_end given P s.done c)

-- Nothing changes: later orders find the same, no end is added, each call has the same law, and the spans are the same.
pub record IsUnchanged (old new : State) : Type 0 where
  pub known : (t : ℕ) → known_of (gone_in new) t new.done ≡ known_of (gone_in old) t old.done
  pub told : new.told ≡ old.told
  pub law : (c : ℕ) → law_at c new.done ≡ law_at c old.done
  pub spans : spans_now (told_in new) new.done ≡ spans_now (told_in old) old.done
