-- The board as contracts see it, and its steps.
use Rattle.std.specs.Prelude.{◌+◌, ◌<◌, ℕ, Bool, if◌then◌else◌, ◌==◌, Option, Some, None, is_some, option_map, IfSome, List, [], ◌∷◌, ◌++◌, length, map, drop, replicate}
use Rattle.std.specs.Prelude.{slice_index_or, slice_set}
use Rattle.trau_io.specs.declared.ends.Cause.TheVariants.{Closed}
use Rattle.trau_io.specs.declared.ends.CallEnd.{CallEnd}
use Rattle.trau_orders.specs.declared.order.Order.{Order}
use Rattle.call_number.specs.declared.TheConstants.{NUMBERS}
use Rattle.switchboard.specs.declared.act.Reply.{Reply}
use Rattle.switchboard.specs.Calls.{Done, opened_at, closed_at}
use Rattle.switchboard.specs.Replies.{reply_to}

-- The remaining orders; the executed orders with their replies, the oldest first; and by call number the reported end.
pub record State : Type 0 where
  pub left : List Order
  pub done : List Done
  pub told : List (Option CallEnd)

-- the reported end of a call
abbrev pub end_told : State → ℕ → Option CallEnd
end_told s c = slice_index_or s.told c None

-- the first period after a call whose end was reported
abbrev pub told_in : State → ℕ → Option ℕ
told_in s c = option_map (λ e. e.at) (end_told s c)

-- the calls with a reported end
abbrev pub gone_in : State → ℕ → Bool
gone_in s c = is_some (told_in s c)

-- each reported end lies before period t
abbrev pub EndBefore : ℕ → State → Type 0
EndBefore t s = (c : ℕ) → IfSome (told_in s c) (λ at. at < t)

-- a board before the first order
abbrev pub new_board : List Order → State
new_board os = record { left = os; done = []; told = replicate NUMBERS None }

-- all orders, executed and remaining
abbrev pub orders_of : State → List Order
orders_of s = map (λ d. d.order) s.done ++ s.left

abbrev pub first_order : List Order → Option Order
first_order [] = None
first_order (o ∷ os) = Some o

-- the stamp of the next order
abbrev pub first_stamp : List Order → Option ℕ
first_stamp [] = None
first_stamp (o ∷ os) = Some o.stamp

-- the stamp of the last executed order, 0 if there is none
abbrev pub last_stamp : List Done → ℕ
last_stamp [] = 0
last_stamp (d ∷ []) = d.order.stamp
last_stamp (d ∷ e ∷ ds) = last_stamp (e ∷ ds)

-- ---- an order

-- the next order, if it has this stamp
abbrev pub due : List Order → ℕ → Option Order
due [] period = None
due (o ∷ os) period = if o.stamp == period then Some o else None

-- an order and its reply, after the executed orders and the reported ends
abbrev pub done_by : State → Order → Done
done_by s o = record { order = o; result = reply_to (gone_in s) s.done o }

-- the state after the next order, if one is due
abbrev pub after_turn : State → Option Order → State
after_turn s None = s
after_turn s (Some o) = record s { left = drop 1 s.left; done = s.done ++ done_by s o ∷ [] }

-- the reply to an order, with its number
abbrev pub reply_of : State → Option Order → Option Reply
reply_of s None = None
reply_of s (Some o) =
    let d = done_by s o in Some (record { order = length s.done + 1; result = d.result })

-- all replies, numbered from n + 1 on
abbrev pub replies_from : ℕ → List Done → List Reply
replies_from n [] = []
replies_from n (d ∷ ds) = record { order = n + 1; result = d.result } ∷ replies_from (n + 1) ds

-- ---- an end

-- the state after a call's end was reported
abbrev pub told_more : State → CallEnd → State
told_more s e = record s { told = slice_set s.told e.call (Some e) }

-- the end of a call that an order closed, or else the reported one
abbrev pub end_or_told : State → ℕ → Option ℕ → Option CallEnd
end_or_told s c None = end_told s c
end_or_told s c (Some t) = Some (record { call = c; at = t; cause = Closed })

-- The end of a call so far. A call that no order has opened has none.
abbrev pub end_so_far : State → ℕ → Option CallEnd
end_so_far s c = if is_some (opened_at c s.done) then end_or_told s c (closed_at c s.done) else None
