-- The answers of reading the orders of a run (this project's profile).
use Rattle.std.specs.Prelude.{◌≡◌, ◌<◌, ◌≤◌, ◌⊎◌, ℕ, List, length, Result, Ok, Err}
use Rattle.std.specs.Io.KnownBytes.{IsAtEnd}
use Rattle.trau_io.specs.Desks.{DeskState}
use Rattle.trau_orders.specs.Text.{text_lines, AreLines, IsFirstBad, IsWithin, IsBeyond}
use Rattle.trau_orders.specs.declared.order.Order.{Order}
use Rattle.farm_orders.specs.declared.fault.OrdersFault.{OrdersFault}
use Rattle.farm_orders.specs.declared.fault.OrdersFault.TheVariants.{Unread, TooLong, Line, Memory}
use Rattle.farm_orders.specs.Given.{ReadsUpTo}

-- the answer to a whole text: its orders, that it is beyond the limits, or its first line that isn't in the grammar;
-- any answer may be out of memory instead
abbrev pub AnswersText : List ℕ → Result (List Order) OrdersFault → Type 0
AnswersText text (Ok orders) = IsWithin text × AreLines (text_lines text) orders
AnswersText text (Err Unread) = ⊥
AnswersText text (Err TooLong) = IsBeyond text
AnswersText text (Err (Line n)) = IsWithin text × IsFirstBad (text_lines text) n
AnswersText text (Err Memory) = Unit {0}

-- the answer after these octets were read: at the desk's end the answer to this text; one octet past the limit, too
-- long; otherwise the desk failed or memory ran out
abbrev pub AnswersReads : DeskState → List ℕ → Result (List Order) OrdersFault → Type 0
AnswersReads now given (Ok orders) = IsAtEnd now.to_come × AnswersText given (Ok orders)
AnswersReads now given (Err Unread) = length given ≤ 1048576
AnswersReads now given (Err TooLong) = (length given ≡ 1048577) ⊎ (IsAtEnd now.to_come × (65536 < length (text_lines given)))
AnswersReads now given (Err (Line n)) = IsAtEnd now.to_come × AnswersText given (Err (Line n))
AnswersReads now given (Err Memory) = Unit {0}

-- the next octets of the desk were read, at most one past the limit, and the answer is the one to them
abbrev pub ReadsOrders : DeskState → DeskState → Result (List Order) OrdersFault → Type 0
ReadsOrders before now result = ReadsUpTo 1048576 before now (λ given. AnswersReads now given result)

-- the answer if the desk's text is known: the one to the whole text, unless the desk failed
abbrev pub AnswersTold : List ℕ → Result (List Order) OrdersFault → Type 0
AnswersTold text (Ok orders) = AnswersText text (Ok orders)
AnswersTold text (Err Unread) = Unit {0}
AnswersTold text (Err TooLong) = AnswersText text (Err TooLong)
AnswersTold text (Err (Line n)) = AnswersText text (Err (Line n))
AnswersTold text (Err Memory) = Unit {0}
