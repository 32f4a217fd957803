-- The answers of reading a mark and the orders after it (this project's profile).
use Rattle.std.specs.Prelude.{◌≡◌, ◌<◌, ◌≤◌, ◌⊎◌, ℕ, List, ◌++◌, length, Some, Result, Ok, Err}
use Rattle.std.specs.Io.KnownBytes.{IsAtEnd}
use Rattle.trau_io.specs.Desks.{DeskState}
use Rattle.trau_orders.specs.declared.order.Order.{Order}
use Rattle.trau_orders.specs.Text.{text_lines, AreLines, IsWithin}
use Rattle.farm_checkpoint.specs.Marks.{MarkView, IsMark}
use Rattle.farm_checkpoint.specs.Text.{mark_text, IsFirstBad}
use Rattle.farm_orders.specs.declared.fault.MarkedFault.{MarkedFault}
use Rattle.farm_orders.specs.declared.fault.MarkedFault.TheVariants as marked
use Rattle.farm_orders.specs.declared.fault.OrdersFault.{OrdersFault}
use Rattle.farm_orders.specs.declared.fault.OrdersFault.TheVariants.{Unread, TooLong, Line, Memory}
use Rattle.farm_orders.specs.declared.marked.MarkedOrders.{MarkedOrders}
use Rattle.farm_orders.specs.Given.{ReadsUpTo}
use Rattle.farm_orders.specs.Reading.{AnswersText}

-- a text of at most 1,310,720 octets
abbrev pub IsShort : List ℕ → Type 0
IsShort text = length text ≤ 1310720

-- a text is that of a mark, followed by that of orders
pub record HasMark (text : List ℕ) (mark : MarkView) (orders : List ℕ) : Type 0 where
  pub is : IsMark mark
  pub whole : text ≡ mark_text mark ++ orders

-- the orders after the mark of a text aren't taken, for this reason; their lines are counted from the first after the
-- mark
pub record RefusedBehind (text : List ℕ) (fault : OrdersFault) : Type 0 where
  pub mark : MarkView
  pub orders : List ℕ
  pub has : HasMark text mark orders
  pub answer : AnswersText orders (Err fault)

-- the mark and the orders after it are taken
pub record TakenBehind (text : List ℕ) (read : MarkedOrders) : Type 0 where
  pub orders : List ℕ
  pub has : HasMark text read.mark orders
  pub answer : AnswersText orders (Ok read.orders)

-- the answer to a whole text: its mark and orders, its first line that isn't in the mark's grammar, or why the orders
-- aren't taken; a text that is too long is refused before anything else; any answer may be out of memory instead
abbrev pub AnswersMarked : List ℕ → Result MarkedOrders MarkedFault → Type 0
AnswersMarked text (Ok read) = IsShort text × TakenBehind text read
AnswersMarked text (Err (marked.Mark n)) = IsShort text × IsFirstBad text n
AnswersMarked text (Err (marked.Orders Unread)) = ⊥
AnswersMarked text (Err (marked.Orders TooLong)) = (1310720 < length text) ⊎ (IsShort text × RefusedBehind text TooLong)
AnswersMarked text (Err (marked.Orders (Line n))) = IsShort text × RefusedBehind text (Line n)
AnswersMarked text (Err (marked.Orders Memory)) = Unit {0}

-- the answer after these octets were read: at the desk's end the answer to this text; one octet past the limit, too
-- long; otherwise the desk failed or memory ran out
abbrev pub AnswersMarkedReads : DeskState → List ℕ → Result MarkedOrders MarkedFault → Type 0
AnswersMarkedReads now given (Ok read) = IsAtEnd now.to_come × AnswersMarked given (Ok read)
AnswersMarkedReads now given (Err (marked.Mark n)) = IsAtEnd now.to_come × AnswersMarked given (Err (marked.Mark n))
AnswersMarkedReads now given (Err (marked.Orders Unread)) = IsShort given
AnswersMarkedReads now given (Err (marked.Orders TooLong)) = (length given ≡ 1310721) ⊎ (IsAtEnd now.to_come × IsShort given × RefusedBehind given TooLong)
AnswersMarkedReads now given (Err (marked.Orders (Line n))) = IsAtEnd now.to_come × AnswersMarked given (Err (marked.Orders (Line n)))
AnswersMarkedReads now given (Err (marked.Orders Memory)) = Unit {0}

abbrev pub ReadsMarked : DeskState → DeskState → Result MarkedOrders MarkedFault → Type 0
ReadsMarked before now result = ReadsUpTo 1310720 before now (λ given. AnswersMarkedReads now given result)

-- the answer if the desk's text is known: the one to the whole text, unless the desk failed
abbrev pub AnswersMarkedTold : List ℕ → Result MarkedOrders MarkedFault → Type 0
AnswersMarkedTold text (Ok read) = AnswersMarked text (Ok read)
AnswersMarkedTold text (Err (marked.Mark n)) = AnswersMarked text (Err (marked.Mark n))
AnswersMarkedTold text (Err (marked.Orders Unread)) = Unit {0}
AnswersMarkedTold text (Err (marked.Orders TooLong)) = AnswersMarked text (Err (marked.Orders TooLong))
AnswersMarkedTold text (Err (marked.Orders (Line n))) = AnswersMarked text (Err (marked.Orders (Line n)))
AnswersMarkedTold text (Err (marked.Orders Memory)) = Unit {0}

-- the desk's text is known and has at most 1,310,720 octets: the text of this mark, followed by a text within the
-- limits of orders, whose lines spell these orders
pub record TellsMarked (mark : MarkView) (orders : List Order) (desk : DeskState) : Type 0 where
  pub text : List ℕ
  pub told : desk.to_come ≡ Some text
  pub short : IsShort text
  pub rest : List ℕ
  pub has : HasMark text mark rest
  pub within : IsWithin rest
  pub spelled : AreLines (text_lines rest) orders
