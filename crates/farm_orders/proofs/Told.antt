-- From the answer to a text to that of the desk whose reads gave it, and to that of a desk that tells its text.
use Rattle.std.proofs.Common.{◌≡◌, inl, inr, ℕ, ◌<◌, ◌≤◌, List, ◌++◌, length, Result, Ok, Err, Option, Some, None, sym, ◌∙◌, ap, subst, append-nil}
use Rattle.std.proofs.Common.{length-append, arith}
use Rattle.std.specs.Prelude.{IsErrOf}
use Rattle.std.specs.Io.KnownBytes.{Consumes, IsAtEnd}
use Rattle.trau_io.specs.Desks.{DeskState}
use Rattle.trau_orders.specs.declared.fault.OrderFault.{OrderFault}
use Rattle.trau_orders.specs.declared.fault.OrderFault.TheVariants as orders
use Rattle.trau_orders.specs.declared.order.Order.{Order}
use Rattle.trau_orders.specs.Text.{text_lines, IsFirstBad, IsWithin}
use Rattle.farm_orders.specs.declared.fault.OrdersFault.{OrdersFault}
use Rattle.farm_orders.specs.declared.fault.OrdersFault.TheVariants.{Unread, TooLong, Line, Memory}
use Rattle.farm_orders.specs.Faults.{fault_of}
use Rattle.farm_orders.specs.Given.{GivesPart, GivesWhole}
use Rattle.farm_orders.specs.Reading.{AnswersText, AnswersReads, ReadsOrders, AnswersTold}

-- a text's own fault is the answer to it
pub faulty : (text : List ℕ) (read : Result (List Order) OrderFault) (fault : OrderFault) → read ≡ Err fault →
    (IsErrOf read orders.TooLong → 1048576 < length text) → (IsErrOf read orders.TooMany → 65536 < length (text_lines text)) →
    ((n : ℕ) → IsErrOf read (orders.Line n) → IsWithin text × IsFirstBad (text_lines text) n) → AnswersText text (Err (fault_of fault))
faulty text read orders.TooLong is long many bad = inl (long is)
faulty text read orders.TooMany is long many bad = inr (many is)
faulty text read (orders.Line n) is long many bad = bad n is
faulty text read orders.Memory is long many bad = tt

-- the answer to a text is that of a desk at its end that gave it
pub ended : (now : DeskState) (text : List ℕ) (result : Result (List Order) OrdersFault) → IsAtEnd now.to_come → length text ≤ 1048576 →
    AnswersText text result → AnswersReads now text result
ended now text (Ok orders) end short answer = (end, answer)
ended now text (Err Unread) end short answer = absurd answer
ended now text (Err TooLong) end short (inl long) = absurd (omega (arith, long, short))
ended now text (Err TooLong) end short (inr many) = inr (end, many)
ended now text (Err (Line n)) end short answer = (end, answer)
ended now text (Err Memory) end short answer = tt

pub reads_whole : (before now : DeskState) (text : List ℕ) (result : Result (List Order) OrdersFault) → GivesWhole 1048576 before now text →
    AnswersText text result → ReadsOrders before now result
reads_whole before now text result gives answer = record {
  given = text;
  consumed = gives.consumed;
  bound = omega (arith, gives.within);
  answer = ended now text result gives.at_end gives.within answer;
}

-- of a text that wasn't read whole the answer is why
pub reads_part : (before now : DeskState) (fault : OrdersFault) → GivesPart 1048576 before now fault → ReadsOrders before now (Err fault)
reads_part before now Unread gives = record { given = gives.given; consumed = gives.consumed; bound = omega (arith, gives.cause); answer = gives.cause }
reads_part before now TooLong gives = record { given = gives.given; consumed = gives.consumed; bound = omega (arith, gives.cause); answer = inl gives.cause }
reads_part before now (Line n) gives = absurd gives.cause
reads_part before now Memory gives = record { given = gives.given; consumed = gives.consumed; bound = omega (arith, ap length gives.cause); answer = tt }

-- what was read to the end is the whole text
pub whole : (text : List ℕ) (now : Option (List ℕ)) (given : List ℕ) → Consumes (Some text) now given → IsAtEnd now → given ≡ text
whole text None given consumed end = absurd consumed
whole text (Some rest) given consumed end = sym (consumed ∙ ap (λ l. given ++ l) end ∙ append-nil given)

-- what was read is no longer than the text
pub front : (text : List ℕ) (now : Option (List ℕ)) (given : List ℕ) → Consumes (Some text) now given → length given ≤ length text
front text None given consumed = absurd consumed
front text (Some rest) given consumed = omega (arith, ap length consumed, length-append given rest)

told_by : (text : List ℕ) (now : DeskState) (given : List ℕ) → Consumes (Some text) now.to_come given → (result : Result (List Order) OrdersFault) →
    AnswersReads now given result → AnswersTold text result
told_by text now given consumed (Ok orders) answer = subst (λ t. AnswersText t (Ok orders)) (whole text now.to_come given consumed answer.0) answer.1
told_by text now given consumed (Err Unread) answer = tt
told_by text now given consumed (Err TooLong) (inl long) = inl (omega (arith, long, front text now.to_come given consumed))
told_by text now given consumed (Err TooLong) (inr many) = subst (λ t. AnswersText t (Err TooLong)) (whole text now.to_come given consumed many.0) (inr many.1)
told_by text now given consumed (Err (Line n)) answer = subst (λ t. AnswersText t (Err (Line n))) (whole text now.to_come given consumed answer.0) answer.1
told_by text now given consumed (Err Memory) answer = tt

pub told : (before now : DeskState) (result : Result (List Order) OrdersFault) → ReadsOrders before now result → (text : List ℕ) → before.to_come ≡ Some text →
    AnswersTold text result
told before now result reads text is = told_by text now reads.given (subst (λ o. Consumes o now.to_come reads.given) is reads.consumed) result reads.answer
