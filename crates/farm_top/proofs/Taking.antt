-- What is done with what the desk told, and what the desk gains of a text.
use Rattle.std.proofs.Common.{◌≡◌, ◌≢◌, ◌⊎◌, inl, inr, ℕ, List, [], ◌∷◌, length, Result, Ok, Err, Option, Some, None, refl, sym, ◌∙◌, ap, subst, arith, ◌<◌}
use Rattle.std.specs.Prelude.{IsErrOf}
use Rattle.std.specs.Io.KnownBytes.{Appends, Consumes, IsAtEnd}
use Rattle.trau_io.specs.declared.line.Side.{Side}
use Rattle.trau_io.specs.declared.line.Line.{Line as TheLine}
use Rattle.trau_io.specs.Lines.{LineState, Rose}
use Rattle.trau_io.specs.Desks.{DeskState}
use Rattle.trau_orders.specs.declared.order.Order.{Order}
use Rattle.trau_orders.specs.Text.{text_lines, GoodOrBad, IsWithin, SpellsOneList}
use Rattle.farm_orders.specs.declared.fault.OrdersFault.{OrdersFault}
use Rattle.farm_orders.specs.declared.fault.OrdersFault.TheVariants.{Unread, TooLong, Line, Memory}
use Rattle.farm_orders.specs.Reading.{AnswersTold, ReadsOrders}
use Rattle.run_spec.specs.Run.{Run}
use Rattle.farm_run.specs.Runs.{NoneRose, OnlyOpenedFail, TellsFailed, is_listed}
use Rattle.farm_run.proofs.Listed.Tests.{listed_head}
use Rattle.farm_top.specs.Farm.{AllStay, FollowsReading, LacksMemory, ReadsAndFollows, TellsRun, status_of_run}
use Rattle.farm_top.specs.FarmClean.{TellsOrders}
use Rattle.farm_top.specs.FarmEnded.{GainsFront}
use Rattle.farm_top.specs.FarmCauses.{SomeOpenedRose, SomeRose}

-- a text within the limits isn't too long
pub not_long : (text : List ℕ) → IsWithin text → (1048576 < length text) ⊎ (65536 < length (text_lines text)) → ⊥
not_long text within (inl long) = omega (arith, within.0, long)
not_long text within (inr long) = omega (arith, within.1, long)

-- a run that lists some line
pub first_rose : (before now : ℕ → Side → LineState) (line : TheLine) (lines : List TheLine) → TellsFailed before now (line ∷ lines) → SomeRose before now
first_rose before now line lines failed = (line.call, line.side, failed.failures.rose line.call line.side (listed_head line lines))

-- with status 6 a run lists some line, one of a call that it opened
pub opened_rose : (r : Run) (before now : ℕ → Side → LineState) (lines : List TheLine) (status : ℕ) → (status ≡ 4) ⊎ (status ≡ status_of_run lines) →
    TellsFailed before now lines → OnlyOpenedFail r (is_listed lines) → status ≡ 6 → SomeOpenedRose r before now
opened_rose r before now lines status (inl four) failed only six = absurd (omega (arith, six, four))
opened_rose r before now [] status (inr is) failed only six = absurd (omega (arith, six, is))
opened_rose r before now (line ∷ lines) status (inr is) failed only six =
    let listed = listed_head line lines in
    (line.call, line.side, only line.call line.side listed, failed.failures.rose line.call line.side listed)

-- of lines that are as they were no count rose
pub stayed : (before now : ℕ → Side → LineState) → AllStay before now → (c : ℕ) (s : Side) → (before c s).faults < (now c s).faults → ⊥
stayed before now stay c s rose = let same : (now c s).faults ≡ (before c s).faults = ap (λ (l : LineState). l.faults) (stay c s) in omega (arith, rose, same)

-- what tells its octets and is at its end has none left
pub none_left : (text given : List ℕ) (now : Option (List ℕ)) → Consumes (Some text) now given → IsAtEnd now → now ≡ Some []
none_left text given None consumed end = absurd consumed
none_left text given (Some rest) consumed end = ap Some end

-- the status of a run isn't that of a failed desk
pub not_four : (lines : List TheLine) → 4 ≡ status_of_run lines → ⊥
not_four [] e = absurd (omega (arith, e))
not_four (line ∷ lines) e = absurd (omega (arith, e))

-- a run of which no line rose lists none
pub done_of : (before now : ℕ → Side → LineState) → NoneRose before now → (lines : List TheLine) → TellsFailed before now lines → status_of_run lines ≡ 0
done_of before now none [] failed = refl
done_of before now none (line ∷ lines) failed = let some = first_rose before now line lines failed in absurd (none some.0 some.1 some.2)

-- What is done with what was read to its end of a desk that told it.
pub record Taken (A : Type 0) (Done : A → DeskState → Type 0) (a : A) (desk : DeskState) : Type 0 where
  pub read : DeskState
  pub written : read.written ≡ desk.written
  pub write_faults : read.write_faults ≡ desk.write_faults
  pub all_read : read.to_come ≡ Some []
  pub done : Done a read

-- or the desk failed while it was read, or there was no memory, and no line was used
pub record NotTaken (before now : ℕ → Side → LineState) (desk desk' : DeskState) (status : ℕ) : Type 0 where
  pub stay : AllStay before now
  pub why : ((status ≡ 3) × Rose desk.read_faults desk'.read_faults) ⊎ (status ≡ 5)

module _ (good : GoodOrBad) (one : SpellsOneList) (done : List Order → DeskState → Type 0) (before now : ℕ → Side → LineState) (desk desk' : DeskState)
    (status : ℕ) (orders : List Order) (told : TellsOrders orders desk) where
  taken_by : (read : DeskState) (reading : Result (List Order) OrdersFault) → ReadsOrders desk read reading → AnswersTold told.text reading →
      (IsErrOf reading Unread → Rose desk.read_faults read.read_faults) → read.written ≡ desk.written → read.write_faults ≡ desk.write_faults →
      FollowsReading done reading before now read desk' status → Taken (List Order) done orders desk ⊎ NotTaken before now desk desk' status
  taken_by read (Ok taken) reads answers unread written silent follows = inl (record {
    read = read;
    written = written;
    write_faults = silent;
    all_read = none_left told.text reads.given read.to_come
        (subst (λ (o : Option (List ℕ)). Consumes o read.to_come reads.given) told.told reads.consumed) reads.answer.0;
    done = subst (λ (os : List Order). done os read) (one (text_lines told.text) taken orders answers.1 told.spelled) follows;
  })
  taken_by read (Err Unread) reads answers unread written silent (stay, ends) =
      inr (record { stay = stay; why = inl (ends.status_is, subst (λ (n : ℕ). Rose desk.read_faults n) (sym ends.text_out.tells.read_faults) (unread refl)) })
  taken_by read (Err TooLong) reads answers unread written silent (stay, ends) = absurd (not_long told.text told.within answers)
  taken_by read (Err (Line n)) reads answers unread written silent (stay, ends) = absurd (good (text_lines told.text) orders n told.spelled answers.1)
  taken_by read (Err Memory) reads answers unread written silent (stay, ends) = inr (record { stay = stay; why = inr ends.status_is })

  pub taken : ReadsAndFollows done before now desk desk' status ⊎ (AllStay before now × LacksMemory desk desk' status) →
      Taken (List Order) done orders desk ⊎ NotTaken before now desk desk' status
  taken (inl ran) = taken_by ran.read ran.reading ran.reads (ran.told told.text told.told) ran.unread ran.written ran.write_faults ran.follows
  taken (inr (stay, ends)) = inr (record { stay = stay; why = inr ends.status_is })

-- what a text's going out says of the desk
module _ (failed : List TheLine) (text : List ℕ) (desk read desk' : DeskState) (status : ℕ) (due : (status ≡ 0) ⊎ (status ≡ 4) ⊎ (status ≡ 6))
    (written : read.written ≡ desk.written) where
  pub whole_out : status ≢ 4 → TellsRun failed text read desk' status → Appends desk.written desk'.written text
  whole_out not (inl (inl (is, tells))) = subst (λ (w : Option (List ℕ)). Appends w desk'.written text) written tells.ok
  whole_out not (inl (inr (is, tells))) = absurd (not is)
  whole_out not (inr ends) = let is = ends.status_is in absurd (omega (arith, due, is))

  pub front_out : status ≡ 4 → TellsRun failed text read desk' status → GainsFront desk.written desk'.written text
  front_out four (inl (inl (is, tells))) = absurd (not_four failed (sym four ∙ is))
  front_out four (inl (inr (is, tells))) = subst (λ (w : Option (List ℕ)). GainsFront w desk'.written text) written tells.err
  front_out four (inr ends) = let is = ends.status_is in absurd (omega (arith, due, is))

  pub status_out : TellsRun failed text read desk' status → (status ≡ 4) ⊎ (status ≡ status_of_run failed)
  status_out (inl (inl (is, tells))) = inr is
  status_out (inl (inr (is, tells))) = inl is
  status_out (inr ends) = let is = ends.status_is in absurd (omega (arith, due, is))

  pub read_out : TellsRun failed text read desk' status → desk'.to_come ≡ read.to_come
  read_out (inl (inl (is, tells))) = tells.to_come
  read_out (inl (inr (is, tells))) = tells.to_come
  read_out (inr ends) = ends.text_out.tells.to_come
