-- Why each status of the command `resume` comes, by what was read.
use Rattle.std.proofs.Common.{◌≡◌, ◌⊎◌, inl, inr, ℕ, ◌<◌, List, Result, Ok, Err, Some, length, refl, sym, ◌∙◌, subst, arith}
use Rattle.std.specs.Prelude.{IsErrOf}
use Rattle.std.specs.Io.KnownBytes.{Consumes, IsAtEnd}
use Rattle.trau_io.specs.declared.line.Side.{Side}
use Rattle.trau_io.specs.Lines.{LineState, Rose}
use Rattle.trau_io.specs.Desks.{DeskState}
use Rattle.trau_orders.specs.Text.{GoodOrBad}
use Rattle.farm_checkpoint.specs.Text.{HasOneMark, NotGoodAndBad}
use Rattle.farm_orders.specs.declared.fault.MarkedFault.{MarkedFault}
use Rattle.farm_orders.specs.declared.fault.MarkedFault.TheVariants.{Mark, Orders}
use Rattle.farm_orders.specs.declared.fault.OrdersFault.TheVariants.{Unread, TooLong, Line, Memory}
use Rattle.farm_orders.specs.declared.marked.MarkedOrders.{MarkedOrders}
use Rattle.farm_orders.specs.Marked.{AnswersMarkedTold, IsShort, ReadsMarked, RefusedBehind, TakenBehind}
use Rattle.command_words.specs.declared.asked.Settings.{Settings}
use Rattle.farm_top.specs.Farm.{LacksMemory, TellsReport}
use Rattle.farm_top.specs.Resume.{CarriesResume, FollowsMarked, ResumesAndTells, ResumesOrders}
use Rattle.farm_top.specs.ResumeCauses.{HasBadMark, HasBadOrder, HasLongOrders, ReadsTooMuch, ResumeCauses}
use Rattle.farm_top.proofs.ResumeCausing.{bad_causes, differs_causes, long_causes, marked_not_bad, memory_causes, not_long_behind, taken_not_bad}
use Rattle.farm_top.proofs.ResumeCausing.{taken_not_long, told_causes, unread_causes, untold_causes}

module _ (good : GoodOrBad) (mark_good : NotGoodAndBad) (one : HasOneMark) (s : Settings) (before now : ℕ → Side → LineState) (desk read desk' : DeskState)
    (status : ℕ) where
  lacks : read.read_faults ≡ desk.read_faults → LacksMemory read desk' status → ResumeCauses before now desk desk' status
  lacks calm ends = memory_causes before now desk desk' status ends.status_is (ends.text_out.tells.read_faults ∙ calm)

  module _ (marked : MarkedOrders) (calm : read.read_faults ≡ desk.read_faults) (silent : read.write_faults ≡ desk.write_faults)
      (told : (text : List ℕ) → desk.to_come ≡ Some text → IsShort text × TakenBehind text marked) where
    no_mark : (text : List ℕ) (n : ℕ) → desk.to_come ≡ Some text → HasBadMark text n → ⊥
    no_mark text n e bad = marked_not_bad one mark_good text marked.mark (told text e).1.orders n (told text e).1.has bad

    no_order : (text : List ℕ) (n : ℕ) → desk.to_come ≡ Some text → HasBadOrder text n → ⊥
    no_order text n e bad = taken_not_bad one mark_good good text marked n (told text e).1 bad

    no_length : (text : List ℕ) → desk.to_come ≡ Some text → 1310720 < length text → ⊥
    no_length text e long = omega (arith, long, (told text e).0)

    no_orders : (text : List ℕ) → desk.to_come ≡ Some text → HasLongOrders text → ⊥
    no_orders text e long = taken_not_long one mark_good good text marked (told text e).1 long

    reported : (ran : ResumesAndTells marked s before now read desk' status) → TellsReport ran.report read desk' status →
        ResumeCauses before now desk desk' status
    reported ran (inl (inl (is, tells))) =
        told_causes before now desk desk' status (tells.read_faults ∙ calm) no_mark no_order no_length no_orders ran.report.failed is ran.resumes.failed
        (tells.cause.ok ∙ silent)
    reported ran (inl (inr (is, tells))) =
        untold_causes before now desk desk' status (tells.read_faults ∙ calm) no_mark no_order no_length no_orders is
        (subst (λ n. Rose n desk'.write_faults) silent tells.cause.failed)
    reported ran (inr ends) = lacks calm ends

    done : ResumesOrders s before now desk' status marked read → ResumeCauses before now desk desk' status
    done (inl ran) = reported ran ran.tells
    done (inr (inl finds)) =
        differs_causes before now desk desk' status
        (finds.ends.text_out.tells.read_faults ∙ calm) no_mark no_order no_length no_orders finds.ends.status_is finds.finds.unwritten
    done (inr (inr (cut, ends))) = lacks calm ends

  too_much : (given : List ℕ) → Consumes desk.to_come desk'.to_come given →
      (length given ≡ 1310721) ⊎ (IsAtEnd desk'.to_come × IsShort given × RefusedBehind given TooLong) → ReadsTooMuch desk desk'
  too_much given consumed (inl long) = record { given = given; consumed = consumed; long = inl long }
  too_much given consumed (inr (end, short, behind)) =
      record {
        given = given;
        consumed = consumed;
        long = inr (end, record { short = short; mark = behind.mark; orders = behind.orders; has = behind.has; long = behind.answer });
      }

  long_not_bad : (text : List ℕ) (n : ℕ) → (1310720 < length text) ⊎ (IsShort text × RefusedBehind text TooLong) → HasBadMark text n → ⊥
  long_not_bad text n (inl long) bad = omega (arith, long, bad.0)
  long_not_bad text n (inr (short, behind)) bad = marked_not_bad one mark_good text behind.mark behind.orders n behind.has bad

  long_not_bad_order : (text : List ℕ) (n : ℕ) → (1310720 < length text) ⊎ (IsShort text × RefusedBehind text TooLong) → HasBadOrder text n → ⊥
  long_not_bad_order text n (inl long) bad = omega (arith, long, bad.short)
  long_not_bad_order text n (inr (short, behind)) bad =
      not_long_behind one mark_good text (record { short = short; mark = behind.mark; orders = behind.orders; has = behind.has; long = behind.answer }) n bad

  bad_order : (text : List ℕ) (n : ℕ) → IsShort text × RefusedBehind text (Line n) → HasBadOrder text n
  bad_order text n (short, behind) = record { short = short; mark = behind.mark; orders = behind.orders; has = behind.has; bad = behind.answer }

  pub follows_causes : (reading : Result MarkedOrders MarkedFault) → ReadsMarked desk read reading →
      ((text : List ℕ) → desk.to_come ≡ Some text → AnswersMarkedTold text reading) →
      (IsErrOf reading (Orders Unread) → Rose desk.read_faults read.read_faults) →
      ((IsErrOf reading (Orders Unread) → ⊥) → read.read_faults ≡ desk.read_faults) →
      read.written ≡ desk.written → read.write_faults ≡ desk.write_faults → FollowsMarked s reading before now read desk' status →
      ResumeCauses before now desk desk' status
  follows_causes (Ok marked) reads told unread calm written silent follows = done marked (calm (λ e. cc)) silent told follows
  follows_causes (Err (Orders Unread)) reads told unread calm written silent (stay, ends) =
      unread_causes before now desk desk' status ends.status_is (subst (λ n. Rose desk.read_faults n) (sym ends.text_out.tells.read_faults) (unread refl)) stay
  follows_causes (Err (Orders TooLong)) reads told unread calm written silent (stay, ends) =
      let same = sym ends.text_out.tells.to_come in
      long_causes before now desk desk' status ends.status_is (ends.text_out.tells.read_faults ∙ calm (λ e. cc)) stay
      (too_much reads.given (subst (λ t. Consumes desk.to_come t reads.given) same reads.consumed)
      (subst (λ t. (length reads.given ≡ 1310721) ⊎ (IsAtEnd t × IsShort reads.given × RefusedBehind reads.given TooLong)) same reads.answer))
      (λ text n e bad. long_not_bad text n (told text e) bad) (λ text n e bad. long_not_bad_order text n (told text e) bad)
  follows_causes (Err (Orders (Line n))) reads told unread calm written silent (stay, inl ends) =
      let same = sym ends.text_out.tells.to_come in
      bad_causes before now desk desk' status ends.status_is (ends.text_out.tells.read_faults ∙ calm (λ e. cc)) stay
      (inr (record {
        given = reads.given;
        n = n;
        consumed = subst (λ t. Consumes desk.to_come t reads.given) same reads.consumed;
        at_end = subst (λ t. IsAtEnd t) same reads.answer.0;
        bad = bad_order reads.given n reads.answer.1;
        read = read;
        written = written;
        write_faults = silent;
        text_out = ends.text_out;
      }))
      (λ text e long. omega (arith, long, (told text e).0)) (λ text e long. not_long_behind one mark_good text long n (bad_order text n (told text e)))
  follows_causes (Err (Orders (Line n))) reads told unread calm written silent (stay, inr ends) = lacks (calm (λ e. cc)) ends
  follows_causes (Err (Orders Memory)) reads told unread calm written silent (stay, ends) = lacks (calm (λ e. cc)) ends
  follows_causes (Err (Mark n)) reads told unread calm written silent (stay, inl ends) =
      let same = sym ends.text_out.tells.to_come in
      bad_causes before now desk desk' status ends.status_is (ends.text_out.tells.read_faults ∙ calm (λ e. cc)) stay
      (inl (record {
        given = reads.given;
        n = n;
        consumed = subst (λ t. Consumes desk.to_come t reads.given) same reads.consumed;
        at_end = subst (λ t. IsAtEnd t) same reads.answer.0;
        bad = reads.answer.1;
        read = read;
        written = written;
        write_faults = silent;
        text_out = ends.text_out;
      }))
      (λ text e long. omega (arith, long, (told text e).0)) (λ text e long. marked_not_bad one mark_good text long.mark long.orders n long.has (told text e))
  follows_causes (Err (Mark n)) reads told unread calm written silent (stay, inr ends) = lacks (calm (λ e. cc)) ends

module _ (good : GoodOrBad) (mark_good : NotGoodAndBad) (one : HasOneMark) (s : Settings) (before now : ℕ → Side → LineState) (desk desk' : DeskState)
    (status : ℕ) where
  -- **So each status has its cause.**
  pub resume_causes : CarriesResume s before now desk desk' status → ResumeCauses before now desk desk' status
  resume_causes (inl ran) = follows_causes good mark_good one s before now desk ran.read desk' status ran.reading ran.reads ran.told ran.unread ran.calm
      ran.written ran.write_faults ran.follows
  resume_causes (inr (stay, ends)) = memory_causes before now desk desk' status ends.status_is ends.text_out.tells.read_faults
