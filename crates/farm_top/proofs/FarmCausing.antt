-- Why each status of the commands `run` and `save` comes.
use Rattle.std.proofs.Common.{◌≡◌, ◌⊎◌, inl, inr, ℕ, ◌<◌, List, [], ◌∷◌, Result, Ok, Err, Some, length, refl, sym, ◌∙◌, subst, arith}
use Rattle.std.specs.Prelude.{IsErrOf}
use Rattle.std.specs.Io.KnownBytes.{Consumes, IsAtEnd}
use Rattle.trau_io.specs.declared.line.Side.{Side}
use Rattle.trau_io.specs.declared.line.Line.{Line as TheLine}
use Rattle.trau_io.specs.Lines.{LineState, Rose}
use Rattle.trau_io.specs.Desks.{DeskState}
use Rattle.trau_orders.specs.declared.order.Order.{Order}
use Rattle.trau_orders.specs.Text.{text_lines, IsFirstBad, IsWithin, GoodOrBad}
use Rattle.farm_orders.specs.declared.fault.OrdersFault.{OrdersFault}
use Rattle.farm_orders.specs.declared.fault.OrdersFault.TheVariants.{Unread, TooLong, Line, Memory}
use Rattle.farm_orders.specs.Reading.{ReadsOrders, AnswersTold}
use Rattle.farm_report.specs.Lines.{report_text}
use Rattle.farm_run.specs.Runs.{TellsFailed}
use Rattle.command_words.specs.declared.asked.Settings.{Settings}
use Rattle.farm_top.specs.Farm.{AllStay, CarriesRun, FollowsReading, LacksMemory, ReadsAndFollows, RunsOrders, TellsDue, TellsRun, status_of_run}
use Rattle.farm_top.specs.FarmCauses.{ReadsBadLine, ReadsTooLong, RunCauses}
use Rattle.farm_top.specs.Save.{CarriesSave, SavesOrders, saved_text}
use Rattle.farm_top.proofs.Taking.{first_rose, not_long, stayed}

module _ (before now : ℕ → Side → LineState) (desk desk' : DeskState) (status : ℕ) where
  -- want of memory
  memory_causes : status ≡ 5 → desk'.read_faults ≡ desk.read_faults → RunCauses before now desk desk' status
  memory_causes is calm = record {
    known = inr (inr (inr (inr (inl is))));
    read_failed = λ e. absurd (omega (arith, e, is));
    read_rose = λ rose. absurd (omega (arith, rose, calm));
    refused = λ e. absurd (omega (arith, e, is));
    told_refused = λ text n told within bad. inr (inr is);
    too_long = λ e. absurd (omega (arith, e, is));
    told_too_long = λ text told long. inr (inl is);
    unused = λ e. absurd (omega (arith, e, is));
    desk_failed = λ e. absurd (omega (arith, e, is));
    desk_rose = λ _. inr (inr (inr (inl is)));
    line_failed = λ e. absurd (omega (arith, e, is));
    line_rose = λ c s rose. inr (inl is);
    done = λ e. absurd (omega (arith, e, is));
  }

  -- the desk failed while the orders were read
  unread_causes : status ≡ 3 → Rose desk.read_faults desk'.read_faults → AllStay before now → RunCauses before now desk desk' status
  unread_causes is rose stay = record {
    known = inr (inr (inl is));
    read_failed = λ _. rose;
    read_rose = λ _. is;
    refused = λ e. absurd (omega (arith, e, is));
    told_refused = λ text n told within bad. inr (inl is);
    too_long = λ e. absurd (omega (arith, e, is));
    told_too_long = λ text told long. inl is;
    unused = λ _. stay;
    desk_failed = λ e. absurd (omega (arith, e, is));
    desk_rose = λ _. inr (inl is);
    line_failed = λ e. absurd (omega (arith, e, is));
    line_rose = λ c s rose. absurd (stayed before now stay c s rose);
    done = λ e. absurd (omega (arith, e, is));
  }

  -- the orders are too long
  long_causes : status ≡ 7 → desk'.read_faults ≡ desk.read_faults → AllStay before now → ReadsTooLong desk desk' →
      ((text : List ℕ) → desk.to_come ≡ Some text → (1048576 < length text) ⊎ (65536 < length (text_lines text))) → RunCauses before now desk desk' status
  long_causes is calm stay long told_long = record {
    known = inr (inr (inr (inr (inr (inr is)))));
    read_failed = λ e. absurd (omega (arith, e, is));
    read_rose = λ rose. absurd (omega (arith, rose, calm));
    refused = λ e. absurd (omega (arith, e, is));
    told_refused = λ text n told within bad. absurd (not_long text within (told_long text told));
    too_long = λ _. long;
    told_too_long = λ text told also. inr (inr is);
    unused = λ _. stay;
    desk_failed = λ e. absurd (omega (arith, e, is));
    desk_rose = λ _. inr (inr (inr (inr is)));
    line_failed = λ e. absurd (omega (arith, e, is));
    line_rose = λ c s rose. absurd (stayed before now stay c s rose);
    done = λ e. absurd (omega (arith, e, is));
  }

  -- a line isn't in the grammar
  bad_causes : status ≡ 2 → desk'.read_faults ≡ desk.read_faults → AllStay before now → ReadsBadLine desk desk' →
      ((text : List ℕ) → desk.to_come ≡ Some text → IsWithin text) → RunCauses before now desk desk' status
  bad_causes is calm stay bad told_within = record {
    known = inr (inl is);
    read_failed = λ e. absurd (omega (arith, e, is));
    read_rose = λ rose. absurd (omega (arith, rose, calm));
    refused = λ _. bad;
    told_refused = λ text n told within also. inl is;
    too_long = λ e. absurd (omega (arith, e, is));
    told_too_long = λ text told long. absurd (not_long text (told_within text told) long);
    unused = λ _. stay;
    desk_failed = λ e. absurd (omega (arith, e, is));
    desk_rose = λ _. inl is;
    line_failed = λ e. absurd (omega (arith, e, is));
    line_rose = λ c s rose. absurd (stayed before now stay c s rose);
    done = λ e. absurd (omega (arith, e, is));
  }

  -- the run's text failed on the desk
  untold_causes : status ≡ 4 → desk'.read_faults ≡ desk.read_faults → Rose desk.write_faults desk'.write_faults →
      ((text : List ℕ) → desk.to_come ≡ Some text → IsWithin text) → ((text : List ℕ) (n : ℕ) → desk.to_come ≡ Some text → IsFirstBad (text_lines text) n → ⊥) →
      RunCauses before now desk desk' status
  untold_causes is calm rose told_within told_good = record {
    known = inr (inr (inr (inl is)));
    read_failed = λ e. absurd (omega (arith, e, is));
    read_rose = λ more. absurd (omega (arith, more, calm));
    refused = λ e. absurd (omega (arith, e, is));
    told_refused = λ text n told within bad. absurd (told_good text n told bad);
    too_long = λ e. absurd (omega (arith, e, is));
    told_too_long = λ text told long. absurd (not_long text (told_within text told) long);
    unused = λ some. absurd (omega (arith, some, is));
    desk_failed = λ _. rose;
    desk_rose = λ _. inr (inr (inl is));
    line_failed = λ e. absurd (omega (arith, e, is));
    line_rose = λ c s rose. inl is;
    done = λ e. absurd (omega (arith, e, is));
  }

  -- the run's text went out whole
  told_causes : (lines : List TheLine) → status ≡ status_of_run lines → TellsFailed before now lines →
      desk'.read_faults ≡ desk.read_faults → desk'.write_faults ≡ desk.write_faults →
      ((text : List ℕ) → desk.to_come ≡ Some text → IsWithin text) → ((text : List ℕ) (n : ℕ) → desk.to_come ≡ Some text → IsFirstBad (text_lines text) n → ⊥) →
      RunCauses before now desk desk' status
  told_causes [] is failed calm silent told_within told_good = record {
    known = inl is;
    read_failed = λ e. absurd (omega (arith, e, is));
    read_rose = λ more. absurd (omega (arith, more, calm));
    refused = λ e. absurd (omega (arith, e, is));
    told_refused = λ text n told within bad. absurd (told_good text n told bad);
    too_long = λ e. absurd (omega (arith, e, is));
    told_too_long = λ text told long. absurd (not_long text (told_within text told) long);
    unused = λ some. absurd (omega (arith, some, is));
    desk_failed = λ e. absurd (omega (arith, e, is));
    desk_rose = λ more. absurd (omega (arith, more, silent));
    line_failed = λ e. absurd (omega (arith, e, is));
    line_rose = λ c s rose. let same : (now c s).faults ≡ (before c s).faults = failed.failures.kept c s refl in absurd (omega (arith, rose, same));
    done = λ _ c s. failed.failures.kept c s refl;
  }
  told_causes (line ∷ lines) is failed calm silent told_within told_good = record {
    known = inr (inr (inr (inr (inr (inl is)))));
    read_failed = λ e. absurd (omega (arith, e, is));
    read_rose = λ more. absurd (omega (arith, more, calm));
    refused = λ e. absurd (omega (arith, e, is));
    told_refused = λ text n told within bad. absurd (told_good text n told bad);
    too_long = λ e. absurd (omega (arith, e, is));
    told_too_long = λ text told long. absurd (not_long text (told_within text told) long);
    unused = λ some. absurd (omega (arith, some, is));
    desk_failed = λ e. absurd (omega (arith, e, is));
    desk_rose = λ more. absurd (omega (arith, more, silent));
    line_failed = λ _. first_rose before now line lines failed;
    line_rose = λ c s rose. inr (inr is);
    done = λ e. absurd (omega (arith, e, is));
  }

-- what is done with orders ends with a text of a run and the lines that failed in it, or there was no memory
abbrev pub EndsTold : (ℕ → Side → LineState) → (ℕ → Side → LineState) → DeskState → DeskState → ℕ → Type 0
EndsTold before now read desk' status =
    ((failed : List TheLine) × (text : List ℕ) × TellsFailed before now failed × TellsDue (status_of_run failed) text read desk' status)
    ⊎ LacksMemory read desk' status

module _ (good : GoodOrBad) (done : List Order → DeskState → Type 0) (before now : ℕ → Side → LineState) (desk read desk' : DeskState) (status : ℕ)
    (ends : (orders : List Order) → done orders read → EndsTold before now read desk' status) where
  lacks : read.read_faults ≡ desk.read_faults → LacksMemory read desk' status → RunCauses before now desk desk' status
  lacks calm ends = memory_causes before now desk desk' status ends.status_is (ends.text_out.tells.read_faults ∙ calm)

  done_causes : (orders : List Order) → read.read_faults ≡ desk.read_faults → read.write_faults ≡ desk.write_faults →
      ((text : List ℕ) → desk.to_come ≡ Some text → AnswersTold text (Ok orders)) → EndsTold before now read desk' status →
      RunCauses before now desk desk' status
  done_causes orders calm silent told (inl (failed, text, fails, inl (is, tells))) =
      told_causes before now desk desk' status failed is fails (tells.read_faults ∙ calm) (tells.cause.ok ∙ silent)
      (λ text e. (told text e).0) (λ text n e bad. good _ orders n (told text e).1 bad)
  done_causes orders calm silent told (inl (failed, text, fails, inr (is, tells))) =
      untold_causes before now desk desk' status is (tells.read_faults ∙ calm) (subst (λ n. Rose n desk'.write_faults) silent tells.cause.failed)
      (λ text e. (told text e).0) (λ text n e bad. good _ orders n (told text e).1 bad)
  done_causes orders calm silent told (inr ends) = lacks calm ends

  follows_causes : (reading : Result (List Order) OrdersFault) → ReadsOrders desk read reading →
      ((text : List ℕ) → desk.to_come ≡ Some text → AnswersTold text reading) →
      (IsErrOf reading Unread → Rose desk.read_faults read.read_faults) → ((IsErrOf reading Unread → ⊥) → read.read_faults ≡ desk.read_faults) →
      read.written ≡ desk.written → read.write_faults ≡ desk.write_faults → FollowsReading done reading before now read desk' status →
      RunCauses before now desk desk' status
  follows_causes (Ok orders) reads told unread calm written silent follows = done_causes orders (calm (λ e. cc)) silent told (ends orders follows)
  follows_causes (Err Unread) reads told unread calm written silent (stay, ends) =
      unread_causes before now desk desk' status ends.status_is (subst (λ n. Rose desk.read_faults n) (sym ends.text_out.tells.read_faults) (unread refl)) stay
  follows_causes (Err TooLong) reads told unread calm written silent (stay, ends) =
      let same = sym ends.text_out.tells.to_come in
      long_causes before now desk desk' status ends.status_is (ends.text_out.tells.read_faults ∙ calm (λ e. cc)) stay
      (record {
        given = reads.given;
        consumed = subst (λ t. Consumes desk.to_come t reads.given) same reads.consumed;
        long = subst (λ t. (length reads.given ≡ 1048577) ⊎ (IsAtEnd t × (65536 < length (text_lines reads.given)))) same reads.answer;
      })
      told
  follows_causes (Err (Line n)) reads told unread calm written silent (stay, inl ends) =
      let same = sym ends.text_out.tells.to_come in
      bad_causes before now desk desk' status ends.status_is (ends.text_out.tells.read_faults ∙ calm (λ e. cc)) stay
      (record {
        given = reads.given;
        n = n;
        consumed = subst (λ t. Consumes desk.to_come t reads.given) same reads.consumed;
        at_end = subst (λ t. IsAtEnd t) same reads.answer.0;
        bad = reads.answer.1;
        read = read;
        written = written;
        write_faults = silent;
        text_out = ends.text_out;
      })
      (λ text e. (told text e).0)
  follows_causes (Err (Line n)) reads told unread calm written silent (stay, inr ends) = lacks (calm (λ e. cc)) ends
  follows_causes (Err Memory) reads told unread calm written silent (stay, ends) = lacks (calm (λ e. cc)) ends

module _ (good : GoodOrBad) (s : Settings) (before now : ℕ → Side → LineState) (desk desk' : DeskState) (status : ℕ) where
  -- whatever is done with orders that ends so
  by_reading : (done : List Order → DeskState → Type 0) →
      ((orders : List Order) (read : DeskState) → done orders read → EndsTold before now read desk' status) →
      ReadsAndFollows done before now desk desk' status ⊎ (AllStay before now × LacksMemory desk desk' status) → RunCauses before now desk desk' status
  by_reading done ends (inl ran) =
      follows_causes good done before now desk ran.read desk' status
      (λ orders. ends orders ran.read) ran.reading ran.reads ran.told ran.unread ran.calm ran.written ran.write_faults ran.follows
  by_reading done ends (inr (stay, lacks)) = memory_causes before now desk desk' status lacks.status_is lacks.text_out.tells.read_faults

  ends_told : (failed : List TheLine) (text : List ℕ) (read : DeskState) → TellsFailed before now failed → TellsRun failed text read desk' status →
      EndsTold before now read desk' status
  ends_told failed text read fails (inl tells) = inl (failed, text, fails, tells)
  ends_told failed text read fails (inr ends) = inr ends

  run_ends : (orders : List Order) (read : DeskState) → RunsOrders s before now desk' status orders read → EndsTold before now read desk' status
  run_ends orders read (inl ran) = ends_told ran.report.failed (report_text ran.report) read ran.runs.failed ran.tells
  run_ends orders read (inr (cut, ends)) = inr ends

  save_ends : (orders : List Order) (read : DeskState) → SavesOrders s before now desk' status orders read → EndsTold before now read desk' status
  save_ends orders read (inl ran) = ends_told ran.saved.failed (saved_text ran.saved.failed ran.saved.mark) read ran.saves.failed ran.tells
  save_ends orders read (inr (cut, ends)) = inr ends

  -- **So each status of `run` and `save` has its cause.**
  pub run_causes : CarriesRun s before now desk desk' status → RunCauses before now desk desk' status
  run_causes carried = by_reading (RunsOrders s before now desk' status) run_ends carried

  pub save_causes : CarriesSave s before now desk desk' status → RunCauses before now desk desk' status
  save_causes carried = by_reading (SavesOrders s before now desk' status) save_ends carried
