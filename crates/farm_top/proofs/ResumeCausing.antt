-- Why each status of the command `resume` comes.
use Rattle.std.proofs.Common.{◌≡◌, ◌⊎◌, inl, inr, ℕ, ◌<◌, List, [], ◌∷◌, Some, length, drop, refl, sym, ◌∙◌, ap, subst, arith}
use Rattle.std.proofs.Math.Seq.{drop-append_seam}
use Rattle.trau_io.specs.declared.line.Side.{Side}
use Rattle.trau_io.specs.declared.line.Line.{Line as TheLine}
use Rattle.trau_io.specs.Lines.{LineState, Rose}
use Rattle.trau_io.specs.Desks.{DeskState}
use Rattle.trau_orders.specs.Text.{text_lines, GoodOrBad}
use Rattle.round_lines.specs.Rounds.{IsOutgoing}
use Rattle.farm_checkpoint.specs.Marks.{MarkView}
use Rattle.farm_checkpoint.specs.Text.{mark_text, HasOneMark, IsRead, NotGoodAndBad}
use Rattle.farm_orders.specs.declared.marked.MarkedOrders.{MarkedOrders}
use Rattle.farm_orders.specs.Marked.{HasMark, TakenBehind}
use Rattle.farm_run.specs.Runs.{TellsFailed}
use Rattle.farm_top.specs.Farm.{AllStay, line_text, status_of_run}
use Rattle.farm_top.specs.FarmCauses.{HasBadLine, ReadsBadText}
use Rattle.farm_top.specs.Resume.{mark_line_text}
use Rattle.farm_top.specs.ResumeCauses.{HasBadMark, HasBadOrder, HasLongOrders, ReadsTooMuch, ResumeCauses}
use Rattle.farm_top.proofs.Taking.{first_rose, not_long, stayed}

-- ---- what a text is

-- a text has one mark, and so one text of orders behind it
module _ (one : HasOneMark) (good : NotGoodAndBad) where
  as_read : (text : List ℕ) (mark : MarkView) (orders : List ℕ) → HasMark text mark orders → IsRead text mark (length (mark_text mark))
  as_read text mark orders has = record { is = has.is; orders = orders; whole = has.whole; place = refl }

  pub same_mark : (text : List ℕ) (mark other : MarkView) (orders others : List ℕ) → HasMark text mark orders → HasMark text other others → mark ≡ other
  same_mark text mark other orders others first second = (one text mark other _ _ (as_read text mark orders first) (as_read text other others second)).0

  pub same_orders : (text : List ℕ) (mark other : MarkView) (orders others : List ℕ) → HasMark text mark orders → HasMark text other others → orders ≡ others
  same_orders text mark other orders others first second =
      let marks = same_mark text mark other orders others first second in
      let left : drop (length (mark_text mark)) text ≡ orders = ap (drop (length (mark_text mark))) first.whole ∙ drop-append_seam (mark_text mark) orders in
      let right : drop (length (mark_text other)) text ≡ others = ap (drop (length (mark_text other))) second.whole
      ∙ drop-append_seam (mark_text other) others in
      sym left ∙ ap (λ (m : MarkView). drop (length (mark_text m)) text) marks ∙ right

  -- one with a mark has no bad line of a mark
  pub marked_not_bad : (text : List ℕ) (mark : MarkView) (orders : List ℕ) (n : ℕ) → HasMark text mark orders → HasBadMark text n → ⊥
  marked_not_bad text mark orders n has bad = good text mark _ n (as_read text mark orders has) bad.1

  -- one whose orders are within their limits has not too many
  pub not_long_behind : (text : List ℕ) (a : HasLongOrders text) (n : ℕ) → HasBadOrder text n → ⊥
  not_long_behind text a n b = not_long b.orders b.bad.0 (subst (λ (os : List ℕ). (1048576 < length os) ⊎ (65536 < length (text_lines os)))
      (same_orders text a.mark b.mark a.orders b.orders a.has b.has) a.long)

module _ (one : HasOneMark) (mark_good : NotGoodAndBad) (good : GoodOrBad) where
  -- one whose mark and orders are taken has neither a bad line nor too many orders
  pub taken_not_bad : (text : List ℕ) (marked : MarkedOrders) (n : ℕ) → TakenBehind text marked → HasBadOrder text n → ⊥
  taken_not_bad text marked n taken bad =
      let same = same_orders one mark_good text bad.mark marked.mark bad.orders taken.orders bad.has taken.has in
      let there : HasBadLine taken.orders n = subst (λ (os : List ℕ). HasBadLine os n) same bad.bad in
      good (text_lines taken.orders) marked.orders n taken.answer.1 there.1

  pub taken_not_long : (text : List ℕ) (marked : MarkedOrders) → TakenBehind text marked → HasLongOrders text → ⊥
  taken_not_long text marked taken long =
      not_long taken.orders taken.answer.0 (subst (λ (os : List ℕ). (1048576 < length os) ⊎ (65536 < length (text_lines os)))
      (same_orders one mark_good text long.mark marked.mark long.orders taken.orders long.has taken.has) long.long)

-- ---- by the status

module _ (before now : ℕ → Side → LineState) (desk desk' : DeskState) (status : ℕ) where
  -- want of memory
  pub memory_causes : status ≡ 5 → desk'.read_faults ≡ desk.read_faults → ResumeCauses before now desk desk' status
  memory_causes is calm = record {
    known = inr (inr (inr (inr (inl is))));
    read_failed = λ e. absurd (omega (arith, e, is));
    read_rose = λ rose. absurd (omega (arith, rose, calm));
    refused = λ e. absurd (omega (arith, e, is));
    told_bad_mark = λ text n told bad. inr (inr is);
    told_bad_order = λ text n told bad. inr (inr is);
    too_long = λ e. absurd (omega (arith, e, is));
    told_too_long = λ text told long. inr (inl is);
    told_long_orders = λ text told long. inr (inl is);
    unused = λ e. absurd (omega (arith, e, is));
    unwritten = λ e. absurd (omega (arith, e, is));
    desk_failed = λ e. absurd (omega (arith, e, is));
    desk_rose = λ _. inr (inr (inr (inl is)));
    line_failed = λ e. absurd (omega (arith, e, is));
    line_rose = λ c s rose. inr (inl is);
    done = λ e. absurd (omega (arith, e, is));
  }

  -- the desk failed while the text was read
  pub unread_causes : status ≡ 3 → Rose desk.read_faults desk'.read_faults → AllStay before now → ResumeCauses before now desk desk' status
  unread_causes is rose stay = record {
    known = inr (inr (inl is));
    read_failed = λ _. rose;
    read_rose = λ _. is;
    refused = λ e. absurd (omega (arith, e, is));
    told_bad_mark = λ text n told bad. inr (inl is);
    told_bad_order = λ text n told bad. inr (inl is);
    too_long = λ e. absurd (omega (arith, e, is));
    told_too_long = λ text told long. inl is;
    told_long_orders = λ text told long. inl is;
    unused = λ _. stay;
    unwritten = λ e. absurd (omega (arith, e, is));
    desk_failed = λ e. absurd (omega (arith, e, is));
    desk_rose = λ _. inr (inl is);
    line_failed = λ e. absurd (omega (arith, e, is));
    line_rose = λ c s rose. absurd (stayed before now stay c s rose);
    done = λ e. absurd (omega (arith, e, is));
  }

  -- the text is too long
  pub long_causes : status ≡ 7 → desk'.read_faults ≡ desk.read_faults → AllStay before now → ReadsTooMuch desk desk' →
      ((text : List ℕ) (n : ℕ) → desk.to_come ≡ Some text → HasBadMark text n → ⊥) →
      ((text : List ℕ) (n : ℕ) → desk.to_come ≡ Some text → HasBadOrder text n → ⊥) →
      ResumeCauses before now desk desk' status
  long_causes is calm stay long no_mark no_order = record {
    known = inr (inr (inr (inr (inr (inr (inl is))))));
    read_failed = λ e. absurd (omega (arith, e, is));
    read_rose = λ rose. absurd (omega (arith, rose, calm));
    refused = λ e. absurd (omega (arith, e, is));
    told_bad_mark = λ text n told bad. absurd (no_mark text n told bad);
    told_bad_order = λ text n told bad. absurd (no_order text n told bad);
    too_long = λ _. long;
    told_too_long = λ text told also. inr (inr is);
    told_long_orders = λ text told also. inr (inr is);
    unused = λ _. stay;
    unwritten = λ e. absurd (omega (arith, e, is));
    desk_failed = λ e. absurd (omega (arith, e, is));
    desk_rose = λ _. inr (inr (inr (inr (inl is))));
    line_failed = λ e. absurd (omega (arith, e, is));
    line_rose = λ c s rose. absurd (stayed before now stay c s rose);
    done = λ e. absurd (omega (arith, e, is));
  }

  -- a line isn't in the grammar
  pub bad_causes : status ≡ 2 → desk'.read_faults ≡ desk.read_faults → AllStay before now →
      ReadsBadText HasBadMark mark_line_text desk desk' ⊎ ReadsBadText HasBadOrder line_text desk desk' →
      ((text : List ℕ) → desk.to_come ≡ Some text → 1310720 < length text → ⊥) → ((text : List ℕ) → desk.to_come ≡ Some text → HasLongOrders text → ⊥) →
      ResumeCauses before now desk desk' status
  bad_causes is calm stay bad no_length no_orders = record {
    known = inr (inl is);
    read_failed = λ e. absurd (omega (arith, e, is));
    read_rose = λ rose. absurd (omega (arith, rose, calm));
    refused = λ _. bad;
    told_bad_mark = λ text n told also. inl is;
    told_bad_order = λ text n told also. inl is;
    too_long = λ e. absurd (omega (arith, e, is));
    told_too_long = λ text told long. absurd (no_length text told long);
    told_long_orders = λ text told long. absurd (no_orders text told long);
    unused = λ _. stay;
    unwritten = λ e. absurd (omega (arith, e, is));
    desk_failed = λ e. absurd (omega (arith, e, is));
    desk_rose = λ _. inl is;
    line_failed = λ e. absurd (omega (arith, e, is));
    line_rose = λ c s rose. absurd (stayed before now stay c s rose);
    done = λ e. absurd (omega (arith, e, is));
  }

  -- the mark and the orders were taken
  module _ (calm : desk'.read_faults ≡ desk.read_faults) (no_mark : (text : List ℕ) (n : ℕ) → desk.to_come ≡ Some text → HasBadMark text n → ⊥)
      (no_order : (text : List ℕ) (n : ℕ) → desk.to_come ≡ Some text → HasBadOrder text n → ⊥)
      (no_length : (text : List ℕ) → desk.to_come ≡ Some text → 1310720 < length text → ⊥)
      (no_orders : (text : List ℕ) → desk.to_come ≡ Some text → HasLongOrders text → ⊥) where
    -- the mark isn't that of the run
    pub differs_causes : status ≡ 9 → ((c : ℕ) (s : Side) → IsOutgoing s → now c s ≡ before c s) → ResumeCauses before now desk desk' status
    differs_causes is unwritten = record {
      known = inr (inr (inr (inr (inr (inr (inr is))))));
      read_failed = λ e. absurd (omega (arith, e, is));
      read_rose = λ more. absurd (omega (arith, more, calm));
      refused = λ e. absurd (omega (arith, e, is));
      told_bad_mark = λ text n told bad. absurd (no_mark text n told bad);
      told_bad_order = λ text n told bad. absurd (no_order text n told bad);
      too_long = λ e. absurd (omega (arith, e, is));
      told_too_long = λ text told long. absurd (no_length text told long);
      told_long_orders = λ text told long. absurd (no_orders text told long);
      unused = λ some. absurd (omega (arith, some, is));
      unwritten = λ _. unwritten;
      desk_failed = λ e. absurd (omega (arith, e, is));
      desk_rose = λ _. inr (inr (inr (inr (inr is))));
      line_failed = λ e. absurd (omega (arith, e, is));
      line_rose = λ c s rose. inr (inr (inr is));
      done = λ e. absurd (omega (arith, e, is));
    }

    -- the report failed on the desk
    pub untold_causes : status ≡ 4 → Rose desk.write_faults desk'.write_faults → ResumeCauses before now desk desk' status
    untold_causes is rose = record {
      known = inr (inr (inr (inl is)));
      read_failed = λ e. absurd (omega (arith, e, is));
      read_rose = λ more. absurd (omega (arith, more, calm));
      refused = λ e. absurd (omega (arith, e, is));
      told_bad_mark = λ text n told bad. absurd (no_mark text n told bad);
      told_bad_order = λ text n told bad. absurd (no_order text n told bad);
      too_long = λ e. absurd (omega (arith, e, is));
      told_too_long = λ text told long. absurd (no_length text told long);
      told_long_orders = λ text told long. absurd (no_orders text told long);
      unused = λ some. absurd (omega (arith, some, is));
      unwritten = λ e. absurd (omega (arith, e, is));
      desk_failed = λ _. rose;
      desk_rose = λ _. inr (inr (inl is));
      line_failed = λ e. absurd (omega (arith, e, is));
      line_rose = λ c s rose. inl is;
      done = λ e. absurd (omega (arith, e, is));
    }

    -- it went out whole
    pub told_causes : (lines : List TheLine) → status ≡ status_of_run lines → TellsFailed before now lines → desk'.write_faults ≡ desk.write_faults →
        ResumeCauses before now desk desk' status
    told_causes [] is failed silent = record {
      known = inl is;
      read_failed = λ e. absurd (omega (arith, e, is));
      read_rose = λ more. absurd (omega (arith, more, calm));
      refused = λ e. absurd (omega (arith, e, is));
      told_bad_mark = λ text n told bad. absurd (no_mark text n told bad);
      told_bad_order = λ text n told bad. absurd (no_order text n told bad);
      too_long = λ e. absurd (omega (arith, e, is));
      told_too_long = λ text told long. absurd (no_length text told long);
      told_long_orders = λ text told long. absurd (no_orders text told long);
      unused = λ some. absurd (omega (arith, some, is));
      unwritten = λ e. absurd (omega (arith, e, is));
      desk_failed = λ e. absurd (omega (arith, e, is));
      desk_rose = λ more. absurd (omega (arith, more, silent));
      line_failed = λ e. absurd (omega (arith, e, is));
      line_rose = λ c s rose. let same : (now c s).faults ≡ (before c s).faults = failed.failures.kept c s refl in absurd (omega (arith, rose, same));
      done = λ _ c s. failed.failures.kept c s refl;
    }
    told_causes (line ∷ lines) is failed silent = record {
      known = inr (inr (inr (inr (inr (inl is)))));
      read_failed = λ e. absurd (omega (arith, e, is));
      read_rose = λ more. absurd (omega (arith, more, calm));
      refused = λ e. absurd (omega (arith, e, is));
      told_bad_mark = λ text n told bad. absurd (no_mark text n told bad);
      told_bad_order = λ text n told bad. absurd (no_order text n told bad);
      too_long = λ e. absurd (omega (arith, e, is));
      told_too_long = λ text told long. absurd (no_length text told long);
      told_long_orders = λ text told long. absurd (no_orders text told long);
      unused = λ some. absurd (omega (arith, some, is));
      unwritten = λ e. absurd (omega (arith, e, is));
      desk_failed = λ e. absurd (omega (arith, e, is));
      desk_rose = λ more. absurd (omega (arith, more, silent));
      line_failed = λ _. first_rose before now line lines failed;
      line_rose = λ c s rose. inr (inr (inl is));
      done = λ e. absurd (omega (arith, e, is));
    }
