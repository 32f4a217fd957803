use Rattle.std.proofs.Common.{◌≡◌, ◌∙◌, ℕ, refl, sym, ap, subst, None}
use Rattle.switchboard.specs.State.{State, after_turn, reply_of}
use Rattle.switchboard.specs.Runs.{IsRun, TellsEnds}
use Rattle.switchboard.proofs.Orders.Runs.{run_more}
use Rattle.switchboard.proofs.Orders.InRange.{none_left, none_exactly, other_stamp, without_reply, no_reply, refused_answer, last_is}
use Rattle.switchboard.proofs.Boards.Changes.{refused_before}
use Rattle.switchboard.proofs.board.Board.turn.Goals as goal

pub returns-clause-refused : goal.returns-clause-refused
returns-clause-refused c = refused_answer c.args.self.now c.execute.new.self c.in_ok-order.order c.execute.result c.execute.ensures.answer
    c.execute.ensures.state

pub returns-clause-stays : goal.returns-clause-stays
returns-clause-stays c = refused_before c.args.self.now c.execute.new.self c.execute.result.result (returns-clause-refused c)

pub returns-clause-run : goal.returns-clause-run
returns-clause-run c = λ whole r t.
    let e : c.in_ok-order.order.stamp ≡ c.args.period = c.if-order-period.false in
    subst (λ (s : State). IsRun whole s.done) (sym c.execute.ensures.state)
    (run_more whole c.args.self.now c.in_ok-order.order r (subst (λ (t : ℕ). TellsEnds whole t c.args.self.now) (sym e) t))

pub returns-clause-last : goal.returns-clause-last
returns-clause-last c = λ h. last_is c.args.self.now c.execute.new.self c.in_ok-order.order c.args.period c.execute.ensures.state c.if-order-period.false

pub returns-in_err-order : goal.returns-in_err-order
returns-in_err-order c =
    let s = c.args.self.now in
    let left = sym (none_left s.left c.args.period (sym (c.in_err-order.was) ∙ c.next.ensures.value)) in
    let no = c.from_residual.ensures in
    let answer = no ∙ ap (reply_of s) left in
    record {
      state = ap (after_turn s) left;
      answer = answer;
      none = none_exactly s c.args.period c.from_residual.result c.next.ensures.rising c.requires.orders answer;
      refused = without_reply _ _ no;
      accepted = without_reply _ _ no;
      nothing = λ n. refl;
      stays = without_reply _ _ no;
      run = λ whole r t. r;
      kept = refl;
      told = λ t h. h;
      last = no_reply _ _ no;
      range = without_reply _ _ no;
    }

pub returns-then-order-period : goal.returns-then-order-period
returns-then-order-period c =
    let s = c.args.self.now in
    let other = sym (other_stamp s.left c.in_ok-order.order c.args.period (sym c.in_ok-order.was ∙ c.next.ensures.value) c.if-order-period.true) in
    record {
      state = ap (after_turn s) other;
      answer = ap (reply_of s) other;
      none = none_exactly s c.args.period None c.next.ensures.rising c.requires.orders (ap (reply_of s) other);
      refused = tt;
      accepted = tt;
      nothing = λ n. refl;
      stays = tt;
      run = λ whole r t. r;
      kept = refl;
      told = λ t h. h;
      last = no_reply None _ refl;
      range = tt;
    }
