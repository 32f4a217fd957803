use Rattle.std.proofs.Common.{◌<◌, refl, sym, ap, ◌∙◌, subst, arith, List, length}
use Rattle.std.specs.Prelude.{IfOk, OnErr, Err}
use Rattle.trau_orders.specs.Lists.{AreOrders}
use Rattle.switchboard.specs.Replies.{IsInRange}
use Rattle.switchboard.specs.Open.{IsExecuted, IsAsBefore}
use Rattle.trau_io.specs.declared.line.Line.{Line}
use Rattle.run_spec.specs.Run.{Run}
use Rattle.farm_run.specs.Match.{histories_at, FollowsRun}
use Rattle.farm_run.specs.declared.notes.SentBefore.{SentBefore}
use Rattle.farm_run.specs.Standing.{KnowsListed}
use Rattle.farm_run.specs.Noted.{IsNotedAt}
use Rattle.farm_run.proofs.Noted.Orders.{noted_quiet, noted_accepted}
use Rattle.farm_run.proofs.Ordered.Doing.{done_then, board_turned, board_then}
use Rattle.farm_run.proofs.Ordered.Due.{due_of, left_fewer, ahead_more}
use Rattle.farm_run.proofs.Ordered.Following.{follows_more, follows_same}
use Rattle.farm_run.proofs.Ordered.Matching.{fits, matches_more, matches_same}
use Rattle.farm_run.proofs.Told.Few.{one_more}
use Rattle.farm_run.proofs.Lines.Cutting.{on_err}
use Rattle.farm_run.proofs.Listed.Boards.{new_unlisted, knows_turned}
use Rattle.farm_run.proofs.orders.execute_orders.Goals as goal

pub apply-requires-clause-fresh : goal.apply-requires-clause-fresh
apply-requires-clause-fresh c =
    let b = c.loop-reply.board in
    new_unlisted b c.loop-reply.farm.failed c.in-Ok.act
    (let does : IsExecuted b c.turn.new.self c.args.clock c.in-Ok.act = subst (λ x. IfOk x (IsExecuted b c.turn.new.self c.args.clock)) c.in-Ok.is
    c.in-Some.ensures.accepted in does.finds)
    c.loop-reply.invariant.ready.knows

pub apply-requires-clause-fits : goal.apply-requires-clause-fits
apply-requires-clause-fits c =
    let b = c.loop-reply.board in
    let does : IsExecuted b c.turn.new.self c.args.clock c.in-Ok.act = subst (λ x. IfOk x (IsExecuted b c.turn.new.self c.args.clock)) c.in-Ok.is
    c.in-Some.ensures.accepted in
    fits b c.loop-reply.farm.calls c.in-Ok.act c.loop-reply.invariant.ready.clock.matches does.finds
    (subst (λ x. IfOk x IsInRange) c.in-Ok.is c.in-Some.ensures.range)

pub loop-reply-preserved : goal.loop-reply-preserved
loop-reply-preserved c =
    let t = c.args.clock in
    let b = c.loop-reply.board in
    let farm = c.loop-reply.farm in
    let ns = c.loop-reply.notes in
    let n = c.turn.new.self in
    let later = c.apply.new.self in
    let e = c.in-Some.ensures in
    let ready = c.loop-reply.invariant.ready in
    let due = due_of b n t c.in-Some.reply (sym c.in-Some.is ∙ c.turn.ensures.answer) c.turn.ensures.state in
    let more = one_more b n (left_fewer _ _ _ _ due) c.turn.ensures.kept in
    let does : IsExecuted b n t c.in-Ok.act = subst (λ x. IfOk x (IsExecuted b n t)) c.in-Ok.is e.accepted in
    let follows : (r : Run) → t < r.periods → FollowsRun r t b farm.calls → FollowsRun r t n later.calls = λ r under f.
    follows_more r t b n c.in-Some.reply farm.calls due under (c.turn.ensures.run _ f.so_far.replies f.tells) f c.in-Ok.act c.in-Ok.is does.finds does.is_open does.law
    later.calls c.in_ok-apply.ensures.history in
    done_then t _ _ _ b n farm later ns c.note.new.notes c.loop-reply.invariant (record {
      ready = record {
        clock = record {
          orders = subst AreOrders (sym c.turn.ensures.kept) ready.clock.orders;
          ahead = ahead_more b n t c.in-Some.reply ready.clock.orders due;
          past = omega (arith, e.last refl);
          ends = c.turn.ensures.told t ready.clock.ends;
          matches = matches_more b n farm.calls later.calls c.in-Ok.act ready.clock.matches does.finds does.is_open does.partner c.in_ok-apply.ensures.calls
              c.in_ok-apply.ensures.partners;
        };
        few = omega (arith, ap length c.turn.ensures.kept, ready.few);
        bridges = omega (arith, more.1, ready.bridges, c.note.ensures.bridges);
        knows = subst (λ (ls : List Line). KnowsListed n ls) (sym c.apply.ensures.failed) (knows_turned b n _ farm.failed c.turn.ensures.state ready.knows);
      };
      board = board_turned t b n _ c.turn.ensures.state c.turn.ensures.kept ready.clock.orders (omega (arith, e.last refl));
      ended = c.apply.ensures.ended;
      failed = c.apply.ensures.failed;
      follows = follows;
      noted = λ r under f noted.
          let h = histories_at r b.done t in
          subst (λ (k : List SentBefore). IsNotedAt r n.done t k later.tallies) (sym (c.note.ensures.noted h f.stands))
          (noted_accepted r t b n c.in-Some.reply farm.calls later.calls due under f (follows r under f) ns farm.tallies later.tallies noted c.in-Ok.act c.in-Ok.is
          does.finds does.opened does.is_open (c.in_ok-apply.ensures.tallies h f.stands));
    })

pub loop-reply-preserved-in_default-result : goal.loop-reply-preserved-in_default-result
loop-reply-preserved-in_default-result c =
    let t = c.args.clock in
    let b = c.loop-reply.board in
    let farm = c.loop-reply.farm in
    let ns = c.loop-reply.notes in
    let n = c.turn.new.self in
    let e = c.in-Some.ensures in
    let ready = c.loop-reply.invariant.ready in
    let due = due_of b n t c.in-Some.reply (sym c.in-Some.is ∙ c.turn.ensures.answer) c.turn.ensures.state in
    let more = one_more b n (left_fewer _ _ _ _ due) c.turn.ensures.kept in
    let same : IsAsBefore b n = subst (λ x. OnErr x (IsAsBefore b n)) c.in_default-result.is e.stays in
    let follows : (r : Run) → t < r.periods → FollowsRun r t b farm.calls → FollowsRun r t n farm.calls = λ r under f.
    follows_same r t b n c.in-Some.reply farm.calls due under (c.turn.ensures.run _ f.so_far.replies f.tells) f c.in_default-result.field-0
    c.in_default-result.is same.is_open in
    done_then t _ _ _ b n farm farm ns ns c.loop-reply.invariant (record {
      ready = record {
        clock = record {
          orders = subst AreOrders (sym c.turn.ensures.kept) ready.clock.orders;
          ahead = ahead_more b n t c.in-Some.reply ready.clock.orders due;
          past = omega (arith, e.last refl);
          ends = c.turn.ensures.told t ready.clock.ends;
          matches = matches_same b n farm.calls ready.clock.matches same.is_open same.partner;
        };
        few = omega (arith, ap length c.turn.ensures.kept, ready.few);
        bridges = omega (arith, more.1, ready.bridges);
        knows = knows_turned b n _ farm.failed c.turn.ensures.state ready.knows;
      };
      board = board_turned t b n _ c.turn.ensures.state c.turn.ensures.kept ready.clock.orders (omega (arith, e.last refl));
      ended = refl;
      failed = refl;
      follows = follows;
      noted = λ r under f noted.
          noted_quiet r t b n c.in-Some.reply farm.calls farm.calls due under f (follows r under f) (Err c.in_default-result.field-0) ns farm.tallies farm.tallies
          c.in_default-result.is refl same.opened same.is_open (λ d. refl) noted;
    })

pub returns-in_err-apply-clause-cut : goal.returns-in_err-apply-clause-cut
returns-in_err-apply-clause-cut c =
    let t = c.args.clock in
    let b = c.loop-reply.board in
    let n = c.turn.new.self in
    let inv = c.loop-reply.invariant in
    let orders = inv.ready.clock.orders in
    on_err _ (board_then t _ b n inv.board (board_turned t b n _ c.turn.ensures.state c.turn.ensures.kept orders (omega (arith, c.in-Some.ensures.last refl))))
