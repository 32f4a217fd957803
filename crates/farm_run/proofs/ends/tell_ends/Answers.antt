use Rattle.std.proofs.Common.{◌≡◌, sym, ap, ◌∙◌, get_or}
use Rattle.std.specs.Prelude.{slice_index_or}
use Rattle.std.proofs.lemmas.List.{get_or_default, take_all}
use Rattle.switchboard.specs.Open.{partner_now}
use Rattle.farm_run.specs.Ending.{partner_past}
use Rattle.farm_run.proofs.Told.Next.{no_end, front, apart_front, partner_more}
use Rattle.farm_run.proofs.Told.Ends.{none_told, none_past, told_all, told_step, told_open, told_late}
use Rattle.farm_run.proofs.ends.tell_ends.Goals as goal

pub loop-end-init : goal.loop-end-init
loop-end-init c = record { told = none_told c.args.board.now; partner = none_past (partner_now c.args.board.now) }

pub ended-requires-clause-open : goal.ended-requires-clause-open
ended-requires-clause-open c =
    let ends = c.args.ends.now in
    let i = c.loop-end.end-index in
    let e = slice_index_or ends i no_end in
    told_open c.args.board.now c.loop-end.board ends i e c.requires.apart c.loop-end-test.true (sym (get_or_default ends i e no_end c.loop-end-test.true))
    (c.requires.open i no_end c.loop-end-test.true) c.loop-end.invariant.told

pub ended-requires-clause-late : goal.ended-requires-clause-late
ended-requires-clause-late c =
    told_late c.args.board.now c.loop-end.board _ _ c.loop-end.invariant.told (c.requires.late c.loop-end.end-index no_end c.loop-end-test.true)

pub loop-end-preserved : goal.loop-end-preserved
loop-end-preserved c =
    let ends = c.args.ends.now in
    let i = c.loop-end.end-index in
    let e = slice_index_or ends i no_end in
    let is : e ≡ get_or ends i e = sym (get_or_default ends i e no_end c.loop-end-test.true) in
    record {
      told = told_step c.args.board.now c.loop-end.board c.ended.new.self ends i e c.loop-end-test.true is c.ended.ensures.state c.ended.ensures.open
          c.loop-end.invariant.told;
      partner = λ d.
          c.ended.ensures.partner d
          ∙ partner_more (partner_now c.args.board.now) c.bridges_join_two.ensures.both_ways _ e (apart_front ends i e c.requires.apart c.loop-end-test.true is)
          (partner_now c.loop-end.board) c.loop-end.invariant.partner d
          ∙ ap (λ xs. partner_past xs (partner_now c.args.board.now) d) (sym (front ends i e c.loop-end-test.true is));
    }

pub returns-clause-told : goal.returns-clause-told
returns-clause-told c = (told_all c.args.board.now c.loop-end.board c.args.ends.now c.loop-end.end-index c.loop-end-test.false c.loop-end.invariant.told).told

pub returns-clause-open : goal.returns-clause-open
returns-clause-open c =
    (told_all c.args.board.now c.loop-end.board c.args.ends.now c.loop-end.end-index c.loop-end-test.false c.loop-end.invariant.told).is_open

pub returns-clause-partner : goal.returns-clause-partner
returns-clause-partner c d = c.loop-end.invariant.partner d ∙ ap (λ xs. partner_past xs (partner_now c.args.board.now) d)
    (take_all c.loop-end.end-index c.args.ends.now c.loop-end-test.false)
