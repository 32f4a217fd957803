use Rattle.farm_top.proofs.Headlining.{headline_of, later_headline_of}
use Rattle.farm_top.proofs.laws.lines_have_the_headline.Goals as goal

pub returns : goal.returns
returns g =
    let lines = g.lines_are_of_whole_calls.ensures in
    let hands = g.items_are_the_partners_frames.ensures.hands in
    let goes = g.items_go_out_in_order_and_once.ensures.goes in record {
      whole = λ r fails before now are leaves. headline_of r fails before now (λ c opened. lines.out r c are opened) (λ c opened. lines.down r c are opened)
          (hands r are) (goes r are) leaves;
      later = λ r from fails before now are leaves. later_headline_of r from fails before now (λ c opened. lines.out r c are opened)
          (λ c opened. lines.down r c are opened) (hands r are) (goes r are) leaves;
    }
