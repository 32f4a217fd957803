use Rattle.std.proofs.Common.{◌≡◌, List, ℕ, ap, rules}
use Rattle.fr_sides.specs.Memory.{receiver_memory}
use Rattle.call_coders.specs.declared.coders.Record.{Record}
use Rattle.call_coders.specs.Replay.{item_of}
use Rattle.call_coders.proofs.Step.{Laws, hands, bridged_with, carried_item}
use Rattle.call_coders.proofs.coders.bridged.Goals as goal

pub returns-clause-replay : goal.returns-clause-replay
returns-clause-replay c number other_number past other_past level other_level dtx other_dtx starts other_starts stands other_stands can other_can =
    let laws : Laws = record {
      out = c.the_receive_side_gives_the_out_line.ensures.octets;
      contents = c.the_transmit_side_gives_the_down_line.ensures.contents;
      records = c.whole_frames_are_heard.ensures.records;
      sent = c.written_frames_are_those_of_the_line.ensures.sent;
      handed = c.written_frames_are_those_of_the_line.ensures.handed;
      idle = c.written_frames_are_those_of_the_line.ensures.idle;
      effective = c.the_receive_side_gives_the_out_line.ensures.effective;
    } in
    let by_one = c.hand-by_one.ensures.handed in
    let by_other = c.hand-by_other.ensures.handed in
    let up : c.carry-first.new.recorded.up ≡ c.hand-by_one.new.up = ap (λ (r : Record). r.up) c.carry-first.ensures.others in
    let other_up : c.carry-second.new.recorded.up ≡ c.hand-by_other.new.up = ap (λ (r : Record). r.up) c.carry-second.ensures.others in (
      bridged_with laws number c.args.to_one.now.law past _ _ _ _ _ _ _ _ _ _ _ _ _ level dtx starts _
          (ap receiver_memory c.carry-first.ensures.receiver) up (ap (λ (u : List ℕ). item_of other_number u other_past) other_up)
          stands (search rules) can by_one c.carry-first.ensures.out c.carry-first.ensures.sender c.carry-first.ensures.octets
          (hands laws other_number c.args.to_other.now.law other_past _ _ _ _ _ other_stands by_other) c.carry-first.ensures.down,
      bridged_with laws other_number c.args.to_other.now.law other_past _ _ _ _ _ _ _ _ _ _ _ _ _ other_level other_dtx other_starts _
          (ap receiver_memory c.carry-second.ensures.receiver) other_up (ap (λ (u : List ℕ). item_of number u past) up)
          other_stands (search rules) other_can by_other c.carry-second.ensures.out c.carry-second.ensures.sender c.carry-second.ensures.octets
          (hands laws number c.args.to_one.now.law past _ _ _ _ _ stands by_one) c.carry-second.ensures.down,
    )

pub returns-clause-down : goal.returns-clause-down
returns-clause-down c =
    let handed = c.written_frames_are_those_of_the_line.ensures.handed in (
      carried_item handed _ _ _ _ _ c.carry-first.ensures.octets c.hand-by_other.ensures.handed.handed_is.carried c.carry-first.ensures.frame
          c.carry-first.ensures.kind c.carry-first.ensures.down,
      carried_item handed _ _ _ _ _ c.carry-second.ensures.octets c.hand-by_one.ensures.handed.handed_is.carried c.carry-second.ensures.frame
          c.carry-second.ensures.kind c.carry-second.ensures.down,
    )
