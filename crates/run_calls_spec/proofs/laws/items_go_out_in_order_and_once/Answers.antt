use Rattle.trau_params.specs.Bits260.{bits260}
use Rattle.trau_frame.specs.Frame.{data_of}
use Rattle.call_leg.specs.Uplink.{handed_fields}
use Rattle.run_spec.specs.Run.{other_in}
use Rattle.run_calls_spec.specs.Whole.{frame_on, span_for, whole_call}
use Rattle.run_calls_spec.proofs.Carried.{carried_only}
use Rattle.run_calls_spec.proofs.Going.{handed_goes, handed_soon, one_waits, sent_counted, one_lost, frames_told, all_told}
use Rattle.run_calls_spec.proofs.OnLine.{handed_on_line, begins_on_line, whole_on_line, line_front_of_made, few_unwritten}
use Rattle.run_calls_spec.proofs.Places.{first_made}
use Rattle.run_calls_spec.proofs.Sent.{each_sent, sent_handed, handed_place, handed_in_order, handed_once}
use Rattle.run_calls_spec.proofs.laws.items_go_out_in_order_and_once.Goals as goal

pub returns-clause-goes : goal.returns-clause-goes
returns-clause-goes g =
    let items = g.frames_of_a_call.ensures.items in
    let enough = g.frames_of_a_call.ensures.enough in
    let long = g.lines_are_of_whole_calls.ensures.long in
    let handed = g.items_are_the_partners_frames.ensures in
    λ r are. record {
      each = λ c. each_sent r c are;
      goes = λ c t x. handed_goes items enough r c t x are;
      sent = λ c t x j s. sent_handed items r c t x j (bits260 (handed_fields (frame_on r (other_in c x) t))) are s
          ((handed.hands r are).within c t x s.bridged);
      unchanged = λ c t x j p bits s y good. sent_handed items r c t x j (data_of bits) are s (handed.good r c t x p bits are s.bridged y good);
      long = λ c. long r c are;
      on_line = λ c t x j k. handed_on_line items r c t x j k are;
      begins = λ c j opened. begins_on_line long r c j are opened;
      whole = λ c t x j. whole_on_line items long r c t x j are;
      front = λ c. line_front_of_made r c;
      unwritten = λ c opened. few_unwritten long r c are opened;
      only = λ c j h. carried_only r c j h are;
      first = λ c x. first_made (whole_call r c) (span_for r c x);
      place = λ c t x first j. handed_place r c t x first j are;
      in_order = λ c t u x j k. handed_in_order r c t u x j k are;
      once = λ c t x j k. handed_once r c t x j k are;
      soon = λ c t x j. handed_soon items enough r c t x j are;
      one_waits = λ c u t x. one_waits items enough r c u t x are;
      counted = λ c x. sent_counted r c x are;
      told = λ x. frames_told r x are;
      sent_or_lost = λ x. all_told r x are;
      lost = λ x. one_lost items enough r x are;
      nothing_else = λ c other opened. g.items_change_nothing_else.ensures r c other are opened;
    }

pub returns-clause-first : goal.returns-clause-first
returns-clause-first g = first_made
