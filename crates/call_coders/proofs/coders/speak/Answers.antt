use Rattle.std.proofs.Common.{ℕ, subst, FitsSigned, w16}
use Rattle.std.proofs.lemmas.Int.{to_z-of_z}
use Rattle.fr_sides.specs.Downlink.{WrittenDownlink}
use Rattle.call_coders.proofs.Step.{carried_speech}
use Rattle.call_coders.proofs.coders.speak.Goals as goal

pub returns-clause-period : goal.returns-clause-period
returns-clause-period c =
    let g : FitsSigned w16 c.args.level = c.ranges.level in
    let history = simp to_z-of_z at c.send_octets-speech.ensures.history in
    record {
      octets = c.are_octets.ensures;
      sp = c.send_octets-speech.result;
      kind_is = c.of-kind.ensures.number;
      written = subst (λ (k : ℕ). WrittenDownlink c.send_octets-speech.new.frame k c.write_downlink.result) c.number.ensures c.write_downlink.ensures;
      history = rw (← c.expand_all-samples.ensures) history;
    }

pub returns-clause-carried : goal.returns-clause-carried
returns-clause-carried c =
    carried_speech c.written_frames_are_those_of_the_line.ensures.sent _ _ _ _ c.send_octets-speech.result c.are_octets.ensures c.send_octets-speech.ensures.carried
    c.send_octets-speech.ensures.sp c.of-kind.ensures.number c.of-kind.ensures.kind
    (subst (λ (k : ℕ). WrittenDownlink c.send_octets-speech.new.frame k c.write_downlink.result) c.number.ensures c.write_downlink.ensures)
