use Rattle.std.proofs.Common.{ap, sym, ◌∙◌, rules, FitsSigned, w16}
use Rattle.std.proofs.lemmas.Int.{to_z-of_z}
use Rattle.tx_dtx.specs.Stretch.{sent_frame, coded_frame}
use Rattle.tx_dtx.specs.Step.{next_sent}
use Rattle.fr_sides.specs.Memory.{sender_memory}
use Rattle.fr_sides.specs.Sending.{sender_period}
use Rattle.fr_sides.proofs.Sent.{sent-step, step-stands}
use Rattle.fr_sides.proofs.sender.Sender.send.Goals as goal

step_now : goal.returns-clause-step
step_now c =
    let f : FitsSigned w16 c.encode-peak.result.2 = search rules in
    let g : FitsSigned w16 c.args.level = c.ranges.level in
    let m = sender_memory c.args.self.now in
    let p = c.encode-peak.result.0 in
    let t = c.encode-peak.result.1 in
    let peak = c.encode-peak.result.2 in
    let step = simp to_z-of_z at c.send-sent.ensures.step in
    sent-step m c.args.x.now c.args.level c.args.dtx p c.send-sent.result.0 t peak c.send-sent.result.1 c.encode-peak.new.self c.send-sent.new.self
    c.encode-peak.ensures.step (ap (λ x. next_sent x (coded_frame p t peak c.args.level c.args.dtx)) (sym c.of_flat-tx.ensures) ∙ step)
    ∙ ap (λ x. (sent_frame c.send-sent.result.0 c.send-sent.result.1, record { encoder = c.encode-peak.new.self; tx = x })) (sym c.flat-self.ensures)

pub returns-clause-step : goal.returns-clause-step
returns-clause-step c = step_now c

pub returns-clause-history : goal.returns-clause-history
returns-clause-history c = λ past h.
    step-stands (sender_memory c.args.self.now) _ (sender_period c.args.x.now c.args.level c.args.dtx) _ (step_now c) past h
