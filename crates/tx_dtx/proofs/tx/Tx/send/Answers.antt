use Rattle.std.proofs.Common.{FitsSigned, w16}
use Rattle.std.proofs.lemmas.Int.{to_z-of_z}
use Rattle.tx_dtx.proofs.Sending.{stepped_by, step-history}
use Rattle.tx_dtx.proofs.tx.Tx.send.Goals as goal

step_now : goal.returns-clause-step
step_now c =
    let peak : FitsSigned w16 c.args.peak = c.ranges.peak in
    let level : FitsSigned w16 c.args.level = c.ranges.level in
    stepped_by c.args.self.now _ _ c.take-sent.new.self c.remember.new.self (simp to_z-of_z at c.take-sent.ensures) c.remember.ensures

pub returns-clause-step : goal.returns-clause-step
returns-clause-step c = step_now c

pub returns-clause-history : goal.returns-clause-history
returns-clause-history c = λ past stands. step-history c.args.self.now _ _ c.remember.new.self past (step_now c) stands
