use Rattle.std.proofs.Common.{◌≡◌, ℕ, take}
use Rattle.switchboard.specs.Open.{partner_now}
use Rattle.farm_run.specs.Ending.{partner_past}
use Rattle.farm_run.proofs.Told.Ends.{IsTold}
use Rattle.farm_run.proofs.ends.tell_ends.Given as goal

abbrev pub invariant-loop-end : goal.invariant-loop-end
invariant-loop-end l = record {
  told : IsTold l.initial.board l.board (take l.end-index l.ends);
  partner : (c : ℕ) → partner_now l.board c ≡ partner_past (take l.end-index l.ends) (partner_now l.initial.board) c;
}
