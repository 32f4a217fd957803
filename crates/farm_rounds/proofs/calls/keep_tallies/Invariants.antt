use Rattle.std.proofs.Common.{◌≡◌, ℕ, length, take}
use Rattle.call_number.specs.declared.TheConstants.{NUMBERS}
use Rattle.farm_rounds.specs.Memory.{tally_in}
use Rattle.farm_rounds.specs.Opens.{opens_in}
use Rattle.farm_rounds.specs.Opened.{TallyKept}
use Rattle.farm_rounds.proofs.calls.keep_tallies.Given as goal

abbrev pub invariant-loop-call : goal.invariant-loop-call
invariant-loop-call l = record {
  kept : (c : ℕ) → TallyKept (opens_in (take l.call-index l.calls)) c (tally_in l.initial.tallies c) (tally_in l.tallies c);
  number : length l.tallies ≡ NUMBERS;
}
