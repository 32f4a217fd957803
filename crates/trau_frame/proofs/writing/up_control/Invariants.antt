use Rattle.std.proofs.Common.{◌≡◌, ◌+◌, ◌<◌, ℕ, length, get_or}
use Rattle.trau_frame.specs.UpFrame.{up_words_of}
use Rattle.trau_frame.specs.UpBits.{up_control_bit}
use Rattle.trau_frame.proofs.writing.up_control.Given as goal

abbrev pub invariant-loop-c : goal.invariant-loop-c
invariant-loop-c l = record {
  count : length l.control ≡ 21;
  each : (k : ℕ) → k < l.c → get_or l.control k 0 ≡ up_control_bit (up_words_of l.f) (k + 1);
  bits : (k : ℕ) → k < l.c → get_or l.control k 0 < 2;
}
