use Rattle.std.proofs.Common.{List, ℕ, ap}
use Rattle.circular_buffer.specs.Buffer.{Buffer}
use Rattle.call_leg.specs.Memory.{coder_memory}
use Rattle.call_leg.proofs.Downlink.Stepping.{home-step}
use Rattle.call_leg.proofs.halves.DownLeg.new.Goals as goal

pub returns : goal.returns
returns c =
    home-step c.args.law c.in_ok-framer.framer c.new-2.result c.in_ok-waiting.waiting.items (coder_memory c.home.result) c.in_ok-framer.ensures.value
    c.new-2.ensures.value (ap (λ (b : Buffer (List ℕ)). b.items) c.in_ok-waiting.ensures) c.home.ensures.encoder c.home.ensures.tx
