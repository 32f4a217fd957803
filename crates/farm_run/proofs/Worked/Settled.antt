-- A worked round whose octets were written.
use Rattle.std.proofs.Common.{◌≡◌, ℕ, false, List, length, inl}
use Rattle.trau_io.specs.declared.line.Side.{Side}
use Rattle.trau_io.specs.Lines.{LineState}
use Rattle.round_lines.specs.Portions.{PortionMemory, Drains}
use Rattle.round_lines.specs.Rounds.{Each, KeepsButEach, IsOutgoing}
use Rattle.farm_rounds.specs.Memory.{FarmMemory}
use Rattle.farm_rounds.specs.Working.{WorkedMemory, GainsFailed}
use Rattle.farm_rounds.specs.RoundHistories.{KnowFailed}
use Rattle.farm_run.specs.Outgoing.{IsSettled}

-- **They were written.**
pub drained : (before now : ℕ → Side → LineState) (worked : WorkedMemory) (after : FarmMemory) →
    ((portions : List PortionMemory) × Each Drains before now worked.portions portions (length worked.portions)
    × GainsFailed worked.farm.failed after.failed portions
    × KnowFailed portions after.calls × (length portions ≡ length worked.portions)) →
    KeepsButEach IsOutgoing before now worked.portions (length worked.portions) → IsSettled false before now worked after
drained before now worked after drains others = record {
  portions = drains.0;
  number = drains.4;
  settles = λ k l. let d = drains.1 k l in record { down = inl d.down; out = inl d.out; kept = d.kept; faults = d.faults };
  others = others;
  gains = drains.2;
  written = λ e. drains.1;
  back = λ e. cc;
}
