-- Where the octets go that the calls of a round give to their outgoing lines (this project's profile).
use Rattle.std.specs.Prelude.{◌≡◌, ◌⊎◌, ℕ, Bool, true, false, List, length}
use Rattle.trau_io.specs.declared.line.Side.{Side}
use Rattle.trau_io.specs.declared.line.Side.TheVariants.{Down, Out}
use Rattle.trau_io.specs.Lines.{LineState}
use Rattle.round_lines.specs.declared.transfer.Outlet.{Outlet}
use Rattle.round_lines.specs.Transfer.{LineGives}
use Rattle.round_lines.specs.Memory.{TellsFaults}
use Rattle.round_lines.specs.Portions.{PortionMemory, Drains, down_given, out_given}
use Rattle.round_lines.specs.Rounds.{Each, KeepsButEach, IsOutgoing}
use Rattle.farm_rounds.specs.Memory.{FarmMemory}
use Rattle.farm_rounds.specs.Sums.{sum_in, no_sums}
use Rattle.farm_rounds.specs.Working.{WorkedMemory, GainsFailed}
use Rattle.farm_run.specs.declared.outgoing.Outgoing.{Outgoing}
use Rattle.farm_run.specs.declared.outgoing.Outgoing.TheVariants.{Written, Summed, Held}

-- whether they are held back
abbrev pub is_held : Outgoing → Bool
is_held Written = false
is_held (Summed sums) = false
is_held (Held sums) = true

-- whether they are added to sums
abbrev pub is_summed : Outgoing → Bool
is_summed Written = false
is_summed (Summed sums) = true
is_summed (Held sums) = true

-- the sum of a line's octets so far
abbrev pub sum_to : Outgoing → ℕ → Side → ℕ
sum_to Written = no_sums
sum_to (Summed sums) = sum_in sums
sum_to (Held sums) = sum_in sums

-- octets go the same way, whatever the sums are
pub record IsSameWay (before now : Outgoing) : Type 0 where
  pub held : is_held now ≡ is_held before
  pub summed : is_summed now ≡ is_summed before

-- an outgoing line was given the octets, or it and its state in its portion are unchanged
abbrev pub PassesOn : LineState → LineState → Outlet → Outlet → List ℕ → Type 0
PassesOn before now was stands octets =
    LineGives before now was stands octets ⊎ ((now ≡ before) × (stands ≡ was))

-- This holds for both outgoing lines of a call, and only their states in its portion changed. If the portion said which
-- fault counts had risen since `first`, it still does.
pub record Settles (before now : Side → LineState) (s t : PortionMemory) : Type 0 where
  pub down : PassesOn (before Down) (now Down) s.lines.down t.lines.down (down_given s)
  pub out : PassesOn (before Out) (now Out) s.lines.out t.lines.out (out_given s)
  pub kept : t ≡ record s { lines = record s.lines { down = t.lines.down; out = t.lines.out } }
  pub faults : (first : Side → LineState) → TellsFaults first before s.lines →
      TellsFaults first now t.lines

-- The octets of a processed round were written or held back, and the farm lists the lines that failed.
pub record IsSettled (held : Bool) (before now : ℕ → Side → LineState) (worked : WorkedMemory)
    (after : FarmMemory) : Type 0 where
  -- the portions after it
  pub portions : List PortionMemory
  pub number : length portions ≡ length worked.portions
  pub settles : Each Settles before now worked.portions portions (length worked.portions)
  pub others : KeepsButEach IsOutgoing before now worked.portions (length worked.portions)
  pub gains : GainsFailed worked.farm.failed after.failed portions
  -- if they are written, each call's lines were given what goes out; if they are held back, lines and portions are
  -- unchanged
  pub written : held ≡ false → Each Drains before now worked.portions portions (length worked.portions)
  pub back : held ≡ true → (now ≡ before) × (portions ≡ worked.portions)
