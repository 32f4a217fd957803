-- A call's portion in a round: the state of its lines, and its buffers (this project's profile).
use Rattle.std.specs.Prelude.{◌≡◌, ℕ, ◌*◌, Bool, List, length, take, replicate}
use Rattle.trau_io.specs.declared.line.Side.{Side}
use Rattle.trau_io.specs.declared.line.Side.TheVariants.{Up, Pcm, Down, Out}
use Rattle.trau_io.specs.Lines.{LineState}
use Rattle.round_lines.specs.Memory.{LinesMemory, IsFresh, TellsFaults, fresh_lines, whole_in}
use Rattle.round_lines.specs.Transfer.{Takes, TakesClean, LineGives, GivesClean}

-- what is known of a portion
pub record PortionMemory : Type 0 where
  pub lines : LinesMemory
  pub up : List ℕ
  pub pcm : List ℕ
  pub down : List ℕ
  pub out : List ℕ

abbrev pub portion_from : LinesMemory → List ℕ → List ℕ → List ℕ → List ℕ → PortionMemory
portion_from p up pcm down out = record { lines = p; up = up; pcm = pcm; down = down; out = out }

-- The buffers have room for the octets of this number of periods: 40 a period on Up and Down, 160 on Pcm and Out.
pub record Fits (periods : ℕ) (up_octets pcm_octets down_octets out_octets : List ℕ) : Type 0 where
  pub up : length up_octets ≡ 40 * periods
  pub pcm : length pcm_octets ≡ 160 * periods
  pub down : length down_octets ≡ 40 * periods
  pub out : length out_octets ≡ 160 * periods

-- a portion before its first read: buffers of zeros
abbrev pub new_portion : ℕ → ℕ → Bool → Bool → PortionMemory
new_portion call periods down_failed out_failed =
    record {
      lines = fresh_lines call periods down_failed out_failed;
      up = replicate (40 * periods) 0;
      pcm = replicate (160 * periods) 0;
      down = replicate (40 * periods) 0;
      out = replicate (160 * periods) 0;
    }

-- The round read from the incoming lines of a call what it could, into buffers whose length stays. The rest of the
-- portion is unchanged. The marks show which lines' counts rose.
pub record Fills (before now : Side → LineState) (s t : PortionMemory) : Type 0 where
  pub up : Takes (before Up) (now Up) t.lines.up t.up
  pub pcm : Takes (before Pcm) (now Pcm) t.lines.pcm t.pcm
  pub up_clean : TakesClean (before Up) (now Up) t.lines.up t.up
  pub pcm_clean : TakesClean (before Pcm) (now Pcm) t.lines.pcm t.pcm
  pub up_length : length t.up ≡ length s.up
  pub pcm_length : length t.pcm ≡ length s.pcm
  pub kept : t ≡ record s {
    lines = record s.lines { up = t.lines.up; pcm = t.lines.pcm };
    up = t.up;
    pcm = t.pcm;
  }
  pub faults : IsFresh s.lines → TellsFaults before now t.lines

-- what goes out of a round: the octets of the whole periods that were read
abbrev pub down_given : PortionMemory → List ℕ
down_given s = take (40 * whole_in s.lines) s.down

abbrev pub out_given : PortionMemory → List ℕ
out_given s = take (160 * whole_in s.lines) s.out

-- The outgoing lines of a call got what goes out. Only their marks changed in its portion. If the marks showed which
-- counts had risen since `first`, they still do.
pub record Drains (before now : Side → LineState) (s t : PortionMemory) : Type 0 where
  pub down : LineGives (before Down) (now Down) s.lines.down t.lines.down (down_given s)
  pub out : LineGives (before Out) (now Out) s.lines.out t.lines.out (out_given s)
  pub down_clean : GivesClean (before Down) (now Down) s.lines.down t.lines.down (down_given s)
  pub out_clean : GivesClean (before Out) (now Out) s.lines.out t.lines.out (out_given s)
  pub kept : t ≡ record s { lines = record s.lines { down = t.lines.down; out = t.lines.out } }
  pub faults : (first : Side → LineState) → TellsFaults first before s.lines →
      TellsFaults first now t.lines
