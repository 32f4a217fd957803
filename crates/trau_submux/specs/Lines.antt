-- The lines of a slot and of its four channels, which are lines of four consecutive calls (this project's profile).
use Rattle.std.specs.Prelude.{◌≡◌, ◌≤◌, ℕ, ◌+◌, ◌<◌, List, take, length}
use Rattle.std.specs.Io.KnownBytes.{Appends}
use Rattle.trau_io.specs.declared.line.Side.{Side}
use Rattle.trau_io.specs.Lines.{LineState, Rose}

-- the lines of the channels of a slot, by channel: channel j has the line of call C + j
abbrev pub channel_lines : (ℕ → Side → LineState) → ℕ → Side → ℕ → LineState
channel_lines lines call side j = lines (call + j) side

-- every line but these four is unchanged, its fault count included
abbrev pub AllButFour : (ℕ → Side → LineState) → (ℕ → Side → LineState) → ℕ → Side → Type 0
AllButFour before now call side = (c : ℕ) (s : Side) → ((j : ℕ) → j < 4 → c ≡ call + j → s ≡ side → ⊥) → now c s ≡ before c s

-- every line but that of the slot and those of the channels is unchanged
abbrev pub AllButFive : (ℕ → Side → LineState) → (ℕ → Side → LineState) → ℕ → Side → Side → Type 0
AllButFive before now call slot_side side =
    (c : ℕ) (s : Side) → (c ≡ call → s ≡ slot_side → ⊥) → ((j : ℕ) → j < 4 → c ≡ call + j → s ≡ side → ⊥) → now c s ≡ before c s

-- an outgoing line gained these octets and didn't fail
pub record Gains (out out' : LineState) (sent : List ℕ) : Type 0 where
  pub written : Appends out.written out'.written sent
  pub to_come : out'.to_come ≡ out.to_come
  pub calm : out'.faults ≡ out.faults

-- an outgoing line failed, and gained a proper prefix of these octets
pub record GainsFront (out out' : LineState) (sent : List ℕ) : Type 0 where
  pub count : ℕ
  pub proper : count < length sent
  pub written : Appends out.written out'.written (take count sent)
  pub to_come : out'.to_come ≡ out.to_come
  pub later : out.faults ≤ out'.faults
  pub rose : Rose out.faults out'.faults
