-- Why the status of the commands `run` and `save` is what it is (this project's profile).
use Rattle.std.specs.Prelude.{◌≡◌, ◌⊎◌, ℕ, ◌<◌, List, length, Some}
use Rattle.std.specs.Io.KnownBytes.{Consumes, IsAtEnd}
use Rattle.trau_io.specs.declared.line.Side.{Side}
use Rattle.trau_io.specs.Lines.{LineState, Rose}
use Rattle.trau_io.specs.Desks.{DeskState}
use Rattle.trau_orders.specs.Text.{text_lines, IsFirstBad, IsWithin, IsBeyond}
use Rattle.run_spec.specs.Run.{Run, IsOpened}
use Rattle.farm_top.specs.Farm.{AllStay, TextOut, line_text}

-- the text was read to its end, its line n is bad in this way, nothing was written to the desk meanwhile, and then the
-- desk was given the text that says so
pub record ReadsBadText (is_bad : List ℕ → ℕ → Type 0) (text_of : ℕ → List ℕ) (desk desk' : DeskState) : Type 0 where
  pub given : List ℕ
  pub n : ℕ
  pub consumed : Consumes desk.to_come desk'.to_come given
  pub at_end : IsAtEnd desk'.to_come
  pub bad : is_bad given n
  pub read : DeskState
  pub written : read.written ≡ desk.written
  pub write_faults : read.write_faults ≡ desk.write_faults
  pub text_out : TextOut read desk' (text_of n)

-- the orders are within the limits, and line n is the first that isn't in the grammar
abbrev pub HasBadLine : List ℕ → ℕ → Type 0
HasBadLine orders n = IsWithin orders × IsFirstBad (text_lines orders) n

abbrev pub ReadsBadLine : DeskState → DeskState → Type 0
ReadsBadLine desk desk' = ReadsBadText HasBadLine line_text desk desk'

-- the orders were read to just past the limit of octets, or to their end and have too many lines
pub record ReadsTooLong (desk desk' : DeskState) : Type 0 where
  pub given : List ℕ
  pub consumed : Consumes desk.to_come desk'.to_come given
  pub long : (length given ≡ 1048577) ⊎ (IsAtEnd desk'.to_come × (65536 < length (text_lines given)))

-- a fault of some line was counted
abbrev pub SomeRose : (ℕ → Side → LineState) → (ℕ → Side → LineState) → Type 0
SomeRose before now = (c : ℕ) × (s : Side) × Rose (before c s).faults (now c s).faults

-- a fault of some line whose call the run opened was counted
abbrev pub SomeOpenedRose : Run → (ℕ → Side → LineState) → (ℕ → Side → LineState) → Type 0
SomeOpenedRose r before now = (c : ℕ) × (s : Side) × IsOpened r c × Rose (before c s).faults (now c s).faults

-- 3: only if a fault of the desk's reading was counted, and always if that count grew. 7: only if the orders that were
-- read are too long; if known orders are too long, the status is 7, 3 or 5. 2: only if a line that was read isn't in
-- the grammar; if known orders within the limits have such a line, the status is 2, 3 or 5. With 2, 3 and 7 no line was
-- used. 4: only if a fault of the desk's writing was counted; if that count grew, the status is 4, 2, 3, 5 or 7. 6:
-- only if a line's fault was counted; if a line's count grew, the status is 6, 4 or 5. 0: only if every line's count is
-- unchanged. 5: out of memory.
pub record RunCauses (before now : ℕ → Side → LineState) (desk desk' : DeskState) (status : ℕ) : Type 0 where
  pub known : (status ≡ 0) ⊎ (status ≡ 2) ⊎ (status ≡ 3) ⊎ (status ≡ 4) ⊎ (status ≡ 5) ⊎ (status ≡ 6) ⊎ (status ≡ 7)
  pub read_failed : status ≡ 3 → Rose desk.read_faults desk'.read_faults
  pub read_rose : desk.read_faults < desk'.read_faults → status ≡ 3
  pub refused : status ≡ 2 → ReadsBadLine desk desk'
  pub told_refused : (text : List ℕ) (n : ℕ) → desk.to_come ≡ Some text → IsWithin text → IsFirstBad (text_lines text) n →
      (status ≡ 2) ⊎ (status ≡ 3) ⊎ (status ≡ 5)
  pub too_long : status ≡ 7 → ReadsTooLong desk desk'
  pub told_too_long : (text : List ℕ) → desk.to_come ≡ Some text → IsBeyond text → (status ≡ 3) ⊎ (status ≡ 5) ⊎ (status ≡ 7)
  pub unused : (status ≡ 2) ⊎ (status ≡ 3) ⊎ (status ≡ 7) → AllStay before now
  pub desk_failed : status ≡ 4 → Rose desk.write_faults desk'.write_faults
  pub desk_rose : desk.write_faults < desk'.write_faults → (status ≡ 2) ⊎ (status ≡ 3) ⊎ (status ≡ 4) ⊎ (status ≡ 5) ⊎ (status ≡ 7)
  pub line_failed : status ≡ 6 → SomeRose before now
  pub line_rose : (c : ℕ) (s : Side) → (before c s).faults < (now c s).faults → (status ≡ 4) ⊎ (status ≡ 5) ⊎ (status ≡ 6)
  pub done : status ≡ 0 → (c : ℕ) (s : Side) → (now c s).faults ≡ (before c s).faults
