-- Why the status of the command `resume` is what it is (this project's profile).
use Rattle.std.specs.Prelude.{◌≡◌, ◌⊎◌, ℕ, ◌<◌, List, length, Some}
use Rattle.std.specs.Io.KnownBytes.{Consumes, IsAtEnd}
use Rattle.trau_io.specs.declared.line.Side.{Side}
use Rattle.trau_io.specs.Lines.{LineState, Rose}
use Rattle.trau_io.specs.Desks.{DeskState}
use Rattle.trau_orders.specs.Text.{IsBeyond}
use Rattle.round_lines.specs.Rounds.{IsOutgoing}
use Rattle.farm_checkpoint.specs.Marks.{MarkView}
use Rattle.farm_checkpoint.specs.Text.{IsFirstBad}
use Rattle.farm_orders.specs.Marked.{HasMark, IsShort}
use Rattle.farm_top.specs.Farm.{AllStay, line_text}
use Rattle.farm_top.specs.FarmCauses.{HasBadLine, ReadsBadText, SomeRose}
use Rattle.farm_top.specs.Resume.{mark_line_text}

-- a text of at most 1,310,720 octets whose line n is the first that isn't in a mark's grammar
abbrev pub HasBadMark : List ℕ → ℕ → Type 0
HasBadMark text n = IsShort text × IsFirstBad text n

-- such a text with a mark, after which line n is the first that isn't in the orders' grammar
pub record HasBadOrder (text : List ℕ) (n : ℕ) : Type 0 where
  pub short : IsShort text
  pub mark : MarkView
  pub orders : List ℕ
  pub has : HasMark text mark orders
  pub bad : HasBadLine orders n

-- such a text with a mark, after which the orders are too long
pub record HasLongOrders (text : List ℕ) : Type 0 where
  pub short : IsShort text
  pub mark : MarkView
  pub orders : List ℕ
  pub has : HasMark text mark orders
  pub long : IsBeyond orders

-- the text was read to just past the limit of octets, or to its end and its orders are too long
pub record ReadsTooMuch (desk desk' : DeskState) : Type 0 where
  pub given : List ℕ
  pub consumed : Consumes desk.to_come desk'.to_come given
  pub long : (length given ≡ 1310721) ⊎ (IsAtEnd desk'.to_come × HasLongOrders given)

-- 3: only if a fault of the desk's reading was counted, and always if that count grew. 7: only if the text that was
-- read, or its orders, are too long; if such a text is known, the status is 7, 3 or 5. 2: only if a line that was read
-- isn't in the grammar of the mark or, after a mark, of the orders; if such a text within the limits is known, the
-- status is 2, 3 or 5. With 2, 3 and 7 no line was used. 9: the mark isn't that of the run; no outgoing line was used.
-- 4: only if a fault of the desk's writing was counted; if that count grew, the status is 4, 2, 3, 5, 7 or 9. 6: only
-- if a line's fault was counted; if a line's count grew, the status is 6, 4, 5 or 9. 0: only if every line's count is
-- unchanged. 5: out of memory.
pub record ResumeCauses (before now : ℕ → Side → LineState) (desk desk' : DeskState) (status : ℕ) : Type 0 where
  pub known : (status ≡ 0) ⊎ (status ≡ 2) ⊎ (status ≡ 3) ⊎ (status ≡ 4) ⊎ (status ≡ 5) ⊎ (status ≡ 6) ⊎ (status ≡ 7) ⊎ (status ≡ 9)
  pub read_failed : status ≡ 3 → Rose desk.read_faults desk'.read_faults
  pub read_rose : desk.read_faults < desk'.read_faults → status ≡ 3
  pub refused : status ≡ 2 → ReadsBadText HasBadMark mark_line_text desk desk' ⊎ ReadsBadText HasBadOrder line_text desk desk'
  pub told_bad_mark : (text : List ℕ) (n : ℕ) → desk.to_come ≡ Some text → HasBadMark text n → (status ≡ 2) ⊎ (status ≡ 3) ⊎ (status ≡ 5)
  pub told_bad_order : (text : List ℕ) (n : ℕ) → desk.to_come ≡ Some text → HasBadOrder text n → (status ≡ 2) ⊎ (status ≡ 3) ⊎ (status ≡ 5)
  pub too_long : status ≡ 7 → ReadsTooMuch desk desk'
  pub told_too_long : (text : List ℕ) → desk.to_come ≡ Some text → 1310720 < length text → (status ≡ 3) ⊎ (status ≡ 5) ⊎ (status ≡ 7)
  pub told_long_orders : (text : List ℕ) → desk.to_come ≡ Some text → HasLongOrders text → (status ≡ 3) ⊎ (status ≡ 5) ⊎ (status ≡ 7)
  pub unused : (status ≡ 2) ⊎ (status ≡ 3) ⊎ (status ≡ 7) → AllStay before now
  pub unwritten : status ≡ 9 → (c : ℕ) (s : Side) → IsOutgoing s → now c s ≡ before c s
  pub desk_failed : status ≡ 4 → Rose desk.write_faults desk'.write_faults
  pub desk_rose : desk.write_faults < desk'.write_faults → (status ≡ 2) ⊎ (status ≡ 3) ⊎ (status ≡ 4) ⊎ (status ≡ 5) ⊎ (status ≡ 7) ⊎ (status ≡ 9)
  pub line_failed : status ≡ 6 → SomeRose before now
  pub line_rose : (c : ℕ) (s : Side) → (before c s).faults < (now c s).faults → (status ≡ 4) ⊎ (status ≡ 5) ⊎ (status ≡ 6) ⊎ (status ≡ 9)
  pub done : status ≡ 0 → (c : ℕ) (s : Side) → (now c s).faults ≡ (before c s).faults
