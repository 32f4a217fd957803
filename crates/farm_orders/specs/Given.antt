-- The text of a desk, read to its end or to one octet past a limit (this project's profile).
use Rattle.std.specs.Prelude.{◌≡◌, ◌≤◌, ℕ, ◌+◌, List, [], length}
use Rattle.std.specs.Io.KnownBytes.{Consumes, IsAtEnd}
use Rattle.trau_io.specs.Desks.{DeskState}
use Rattle.farm_orders.specs.declared.fault.OrdersFault.{OrdersFault}
use Rattle.farm_orders.specs.declared.fault.OrdersFault.TheVariants.{Unread, TooLong, Line, Memory}

-- this is the desk's whole text, within the limit
pub record GivesWhole (most : ℕ) (before now : DeskState) (text : List ℕ) : Type 0 where
  pub consumed : Consumes before.to_come now.to_come text
  pub at_end : IsAtEnd now.to_come
  pub within : length text ≤ most

-- why reading stopped before the end: the desk failed, it gave one octet more than the limit, or memory ran out before
-- any read
abbrev pub StoppedFor : ℕ → OrdersFault → List ℕ → Type 0
StoppedFor most Unread given = length given ≤ most
StoppedFor most TooLong given = length given ≡ most + 1
StoppedFor most (Line n) given = ⊥
StoppedFor most Memory given = given ≡ []

-- reading stopped for this fault, after these octets of the desk
pub record GivesPart (most : ℕ) (before now : DeskState) (fault : OrdersFault) : Type 0 where
  pub given : List ℕ
  pub consumed : Consumes before.to_come now.to_come given
  pub cause : StoppedFor most fault given

-- the next octets of the desk were read, at most one past the limit, and `answers` holds for them
pub record ReadsUpTo (most : ℕ) (before now : DeskState) (answers : List ℕ → Type 0) : Type 0 where
  pub given : List ℕ
  pub consumed : Consumes before.to_come now.to_come given
  pub bound : length given ≤ most + 1
  pub answer : answers given
