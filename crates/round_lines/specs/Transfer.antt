-- What a round reads from an incoming line, and what it writes to an outgoing one (this project's profile).
use Rattle.std.specs.Prelude.{◌≡◌, ℕ, ◌<◌, ◌≤◌, min, Bool, true, false, Some, List, length, take, drop}
use Rattle.std.specs.Io.KnownBytes.{Consumes, Appends, IsAtEnd}
use Rattle.trau_io.specs.Lines.{LineState, Rose, NotRose}
use Rattle.round_lines.specs.declared.transfer.Taken.{Taken}
use Rattle.round_lines.specs.declared.transfer.Outlet.{Outlet}
use Rattle.round_lines.specs.declared.transfer.Outlet.TheVariants.{Sound, FailedBefore, FailedNow}

-- The next octets of a line went to the start of a block. If they don't fill it, the line ended there, or it failed and
-- its count rose.
pub record Takes (before now : LineState) (t : Taken) (block : List ℕ) : Type 0 where
  pub bound : t.count ≤ length block
  pub given : Consumes before.to_come now.to_come (take t.count block)
  pub ended : t.failed ≡ false → t.count < length block → IsAtEnd now.to_come
  pub short : t.failed ≡ true → t.count < length block
  pub fault : t.failed ≡ true → Rose before.faults now.faults
  pub calm : t.failed ≡ false → now.faults ≡ before.faults
  pub later : before.faults ≤ now.faults
  pub written : now.written ≡ before.written

-- the line failed before this round or in it
abbrev pub has_failed : Outlet → Bool
has_failed Sound = false
has_failed FailedBefore = true
has_failed FailedNow = true

-- the line failed in this round
abbrev pub fails_now : Outlet → Bool
fails_now Sound = false
fails_now FailedBefore = false
fails_now FailedNow = true

-- An outgoing line has gained all these octets; if it failed, a proper prefix of them.
abbrev pub HasWritten : Bool → LineState → LineState → List ℕ → Type 0
HasWritten false before now octets = Appends before.written now.written octets
HasWritten true before now octets =
    (n : ℕ) × (n < length octets) × Appends before.written now.written (take n octets)

-- A line that failed before is skipped. Any other line gained all the octets, or it failed after a proper prefix of
-- them and its count rose.
pub record LineGives (before now : LineState) (was stands : Outlet) (octets : List ℕ) : Type 0 where
  pub passed : has_failed was ≡ true → (now ≡ before) × (stands ≡ was)
  pub all : has_failed stands ≡ false → Appends before.written now.written octets
  pub calm : has_failed stands ≡ false → now.faults ≡ before.faults
  pub front : has_failed was ≡ false → has_failed stands ≡ true → HasWritten true before now octets
  pub fault : has_failed was ≡ false → has_failed stands ≡ true →
      (stands ≡ FailedNow) × Rose before.faults now.faults
  pub later : before.faults ≤ now.faults
  pub to_come : now.to_come ≡ before.to_come

-- If a line's octets are known and its count didn't rise, it gave the next of them, as many as the block and the line
-- have.
abbrev pub TakesClean : LineState → LineState → Taken → List ℕ → Type 0
TakesClean before now t block = (octets : List ℕ) →
    before.to_come ≡ Some octets → NotRose before.faults now.faults →
    (t.failed ≡ false) × (t.count ≡ min (length block) (length octets))
    × (take t.count block ≡ take (length block) octets)
    × (now.to_come ≡ Some (drop (length block) octets))

-- A line that hadn't failed before and whose count didn't rise gained all the octets.
abbrev pub GivesClean : LineState → LineState → Outlet → Outlet → List ℕ → Type 0
GivesClean before now was stands octets =
    has_failed was ≡ false → NotRose before.faults now.faults →
    (stands ≡ Sound) × Appends before.written now.written octets
