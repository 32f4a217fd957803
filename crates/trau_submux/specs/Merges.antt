-- Four channels put together to a slot, from the octets of four lines to those of one.
use Rattle.std.specs.Prelude.{◌≡◌, ◌⊎◌, ℕ, ◌+◌, ◌*◌, ◌-◌, ◌/◌, ◌^◌, ◌<◌, ◌≤◌, List, [], ◌++◌, length, take, slice_index, slice_index_or, Result, Ok, Err}
use Rattle.std.specs.Io.KnownBytes.{IsAtEnd}
use Rattle.trau_io.specs.declared.line.Line.{Line}
use Rattle.trau_io.specs.declared.line.Side.TheVariants.{Up, Out}
use Rattle.trau_io.specs.Lines.{LineState, Rose}
use Rattle.trau_io.specs.Transfer.{Gives}
use Rattle.trau_submux.specs.declared.join.BlockEnd.{BlockEnd}
use Rattle.trau_submux.specs.declared.join.BlockEnd.TheVariants as block
use Rattle.trau_submux.specs.declared.join.MergeEnd.{MergeEnd}
use Rattle.trau_submux.specs.declared.join.MergeEnd.TheVariants.{Done, LineFailed}
use Rattle.trau_submux.specs.Channels.{IsMerged}
use Rattle.trau_submux.specs.Lines.{Gains, GainsFront}

-- a block of 40 octets for a channel's line: its first `count` octets were read, fewer than 40 only at the line's end
pub record GivesBlock (up up' : LineState) (block : List ℕ) (count : ℕ) : Type 0 where
  pub gives : Gives up up' (take count block)
  pub whole : length block ≡ 40
  pub bound : count ≤ 40
  pub ended : count < 40 → IsAtEnd up'.to_come
  pub calm : up'.faults ≡ up.faults

-- the line failed inside a block
pub record FailsInside (up up' : LineState) : Type 0 where
  pub given : List ℕ
  pub gives : Gives up up' given
  pub part : length given < 40
  pub rose : Rose up.faults up'.faults

-- one of the four lines failed while they were read in order: a block was read of each line before it, and nothing of
-- those after it
pub record FailsAt (ups ups' : ℕ → LineState) (failed : ℕ) : Type 0 where
  pub one : failed < 4
  pub before : (j : ℕ) → j < failed → (block : List ℕ) × (count : ℕ) × GivesBlock (ups j) (ups' j) block count
  pub here : FailsInside (ups failed) (ups' failed)
  pub behind : (j : ℕ) → failed < j → j < 4 → ups' j ≡ ups j

-- a block was read of each of the four lines, or one failed
abbrev pub ReadsFour : (ℕ → LineState) → (ℕ → LineState) → ℕ → List (List ℕ) → List ℕ → Result (Unit {0}) Line → Type 0
ReadsFour ups ups' call blocks counts (Ok done) = (j : ℕ) → j < 4 → GivesBlock (ups j) (ups' j) (slice_index_or blocks j []) (slice_index counts j)
ReadsFour ups ups' call blocks counts (Err line) = (k : ℕ) × (line.call ≡ call + k) × (line.side ≡ Up) × FailsAt ups ups' k

-- a block of a channel, or what was read of it up to the line's end
pub record GivesPart (up up' : LineState) (given : List ℕ) : Type 0 where
  pub gives : Gives up up' given
  pub bound : length given ≤ 40
  pub ended : length given < 40 → IsAtEnd up'.to_come
  pub calm : up'.faults ≡ up.faults

-- the length of the shortest of the four lists
pub record IsFewest (lists : ℕ → List ℕ) (count : ℕ) : Type 0 where
  pub least : (j : ℕ) → j < 4 → count ≤ length (lists j)
  pub one : ℕ
  pub below : one < 4
  pub is : count ≡ length (lists one)

-- what was read of the four lines, at most a block each, and the octets of the slot that it makes: of each line only as
-- many octets as the shortest has
pub record Takes (ups ups' : ℕ → LineState) : Type 0 where
  pub given : ℕ → List ℕ
  pub each : (j : ℕ) → j < 4 → GivesPart (ups j) (ups' j) (given j)
  pub used : ℕ
  pub fewest : IsFewest given used
  pub octets : List ℕ
  pub merged : IsMerged octets (λ j. take used (given j))

-- one block: it was whole on all four lines, one of them was short, or a line failed
abbrev pub BlockEndsAs : (ℕ → LineState) → (ℕ → LineState) → LineState → LineState → ℕ → BlockEnd → Type 0
BlockEndsAs ups ups' out out' call block.Whole = (t : Takes ups ups') × (t.used ≡ 40) × Gains out out' t.octets
BlockEndsAs ups ups' out out' call (block.Ended counts) =
    (t : Takes ups ups') × (t.used < 40) × ((j : ℕ) → j < 4 → slice_index counts j ≡ length (t.given j)) × Gains out out' t.octets
BlockEndsAs ups ups' out out' call (block.Failed line) =
    ((k : ℕ) × (line.call ≡ call + k) × (line.side ≡ Up) × FailsAt ups ups' k × (out' ≡ out))
    ⊎ ((t : Takes ups ups') × (line.call ≡ call) × (line.side ≡ Out) × GainsFront out out' t.octets)

-- the most octets of each channel's line that a command takes
abbrev pub most_of_channel : ℕ
most_of_channel = 40 * (2 ^ 32 - 1)

-- every line was read to the block in which the shortest of them ended, or for 4,294,967,295 blocks
pub record AreRead (ups' : ℕ → LineState) (given : ℕ → List ℕ) (used : ℕ) : Type 0 where
  pub fewest : IsFewest given used
  pub few : used ≤ most_of_channel
  pub last : ((used ≡ most_of_channel) × ((j : ℕ) → j < 4 → length (given j) ≡ used))
      ⊎ ((used < most_of_channel)
      × ((j : ℕ) → j < 4 → (length (given j) ≡ 40 * (used / 40 + 1)) ⊎ ((length (given j) < 40 * (used / 40 + 1)) × IsAtEnd (ups' j).to_come)))

-- the shortest line ended, or 4,294,967,295 blocks were read; the slot gained what the first `used` octets of each line
-- make, and `left` has the numbers of the others that were read
pub record EndsChannels (ups ups' : ℕ → LineState) (out out' : LineState) (given : ℕ → List ℕ) (octets : ℕ) (left : List ℕ) : Type 0 where
  pub used : ℕ
  pub read : AreRead ups' given used
  pub octets_are : octets ≡ 4 * used
  pub left_are : (j : ℕ) → j < 4 → slice_index left j ≡ length (given j) - used
  pub sent : List ℕ
  pub merged : IsMerged sent (λ j. take used (given j))
  pub gained : Gains out out' sent
  pub calm : (j : ℕ) → j < 4 → (ups' j).faults ≡ (ups j).faults

-- what was read of each line: `number` whole blocks, and then at most one more
pub record Before (given : ℕ → List ℕ) (earlier last : ℕ → List ℕ) : Type 0 where
  pub number : ℕ
  pub few : 40 * number < most_of_channel
  pub whole : (j : ℕ) → j < 4 → length (earlier j) ≡ 40 * number
  pub part : (j : ℕ) → j < 4 → length (last j) ≤ 40
  pub split : (j : ℕ) → j < 4 → given j ≡ earlier j ++ last j

-- the line of a channel failed inside a block: the slot gained what the earlier blocks make, and of the lines after it
-- nothing of this block was read
pub record MergeFailsToRead (ups ups' : ℕ → LineState) (out out' : LineState) (call : ℕ) (given : ℕ → List ℕ) (line : Line) : Type 0 where
  pub failed : ℕ
  pub number : line.call ≡ call + failed
  pub side : line.side ≡ Up
  pub one : failed < 4
  pub earlier : ℕ → List ℕ
  pub last : ℕ → List ℕ
  pub before : Before given earlier last
  pub part_failed : length (last failed) < 40
  pub ended : (j : ℕ) → j < failed → length (last j) < 40 → IsAtEnd (ups' j).to_come
  pub unread : (j : ℕ) → failed < j → j < 4 → last j ≡ []
  pub sent : List ℕ
  pub merged : IsMerged sent earlier
  pub gained : Gains out out' sent
  pub rose : Rose (ups failed).faults (ups' failed).faults
  pub calm : (j : ℕ) → j < 4 → (j ≡ failed → ⊥) → (ups' j).faults ≡ (ups j).faults

-- the slot's line failed inside a block: it gained what the earlier blocks make, and a proper prefix of what this one
-- makes
pub record MergeFailsToWrite (ups ups' : ℕ → LineState) (out out' : LineState) (call : ℕ) (given : ℕ → List ℕ) (line : Line) : Type 0 where
  pub number : line.call ≡ call
  pub side : line.side ≡ Out
  pub earlier : ℕ → List ℕ
  pub last : ℕ → List ℕ
  pub before : Before given earlier last
  pub ended : (j : ℕ) → j < 4 → length (last j) < 40 → IsAtEnd (ups' j).to_come
  pub used : ℕ
  pub fewest : IsFewest last used
  pub sent : List ℕ
  pub merged : IsMerged sent (λ j. earlier j ++ take used (last j))
  pub here : GainsFront out out' sent
  pub reached : 160 * before.number ≤ here.count
  pub calm : (j : ℕ) → j < 4 → (ups' j).faults ≡ (ups j).faults

abbrev pub MergeEndsAs : (ℕ → LineState) → (ℕ → LineState) → LineState → LineState → ℕ → (ℕ → List ℕ) → MergeEnd → Type 0
MergeEndsAs ups ups' out out' call given (Done octets left) = EndsChannels ups ups' out out' given octets left
MergeEndsAs ups ups' out out' call given (LineFailed line) = MergeFailsToRead ups ups' out out' call given line ⊎ MergeFailsToWrite ups ups' out out' call given line

-- A whole merge: what was read of the four lines, and what the slot gained.
pub record Merges (ups ups' : ℕ → LineState) (out out' : LineState) (call : ℕ) (end : MergeEnd) : Type 0 where
  pub given : ℕ → List ℕ
  pub gives : (j : ℕ) → j < 4 → Gives (ups j) (ups' j) (given j)
  pub ends : MergeEndsAs ups ups' out out' call given end
