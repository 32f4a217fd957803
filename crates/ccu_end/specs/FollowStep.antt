-- One period of `follow`, after any past that leads to the station's memory (`Stands`). A past has the newest period
-- first.
use Rattle.std.specs.Prelude.{◌≡◌, ℕ, ◌+◌, ◌≤◌, ◌<◌, List, [], ◌∷◌, length, take}
use Rattle.std.specs.Io.KnownBytes.{IsAtEnd}
use Rattle.trau_io.specs.Lines.{LineState, Rose}
use Rattle.trau_io.specs.Desks.{DeskState}
use Rattle.ccu_end.specs.declared.recording.PeriodEnd.{PeriodEnd}
use Rattle.ccu_end.specs.declared.recording.PeriodEnd.TheVariants.{Taken, LineEnded, ReadFailed, WriteFailed, DeskFailed}
use Rattle.ccu_end.specs.Found.{FoundFrame}
use Rattle.ccu_end.specs.Heard.{CcuMemory, Stands}
use Rattle.ccu_end.specs.Told.{lines_of, octets_saying}
use Rattle.ccu_end.specs.Follows.{Moves}

-- the whole period was read, and these are the frames found in it
pub record Takes (ccu ccu' : CcuMemory) (given : List ℕ) (found : List FoundFrame) : Type 0 where
  pub long : length given ≡ 40
  pub counted : ccu'.periods ≡ ccu.periods + 1
  pub want : ccu'.want ≡ ccu.want
  pub few : length found ≤ 2
  pub history : (past : List (List ℕ)) (heard : List (List FoundFrame)) → Stands past heard ccu → Stands (given ∷ past) (found ∷ heard) ccu'

-- neither a line nor the desk failed
pub record NoFault (up up' down down' : LineState) (desk desk' : DeskState) : Type 0 where
  pub up_same : up'.faults ≡ up.faults
  pub down_same : down'.faults ≡ down.faults
  pub desk_same : desk'.write_faults ≡ desk.write_faults

-- the period was answered, and its frames were listed
pub record IsTakenPeriod (ccu ccu' : CcuMemory) (up up' down down' : LineState) (desk desk' : DeskState) (given sent told : List ℕ) (count : ℕ) : Type 0 where
  pub found : List FoundFrame
  pub takes : Takes ccu ccu' given found
  pub count_is : count ≡ length found
  pub sent_is : sent ≡ octets_saying ccu'.answer
  pub told_is : told ≡ lines_of found
  pub calm : NoFault up up' down down' desk desk'

-- the line ended after `left` octets of the period
pub record EndsInside (up up' down down' : LineState) (desk desk' : DeskState) (given sent told : List ℕ) (left : ℕ) : Type 0 where
  pub left_is : left ≡ length given
  pub part : length given < 40
  pub at_end : IsAtEnd up'.to_come
  pub nothing_sent : sent ≡ []
  pub nothing_told : told ≡ []
  pub calm : NoFault up up' down down' desk desk'

-- the incoming line failed inside the period
pub record FailsInside (up up' down down' : LineState) (desk desk' : DeskState) (given sent told : List ℕ) : Type 0 where
  pub part : length given < 40
  pub nothing_sent : sent ≡ []
  pub nothing_told : told ≡ []
  pub rose : Rose up.faults up'.faults
  pub down_same : down'.faults ≡ down.faults
  pub desk_same : desk'.write_faults ≡ desk.write_faults

-- the outgoing line failed inside the period's answer
pub record IsHalfAnswered (ccu ccu' : CcuMemory) (up up' down down' : LineState) (desk desk' : DeskState) (given sent told : List ℕ) : Type 0 where
  pub found : List FoundFrame
  pub takes : Takes ccu ccu' given found
  pub proper : length sent < length (octets_saying ccu'.answer)
  pub front : sent ≡ take (length sent) (octets_saying ccu'.answer)
  pub nothing_told : told ≡ []
  pub up_same : up'.faults ≡ up.faults
  pub rose : Rose down.faults down'.faults
  pub desk_same : desk'.write_faults ≡ desk.write_faults

-- the desk failed inside the period's lines of text
pub record IsHalfTold (ccu ccu' : CcuMemory) (up up' down down' : LineState) (desk desk' : DeskState) (given sent told : List ℕ) : Type 0 where
  pub found : List FoundFrame
  pub takes : Takes ccu ccu' given found
  pub sent_is : sent ≡ octets_saying ccu'.answer
  pub proper : length told < length (lines_of found)
  pub front : told ≡ take (length told) (lines_of found)
  pub up_same : up'.faults ≡ up.faults
  pub down_same : down'.faults ≡ down.faults
  pub rose : Rose desk.write_faults desk'.write_faults

-- how a period ended, with what was read of it, sent for it and printed for it
abbrev pub PeriodEndsAs : CcuMemory → CcuMemory → LineState → LineState → LineState → LineState → DeskState → DeskState → List ℕ → List ℕ → List ℕ → PeriodEnd →
    Type 0
PeriodEndsAs ccu ccu' up up' down down' desk desk' given sent told (Taken count) = IsTakenPeriod ccu ccu' up up' down down' desk desk' given sent told count
PeriodEndsAs ccu ccu' up up' down down' desk desk' given sent told (LineEnded left) = EndsInside up up' down down' desk desk' given sent told left
PeriodEndsAs ccu ccu' up up' down down' desk desk' given sent told ReadFailed = FailsInside up up' down down' desk desk' given sent told
PeriodEndsAs ccu ccu' up up' down down' desk desk' given sent told WriteFailed = IsHalfAnswered ccu ccu' up up' down down' desk desk' given sent told
PeriodEndsAs ccu ccu' up up' down down' desk desk' given sent told DeskFailed = IsHalfTold ccu ccu' up up' down down' desk desk' given sent told

pub record FollowsOn (ccu ccu' : CcuMemory) (up up' down down' : LineState) (desk desk' : DeskState) (end : PeriodEnd) : Type 0 where
  pub given : List ℕ
  pub sent : List ℕ
  pub told : List ℕ
  pub moves : Moves up up' down down' desk desk' given sent told
  pub ends : PeriodEndsAs ccu ccu' up up' down down' desk desk' given sent told end
