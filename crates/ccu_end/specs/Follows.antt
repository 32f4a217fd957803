-- A whole `follow`, from the octets of a recorded downlink to those of an uplink and to lines of text (this project's
-- profile). `periods` has the oldest first, `heard` the newest.
use Rattle.std.specs.Prelude.{◌≡◌, ◌⊎◌, ℕ, ◌*◌, ◌-◌, ◌^◌, ◌<◌, ◌≤◌, List, [], ◌∷◌, ◌++◌, length, take, reverse}
use Rattle.std.specs.List.{concat}
use Rattle.std.specs.Io.KnownBytes.{Appends, IsAtEnd}
use Rattle.trau_io.specs.declared.line.Side.{Side}
use Rattle.trau_io.specs.Lines.{LineState, Rose}
use Rattle.trau_io.specs.Transfer.{Gives}
use Rattle.trau_io.specs.Desks.{DeskState}
use Rattle.ccu_end.specs.declared.recording.FollowEnd.{FollowEnd}
use Rattle.ccu_end.specs.declared.recording.FollowEnd.TheVariants.{Done, ReadFailed, WriteFailed, DeskFailed}
use Rattle.ccu_end.specs.Found.{FoundFrame}
use Rattle.ccu_end.specs.Heard.{ArePeriods, AreHeard, all_of}
use Rattle.ccu_end.specs.Told.{listed, sent_up}

-- every line but these two of one call is unchanged, its fault count included
abbrev pub AllButTwo : (ℕ → Side → LineState) → (ℕ → Side → LineState) → ℕ → Side → Side → Type 0
AllButTwo before now call a b = (c : ℕ) (s : Side) → (c ≡ call → s ≡ a → ⊥) → (c ≡ call → s ≡ b → ⊥) → now c s ≡ before c s

-- the outgoing line gained these octets
pub record Gains (down down' : LineState) (sent : List ℕ) : Type 0 where
  pub written : Appends down.written down'.written sent
  pub to_come : down'.to_come ≡ down.to_come
  pub later : down.faults ≤ down'.faults

-- the desk gained this text
pub record DeskHears (desk desk' : DeskState) (told : List ℕ) : Type 0 where
  pub written : Appends desk.written desk'.written told
  pub to_come : desk'.to_come ≡ desk.to_come
  pub read_faults : desk'.read_faults ≡ desk.read_faults
  pub later : desk.write_faults ≤ desk'.write_faults

pub record Moves (up up' down down' : LineState) (desk desk' : DeskState) (given sent told : List ℕ) : Type 0 where
  pub gives : Gives up up' given
  pub gains : Gains down down' sent
  pub hears : DeskHears desk desk' told

-- The line ended after these periods and `left` more octets, or 4,294,967,295 periods were read. All of them are
-- answered, and all frames are listed.
pub record EndsLine (up up' down down' : LineState) (desk desk' : DeskState) (want : ℕ) (periods : List (List ℕ)) (heard : List (List FoundFrame))
    (last sent told : List ℕ) (frames left : ℕ) : Type 0 where
  pub at_end : IsAtEnd up'.to_come ⊎ ((length periods ≡ 2 ^ 32 - 1) × (last ≡ []))
  pub frames_are : frames ≡ length (all_of heard)
  pub left_is : left ≡ length last
  pub less : length last < 40
  pub all_sent : sent ≡ sent_up want heard
  pub all_told : told ≡ listed heard
  pub up_same : up'.faults ≡ up.faults
  pub down_same : down'.faults ≡ down.faults
  pub desk_same : desk'.write_faults ≡ desk.write_faults

-- The incoming line failed inside a period. All periods before it, fewer than 4,294,967,295, are answered, and their
-- frames are listed.
pub record FollowFailsToRead (up up' down down' : LineState) (desk desk' : DeskState) (want : ℕ) (periods : List (List ℕ)) (heard : List (List FoundFrame))
    (last sent told : List ℕ) : Type 0 where
  pub room : length periods < 2 ^ 32 - 1
  pub part : length last < 40
  pub all_sent : sent ≡ sent_up want heard
  pub all_told : told ≡ listed heard
  pub rose : Rose up.faults up'.faults
  pub down_same : down'.faults ≡ down.faults
  pub desk_same : desk'.write_faults ≡ desk.write_faults

-- The outgoing line failed inside the answer of the last period: nothing was read after that period, the line gained
-- all earlier answers and a proper prefix of this one, and only the frames of the earlier periods are listed.
pub record FollowFailsToWrite (up up' down down' : LineState) (desk desk' : DeskState) (want : ℕ) (heard : List (List FoundFrame))
    (last sent told : List ℕ) : Type 0 where
  pub nothing_more : last ≡ []
  pub newest : List FoundFrame
  pub earlier : List (List FoundFrame)
  pub split : heard ≡ newest ∷ earlier
  pub reached : length (sent_up want earlier) ≤ length sent
  pub proper : length sent < length (sent_up want heard)
  pub front : sent ≡ take (length sent) (sent_up want heard)
  pub earlier_told : told ≡ listed earlier
  pub up_same : up'.faults ≡ up.faults
  pub rose : Rose down.faults down'.faults
  pub desk_same : desk'.write_faults ≡ desk.write_faults

-- The desk failed inside the lines of text of the last period: nothing was read after that period, all periods are
-- answered, and the desk gained all earlier lines and a proper prefix of the period's.
pub record FailsToTell (up up' down down' : LineState) (desk desk' : DeskState) (want : ℕ) (heard : List (List FoundFrame))
    (last sent told : List ℕ) : Type 0 where
  pub nothing_more : last ≡ []
  pub newest : List FoundFrame
  pub earlier : List (List FoundFrame)
  pub split : heard ≡ newest ∷ earlier
  pub all_sent : sent ≡ sent_up want heard
  pub reached : length (listed earlier) ≤ length told
  pub proper : length told < length (listed heard)
  pub front : told ≡ take (length told) (listed heard)
  pub up_same : up'.faults ≡ up.faults
  pub down_same : down'.faults ≡ down.faults
  pub rose : Rose desk.write_faults desk'.write_faults

-- the end after these periods: what was read after them, what was sent, and what was printed
abbrev pub EndsAs : LineState → LineState → LineState → LineState → DeskState → DeskState → ℕ → List (List ℕ) → List (List FoundFrame) → List ℕ → List ℕ →
    List ℕ → FollowEnd → Type 0
EndsAs up up' down down' desk desk' want periods heard last sent told (Done frames left) =
    EndsLine up up' down down' desk desk' want periods heard last sent told frames left
EndsAs up up' down down' desk desk' want periods heard last sent told ReadFailed = FollowFailsToRead up up' down down' desk desk' want periods heard last sent told
EndsAs up up' down down' desk desk' want periods heard last sent told WriteFailed = FollowFailsToWrite up up' down down' desk desk' want heard last sent told
EndsAs up up' down down' desk desk' want periods heard last sent told DeskFailed = FailsToTell up up' down down' desk desk' want heard last sent told

-- A whole downlink. At most 4,294,967,295 periods were read: whole periods, in which these frames were found, and then
-- maybe a part of one.
pub record Follows (up up' down down' : LineState) (desk desk' : DeskState) (want : ℕ) (end : FollowEnd) : Type 0 where
  pub periods : List (List ℕ)
  pub heard : List (List FoundFrame)
  pub last : List ℕ
  pub sent : List ℕ
  pub told : List ℕ
  pub whole : ArePeriods periods
  pub few : length (concat periods ++ last) ≤ 40 * (2 ^ 32 - 1)
  pub are_heard : AreHeard (reverse periods) heard
  pub moves : Moves up up' down down' desk desk' (concat periods ++ last) sent told
  pub ends : EndsAs up up' down down' desk desk' want periods heard last sent told end
