-- What the top function does with a command.
use Rattle.std.specs.Prelude.{◌≡◌, ℕ, ◌+◌, ◌≤◌, ◌%◌}
use Rattle.call_number.specs.CallNumber.{IsCallNumber}
use Rattle.trau_io.specs.declared.line.Side.{Side}
use Rattle.trau_io.specs.Lines.{LineState}
use Rattle.trau_io.specs.Desks.{DeskState}
use Rattle.frame_listing.specs.Machine.{frames_machine}
use Rattle.farm_tools.specs.Machines.{decode_machine, encode_machine, relay_machine}
use Rattle.trau_submux.specs.Splits.{split_machine}
use Rattle.farm_run.specs.Pace.{IsPace}
use Rattle.command_words.specs.declared.asked.Asked.{Asked}
use Rattle.command_words.specs.declared.asked.Asked.TheVariants.{Run, Save, Resume, Drill, Live, Relay, Frames, Encode, Decode, Follow, Split, Merge}
use Rattle.farm_top.specs.Drill.{CarriesDrill}
use Rattle.farm_top.specs.Follow.{FollowEnds}
use Rattle.live_run.specs.Size.{IsLiveDrill}
use Rattle.farm_top.specs.Live.{CarriesLive, live_of}
use Rattle.farm_top.specs.Lines.{CommandEnds, MergeEnds}
use Rattle.farm_top.specs.Farm.{AllStay, RunsFarm, pace_of}
use Rattle.farm_top.specs.Resume.{ResumesFarm}
use Rattle.farm_top.specs.Save.{SavesFarm}

-- what is asked for is in its ranges: a run's pace; a drill's calls and periods; a live drill's numbers; the call of a
-- tool; the call and the wanted place of `follow`; the first and the last call of a slot
abbrev pub IsInRange : Asked → Type 0
IsInRange (Run s) = IsPace (pace_of s)
IsInRange (Save s) = IsPace (pace_of s)
IsInRange (Resume s) = IsPace (pace_of s)
IsInRange (Drill seed calls s) = (calls ≤ 256) × (s.periods ≤ 1000) × IsPace (pace_of s)
IsInRange (Live s) = IsLiveDrill (live_of s)
IsInRange (Relay c) = IsCallNumber c
IsInRange (Frames c) = IsCallNumber c
IsInRange (Encode c) = IsCallNumber c
IsInRange (Decode c) = IsCallNumber c
IsInRange (Follow c want) = IsCallNumber c × (want ≤ 316) × (want % 4 ≡ 0)
IsInRange (Split c) = IsCallNumber c × IsCallNumber (c + 3)
IsInRange (Merge c) = IsCallNumber c × IsCallNumber (c + 3)

-- the command that is asked for was run, whatever fails
abbrev pub CarriesAsked : Asked → (ℕ → Side → LineState) → (ℕ → Side → LineState) → DeskState → DeskState → ℕ → Type 0
CarriesAsked (Run s) before now desk desk' status = RunsFarm s before now desk desk' status
CarriesAsked (Save s) before now desk desk' status = SavesFarm s before now desk desk' status
CarriesAsked (Resume s) before now desk desk' status = ResumesFarm s before now desk desk' status
CarriesAsked (Drill seed calls s) before now desk desk' status = AllStay before now × CarriesDrill seed calls s.periods desk desk' status
CarriesAsked (Live s) before now desk desk' status = AllStay before now × CarriesLive s desk desk' status
CarriesAsked (Relay c) before now desk desk' status = CommandEnds relay_machine before now desk desk' c status
CarriesAsked (Frames c) before now desk desk' status = CommandEnds frames_machine before now desk desk' c status
CarriesAsked (Encode c) before now desk desk' status = CommandEnds encode_machine before now desk desk' c status
CarriesAsked (Decode c) before now desk desk' status = CommandEnds decode_machine before now desk desk' c status
CarriesAsked (Follow c want) before now desk desk' status = FollowEnds before now desk desk' c want status
CarriesAsked (Split c) before now desk desk' status = CommandEnds split_machine before now desk desk' c status
CarriesAsked (Merge c) before now desk desk' status = MergeEnds before now desk desk' c status
