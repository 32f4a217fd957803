-- The words of the command line, by what they ask for (this project's profile).
use Rattle.std.specs.Prelude.{◌⊎◌, ℕ, String, string_bytes, List, map, codes}
use Rattle.farm_tools.specs.declared.tool.Tool.{Tool}
use Rattle.farm_tools.specs.Machines.{name_of}
use Rattle.command_words.specs.declared.asked.Settings.{Settings}
use Rattle.command_words.specs.Drill.{AsksDrill}
use Rattle.command_words.specs.Follow.{NamesFollow}
pub use Rattle.command_words.specs.Options.{TakeOptions}
use Rattle.command_words.specs.declared.live.LiveSettings.{LiveSettings}
use Rattle.command_words.specs.Live.{AsksLive}
use Rattle.command_words.specs.Run.{AsksResume, AsksRun, AsksSave}
use Rattle.command_words.specs.Slots.{NamesSlot}
use Rattle.command_words.specs.Words.{Names}

-- the octets of the words
abbrev pub spelled : {Z : Type 0} → List (String Z) → List (List ℕ)
spelled words = map (λ w. string_bytes w) words

-- the words ask for a tool that turns one line into another, as `relay 7`
abbrev pub AsksFor : List (List ℕ) → Tool → ℕ → Type 0
AsksFor words tool call = Names words (name_of tool) call

-- they ask for the listing of frames, as `frames 7`
abbrev pub AsksForFrames : List (List ℕ) → ℕ → Type 0
AsksForFrames words call = Names words (codes "frames") call

-- they ask for a run with these settings, as `run --workers 2`
abbrev pub AsksForRun : List (List ℕ) → Settings → Type 0
AsksForRun words settings = AsksRun words settings

-- they ask for a run to a mark, as `save --periods 3`
abbrev pub AsksForSave : List (List ℕ) → Settings → Type 0
AsksForSave words settings = AsksSave words settings

-- they ask for a run from a mark on, as `resume`
abbrev pub AsksForResume : List (List ℕ) → Settings → Type 0
AsksForResume words settings = AsksResume words settings

-- they ask for a drill of this number of calls, from this seed, with these settings, as `drill --calls 2`
abbrev pub AsksForDrill : List (List ℕ) → ℕ → ℕ → Settings → Type 0
AsksForDrill words seed calls settings = AsksDrill words seed calls settings

-- they ask for a live drill, as `live --callers 2`
abbrev pub AsksForLive : List (List ℕ) → LiveSettings → Type 0
AsksForLive words settings = AsksLive words settings

-- they ask for a time slot to be cut into channels, or to be joined from them, as `split 7`
abbrev pub AsksForSplit : List (List ℕ) → ℕ → Type 0
AsksForSplit words call = NamesSlot words (codes "split") call

abbrev pub AsksForMerge : List (List ℕ) → ℕ → Type 0
AsksForMerge words call = NamesSlot words (codes "merge") call

-- they ask for the base station's end of a downlink, which wants frames at these places modulo 320, as `follow 7 0`
abbrev pub AsksForFollow : List (List ℕ) → ℕ → ℕ → Type 0
AsksForFollow words call want = NamesFollow words call want

-- the words are those of a command
abbrev pub AreCommand : List (List ℕ) → Type 0
AreCommand words =
    ((tool : Tool) × (call : ℕ) × AsksFor words tool call)
    ⊎ ((call : ℕ) × AsksForFrames words call)
    ⊎ ((settings : Settings) × AsksForRun words settings)
    ⊎ ((seed : ℕ) × (calls : ℕ) × (settings : Settings) × AsksForDrill words seed calls settings)
    ⊎ ((call : ℕ) × AsksForSplit words call)
    ⊎ ((call : ℕ) × AsksForMerge words call)
    ⊎ ((call : ℕ) × (want : ℕ) × AsksForFollow words call want)
    ⊎ ((settings : LiveSettings) × AsksForLive words settings)
    ⊎ ((settings : Settings) × AsksForSave words settings)
    ⊎ ((settings : Settings) × AsksForResume words settings)
