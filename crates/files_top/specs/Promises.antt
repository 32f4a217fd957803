-- All that the top function promises, of lines and desk before and after a command (this project's profile).
use Rattle.std.specs.Prelude.{◌≡◌, ◌≢◌, ◌⊎◌, ℕ, List, codes}
use Rattle.trau_io.specs.declared.line.Side.{Side}
use Rattle.trau_io.specs.Desks.{DeskState}
use Rattle.trau_io.specs.Lines.{LineState}
use Rattle.command_words.specs.declared.asked.Settings.{Settings}
use Rattle.command_words.specs.declared.live.LiveSettings.{LiveSettings}
use Rattle.farm_top.specs.Farm.{AllStay, LacksMemory, TextOut}
use Rattle.farm_top.specs.Promises.{DrillPromise, LinePromise, LivePromise, ResumePromise, RunPromise, SavePromise}
use Rattle.farm_top.specs.Words.{AreCommand, AsksForDrill, AsksForLive, AsksForResume, AsksForRun, AsksForSave, TakeOptions}

-- the clauses of `farm_top`
pub record TopPromise (words : List (List ℕ)) (before now : ℕ → Side → LineState) (desk desk' : DeskState) (status : ℕ) : Type 0 where
  pub usage : (AreCommand words → ⊥) → (status ≡ 1) ⊎ (TakeOptions words × LacksMemory desk desk' status)
  pub usage_only : AreCommand words → status ≢ 1
  pub usage_text : status ≡ 1 → TextOut desk desk' (codes "usage\n")
  pub unused : (AreCommand words → ⊥) → AllStay before now
  pub run : (s : Settings) → AsksForRun words s → RunPromise s before now desk desk' status
  pub save : (s : Settings) → AsksForSave words s → SavePromise s before now desk desk' status
  pub resume : (s : Settings) → AsksForResume words s → ResumePromise s before now desk desk' status
  pub drill : (seed calls : ℕ) (s : Settings) → AsksForDrill words seed calls s → DrillPromise seed calls s before now desk desk' status
  pub live : (s : LiveSettings) → AsksForLive words s → LivePromise s before now desk desk' status
  pub lines : LinePromise words before now desk desk' status
