-- What was asked for and carried out doesn't end as words that ask for nothing.
use Rattle.std.proofs.Common.{◌≢◌, inl, ℕ, arith}
use Rattle.trau_io.specs.declared.line.Side.{Side}
use Rattle.trau_io.specs.Lines.{LineState}
use Rattle.trau_io.specs.Desks.{DeskState}
use Rattle.trau_orders.specs.Text.{GoodOrBad}
use Rattle.farm_checkpoint.specs.Text.{HasOneMark, NotGoodAndBad}
use Rattle.command_words.specs.declared.asked.Asked.{Asked}
use Rattle.command_words.specs.declared.asked.Asked.TheVariants.{Run, Save, Resume, Drill, Live, Relay, Frames, Encode, Decode, Follow, Split, Merge}
use Rattle.farm_top.specs.Top.{CarriesAsked}
use Rattle.farm_top.proofs.Drilling.{drill_ends}
use Rattle.farm_top.proofs.FarmCausing.{run_causes, save_causes}
use Rattle.farm_top.proofs.Living.{live_ends}
use Rattle.farm_top.proofs.ResumeReading.{resume_causes}

module _ (good : GoodOrBad) (mark_good : NotGoodAndBad) (one_mark : HasOneMark) (before now : ℕ → Side → LineState) (desk desk' : DeskState) (status : ℕ) where
  pub not_usage : (a : Asked) → CarriesAsked a before now desk desk' status → status ≢ 1
  not_usage (Run s) done one = let known = (run_causes good s before now desk desk' status (inl done)).known in omega (arith, one, known)
  not_usage (Save s) done one = let known = (save_causes good s before now desk desk' status (inl done)).known in omega (arith, one, known)
  not_usage (Resume s) done one = let known = (resume_causes good mark_good one_mark s before now desk desk' status (inl done)).known in
      omega (arith, one, known)
  not_usage (Drill seed calls s) done one = let known = (drill_ends seed calls s.periods before now desk desk' status done).known in omega (arith, one, known)
  not_usage (Live s) done one = let known = (live_ends s before now desk desk' status done).known in omega (arith, one, known)
  not_usage (Relay c) done one = let known = done.causes.known in omega (arith, one, known)
  not_usage (Frames c) done one = let known = done.causes.known in omega (arith, one, known)
  not_usage (Encode c) done one = let known = done.causes.known in omega (arith, one, known)
  not_usage (Decode c) done one = let known = done.causes.known in omega (arith, one, known)
  not_usage (Follow c want) done one = let known = done.causes.known in omega (arith, one, known)
  not_usage (Split c) done one = let known = done.causes.known in omega (arith, one, known)
  not_usage (Merge c) done one = let known = done.causes.known in omega (arith, one, known)
