-- From what a command does to all that is promised of it.
use Rattle.std.proofs.Common.{◌≡◌, ◌≢◌, ◌⊎◌, inl, inr, ⊎_elim, ℕ, ◌≤◌, List}
use Rattle.trau_io.specs.declared.line.Side.{Side}
use Rattle.trau_io.specs.Lines.{LineState}
use Rattle.trau_io.specs.Desks.{DeskState}
use Rattle.trau_orders.specs.Lists.{AreOrders}
use Rattle.trau_orders.specs.Text.{GoodOrBad, SpellsOneList}
use Rattle.farm_checkpoint.specs.Text.{HasOneMark, NotGoodAndBad}
use Rattle.run_spec.specs.Run.{Run as TheRun}
use Rattle.run_spec.specs.Mark.{Joins}
use Rattle.farm_tools.specs.declared.tool.Tool.{Tool}
use Rattle.farm_tools.specs.declared.tool.Tool.TheVariants.{Encode}
use Rattle.farm_tools.specs.Machines.{machine_of}
use Rattle.frame_listing.specs.Machine.{frames_machine}
use Rattle.frame_listing.proofs.Whole.{prints_all}
use Rattle.trau_submux.specs.Splits.{split_machine}
use Rattle.block_lines.specs.Machines.{Machine, RefusesNone}
use Rattle.block_lines.proofs.Ending.{never_refused}
use Rattle.command_words.specs.declared.asked.Asked.{Asked}
use Rattle.command_words.specs.declared.asked.Asked.TheVariants.{Follow, Frames, Merge, Split}
use Rattle.command_words.specs.declared.asked.Settings.{Settings}
use Rattle.command_words.specs.declared.live.LiveSettings.{LiveSettings}
use Rattle.command_words.specs.Asking.{Asks}
use Rattle.farm_top.specs.Drill.{CarriesDrill}
use Rattle.farm_top.specs.Farm.{AllStay, CarriesRun}
use Rattle.farm_top.specs.Lines.{CommandEnds}
use Rattle.farm_top.specs.Live.{CarriesLive}
use Rattle.farm_top.specs.Promises.{DrillPromise, LinePromise, LivePromise, ResumePromise, RunPromise, SavePromise}
use Rattle.farm_top.specs.Resume.{CarriesResume}
use Rattle.farm_top.specs.Save.{CarriesSave}
use Rattle.farm_top.specs.Top.{CarriesAsked}
use Rattle.farm_top.specs.Words.{AsksFor, AsksForFollow, AsksForFrames, AsksForMerge, AsksForSplit, TakeOptions}
use Rattle.farm_top.proofs.Asking.{asked_of, asks_tool, follow_carried, listing_carried, merge_carried, no_following, no_listing, no_merge, no_split}
use Rattle.farm_top.proofs.Asking.{no_tool, split_carried, tool_carried}
use Rattle.farm_top.proofs.Drilling.{drill_ends, not_six}
use Rattle.farm_top.proofs.FarmCausing.{run_causes, save_causes}
use Rattle.farm_top.proofs.FarmCleaning.{run_clean, run_complete, run_cut_short, run_ended, run_headline, run_leaves, save_clean, save_complete, save_cut_short}
use Rattle.farm_top.proofs.FarmCleaning.{save_ended, save_headline, save_leaves}
use Rattle.farm_top.proofs.Living.{live_ends}
use Rattle.farm_top.proofs.ResumeReading.{resume_causes}
use Rattle.farm_top.proofs.Resuming.{another, cut_short, differs, ended, joins, same}
use Rattle.farm_top.proofs.TakingSave.{IsTaken, takes_save}

-- a status of a run that was carried to its end without a line that failed
calm_due : (status : ℕ) → (status ≡ 0) ⊎ (status ≡ 4) → (status ≡ 0) ⊎ (status ≡ 4) ⊎ (status ≡ 6)
calm_due status (inl e) = inl e
calm_due status (inr e) = inr (inl e)

module _ (good : GoodOrBad) (one : SpellsOneList) (s : Settings) (before now : ℕ → Side → LineState) (desk desk' : DeskState) (status : ℕ) where
  pub run_promise : CarriesRun s before now desk desk' status → RunPromise s before now desk desk' status
  run_promise carried = record {
    run = carried;
    run_causes = run_causes good s before now desk desk' status carried;
    run_complete = λ orders told calm. run_complete good one s before now desk desk' status orders told calm carried;
    run_clean = λ orders told calm. run_clean good one s before now desk desk' status orders told calm carried;
    run_ended = λ orders told due. run_ended good one s before now desk desk' status orders told due carried;
    run_cut_short = λ orders told five. run_cut_short good one s before now desk desk' status orders told carried;
    run_leaves = λ orders told none due. run_leaves good one s before now desk desk' status orders told (calm_due status due) none carried;
    headline = λ orders told none due. run_headline good one s before now desk desk' status orders told (calm_due status due) none carried;
  }

  pub save_promise : CarriesSave s before now desk desk' status → SavePromise s before now desk desk' status
  save_promise carried = record {
    save = carried;
    save_causes = save_causes good s before now desk desk' status carried;
    save_complete = λ orders told calm. save_complete good one s before now desk desk' status orders told calm carried;
    save_clean = λ orders told calm. save_clean good one s before now desk desk' status orders told calm carried;
    save_ended = λ orders told due. save_ended good one s before now desk desk' status orders told due carried;
    save_cut_short = λ orders told five. save_cut_short good one s before now desk desk' status orders told carried;
    save_leaves = λ orders told none due. save_leaves good one s before now desk desk' status orders told (calm_due status due) none carried;
    save_headline = λ orders told none due. save_headline good one s before now desk desk' status orders told (calm_due status due) none carried;
  }

  module _ (mark_good : NotGoodAndBad) (one_mark : HasOneMark)
      (law : (r : TheRun) (p : ℕ) → AreOrders r.orders → p ≤ r.periods → Joins r p) (taken : IsTaken) where
    pub resume_promise : CarriesResume s before now desk desk' status → ResumePromise s before now desk desk' status
    resume_promise carried = record {
      resume = carried;
      resume_causes = resume_causes good mark_good one_mark s before now desk desk' status carried;
      resume_complete = λ mark orders told calm r over. (
        same good one mark_good one_mark s before now desk desk' status mark orders told carried calm r over,
        another good one mark_good one_mark s before now desk desk' status mark orders told carried calm r over,
      );
      resume_takes_save = λ orders follows calm.
          takes_save orders before desk follows good one mark_good one_mark taken s now desk' status carried calm;
      resume_ended = λ mark orders told. ended good one mark_good one_mark s before now desk desk' status mark orders told carried;
      resume_differs = λ mark orders told. differs good one mark_good one_mark s before now desk desk' status mark orders told carried;
      resume_cut_short = λ mark orders told. cut_short good one mark_good one_mark s before now desk desk' status mark orders told carried;
      resume_joins = λ mark orders told none due.
          joins good one mark_good one_mark s before now desk desk' status mark orders told carried law (calm_due status due) none;
    }

pub drill_promise : (seed calls : ℕ) (s : Settings) (before now : ℕ → Side → LineState) (desk desk' : DeskState) (status : ℕ) →
    AllStay before now × CarriesDrill seed calls s.periods desk desk' status → DrillPromise seed calls s before now desk desk' status
drill_promise seed calls s before now desk desk' status carried =
    let ends = drill_ends seed calls s.periods before now desk desk' status carried in
    record { drill = ends; drill_never_fails = not_six status ends.known }

pub live_promise : (s : LiveSettings) (before now : ℕ → Side → LineState) (desk desk' : DeskState) (status : ℕ) →
    AllStay before now × CarriesLive s desk desk' status → LivePromise s before now desk desk' status
live_promise s before now desk desk' status carried = record { live = live_ends s before now desk desk' status carried }

module _ (words : List (List ℕ)) (before now : ℕ → Side → LineState) (desk desk' : DeskState) (status : ℕ) where
  -- a machine that refuses nothing
  takes_all : (M : Machine) (c : ℕ) → RefusesNone M → CommandEnds M before now desk desk' c status → status ≢ 8
  takes_all M c none ends = never_refused M _ _ status none ends.causes

  -- words that were carried out
  pub line_promise : (a : Asked) → Asks words a → CarriesAsked a before now desk desk' status → LinePromise words before now desk desk' status
  line_promise a meant done = record {
    command = tool_carried words a meant before now desk desk' status done;
    frames = listing_carried words a meant before now desk desk' status done;
    yields = prints_all;
    split = split_carried words a meant before now desk desk' status done;
    merge = merge_carried words a meant before now desk desk' status done;
    follow = follow_carried words a meant before now desk desk' status done;
    never_refused = λ c. ⊎_elim
        (λ encode. takes_all (machine_of Encode) c (record { takes = λ block whole. tt; left = λ rest less. tt })
        (tool_carried words a meant before now desk desk' status done Encode c encode))
        (⊎_elim (λ listing. takes_all frames_machine c (record { takes = λ block whole. tt; left = λ rest less. tt })
        (listing_carried words a meant before now desk desk' status done c listing))
        (λ split. takes_all split_machine c (record { takes = λ block whole. tt; left = λ rest less. tt })
        (split_carried words a meant before now desk desk' status done c split)));
  }

  -- words that ask for no command on lines
  none_promised : ((t : Tool) (c : ℕ) → AsksFor words t c → ⊥) → ((c : ℕ) → AsksForFrames words c → ⊥) → ((c : ℕ) → AsksForSplit words c → ⊥) →
      ((c : ℕ) → AsksForMerge words c → ⊥) → ((c want : ℕ) → AsksForFollow words c want → ⊥) → LinePromise words before now desk desk' status
  none_promised tool frames split merge follow = record {
    command = λ t c asks. absurd (tool t c asks);
    frames = λ c asks. absurd (frames c asks);
    yields = prints_all;
    split = λ c asks. absurd (split c asks);
    merge = λ c asks. absurd (merge c asks);
    follow = λ c want asks. absurd (follow c want asks);
    never_refused = λ c asks. absurd (⊎_elim (tool Encode c) (⊎_elim (frames c) (split c)) asks);
  }

  pub no_command_promised : ((a : Asked) → Asks words a → ⊥) → LinePromise words before now desk desk' status
  no_command_promised none = none_promised (λ t c asks. none (asked_of t c) (asks_tool words t c asks)) (λ c. none (Frames c)) (λ c. none (Split c))
      (λ c. none (Merge c)) (λ c want. none (Follow c want))

  pub options_promised : TakeOptions words → LinePromise words before now desk desk' status
  options_promised take = none_promised (λ t c. no_tool words t c take) (λ c. no_listing words c take) (λ c. no_split words c take)
      (λ c. no_merge words c take) (λ c want. no_following words c want take)
