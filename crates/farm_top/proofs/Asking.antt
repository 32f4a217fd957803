-- What the words ask for, and that it is carried out.
use Rattle.std.proofs.Common.{inl, inr, ℕ, ◌≤◌, List, Option, Some, None, subst, arith}
use Rattle.trau_io.specs.declared.line.Side.{Side}
use Rattle.trau_io.specs.Lines.{LineState}
use Rattle.trau_io.specs.Desks.{DeskState}
use Rattle.farm_tools.specs.declared.tool.Tool.{Tool}
use Rattle.farm_tools.specs.declared.tool.Tool.TheVariants as tool
use Rattle.farm_tools.specs.Machines.{machine_of}
use Rattle.frame_listing.specs.Machine.{frames_machine}
use Rattle.trau_submux.specs.Splits.{split_machine}
use Rattle.command_words.specs.declared.asked.Asked.{Asked}
use Rattle.command_words.specs.declared.asked.Asked.TheVariants.{Run, Save, Resume, Drill, Live, Relay, Frames, Encode, Decode, Follow, Split, Merge}
use Rattle.command_words.specs.declared.asked.Settings.{Settings}
use Rattle.command_words.specs.declared.live.LiveSettings.{LiveSettings}
use Rattle.command_words.specs.Asking.{Asks}
use Rattle.command_words.specs.Options.{GivesSettings, IsValueOf}
use Rattle.command_words.proofs.Asking.{one_asked}
use Rattle.command_words.proofs.Naming.{has_options}
use Rattle.farm_run.specs.Pace.{IsPace}
use Rattle.farm_top.specs.Drill.{CarriesDrill}
use Rattle.farm_top.specs.Farm.{AllStay, RunsFarm, pace_of}
use Rattle.farm_top.specs.Follow.{FollowEnds}
use Rattle.farm_top.specs.Live.{CarriesLive}
use Rattle.farm_top.specs.Resume.{ResumesFarm}
use Rattle.farm_top.specs.Save.{SavesFarm}
use Rattle.farm_top.specs.Lines.{CommandEnds, MergeEnds}
use Rattle.farm_top.specs.Top.{CarriesAsked, IsInRange}
use Rattle.farm_top.specs.Words.{AreCommand, AsksFor, AsksForDrill, AsksForFollow, AsksForFrames, AsksForLive, AsksForMerge, AsksForResume, AsksForRun}
use Rattle.farm_top.specs.Words.{AsksForSave, AsksForSplit, TakeOptions}

-- a tool's work on a call
abbrev pub asked_of : Tool → ℕ → Asked
asked_of tool.Relay c = Relay c
asked_of tool.Decode c = Decode c
asked_of tool.Encode c = Encode c

pub asks_tool : (words : List (List ℕ)) (t : Tool) (c : ℕ) → AsksFor words t c → Asks words (asked_of t c)
asks_tool words tool.Relay c asks = asks
asks_tool words tool.Decode c asks = asks
asks_tool words tool.Encode c asks = asks

-- words that ask for something are those of a command
pub is_command : (words : List (List ℕ)) (a : Asked) → Asks words a → AreCommand words
is_command words (Run s) asks = inr (inr (inl (s, asks)))
is_command words (Drill seed calls s) asks = inr (inr (inr (inl (seed, calls, s, asks))))
is_command words (Relay c) asks = inl (tool.Relay, c, asks)
is_command words (Frames c) asks = inr (inl (c, asks))
is_command words (Encode c) asks = inl (tool.Encode, c, asks)
is_command words (Decode c) asks = inl (tool.Decode, c, asks)
is_command words (Split c) asks = inr (inr (inr (inr (inl (c, asks)))))
is_command words (Merge c) asks = inr (inr (inr (inr (inr (inl (c, asks))))))
is_command words (Follow c want) asks = inr (inr (inr (inr (inr (inr (inl (c, want, asks)))))))
is_command words (Live s) asks = inr (inr (inr (inr (inr (inr (inr (inl (s, asks))))))))
is_command words (Save s) asks = inr (inr (inr (inr (inr (inr (inr (inr (inl (s, asks)))))))))
is_command words (Resume s) asks = inr (inr (inr (inr (inr (inr (inr (inr (inr (s, asks)))))))))

-- and those of a command ask for something
pub no_command : (words : List (List ℕ)) → ((a : Asked) → Asks words a → ⊥) → AreCommand words → ⊥
no_command words none (inl (t, c, asks)) = none (asked_of t c) (asks_tool words t c asks)
no_command words none (inr (inl (c, asks))) = none (Frames c) asks
no_command words none (inr (inr (inl (s, asks)))) = none (Run s) asks
no_command words none (inr (inr (inr (inl (seed, calls, s, asks))))) = none (Drill seed calls s) asks
no_command words none (inr (inr (inr (inr (inl (c, asks)))))) = none (Split c) asks
no_command words none (inr (inr (inr (inr (inr (inl (c, asks))))))) = none (Merge c) asks
no_command words none (inr (inr (inr (inr (inr (inr (inl (c, want, asks)))))))) = none (Follow c want) asks
no_command words none (inr (inr (inr (inr (inr (inr (inr (inl (s, asks))))))))) = none (Live s) asks
no_command words none (inr (inr (inr (inr (inr (inr (inr (inr (inl (s, asks)))))))))) = none (Save s) asks
no_command words none (inr (inr (inr (inr (inr (inr (inr (inr (inr (s, asks)))))))))) = none (Resume s) asks

-- words that begin with a command that takes options ask for no other
pub no_tool : (words : List (List ℕ)) (t : Tool) (c : ℕ) → TakeOptions words → AsksFor words t c → ⊥
no_tool words tool.Relay c take asks = has_options words (Relay c) take asks
no_tool words tool.Decode c take asks = has_options words (Decode c) take asks
no_tool words tool.Encode c take asks = has_options words (Encode c) take asks

pub no_listing : (words : List (List ℕ)) (c : ℕ) → TakeOptions words → AsksForFrames words c → ⊥
no_listing words c take asks = has_options words (Frames c) take asks

pub no_split : (words : List (List ℕ)) (c : ℕ) → TakeOptions words → AsksForSplit words c → ⊥
no_split words c take asks = has_options words (Split c) take asks

pub no_merge : (words : List (List ℕ)) (c : ℕ) → TakeOptions words → AsksForMerge words c → ⊥
no_merge words c take asks = has_options words (Merge c) take asks

pub no_following : (words : List (List ℕ)) (c want : ℕ) → TakeOptions words → AsksForFollow words c want → ⊥
no_following words c want take asks = has_options words (Follow c want) take asks

-- a value of an option is in the range that its default is in
value_in : (text : Option (List ℕ)) (low high default n : ℕ) → low ≤ default → default ≤ high → IsValueOf text low high default n → (low ≤ n) × (n ≤ high)
value_in None low high default n above below is = (omega (arith, above, is), omega (arith, below, is))
value_in (Some text) low high default n above below is = (is.at_least, is.at_most)

pace_in : (most default : ℕ) (text_of : List ℕ → Option (List ℕ)) (s : Settings) → 1 ≤ default → default ≤ most → GivesSettings most default text_of s →
    IsPace (pace_of s) × (s.periods ≤ most)
pace_in most default text_of s some within gives =
    let workers = value_in _ 1 64 4 s.workers (omega arith) (omega arith) gives.workers in
    let batch = value_in _ 1 250 50 s.batch (omega arith) (omega arith) gives.batch in
    let slice = value_in _ 1 250 5 s.slice (omega arith) (omega arith) gives.slice in
    let periods = value_in _ 1 most default s.periods some within gives.periods in (
      record { some_workers = workers.0; few_workers = workers.1; some_periods = batch.0; few_periods = batch.1; slice = slice.0; periods = periods.0 },
      periods.1,
    )

-- the number of periods of a `save`
pub save_periods : (words : List (List ℕ)) (s : Settings) → AsksForSave words s → (1 ≤ s.periods) × (s.periods ≤ 4294967295)
save_periods words s asks = let pace = pace_in 4294967295 4294967295 _ s (omega arith) (omega arith) asks.are.gives in (pace.0.periods, pace.1)

-- what words ask for is in its ranges
pub in_range : (words : List (List ℕ)) (a : Asked) → Asks words a → IsInRange a
in_range words (Run s) asks = (pace_in 4294967295 4294967295 _ s (omega arith) (omega arith) asks.are.gives).0
in_range words (Save s) asks = (pace_in 4294967295 4294967295 _ s (omega arith) (omega arith) asks.are.gives).0
in_range words (Resume s) asks = (pace_in 4294967295 4294967295 _ s (omega arith) (omega arith) asks.are.gives).0
in_range words (Drill seed calls s) asks =
    let pace = pace_in 1000 200 _ s (omega arith) (omega arith) asks.are.gives.settings in
    ((value_in _ 1 256 64 calls (omega arith) (omega arith) asks.are.gives.calls).1, pace.1, pace.0)
in_range words (Live s) asks =
    let gives = asks.are.gives in
    let calls = value_in _ 1 256 64 s.calls (omega arith) (omega arith) gives.calls in
    let periods = value_in _ 1 1000 200 s.periods (omega arith) (omega arith) gives.periods in
    let callers = value_in _ 1 64 4 s.callers (omega arith) (omega arith) gives.callers in
    let inbox = value_in _ 1 1024 8 s.inbox (omega arith) (omega arith) gives.inbox in record {
      some_calls = calls.0;
      calls = calls.1;
      some_periods = periods.0;
      periods = periods.1;
      some_callers = callers.0;
      callers = callers.1;
      some_room = inbox.0;
      inbox = inbox.1;
    }
in_range words (Relay c) asks = (asks.low, asks.high)
in_range words (Frames c) asks = (asks.low, asks.high)
in_range words (Encode c) asks = (asks.low, asks.high)
in_range words (Decode c) asks = (asks.low, asks.high)
in_range words (Follow c want) asks = ((asks.low, asks.high), asks.wanted.high, asks.wanted.fours)
in_range words (Split c) asks = ((asks.low, omega (arith, asks.high)), (omega arith, omega (arith, asks.high)))
in_range words (Merge c) asks = ((asks.low, omega (arith, asks.high)), (omega arith, omega (arith, asks.high)))

module _ (words : List (List ℕ)) (a : Asked) (meant : Asks words a) (before now : ℕ → Side → LineState) (desk desk' : DeskState) (status : ℕ) where
  carries_tool : (t : Tool) (c : ℕ) → CarriesAsked (asked_of t c) before now desk desk' status → CommandEnds (machine_of t) before now desk desk' c status
  carries_tool tool.Relay c done = done
  carries_tool tool.Decode c done = done
  carries_tool tool.Encode c done = done

  -- what was asked for and carried out is what the words ask for
  pub tool_carried : CarriesAsked a before now desk desk' status → (t : Tool) (c : ℕ) → AsksFor words t c →
      CommandEnds (machine_of t) before now desk desk' c status
  tool_carried done t c asks =
      carries_tool t c (subst (λ b. CarriesAsked b before now desk desk' status) (one_asked words a (asked_of t c) meant (asks_tool words t c asks)) done)

  pub listing_carried : CarriesAsked a before now desk desk' status → (c : ℕ) → AsksForFrames words c →
      CommandEnds frames_machine before now desk desk' c status
  listing_carried done c asks = subst (λ b. CarriesAsked b before now desk desk' status) (one_asked words a (Frames c) meant asks) done

  pub run_carried : CarriesAsked a before now desk desk' status → (s : Settings) → AsksForRun words s → RunsFarm s before now desk desk' status
  run_carried done s asks = subst (λ b. CarriesAsked b before now desk desk' status) (one_asked words a (Run s) meant asks) done

  pub save_carried : CarriesAsked a before now desk desk' status → (s : Settings) → AsksForSave words s → SavesFarm s before now desk desk' status
  save_carried done s asks = subst (λ b. CarriesAsked b before now desk desk' status) (one_asked words a (Save s) meant asks) done

  pub resume_carried : CarriesAsked a before now desk desk' status → (s : Settings) → AsksForResume words s → ResumesFarm s before now desk desk' status
  resume_carried done s asks = subst (λ b. CarriesAsked b before now desk desk' status) (one_asked words a (Resume s) meant asks) done

  pub drill_carried : CarriesAsked a before now desk desk' status → (seed calls : ℕ) (s : Settings) → AsksForDrill words seed calls s →
      AllStay before now × CarriesDrill seed calls s.periods desk desk' status
  drill_carried done seed calls s asks = subst (λ b. CarriesAsked b before now desk desk' status) (one_asked words a (Drill seed calls s) meant asks) done

  pub follow_carried : CarriesAsked a before now desk desk' status → (c want : ℕ) → AsksForFollow words c want →
      FollowEnds before now desk desk' c want status
  follow_carried done c want asks = subst (λ b. CarriesAsked b before now desk desk' status) (one_asked words a (Follow c want) meant asks) done

  pub live_carried : CarriesAsked a before now desk desk' status → (s : LiveSettings) → AsksForLive words s →
      AllStay before now × CarriesLive s desk desk' status
  live_carried done s asks = subst (λ b. CarriesAsked b before now desk desk' status) (one_asked words a (Live s) meant asks) done

  pub split_carried : CarriesAsked a before now desk desk' status → (c : ℕ) → AsksForSplit words c →
      CommandEnds split_machine before now desk desk' c status
  split_carried done c asks = subst (λ b. CarriesAsked b before now desk desk' status) (one_asked words a (Split c) meant asks) done

  pub merge_carried : CarriesAsked a before now desk desk' status → (c : ℕ) → AsksForMerge words c → MergeEnds before now desk desk' c status
  merge_carried done c asks = subst (λ b. CarriesAsked b before now desk desk' status) (one_asked words a (Merge c) meant asks) done
