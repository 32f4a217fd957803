use Rattle.std.proofs.Common.{◌≡◌, inl, inr, ℕ, refl, arith, rules}
use Rattle.command_words.specs.declared.asked.Asked.TheVariants.{Drill, Live, Resume, Run, Save}
use Rattle.farm_top.specs.Top.{IsInRange}
use Rattle.farm_top.proofs.Asking.{drill_carried, in_range, is_command, live_carried, no_command, resume_carried, run_carried, save_carried}
use Rattle.farm_top.proofs.Ending.{not_usage}
use Rattle.farm_top.proofs.Promising.{drill_promise, line_promise, live_promise, no_command_promised, options_promised, resume_promise, run_promise, save_promise}
use Rattle.farm_top.proofs.top.farm_top.Goals as goal

not_five : (status : ℕ) → status ≡ 1 → status ≡ 5 → ⊥
not_five status one five = omega (arith, one, five)

pub carry_out-requires : goal.carry_out-requires
carry_out-requires g c = let range : IsInRange c.in-Ok.asked = in_range _ _ c.in-Ok.ensures.ok in search rules

-- what the words ask for was carried out
pub returns-in-Ok-clause-usage : goal.returns-in-Ok-clause-usage
returns-in-Ok-clause-usage g c = λ not. absurd (not (is_command _ _ c.in-Ok.ensures.ok))

pub returns-in-Ok-clause-usage_only : goal.returns-in-Ok-clause-usage_only
returns-in-Ok-clause-usage_only g c =
    λ _. not_usage c.one_answer.ensures.good c.one_answer-2.ensures.good c.one_answer-2.ensures.mark _ _ _ _ _ _ c.carry_out.ensures

pub returns-in-Ok-clause-usage_text : goal.returns-in-Ok-clause-usage_text
returns-in-Ok-clause-usage_text g c =
    λ one. absurd (not_usage c.one_answer.ensures.good c.one_answer-2.ensures.good c.one_answer-2.ensures.mark _ _ _ _ _ _ c.carry_out.ensures one)

pub returns-in-Ok-clause-unused : goal.returns-in-Ok-clause-unused
returns-in-Ok-clause-unused g c = λ not. absurd (not (is_command _ _ c.in-Ok.ensures.ok))

pub returns-in-Ok-clause-run : goal.returns-in-Ok-clause-run
returns-in-Ok-clause-run g c = λ s asks. run_promise c.one_answer.ensures.good c.one_answer.ensures.orders s _ _ _ _ _
    (inl (run_carried _ _ c.in-Ok.ensures.ok _ _ _ _ _ c.carry_out.ensures s asks))

pub returns-in-Ok-clause-save : goal.returns-in-Ok-clause-save
returns-in-Ok-clause-save g c = λ s asks. save_promise c.one_answer.ensures.good c.one_answer.ensures.orders s _ _ _ _ _
    (inl (save_carried _ _ c.in-Ok.ensures.ok _ _ _ _ _ c.carry_out.ensures s asks))

pub returns-in-Ok-clause-resume : goal.returns-in-Ok-clause-resume
returns-in-Ok-clause-resume g c = λ s asks. resume_promise c.one_answer.ensures.good c.one_answer.ensures.orders s _ _ _ _ _
    c.one_answer-2.ensures.good c.one_answer-2.ensures.mark c.a_run_is_joined_of_two.ensures c.a_saved_mark_is_taken.ensures
    (inl (resume_carried _ _ c.in-Ok.ensures.ok _ _ _ _ _ c.carry_out.ensures s asks))

pub returns-in-Ok-clause-drill : goal.returns-in-Ok-clause-drill
returns-in-Ok-clause-drill g c = λ seed calls s asks.
    drill_promise seed calls s _ _ _ _ _ (drill_carried _ _ c.in-Ok.ensures.ok _ _ _ _ _ c.carry_out.ensures seed calls s asks)

pub returns-in-Ok-clause-live : goal.returns-in-Ok-clause-live
returns-in-Ok-clause-live g c = λ s asks. live_promise s _ _ _ _ _ (live_carried _ _ c.in-Ok.ensures.ok _ _ _ _ _ c.carry_out.ensures s asks)

pub returns-in-Ok-clause-lines : goal.returns-in-Ok-clause-lines
returns-in-Ok-clause-lines g c = line_promise _ _ _ _ _ _ _ c.in-Ok.ensures.ok c.carry_out.ensures

-- the words ask for nothing
pub returns-in-Err-Usage-clause-usage_only : goal.returns-in-Err-Usage-clause-usage_only
returns-in-Err-Usage-clause-usage_only g c = λ are. absurd (no_command _ (c.in-Err-Usage.ensures.usage (search rules)) are)

pub returns-in-Err-Usage-clause-run : goal.returns-in-Err-Usage-clause-run
returns-in-Err-Usage-clause-run g c = λ s asks. absurd (c.in-Err-Usage.ensures.usage (search rules) (Run s) asks)

pub returns-in-Err-Usage-clause-save : goal.returns-in-Err-Usage-clause-save
returns-in-Err-Usage-clause-save g c = λ s asks. absurd (c.in-Err-Usage.ensures.usage (search rules) (Save s) asks)

pub returns-in-Err-Usage-clause-resume : goal.returns-in-Err-Usage-clause-resume
returns-in-Err-Usage-clause-resume g c = λ s asks. absurd (c.in-Err-Usage.ensures.usage (search rules) (Resume s) asks)

pub returns-in-Err-Usage-clause-drill : goal.returns-in-Err-Usage-clause-drill
returns-in-Err-Usage-clause-drill g c = λ seed calls s asks. absurd (c.in-Err-Usage.ensures.usage (search rules) (Drill seed calls s) asks)

pub returns-in-Err-Usage-clause-live : goal.returns-in-Err-Usage-clause-live
returns-in-Err-Usage-clause-live g c = λ s asks. absurd (c.in-Err-Usage.ensures.usage (search rules) (Live s) asks)

pub returns-in-Err-Usage-clause-lines : goal.returns-in-Err-Usage-clause-lines
returns-in-Err-Usage-clause-lines g c = no_command_promised _ _ _ _ _ _ (c.in-Err-Usage.ensures.usage (search rules))

-- there was no memory for the words, which begin with a command that takes options
pub returns-in-Err-Memory-clause-usage : goal.returns-in-Err-Memory-clause-usage
returns-in-Err-Memory-clause-usage g c = λ _. inr (c.in-Err-Memory.ensures.memory (search rules), c.no_memory.ensures)

pub returns-in-Err-Memory-clause-usage_only : goal.returns-in-Err-Memory-clause-usage_only
returns-in-Err-Memory-clause-usage_only g c = λ _ one. not_five _ one c.no_memory.ensures.status_is

pub returns-in-Err-Memory-clause-usage_text : goal.returns-in-Err-Memory-clause-usage_text
returns-in-Err-Memory-clause-usage_text g c = λ one. absurd (not_five _ one c.no_memory.ensures.status_is)

pub returns-in-Err-Memory-clause-run : goal.returns-in-Err-Memory-clause-run
returns-in-Err-Memory-clause-run g c = λ s asks. run_promise c.one_answer.ensures.good c.one_answer.ensures.orders s _ _ _ _ _
    (inr ((λ n side. refl), c.no_memory.ensures))

pub returns-in-Err-Memory-clause-save : goal.returns-in-Err-Memory-clause-save
returns-in-Err-Memory-clause-save g c = λ s asks. save_promise c.one_answer.ensures.good c.one_answer.ensures.orders s _ _ _ _ _
    (inr ((λ n side. refl), c.no_memory.ensures))

pub returns-in-Err-Memory-clause-resume : goal.returns-in-Err-Memory-clause-resume
returns-in-Err-Memory-clause-resume g c = λ s asks. resume_promise c.one_answer.ensures.good c.one_answer.ensures.orders s _ _ _ _ _
    c.one_answer-2.ensures.good c.one_answer-2.ensures.mark c.a_run_is_joined_of_two.ensures c.a_saved_mark_is_taken.ensures
    (inr ((λ n side. refl), c.no_memory.ensures))

pub returns-in-Err-Memory-clause-drill : goal.returns-in-Err-Memory-clause-drill
returns-in-Err-Memory-clause-drill g c = λ seed calls s asks. drill_promise seed calls s _ _ _ _ _ ((λ n side. refl), inr c.no_memory.ensures)

pub returns-in-Err-Memory-clause-live : goal.returns-in-Err-Memory-clause-live
returns-in-Err-Memory-clause-live g c = λ s asks. live_promise s _ _ _ _ _ ((λ n side. refl), inr c.no_memory.ensures)

pub returns-in-Err-Memory-clause-lines : goal.returns-in-Err-Memory-clause-lines
returns-in-Err-Memory-clause-lines g c = options_promised _ _ _ _ _ _ (c.in-Err-Memory.ensures.memory (search rules))
