-- What `save` printed is a mark of the run that `resume` meets.
use Rattle.std.proofs.Common.{◌≡◌, ◌⊎◌, ℕ, ◌≤◌, List, ◌++◌, Option, Some, refl, ◌∙◌, ap, subst, arith}
use Rattle.std.specs.Io.KnownBytes.{Appends}
use Rattle.std.proofs.lemmas.List.{append_cancel_left}
use Rattle.trau_io.specs.declared.line.Side.{Side}
use Rattle.trau_io.specs.declared.line.Side.TheVariants.{Up, Pcm}
use Rattle.trau_io.specs.Lines.{LineState}
use Rattle.trau_io.specs.Desks.{DeskState}
use Rattle.trau_orders.specs.declared.order.Order.{Order}
use Rattle.trau_orders.specs.Text.{text_lines, AreLines, GoodOrBad, IsWithin, SpellsOneList}
use Rattle.farm_checkpoint.specs.Text.{HasOneMark, NotGoodAndBad, mark_text}
use Rattle.farm_orders.specs.Marked.{TellsMarked}
use Rattle.run_spec.specs.Run.{Run}
use Rattle.run_spec.specs.Mark.{mark_of}
use Rattle.farm_run.specs.Runs.{IsRunOver, none_fails}
use Rattle.command_words.specs.declared.asked.Settings.{Settings}
use Rattle.farm_top.specs.FarmClean.{IsCalmRun}
use Rattle.farm_top.specs.Promises.{FollowsSave}
use Rattle.farm_top.specs.Resume.{CarriesResume}
use Rattle.farm_top.proofs.Asking.{save_periods}
use Rattle.farm_top.proofs.Resuming.{same}

-- known octets that grew by two texts grew by the same
grown : (before now : Option (List ℕ)) (written text others : List ℕ) → before ≡ Some written → now ≡ Some (written ++ text) →
    Appends before now others → text ≡ others
grown before now written text others was is grew =
    append_cancel_left written text others
    (subst (λ (o : Option (List ℕ)). Appends (Some written) o others) is (subst (λ (o : Option (List ℕ)). Appends o now others) was grew))

-- a saved mark is taken, followed by orders
abbrev pub IsTaken : Type 0
IsTaken = (r : Run) (rest : List ℕ) (orders : List Order) (desk : DeskState) → 1 ≤ r.periods → r.periods ≤ 4294967295 → IsWithin rest →
    AreLines (text_lines rest) orders → desk.to_come ≡ Some (mark_text (mark_of r) ++ rest) → TellsMarked (mark_of r) orders desk

module _ (orders : List Order) (before : ℕ → Side → LineState) (desk : DeskState) (f : FollowsSave orders before desk) where
  -- the text is the mark of the run
  is_mark : f.text ≡ mark_text (mark_of f.run)
  is_mark = grown f.asked.written f.printed.written f.written f.text _ f.written_before f.written_after
      (f.promise.save_clean orders f.told f.calm (λ five. omega (arith, five)) f.run f.over).text

  -- it's a run over the lines here too
  run_here : (now : ℕ → Side → LineState) → IsRunOver orders f.run.periods none_fails before now f.run
  run_here now = record {
    same_orders = f.over.same_orders;
    same_periods = refl;
    up = λ c i. f.same c Up i tt ∙ f.over.up c i;
    pcm = λ c i. f.same c Pcm i tt ∙ f.over.pcm c i;
    up_failed = f.over.up_failed;
    pcm_failed = f.over.pcm_failed;
  }

  tells : IsTaken → TellsMarked (mark_of f.run) orders desk
  tells taken =
      let periods = save_periods f.words f.settings f.asks in
      taken f.run f.rest orders desk (omega (arith, periods.0, f.over.same_periods)) (omega (arith, periods.1, f.over.same_periods)) f.within f.spelled
      (f.to_come ∙ ap (λ (text : List ℕ). Some (text ++ f.rest)) is_mark)

  -- **So the run comes to its end.**
  pub takes_save : GoodOrBad → SpellsOneList → NotGoodAndBad → HasOneMark → IsTaken → (s : Settings) (now : ℕ → Side → LineState) (desk' : DeskState)
      (status : ℕ) →
      CarriesResume s before now desk desk' status → IsCalmRun before now desk desk' → (status ≡ 0) ⊎ (status ≡ 5)
  takes_save good one mark_good one_mark taken s now desk' status carried calm =
      same good one mark_good one_mark s before now desk desk' status (mark_of f.run) orders (tells taken) carried calm f.run (run_here now) refl
