use Rattle.std.proofs.Common.{◌∙◌, inl, inr, subst, refl, Ok, Err}
use Rattle.trau_io.specs.Transfer.{Tells}
use Rattle.block_lines.specs.Command.{IsEndOf}
use Rattle.block_lines.proofs.Ending.{causes_of, leaves_of, never_refused, of_run}
use Rattle.block_lines.proofs.command.run_command.Goals as goal

pub returns-in-Ok-clause-runs : goal.returns-in-Ok-clause-runs
returns-in-Ok-clause-runs g c =
    let ran = c.run_machine-end.ensures.runs in
    record {
      end = c.run_machine-end.result;
      middle = g.D.Desk.desk c.run_machine-end.new.desk;
      runs = ran.0;
      others = c.run_machine-end.ensures.others;
      tells = inl (
        subst (λ shape. IsEndOf shape c.args.call c.run_machine-end.result c.tool_end.result) c.shape-shape.ensures.value c.tool_end.ensures,
        subst (Tells (g.D.Desk.desk c.run_machine-end.new.desk) (g.D.Desk.desk c.tell.new.desk) (Ok tt))
            (c.as_bytes.ensures.value ∙ c.deref.ensures.0 ∙ c.end_text-text.ensures ran.0.blocks ran.0.last ran.1 (of_run _ _ _ _ ran.0)) c.in-Ok.ensures,
      );
    }

pub returns-in-Err-clause-runs : goal.returns-in-Err-clause-runs
returns-in-Err-clause-runs g c =
    let ran = c.run_machine-end.ensures.runs in
    record {
      end = c.run_machine-end.result;
      middle = g.D.Desk.desk c.run_machine-end.new.desk;
      runs = ran.0;
      others = c.run_machine-end.ensures.others;
      tells = inr (
        refl,
        subst (Tells (g.D.Desk.desk c.run_machine-end.new.desk) (g.D.Desk.desk c.tell.new.desk) (Err (record {})))
            (c.as_bytes.ensures.value ∙ c.deref.ensures.0 ∙ c.end_text-text.ensures ran.0.blocks ran.0.last ran.1 (of_run _ _ _ _ ran.0)) c.in-Err.ensures,
      );
    }

pub returns-in-Ok-clause-causes : goal.returns-in-Ok-clause-causes
returns-in-Ok-clause-causes g c = causes_of _ c.shape-shape.ensures.law _ _ _ _ c.args.call _ (returns-in-Ok-clause-runs g c)

pub returns-in-Ok-clause-clean : goal.returns-in-Ok-clause-clean
returns-in-Ok-clause-clean g c = leaves_of _ _ _ _ _ c.args.call _ (returns-in-Ok-clause-runs g c)

pub returns-in-Err-clause-causes : goal.returns-in-Err-clause-causes
returns-in-Err-clause-causes g c = causes_of _ c.shape-shape.ensures.law _ _ _ _ c.args.call _ (returns-in-Err-clause-runs g c)

pub returns-in-Err-clause-clean : goal.returns-in-Err-clause-clean
returns-in-Err-clause-clean g c = leaves_of _ _ _ _ _ c.args.call _ (returns-in-Err-clause-runs g c)

pub returns-in-Ok-clause-never_refused : goal.returns-in-Ok-clause-never_refused
returns-in-Ok-clause-never_refused g c = λ none. never_refused _ _ _ _ none (returns-in-Ok-clause-causes g c)

pub returns-in-Err-clause-never_refused : goal.returns-in-Err-clause-never_refused
returns-in-Err-clause-never_refused g c = λ none. never_refused _ _ _ _ none (returns-in-Err-clause-causes g c)
