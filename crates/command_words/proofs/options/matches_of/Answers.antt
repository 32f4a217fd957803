use Rattle.std.proofs.Common.{◌≡◌, ℕ, ◌≤◌, List, [], length, get_or, ap, sym, ◌∙◌, fold, take, map, subst, true, string_bytes, arith}
use Rattle.std.proofs.lemmas.List.{take_all}
use Rattle.std.proofs.lemmas.List.Sums.{fold_more}
use Rattle.std.specs.Borrow.{Bor}
use Rattle.std.specs.Prelude.{IfOk}
use Rattle.clap.specs.Words.{App, Text, HasMatchesOf, app_of, is_simple_and_free, fault_of, with_rule}
use Rattle.command_words.specs.Options.{bare_app, with_option}
use Rattle.command_words.proofs.options.matches_of.Goals as goal

pub loop-long-init : goal.loop-long-init
loop-long-init c = c.bare_command-command.ensures

pub loop-long-preserved : goal.loop-long-preserved
loop-long-preserved c =
    let names = c.args.names.now in
    let i = c.loop-long.long-index in
    let none : Bor Text = record { ref_ptr = (0, 0); now = [] } in
    c.in_ok-command.ensures.shape c.option.ensures.own ∙ ap (with_rule (app_of c.loop-long.command)) c.option.ensures.rule ∙
    ap (with_option (get_or names i none).now) c.loop-long.invariant ∙
    sym (fold_more (λ app name. with_option name.now app) (bare_app c.args.name.now) names i none c.loop-long-test.true)

-- at the loop's end each name has its option
all_names : (app start : App) (names : List (Bor Text)) (i : ℕ) → app ≡ fold (λ app name. with_option name.now app) start (take i names) → length names ≤ i →
    app ≡ fold (λ app name. with_option name.now app) start names
all_names app start names i so_far end = so_far ∙ ap (fold (λ app name. with_option name.now app) start) (take_all i names end)

pub returns-clause-matches : goal.returns-clause-matches
returns-clause-matches c =
    let same = all_names _ _ c.args.names.now c.loop-long.long-index c.loop-long.invariant (omega arith) in
    subst (λ (app : App). IfOk c.matches_in.result (HasMatchesOf app (map (λ w. string_bytes w) c.args.words.now))) same c.matches_in.ensures.matches

pub returns-clause-taken : goal.returns-clause-taken
returns-clause-taken c =
    let same = all_names _ _ c.args.names.now c.loop-long.long-index c.loop-long.invariant (omega arith) in
    subst (λ (app : App). IfOk c.matches_in.result (λ _. is_simple_and_free app ≡ true → fault_of app (map (λ w. string_bytes w) c.args.words.now) ≡ []))
    same c.matches_in.ensures.taken

pub returns-clause-words : goal.returns-clause-words
returns-clause-words c = λ reason words simple none.
    let same = all_names _ _ c.args.names.now c.loop-long.long-index c.loop-long.invariant (omega arith) in
    c.matches_in.ensures.words reason words (ap is_simple_and_free same ∙ simple)
    (ap (λ (app : App). fault_of app (map (λ w. string_bytes w) c.args.words.now)) same ∙ none)
