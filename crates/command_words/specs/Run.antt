-- The words of a run (this project's profile), by a command of the crate `clap`.
use Rattle.std.specs.Prelude.{◌≡◌, List, [], ◌∷◌, Option, is_some, true, codes}
use Rattle.clap.specs.Words.{App, Text, fault_of, matches_of, first_of}
use Rattle.command_words.specs.declared.asked.Settings.{Settings}
use Rattle.command_words.specs.Options.{bare_app, with_option, GivesSettings}

-- the command `run` with its four options, which `save` and `resume` have too
abbrev pub run_app : App
run_app = with_option (codes "periods") (with_option (codes "slice") (with_option (codes "batch") (with_option (codes "workers") (bare_app (codes "run")))))

-- options are taken and give these settings: by the definitions of `clap` they have no fault, and the text of each
-- option is a number in its range
pub record AreOptions (options : List Text) (s : Settings) : Type 0 where
  pub taken : fault_of run_app options ≡ []
  pub gives : GivesSettings 4294967295 4294967295 (λ name. first_of name (matches_of run_app options)) s

-- the text of `--periods`, if it is given
abbrev pub periods_option : List Text → Option Text
periods_option options = first_of (codes "periods") (matches_of run_app options)

-- `--periods` is given
abbrev pub GivePeriods : List Text → Type 0
GivePeriods options = is_some (periods_option options) ≡ true

-- words ask for a run with these settings: `run`, and options that give them
pub record AsksRun (words : List Text) (s : Settings) : Type 0 where
  pub options : List Text
  pub spelled : words ≡ codes "run" ∷ options
  pub are : AreOptions options s

-- words ask for a run up to a mark: `save`, and the options of a run with `--periods`
pub record AsksSave (words : List Text) (s : Settings) : Type 0 where
  pub options : List Text
  pub spelled : words ≡ codes "save" ∷ options
  pub are : AreOptions options s
  pub marked : GivePeriods options

-- words ask for a run from a mark on: `resume`, and the options of a run
pub record AsksResume (words : List Text) (s : Settings) : Type 0 where
  pub options : List Text
  pub spelled : words ≡ codes "resume" ∷ options
  pub are : AreOptions options s
