-- Commands with options (this project's profile), as commands of the crate `clap`.
use Rattle.std.specs.Prelude.{◌≡◌, ◌⊎◌, ℕ, List, ◌∷◌, true, Option, Some, None, codes}
use Rattle.clap.specs.Words.{App, Rule, Text, new_app, new_rule, with_rule}
use Rattle.clap.specs.Simple.{on_top}
use Rattle.clap.specs.declared.builder.action.ArgAction.TheVariants.{Set}
use Rattle.decimal_number.specs.Number.{IsNumber}
use Rattle.command_words.specs.declared.asked.Settings.{Settings}

-- an option with a long name and one value
abbrev pub option_rule : Text → Rule
option_rule name = record (new_rule name) { long = Some name; action = Some Set }

-- a command whose words are its options only, without flags for help and version
abbrev pub bare_app : Text → App
bare_app name = on_top (λ s. record s { no_binary_name = true; disable_help_flag = true; disable_version_flag = true }) (new_app name)

abbrev pub with_option : Text → App → App
with_option name app = with_rule app (option_rule name)

-- the value of an option: a number in its range, in decimal digits without leading zeros, or its default if it isn't
-- given
abbrev pub IsValueOf : Option Text → ℕ → ℕ → ℕ → ℕ → Type 0
IsValueOf None low high default n = n ≡ default
IsValueOf (Some text) low high default n = IsNumber low high text n

-- The settings that options give; `text_of` has the text of each option, by its name. `most` and `default` are the
-- command's: the highest number of periods, and the number without `--periods`.
pub record GivesSettings (most default : ℕ) (text_of : Text → Option Text) (s : Settings) : Type 0 where
  pub workers : IsValueOf (text_of (codes "workers")) 1 64 4 s.workers
  pub batch : IsValueOf (text_of (codes "batch")) 1 250 50 s.batch
  pub slice : IsValueOf (text_of (codes "slice")) 1 250 5 s.slice
  pub periods : IsValueOf (text_of (codes "periods")) 1 most default s.periods

-- the first word is this one
abbrev pub BeginWith : List ℕ → List Text → Type 0
BeginWith name words = (options : List Text) × (words ≡ name ∷ options)

-- the first word is that of a command that takes options
abbrev pub TakeOptions : List Text → Type 0
TakeOptions words =
    BeginWith (codes "run") words ⊎ BeginWith (codes "save") words ⊎ BeginWith (codes "resume") words
    ⊎ BeginWith (codes "drill") words ⊎ BeginWith (codes "live") words
