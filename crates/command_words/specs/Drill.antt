-- The words of a drill (this project's profile), by a command of the crate `clap`.
use Rattle.std.specs.Prelude.{◌≡◌, ℕ, List, [], ◌∷◌, Option, codes}
use Rattle.clap.specs.Words.{App, Text, fault_of, matches_of, first_of}
use Rattle.command_words.specs.declared.asked.Settings.{Settings}
use Rattle.command_words.specs.Options.{bare_app, with_option, IsValueOf, GivesSettings}

-- the command `drill`: the options of a run, and two more
abbrev pub drill_app : App
drill_app =
    with_option (codes "calls") (with_option (codes "seed") (with_option (codes "periods") (with_option (codes "slice")
    (with_option (codes "batch") (with_option (codes "workers") (bare_app (codes "drill")))))))

-- the drill that options give; `text_of` has the text of each option, by its name
pub record GivesDrill (text_of : Text → Option Text) (drawn_from count : ℕ) (s : Settings) : Type 0 where
  pub seed : IsValueOf (text_of (codes "seed")) 0 4294967295 1 drawn_from
  pub calls : IsValueOf (text_of (codes "calls")) 1 256 64 count
  pub settings : GivesSettings 1000 200 text_of s

-- options are taken, and give this drill
pub record AreDrillOptions (options : List Text) (seed calls : ℕ) (s : Settings) : Type 0 where
  pub taken : fault_of drill_app options ≡ []
  pub gives : GivesDrill (λ name. first_of name (matches_of drill_app options)) seed calls s

-- words ask for a drill: `drill`, and options that give it
pub record AsksDrill (words : List Text) (seed calls : ℕ) (s : Settings) : Type 0 where
  pub options : List Text
  pub spelled : words ≡ codes "drill" ∷ options
  pub are : AreDrillOptions options seed calls s
