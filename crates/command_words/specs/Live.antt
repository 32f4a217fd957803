-- The words of a live drill (this project's profile), by a command of the crate `clap`.
use Rattle.std.specs.Prelude.{◌≡◌, List, [], ◌∷◌, Option, codes}
use Rattle.clap.specs.Words.{App, Text, fault_of, matches_of, first_of}
use Rattle.command_words.specs.declared.live.LiveSettings.{LiveSettings}
use Rattle.command_words.specs.Options.{bare_app, with_option, IsValueOf}

-- the command `live` with its five options
abbrev pub live_app : App
live_app =
    with_option (codes "inbox") (with_option (codes "callers") (with_option (codes "periods") (with_option (codes "calls")
    (with_option (codes "seed") (bare_app (codes "live"))))))

-- the live drill that options give; `text_of` has the text of each option, by its name
pub record GivesLive (text_of : Text → Option Text) (s : LiveSettings) : Type 0 where
  pub seed : IsValueOf (text_of (codes "seed")) 0 4294967295 1 s.seed
  pub calls : IsValueOf (text_of (codes "calls")) 1 256 64 s.calls
  pub periods : IsValueOf (text_of (codes "periods")) 1 1000 200 s.periods
  pub callers : IsValueOf (text_of (codes "callers")) 1 64 4 s.callers
  pub inbox : IsValueOf (text_of (codes "inbox")) 1 1024 8 s.inbox

-- options are taken, and give this live drill
pub record AreLiveOptions (options : List Text) (s : LiveSettings) : Type 0 where
  pub taken : fault_of live_app options ≡ []
  pub gives : GivesLive (λ name. first_of name (matches_of live_app options)) s

-- words ask for a live drill: `live`, and options that give it
pub record AsksLive (words : List Text) (s : LiveSettings) : Type 0 where
  pub options : List Text
  pub spelled : words ≡ codes "live" ∷ options
  pub are : AreLiveOptions options s
