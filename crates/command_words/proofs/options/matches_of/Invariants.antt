use Rattle.std.proofs.Common.{◌≡◌, fold, take}
use Rattle.clap.specs.Words.{app_of}
use Rattle.command_words.specs.Options.{bare_app, with_option}
use Rattle.command_words.proofs.options.matches_of.Given as goal

abbrev pub invariant-loop-long : goal.invariant-loop-long
invariant-loop-long l = app_of l.command ≡ fold (λ app name. with_option name.now app) (bare_app l.name) (take l.long-index l.names)
