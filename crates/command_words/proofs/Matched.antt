-- From what `clap` says of a parse to the options.
use Rattle.std.proofs.Common.{◌≡◌, ℕ, ◌^◌, ◌<◌, List, [], ◌∷◌, inl, inr, Option, Some, None, sym, ◌∙◌, ap, subst, true}
use Rattle.std.specs.Prelude.{codes}
use Rattle.clap.specs.Words.{App, Text, HasKind, HasMatchesOf, Kinds, is_simple, kind_of, matches_of, first_value, found_of, first_of}
use Rattle.clap.specs.declared.error.Error.{Error}
use Rattle.clap.specs.declared.error.kind.ErrorKind.TheVariants.{OutOfMemory}
use Rattle.clap.specs.declared.parser.matches.ArgMatches.{ArgMatches}
use Rattle.clap.proofs.WalkLemmas.{first_value-rows}
use Rattle.decimal_number.proofs.Numbers.{one_number}
use Rattle.command_words.specs.declared.asked.Settings.{Settings}
use Rattle.command_words.specs.Options.{IsValueOf, GivesSettings}
use Rattle.command_words.specs.Drill.{GivesDrill}

-- one text stands for one value
pub one_value : (text : Option Text) (low high default m n : ℕ) → high < 2 ^ 32 → IsValueOf text low high default m → IsValueOf text low high default n → m ≡ n
one_value None low high default m n small first second = first ∙ sym second
one_value (Some text) low high default m n small first second = one_number text low high m low high n small small first second

-- the same texts give the same settings
pub same_texts : (most default : ℕ) (v w : Text → Option Text) (s : Settings) → ((id : Text) → v id ≡ w id) → GivesSettings most default v s →
    GivesSettings most default w s
same_texts most default v w s same gives = record {
  workers = subst (λ o. IsValueOf o 1 64 4 s.workers) (same (codes "workers")) gives.workers;
  batch = subst (λ o. IsValueOf o 1 250 50 s.batch) (same (codes "batch")) gives.batch;
  slice = subst (λ o. IsValueOf o 1 250 5 s.slice) (same (codes "slice")) gives.slice;
  periods = subst (λ o. IsValueOf o 1 most default s.periods) (same (codes "periods")) gives.periods;
}

-- and the same drill
pub same_drill_texts : (v w : Text → Option Text) (seed calls : ℕ) (s : Settings) → ((id : Text) → v id ≡ w id) → GivesDrill v seed calls s →
    GivesDrill w seed calls s
same_drill_texts v w seed calls s same gives = record {
  seed = subst (λ o. IsValueOf o 0 4294967295 1 seed) (same (codes "seed")) gives.seed;
  calls = subst (λ o. IsValueOf o 1 256 64 calls) (same (codes "calls")) gives.calls;
  settings = same_texts 1000 200 v w s same gives.settings;
}

-- what the getters read is the crate's function of the words
pub rows_read : (command : App) → is_simple command ≡ true → (words : List Text) (m : ArgMatches) → HasMatchesOf command words m → (id : Text) →
    first_value (found_of m) id ≡ first_of id (matches_of command words)
rows_read command simple words m has id = first_value-rows (found_of m) id ∙ ap (first_of id) (has simple).0

-- an error that isn't a lack of memory has a fault of the words
pub has_fault : (kinds : Kinds) (e : Error) → (kind_of e ≡ OutOfMemory → ⊥) → HasKind kinds e → kinds ≡ [] → ⊥
has_fault [] e not (inl memory) none = not memory
has_fault [] e not (inr among) none = among
has_fault (k ∷ ks) e not has none = cc
