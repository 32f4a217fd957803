use Rattle.std.proofs.Common.{◌≡◌, ◌++◌, string_bytes, drop}
use Rattle.farm_report.specs.Numbered.{numbers_told}
use Rattle.farm_report.proofs.lines.put_numbers.Given as goal

abbrev pub invariant-loop-words : goal.invariant-loop-words
invariant-loop-words l = string_bytes l.text ++ numbers_told (drop l.words-index l.numbers) l.end ≡ string_bytes l.initial.text ++ numbers_told l.numbers l.end
