-- For crates above: what two reads give, one after the other (`gives_on`).
use Rattle.std.proofs.Common.{ℕ, List, ◌++◌, ◌∙◌, arith}
use Rattle.std.proofs.KnownBytes.{Consumes-trans}
use Rattle.trau_io.specs.Lines.{LineState}
use Rattle.trau_io.specs.Transfer.{Gives}

pub gives_on : (a b c : LineState) (s t : List ℕ) → Gives a b s → Gives b c t → Gives a c (s ++ t)
gives_on a b c s t first second = record {
  read = Consumes-trans _ _ _ _ _ first.read second.read;
  written = second.written ∙ first.written;
  later = omega (arith, first.later, second.later);
}
