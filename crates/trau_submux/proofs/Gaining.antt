-- What lines gain, one part after another.
use Rattle.std.proofs.Common.{◌≡◌, ℕ, ◌+◌, List, ◌++◌, length, take, sym, ◌∙◌, ap, subst}
use Rattle.std.specs.Io.KnownBytes.{Appends}
use Rattle.std.proofs.KnownBytes.{Appends-trans}
use Rattle.std.proofs.Math.Seq.{take-append-add}
use Rattle.trau_io.specs.Lines.{LineState}
use Rattle.trau_submux.specs.Lines.{Gains}

-- one gain after another
pub gains_on : (a b c : LineState) (s t : List ℕ) → Gains a b s → Gains b c t → Gains a c (s ++ t)
gains_on a b c s t first second = record {
  written = Appends-trans _ _ _ _ _ first.written second.written;
  to_come = second.to_come ∙ first.to_come;
  calm = second.calm ∙ first.calm;
}

-- a proper prefix of more octets after those that were gained
pub front_on : (a b c : LineState) (s t all : List ℕ) (n : ℕ) → all ≡ s ++ t → Gains a b s → Appends b.written c.written (take n t) →
    Appends a.written c.written (take (length s + n) all)
front_on a b c s t all n are first more =
    subst (Appends a.written c.written) (sym (ap (take (length s + n)) are ∙ take-append-add s t n)) (Appends-trans _ _ _ _ _ first.written more)
