-- The report has a line for each bridge.
use Rattle.std.proofs.Common.{◌≡◌, refl, ap, List, [], ◌∷◌, map}
use Rattle.switchboard.specs.declared.act.Span.{Span}
use Rattle.run_spec.specs.Run.{Run}
use Rattle.run_spec.specs.Facts.{span_line}

pub spans_told : (r : Run) (spans : List Span) → map (λ l. l.span) (map (span_line r) spans) ≡ spans
spans_told r [] = refl
spans_told r (x ∷ spans) = ap (λ (xs : List Span). x ∷ xs) (spans_told r spans)
