use Rattle.std.proofs.Common.{◌≡◌, rules, arith, sym, ap, length, length-drop, min, Ok, ◌+◌, ◌∙◌}
use Rattle.std.proofs.lemmas.List.{drop_all}
use Rattle.std.proofs.lemmas.Bool.{cond-false}
use Rattle.trau_io.specs.Memory.{MemoryLine, cut_of}
use Rattle.trau_io.proofs.Moves.{moved}
use Rattle.trau_io.proofs.memory.line.MemLine.read.Goals as goal

pub invariant_of-self : goal.invariant_of-self
invariant_of-self c = (omega (arith, c.self.invariant.0, c.min-count.ensures, c.len.ensures), c.self.invariant.1)

pub returns-clause-answer : goal.returns-clause-answer
returns-clause-answer c =
    let count : c.min-count.result ≡ min (cut_of c.args.self.now (length c.args.buf.now)) (length c.args.self.now.to_come) =
    omega (
      arith,
      c.min-count.ensures,
      c.cut.ensures.value,
      c.len.ensures,
      c.self.inside.contents.ok.0,
      length-drop c.self.inside.read
          c.self.inside.contents.items,
      ap (λ (l : MemoryLine). length l.to_come) c.self.view_is,
    ) in
    ap Ok count ∙ sym (cond-false _ _ _ (sym c.is_failing.ensures ∙ c.if-is_failing.false))

pub returns-clause-reads : goal.returns-clause-reads
returns-clause-reads c = record {
  bound = search rules;
  to_come = (
    sym (ap (λ (l : MemoryLine). l.to_come) c.self.view_is) ∙ moved _ c.args.buf.now _ _ c.self.inside.read c.min-count.result c.deref.ensures.value
        c.copy_from_slice.ensures.after (search rules),
    λ none room. drop_all (c.self.inside.read + c.min-count.result) c.self.inside.contents.items (omega (arith, none)),
  );
  written = search rules;
  cause = record { later = search rules; failed = search rules; ok = search rules };
}
