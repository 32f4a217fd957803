use Rattle.std.proofs.Common.{◌∙◌, ◌%◌, ◌*◌, ◌/◌, ◌+◌, ◌≡◌, ◌++◌, ap, length, arith}
use Rattle.std.specs.List.{concat}
use Rattle.trau_submux.specs.Splits.{split_text, whole_groups}
use Rattle.trau_submux.proofs.Splitting.{octets_taken}
use Rattle.trau_submux.proofs.cut.SplittingBlockMachine.done_text.Goals as goal

pub returns : goal.returns
returns c = λ all last whole n left.
    let octets : 160 * c.args.blocks + c.args.left / 4 * 4 ≡ length (whole_groups (concat all ++ last)) = omega (arith, octets_taken all whole last, n, left) in
    c.left_line.ensures ∙ ap (λ m. split_text m (c.args.left % 4)) octets ∙ ap (λ m. split_text (length (whole_groups (concat all ++ last))) (m % 4)) left
