use Rattle.std.proofs.Common.{arith, take, drop, length, ◌++◌, ◌≡◌, ◌+◌, ◌-◌, ◌∙◌, sym, ap}
use Rattle.std.proofs.Math.Seq.{drop-length}
use Rattle.std.proofs.lemmas.List.{length-append, append-nil, length-drop, length-take}
use Rattle.down_framer.proofs.framer.copy_first.Goals as goal
use Rattle.circular_buffer.proofs.Items.{copied_out}

pub returns : goal.returns
returns c =
    let front = c.as_slices.result.0.now in let back = c.as_slices.result.1.now in let to = c.args.to.now in
    let cut = c.min-cut.result in let rest = length to - cut in
    let one = c.copy_from_slice.new.self in let two = c.copy_from_slice-2.new.self in
    let least = c.min-cut.ensures in
    let long : length front + length back ≡ length c.args.ring.now.items = sym (length-append front back) ∙ ap length c.as_slices.ensures in
    let whole : cut + rest ≡ length to = omega (arith, least) in
    let one_long : length one ≡ cut = ap length c.copy_from_slice.ensures.after ∙ omega (arith, length-take cut front, least) in
    let left : length (one ++ drop cut to) - cut ≡ cut + rest - cut = omega (arith, one_long, length-append one (drop cut to), length-drop cut to) in
    (λ i. take cut (one ++ drop cut to) ++ (two ++ drop (left i) (drop cut (one ++ drop cut to))))
    ∙ copied_out front back to one two cut rest (omega (arith, least))
    (λ some. omega (arith, least)) c.copy_from_slice.ensures.after c.copy_from_slice-2.ensures.after
    ∙ (λ i. take (whole i) (c.as_slices.ensures i) ++ drop (whole i) to)
    ∙ ap (λ l. take (length to) c.args.ring.now.items ++ l) (drop-length to)
    ∙ append-nil (take (length to) c.args.ring.now.items)

pub copy_from_slice-requires : goal.copy_from_slice-requires
copy_from_slice-requires c =
    let cut = c.min-cut.result in
    omega (arith, c.min-cut.ensures, length-take cut c.args.to.now, length-take cut c.as_slices.result.0.now)

pub copy_from_slice-requires-2 : goal.copy_from_slice-requires-2
copy_from_slice-requires-2 c =
    let front = c.as_slices.result.0.now in let back = c.as_slices.result.1.now in let to = c.args.to.now in
    let cut = c.min-cut.result in let one = c.copy_from_slice.new.self in
    let least = c.min-cut.ensures in
    let long : length front + length back ≡ length c.args.ring.now.items = sym (length-append front back) ∙ ap length c.as_slices.ensures in
    let one_long : length one ≡ cut = c.copy_from_slice.ensures.len ∙ omega (arith, length-take cut to, least) in
    let whole : length (one ++ drop cut to) ≡ length to = omega (arith, one_long, length-append one (drop cut to), length-drop cut to, least) in
    omega (
      arith,
      least,
      long,
      whole,
      length-drop cut (one ++ drop cut to),
      length-take (length (one ++ drop cut to) - cut) (drop cut (one ++ drop cut to)),
      length-take (length to - cut) back,
    )
