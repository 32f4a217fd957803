use Rattle.std.proofs.Common.{◌≡◌, ◌+◌, ◌-◌, ◌*◌, ◌/◌, ◌%◌, ℕ, List, slice_index, take, drop, ap, ◌∙◌, arith}
use Rattle.std.proofs.lemmas.List.{get_or-take, get_or-drop}
use Rattle.trau_bits.proofs.Products.{top_octet}
use Rattle.trau_bits.proofs.octet.Goals as goal

pub returns : goal.returns
returns c =
    let eight : c.args.first + 8 - c.args.first ≡ 8 = omega arith in
    ap (λ (word : ℕ). word * 9241421688590303745 % 18446744073709551616 / 72057594037927936) c.from_le_bytes.ensures
    ∙ top_octet c.args.bits.now c.copy_from_slice.new.self c.args.first c.requires.bits c.requires.within
    (λ j h. ap (λ (l : List ℕ). slice_index l j) c.copy_from_slice.ensures.after
    ∙ ap (λ (n : ℕ). slice_index (take n (drop c.args.first c.args.bits.now)) j) eight ∙ get_or-take 8 (drop c.args.first c.args.bits.now) j 0 h
    ∙ get_or-drop c.args.first c.args.bits.now j 0)
