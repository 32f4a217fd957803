use Rattle.std.proofs.Common.{◌≡◌, ℕ, List, [], ◌++◌, length, get_or, take, sym, ap, ◌∙◌, append_assoc, arith, rules}
use Rattle.std.proofs.lemmas.List.{take_all, append-nil}
use Rattle.trau_params.specs.Widths.{larc_widths}
use Rattle.trau_params.specs.FieldBits.{field_bits}
use Rattle.trau_params.specs.Block.{bits_of_block}
use Rattle.trau_params.specs.Bits260.{bits260, bits260_of}
use Rattle.trau_params.proofs.FieldsRead.{fields_of_bits}
use Rattle.trau_params.proofs.Four.{all_four}
use Rattle.trau_params.proofs.params.Params.from_bits.Goals as goal

-- five parts that follow one another are the whole
five_parts : (bits front a b c d : List ℕ) → length bits ≡ 260 → take 36 bits ≡ front →
    take 92 bits ≡ take 36 bits ++ a → take 148 bits ≡ take 92 bits ++ b →
    take 204 bits ≡ take 148 bits ++ c → take 260 bits ≡ take 204 bits ++ d →
    front ++ (a ++ (b ++ (c ++ (d ++ [])))) ≡ bits
five_parts bits front a b c d n e p q r s =
    let all : take 260 bits ≡ bits = take_all 260 bits (omega arith) in
    let whole : (((front ++ a) ++ b) ++ c) ++ d ≡ bits =
    sym (s ∙ ap (λ xs. xs ++ d) (r ∙ ap (λ xs. xs ++ c) (q ∙ ap (λ xs. xs ++ b) (p ∙ ap (λ xs. xs ++ a) e)))) ∙ all in
    ap (λ xs. front ++ (a ++ (b ++ (c ++ xs)))) (append-nil d) ∙ (simp append_assoc at whole)

pub returns-clause-bits : goal.returns-clause-bits
unfolding bits260 bits260_of
returns-clause-bits c =
    let long : length c.args.bits.now ≡ 260 = search rules in
    let e = c.of_blocks.ensures in
    rw (e.larc, e.nc, e.bc, e.mc, e.xmaxc, e.xmc)
    (five_parts c.args.bits.now (field_bits larc_widths c.read_larc.result)
    (bits_of_block c.read-first.result) (bits_of_block c.read-second.result) (bits_of_block c.read-third.result) (bits_of_block c.read-fourth.result)
    long c.read_larc.ensures.bits c.read-first.ensures c.read-second.ensures c.read-third.ensures c.read-fourth.ensures)

pub returns-clause-fields : goal.returns-clause-fields
returns-clause-fields c =
    let long : length c.read_larc.result ≡ 8 = search rules in
    let a : length c.read-first.result.xmc ≡ 13 = search rules in
    let b : length c.read-second.result.xmc ≡ 13 = search rules in
    let d : length c.read-third.result.xmc ≡ 13 = search rules in
    let e : length c.read-fourth.result.xmc ≡ 13 = search rules in
    let is = c.of_blocks.ensures in
    fields_of_bits _ c.args.bits.now
    (record {
      larc = ap length is.larc ∙ long;
      nc = ap length is.nc;
      bc = ap length is.bc;
      mc = ap length is.mc;
      xmaxc = ap length is.xmaxc;
      xmc = ap length is.xmc;
      pulses = λ j h. ap (λ rows. length (get_or rows j [])) is.xmc ∙
          all_four (λ xs. length xs ≡ 13) c.read-first.result.xmc c.read-second.result.xmc
          c.read-third.result.xmc c.read-fourth.result.xmc a b d e j [] h;
    })
    (returns-clause-bits c)
