use Rattle.std.proofs.Common.{◌∙◌, ap, arith}
use Rattle.gsm_frame.specs.Packed.{packed_from}
use Rattle.gsm_frame.proofs.Carried.{number_of}
use Rattle.gsm_frame.proofs.frame.pack.Goals as goal

pub returns-clause-carried : goal.returns-clause-carried
unfolding packed_from
returns-clause-carried c = record {
  head = c.five_octets-h.ensures.value ∙ c.head.ensures.value;
  first = c.seven_octets-a.ensures ∙ c.number_of_block.ensures.value ∙ ap number_of c.block.ensures;
  second = c.seven_octets-b.ensures ∙ c.number_of_block-2.ensures.value ∙ ap number_of c.block-2.ensures;
  third = c.seven_octets-c.ensures ∙ c.number_of_block-3.ensures.value ∙ ap number_of c.block-3.ensures;
  fourth = c.seven_octets-d.ensures ∙ c.number_of_block-4.ensures.value ∙ ap number_of c.block-4.ensures;
}

pub returns-clause-begins : goal.returns-clause-begins
returns-clause-begins c = omega (arith, c.five_octets-h.ensures.first, c.head.ensures.begins)
