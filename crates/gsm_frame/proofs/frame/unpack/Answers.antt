use Rattle.std.proofs.Common.{refl, sym, ◌∙◌, arith}
use Rattle.gsm_frame.specs.Packed.{packed_from}
use Rattle.gsm_frame.proofs.Carried.{carries}
use Rattle.gsm_frame.proofs.frame.unpack.Goals as goal

pub ratios-larc-requires : goal.ratios-larc-requires
unfolding packed_from
ratios-larc-requires c =
    omega (arith, c.number_of_five.ensures.value, c.fits-octets 1, c.fits-octets 2, c.fits-octets 3, c.fits-octets 4)

pub returns-clause-carried : goal.returns-clause-carried
unfolding packed_from
returns-clause-carried c =
    carries _ _ c.block_of_number-first.result c.block_of_number-second.result c.block_of_number-third.result c.block_of_number-fourth.result _
    c.of_blocks.ensures.larc c.of_blocks.ensures.nc c.of_blocks.ensures.bc c.of_blocks.ensures.mc c.of_blocks.ensures.xmaxc c.of_blocks.ensures.xmc
    (sym c.number_of_five.ensures.value ∙ sym c.ratios-larc.ensures.value)
    (sym c.number_of_seven-a.ensures.value ∙ sym c.block_of_number-first.ensures)
    (sym c.number_of_seven-b.ensures.value ∙ sym c.block_of_number-second.ensures)
    (sym c.number_of_seven-c.ensures.value ∙ sym c.block_of_number-third.ensures)
    (sym c.number_of_seven-d.ensures.value ∙ sym c.block_of_number-fourth.ensures)

pub returns-clause-variant : goal.returns-clause-variant
returns-clause-variant c = (λ _. omega arith, λ _. refl)
