use Rattle.std.proofs.Common.{◌≡◌, ap, ◌∙◌}
use Rattle.trau_params.specs.Fields.{fields_of}
use Rattle.trau_params.specs.Bits260.{bits260, bits260_of}
use Rattle.farm_drill.specs.Hostile.{zero_fields}
use Rattle.farm_drill.proofs.hostile_line.zero_data.Goals as goal

pub returns-clause-value : goal.returns-clause-value
unfolding bits260_of
returns-clause-value c =
    let larc = c.new-zero.ensures.larc in
    let nc = c.new-zero.ensures.nc in
    let bc = c.new-zero.ensures.bc in
    let mc = c.new-zero.ensures.mc in
    let xmaxc = c.new-zero.ensures.xmaxc in
    let xmc = c.new-zero.ensures.xmc in
    let same : fields_of c.new-zero.result ≡ zero_fields = cc in
    c.to_bits.ensures.value ∙ ap bits260 same
