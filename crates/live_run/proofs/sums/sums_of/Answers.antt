use Rattle.std.proofs.Common.{List, ap, ◌∙◌, arith}
use Rattle.std.specs.List.{flat_map}
use Rattle.std.proofs.lemmas.List.{take_all}
use Rattle.trau_bits.specs.Bits.{bits_of, octets_of}
use Rattle.farm_report.specs.Sums.{sum_of}
use Rattle.farm_live.specs.declared.post.Entry.{Entry}
use Rattle.live_run.proofs.Octets.{downs_are}
use Rattle.live_run.proofs.sums.sums_of.Goals as goal

pub returns-clause-down : goal.returns-clause-down
returns-clause-down c =
    let es = c.args.entries.now in
    c.loop-entry.invariant.down
    ∙ ap sum_of (ap (λ (xs : List Entry). flat_map (λ e. octets_of (bits_of e.down)) xs)
    (take_all c.loop-entry.entry-index es (omega (arith, c.loop-entry-test.false))) ∙ downs_are es)
