use Rattle.std.proofs.Common.{sym, subst}
use Rattle.farm_checkpoint.specs.Differences.{IsLeastDifference}
use Rattle.farm_checkpoint.proofs.Differences.{both_go_on, one_goes_on, turned}
use Rattle.farm_checkpoint.proofs.compare.first_difference.Goals as goal

pub returns-in-Some-Some-clause-some : goal.returns-in-Some-Some-clause-some
returns-in-Some-Some-clause-some c =
    let found = c.in-Some-Some.ensures.lookup in
    let found' = c.in-Some-Some.ensures'.lookup in
    let common = c.count_common-common.ensures in
    subst (IsLeastDifference c.args.one.now c.args.other.now) (sym c.min.ensures)
    (both_go_on c.args.one.now c.args.other.now c.count_common-common.result c.in-Some-Some.entry.now c.in-Some-Some.others.now c.requires.one_rises
    c.requires.other_rises
    common.same (common.differ found.3.0 found'.3.0) found.3.0 found.1 found'.3.0 found'.1)

pub returns-in-Some-None-clause-some : goal.returns-in-Some-None-clause-some
returns-in-Some-None-clause-some c =
    let found = c.in-Some-None.ensures.lookup in
    let common = c.count_common-common.ensures in
    one_goes_on c.args.one.now c.args.other.now c.count_common-common.result c.in-Some-None.entry.now c.requires.one_rises common.same
    found.3.0 found.1 c.in-Some-None.ensures'.lookup.3

pub returns-in-None-Some-clause-some : goal.returns-in-None-Some-clause-some
returns-in-None-Some-clause-some c =
    let found = c.in-None-Some.ensures'.lookup in
    let common = c.count_common-common.ensures in
    turned _ _ _ (one_goes_on c.args.other.now c.args.one.now c.count_common-common.result c.in-None-Some.others.now c.requires.other_rises
    (sym common.same) found.3.0 found.1 c.in-None-Some.ensures.lookup.3)
