use Rattle.std.proofs.Common.{◌<◌}
use Rattle.trau_params.specs.Widths.{FitWidth}
use Rattle.trau_params.proofs.Four.{all_four}
use Rattle.trau_params.proofs.params.Params.of_blocks.Goals as goal

pub invariant_of-result-clause-nc_fit : goal.invariant_of-result-clause-nc_fit
invariant_of-result-clause-nc_fit c =
    all_four (λ v. v < 128) c.args.first.nc c.args.second.nc c.args.third.nc c.args.fourth.nc
    c.args.first.nc_fits c.args.second.nc_fits c.args.third.nc_fits c.args.fourth.nc_fits

pub invariant_of-result-clause-bc_fit : goal.invariant_of-result-clause-bc_fit
invariant_of-result-clause-bc_fit c =
    all_four (λ v. v < 4) c.args.first.bc c.args.second.bc c.args.third.bc c.args.fourth.bc
    c.args.first.bc_fits c.args.second.bc_fits c.args.third.bc_fits c.args.fourth.bc_fits

pub invariant_of-result-clause-mc_fit : goal.invariant_of-result-clause-mc_fit
invariant_of-result-clause-mc_fit c =
    all_four (λ v. v < 4) c.args.first.mc c.args.second.mc c.args.third.mc c.args.fourth.mc
    c.args.first.mc_fits c.args.second.mc_fits c.args.third.mc_fits c.args.fourth.mc_fits

pub invariant_of-result-clause-xmaxc_fit : goal.invariant_of-result-clause-xmaxc_fit
invariant_of-result-clause-xmaxc_fit c =
    all_four (λ v. v < 64) c.args.first.xmaxc c.args.second.xmaxc c.args.third.xmaxc c.args.fourth.xmaxc
    c.args.first.xmaxc_fits c.args.second.xmaxc_fits c.args.third.xmaxc_fits c.args.fourth.xmaxc_fits

pub invariant_of-result-clause-xmc_fit : goal.invariant_of-result-clause-xmc_fit
invariant_of-result-clause-xmc_fit c =
    all_four (FitWidth 3) c.args.first.xmc c.args.second.xmc c.args.third.xmc c.args.fourth.xmc
    c.args.first.xmc_fit c.args.second.xmc_fit c.args.third.xmc_fit c.args.fourth.xmc_fit
