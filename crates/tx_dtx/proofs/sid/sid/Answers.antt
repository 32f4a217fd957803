use Rattle.std.proofs.Common.{ℕ, ◌<◌, replicate, FitsSigned, w16, arith, rules}
use Rattle.std.proofs.lemmas.Int.{to_z-of_z}
use Rattle.std.proofs.lemmas.List.Elements.{All-replicate}
use Rattle.trau_params.specs.Fields.{fields_of}
use Rattle.trau_params.specs.Widths.{FitWidth, xmc_width}
use Rattle.tx_dtx.proofs.Means.{described_by}
use Rattle.tx_dtx.proofs.sid.sid.Goals as goal

pub returns : goal.returns
returns c =
    let f : FitsSigned w16 c.mean_maximum.result = search rules in
    let p = c.new.ensures in
    described_by (fields_of c.new.result) _ c.mean_ratios.result c.quantise-larc.result c.mean_maximum.result c.quantise_max-xmaxc.result c.mean_ratios.ensures
    c.quantise-larc.ensures.value c.mean_maximum.ensures.value (simp to_z-of_z at c.quantise_max-xmaxc.ensures.value) p.larc p.nc p.bc p.mc p.xmaxc p.xmc

pub new-requires : goal.new-requires
new-requires c = record {
  larc = c.quantise-larc.ensures.widths;
  nc = All-replicate (λ (n : ℕ). n < 128) 4 0 (omega arith);
  bc = All-replicate (λ (n : ℕ). n < 4) 4 0 (omega arith);
  mc = All-replicate (λ (n : ℕ). n < 4) 4 0 (omega arith);
  xmaxc = All-replicate (λ (n : ℕ). n < 64) 4 c.quantise_max-xmaxc.result c.quantise_max-xmaxc.ensures.below_64;
  xmc = All-replicate (FitWidth xmc_width) 4 (replicate 13 0) (All-replicate (λ (n : ℕ). n < 8) 13 0 (omega arith));
}
