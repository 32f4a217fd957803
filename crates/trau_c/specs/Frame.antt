-- A frame that an export writes (GSM 06.10, table 1.1).
use Rattle.trau_params.specs.Fields.{Fields}
use Rattle.trau_params.specs.Widths.{FitLarc, FitWidth, FitPulses, nc_width, bc_width, mc_width, xmaxc_width}
use Rattle.trau_c.specs.declared.frame.Frame.{Frame}

-- the fields of a frame
abbrev pub fields_of_frame : Frame → Fields
fields_of_frame f = record { larc = f.larc; nc = f.nc; bc = f.bc; mc = f.mc; xmaxc = f.xmaxc; xmc = f.xmc }

-- each field fits its width, so the exports that read a frame can read this one
pub record Fits (f : Frame) : Type 0 where
  pub larc : FitLarc f.larc
  pub nc : FitWidth nc_width f.nc
  pub bc : FitWidth bc_width f.bc
  pub mc : FitWidth mc_width f.mc
  pub xmaxc : FitWidth xmaxc_width f.xmaxc
  pub xmc : FitPulses f.xmc
