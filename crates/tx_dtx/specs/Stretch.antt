-- What the transmit side takes of a frame, and what it sends (this project's profile, modelled on GSM 06.31).
use Rattle.std.specs.Prelude.{ℤ, Bool, not, ◌||◌, int_le, List, [], ◌∷◌}
use Rattle.trau_params.specs.Fields.{Fields, fields_of}
use Rattle.trau_params.specs.declared.params.Params.{Params}
use Rattle.trau_params.specs.declared.trace.Trace.{Trace}
use Rattle.fr_encoder.specs.Encoded.{Encoded}

-- the log area ratios and the block maxima of a frame before they were coded
pub record Measures : Type 0 where
  pub lar : List ℤ
  pub xmax : List ℤ

abbrev pub measures_of : Trace → Measures
measures_of t = record { lar = t.lar; xmax = t.xmax }

-- those of four frames
abbrev pub measures_of_four : Trace → Trace → Trace → Trace → List Measures
measures_of_four a b c d = measures_of a ∷ measures_of b ∷ measures_of c ∷ measures_of d ∷ []

-- a coded frame: its parameters, its measures, the peak of its preprocessed samples, and the level and DTX in force
pub record Coded : Type 0 where
  pub fields : Fields
  pub measures : Measures
  pub peak : ℤ
  pub level : ℤ
  pub dtx : Bool

abbrev pub coded_frame : Params → Trace → ℤ → ℤ → Bool → Coded
coded_frame p t peak level dtx = record { fields = fields_of p; measures = measures_of t; peak = peak; level = level; dtx = dtx }

-- the same, by its encoding
abbrev pub coded_as : Encoded → ℤ → Bool → Coded
coded_as e level dtx = record { fields = e.fields; measures = record { lar = e.lar; xmax = e.xmax }; peak = e.peak; level = level; dtx = dtx }

-- a frame is active if DTX is off or its peak isn't below the level
abbrev pub is_active_at : ℤ → ℤ → Bool → Bool
is_active_at peak level dtx = not dtx || int_le level peak

abbrev pub is_active : Coded → Bool
is_active f = is_active_at f.peak f.level f.dtx

-- a frame as it is sent, and SP
pub record Sent : Type 0 where
  pub fields : Fields
  pub sp : Bool

abbrev pub sent_frame : Params → Bool → Sent
sent_frame p sp = record { fields = fields_of p; sp = sp }
