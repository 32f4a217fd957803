-- The steps from one silence descriptor to the next (this project's profile).
use Rattle.std.specs.Prelude.{ℕ, ◌+◌, ◌-◌, ◌*◌, ◌/◌, List, map, zip}
use Rattle.trau_params.specs.Fields.{Fields}

-- in how many steps noise approaches a silence descriptor, one in each period
abbrev pub approach_steps : ℕ
approach_steps = 8

-- one code after i of the steps
abbrev pub mixture : ℕ → ℕ → ℕ → ℕ
mixture i old new = (old * (approach_steps - i) + new * i) / approach_steps

-- each of two lists of codes after i of the steps
abbrev pub mixtures : ℕ → List ℕ → List ℕ → List ℕ
mixtures i old new = map (λ codes. mixture i codes.0 codes.1) (zip old new)

-- the ratios and the block maxima are mixed, all else is that of the new one
unfoldable pub mix_of : Fields → Fields → ℕ → Fields
mix_of old new i = record {
  larc = mixtures i old.larc new.larc;
  nc = new.nc;
  bc = new.bc;
  mc = new.mc;
  xmaxc = mixtures i old.xmaxc new.xmaxc;
  xmc = new.xmc;
}
