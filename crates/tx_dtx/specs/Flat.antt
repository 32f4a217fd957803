-- The memory that the plain numbers of a transmit side stand for.
use Rattle.std.specs.Prelude.{ℤ, List, [], ◌∷◌}
use Rattle.trau_params.specs.Fields.{fields_of}
use Rattle.tx_dtx.specs.Stretch.{Measures}
use Rattle.tx_dtx.specs.Memory.{TxMemory}
use Rattle.tx_dtx.specs.declared.flat.FlatTx.{FlatTx}

abbrev pub flat_measures : List ℤ → List ℤ → Measures
flat_measures lar xmax = record { lar = lar; xmax = xmax }

abbrev pub flat_memory : FlatTx → TxMemory
flat_memory f = record {
  run = f.run;
  elapsed = f.elapsed;
  hangs = f.hangs;
  sid = fields_of f.sid;
  recent = flat_measures f.last_lar f.last_xmax ∷ flat_measures f.second_last_lar f.second_last_xmax ∷ flat_measures f.third_last_lar f.third_last_xmax ∷ [];
}
