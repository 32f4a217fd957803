-- One frame in each direction, from the memory before it (GSM 06.10, sections 4.2.10 and 4.3.4).
use Rattle.std.specs.Prelude.{ℕ, ℤ, List}
use Rattle.fr_short.specs.Ratios.{decoded_ratios}
use Rattle.fr_short.specs.Reflection.{coefficients_at}
use Rattle.fr_short.specs.Memory.{ShortMemory}
use Rattle.fr_short.specs.Analysis.{analysed_samples}
use Rattle.fr_short.specs.Synthesis.{filtered_samples}

-- one frame: the residual, and the memory after it, from the memory before it, the ratio codes and the samples
unfoldable pub analysed_frame : ShortMemory → List ℕ → List ℤ → List ℤ × ShortMemory
analysed_frame memory codes samples =
    let ratios = decoded_ratios codes in
    let x = analysed_samples (coefficients_at memory.ratios ratios) 0 memory.sections samples in
    (x.0, record { ratios = ratios; sections = x.1 })

-- one frame: the samples, and the memory after it, from the memory before it, the ratio codes and the residual
unfoldable pub synthesised_frame : ShortMemory → List ℕ → List ℤ → List ℤ × ShortMemory
synthesised_frame memory codes residual =
    let ratios = decoded_ratios codes in
    let x = filtered_samples (coefficients_at memory.ratios ratios) 0 memory.sections residual in
    (x.0, record { ratios = ratios; sections = x.1 })
