-- Octets that carry the fields of four blocks.
use Rattle.std.proofs.Common.{◌≡◌, List, ℕ, [], ◌∷◌, sym, ap, ◌∙◌}
use Rattle.std.specs.Prelude.{slice_index, slice_index_or}
use Rattle.trau_params.specs.declared.block.Block.{Block}
use Rattle.trau_params.specs.Block.{values_of}
use Rattle.trau_params.specs.Bits260.{values_in}
use Rattle.trau_params.specs.Fields.{Fields}
use Rattle.trau_params.specs.Widths.{larc_widths, block_widths}
use Rattle.gsm_frame.specs.Packed.{magic, octets_from, packed, Carries}

-- the number of a block's values
abbrev pub number_of : List ℕ → ℕ
number_of values = packed 0 block_widths (λ i. slice_index values i)

pub carries : (octets larc : List ℕ) (a b c d : Block) (f : Fields) → f.larc ≡ larc → f.nc ≡ a.nc ∷ b.nc ∷ c.nc ∷ d.nc ∷ [] →
    f.bc ≡ a.bc ∷ b.bc ∷ c.bc ∷ d.bc ∷ [] → f.mc ≡ a.mc ∷ b.mc ∷ c.mc ∷ d.mc ∷ [] → f.xmaxc ≡ a.xmaxc ∷ b.xmaxc ∷ c.xmaxc ∷ d.xmaxc ∷ [] →
    f.xmc ≡ a.xmc ∷ b.xmc ∷ c.xmc ∷ d.xmc ∷ [] → octets_from octets 0 5 ≡ packed magic larc_widths (λ i. slice_index larc i) →
    octets_from octets 5 7 ≡ number_of (values_of a) → octets_from octets 12 7 ≡ number_of (values_of b) →
    octets_from octets 19 7 ≡ number_of (values_of c) → octets_from octets 26 7 ≡ number_of (values_of d) → Carries octets f
carries octets larc a b c d f same nc bc mc xmaxc xmc head first second third fourth =
    let block_values : (j : ℕ) → values_in f j ≡ slice_index (a.nc ∷ b.nc ∷ c.nc ∷ d.nc ∷ []) j ∷ slice_index (a.bc ∷ b.bc ∷ c.bc ∷ d.bc ∷ []) j
    ∷ slice_index (a.mc ∷ b.mc ∷ c.mc ∷ d.mc ∷ []) j ∷ slice_index (a.xmaxc ∷ b.xmaxc ∷ c.xmaxc ∷ d.xmaxc ∷ []) j
    ∷ slice_index_or (a.xmc ∷ b.xmc ∷ c.xmc ∷ d.xmc ∷ []) j [] =
    λ j i. slice_index (nc i) j ∷ slice_index (bc i) j ∷ slice_index (mc i) j ∷ slice_index (xmaxc i) j ∷ slice_index_or (xmc i) j [] in
    record {
      head = head ∙ ap (λ l. packed magic larc_widths (λ i. slice_index l i)) (sym same);
      first = first ∙ ap number_of (sym (block_values 0));
      second = second ∙ ap number_of (sym (block_values 1));
      third = third ∙ ap number_of (sym (block_values 2));
      fourth = fourth ∙ ap number_of (sym (block_values 3));
    }
