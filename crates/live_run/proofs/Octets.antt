-- The octets of bits that come octet by octet.
use Rattle.std.proofs.Common.{◌≡◌, ℕ, List, [], ◌∷◌, ◌++◌, length, refl, sym, ap, ◌∙◌}
use Rattle.std.specs.List.{flat_map}
use Rattle.trau_bits.specs.Bits.{bits_of, octets_of}
use Rattle.trau_bits.proofs.BitList.{length-bits_of}
use Rattle.trau_bits.proofs.Appended.{octets_of-append}
use Rattle.trau_bits.proofs.Joined.{bits_of-append}
use Rattle.farm_live.specs.declared.post.Entry.{Entry}
use Rattle.farm_live.specs.Whole.{downs_of}

no_octets : octets_of (bits_of []) ≡ []
unfolding octets_of bits_of
no_octets = refl

pub downs_are : (es : List Entry) → flat_map (λ e. octets_of (bits_of e.down)) es ≡ octets_of (bits_of (downs_of es))
downs_are [] = sym no_octets
downs_are (e ∷ es) =
    ap (λ (xs : List ℕ). octets_of (bits_of e.down) ++ xs) (downs_are es)
    ∙ sym (octets_of-append (bits_of e.down) (bits_of (downs_of es)) (length e.down) (length-bits_of e.down))
    ∙ ap octets_of (sym (bits_of-append e.down (downs_of es)))
