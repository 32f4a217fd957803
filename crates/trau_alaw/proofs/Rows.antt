-- Worked values of mu-law, by computing.
use Rattle.std.proofs.Common.{◌≡◌, pos, negsuc, refl, [], ◌∷◌, map}
use Rattle.trau_alaw.specs.Companding.{middle, octet_of}
use Rattle.trau_alaw.specs.Mulaw.{mulaw}

-- 0xFF, 0x7F, 0xFE, 0x80, 0x00
expanded : map (λ octet. middle (mulaw octet)) (255 ∷ 127 ∷ 254 ∷ 128 ∷ 0 ∷ []) ≡ pos 0 ∷ pos 0 ∷ pos 8 ∷ pos 32124 ∷ negsuc 32123 ∷ []
unfolding mulaw
expanded = refl

-- 0, 3, 4, -1, -5, 32767, -32768
compressed : map (octet_of mulaw) (pos 0 ∷ pos 3 ∷ pos 4 ∷ negsuc 0 ∷ negsuc 4 ∷ pos 32767 ∷ negsuc 32767 ∷ []) ≡
    255 ∷ 255 ∷ 254 ∷ 127 ∷ 126 ∷ 128 ∷ 0 ∷ []
unfolding mulaw octet_of
compressed = refl
