-- Preprocessing, one sample after another (GSM 06.10, sections 4.2.1 to 4.2.3).
use Rattle.std.specs.Prelude.{ℤ, pos, neg_ℤ, ◌+ℤ◌, ◌-ℤ◌, ◌*ℤ◌}
use Rattle.trau_num.specs.Num.{clamp16, floor_shr, add_of, mult_r_of, l_add_of}

-- so: the sample without its three lowest bits, halved
unfoldable pub downscaled : ℤ → ℤ
downscaled x = floor_shr x 3 *ℤ pos 4

-- L_z2 after a sample that is s1 above the one before it: 32735 / 2^15 of L_z2, computed from its high part msp and its
-- low part lsp, plus 2^15 times s1
unfoldable pub next_l_z2 : ℤ → ℤ → ℤ
next_l_z2 l_z2 s1 =
    let msp = floor_shr l_z2 15 in
    let lsp = l_z2 -ℤ msp *ℤ pos 32768 in
    let l_s2 = s1 *ℤ pos 32768 +ℤ mult_r_of lsp (pos 32735) in
    l_add_of (msp *ℤ pos 32735) l_s2

-- sof: the sample without its offset, L_z2 / 2^15 rounded to the nearest
unfoldable pub offset_free : ℤ → ℤ
offset_free l_z2 = clamp16 (floor_shr (l_add_of l_z2 (pos 16384)) 15)

-- s: sof less 28180 / 2^15 of the sof before it
unfoldable pub preemphasised : ℤ → ℤ → ℤ
preemphasised mp sof = add_of sof (mult_r_of (neg_ℤ (pos 28180)) mp)
