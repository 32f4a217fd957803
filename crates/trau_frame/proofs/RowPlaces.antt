-- For crates above: a list of bits has a bit at each index, a 0 after its end (`bit-below`).
-- The places of control and data bits, row by row.
use Rattle.std.proofs.Common.{◌≡◌, ℕ, ◌+◌, ◌*◌, ◌<◌, ◌≤◌, List, length, get_or, refl, sym, ap, ◌∙◌, arith, inl, inr}
use Rattle.std.proofs.lemmas.Bool.{cases_lt}
use Rattle.std.proofs.lemmas.Bool.Decides.{nat_tests}
use Rattle.std.proofs.Math.ListN.{get_or-eq_default}
use Rattle.trau_bits.specs.Bits.{AreBits}
use Rattle.trau_frame.specs.Role.{Role, Control, Data, Time, role_of, place_of_role, IsRole}
use Rattle.trau_frame.proofs.Places.{role_of-place_of}

-- data bits of a whole row
pub place_of-row : (row j n : ℕ) → row < 17 → j < 15 → n ≡ 15 * row + j + 1 → place_of_role (Data n) ≡ 32 + 16 * row + 1 + j
unfolding place_of_role
place_of-row row j n l h e = grind (arith, nat_tests)

-- the last five data bits
pub place_of-last : (j n : ℕ) → j < 5 → n ≡ 255 + j + 1 → place_of_role (Data n) ≡ 305 + j
unfolding place_of_role
place_of-last j n h e = grind (arith, nat_tests)

-- C1 to C15
pub place_of-low : (c : ℕ) → c ≤ 15 → place_of_role (Control c) ≡ c + 16
unfolding place_of_role
place_of-low c h = grind (arith, nat_tests)

-- C16 to C21
pub place_of-high : (c : ℕ) → 15 < c → place_of_role (Control c) ≡ c + 294
unfolding place_of_role
place_of-high c h = grind (arith, nat_tests)

pub place_of-time : (t : ℕ) → place_of_role (Time t) ≡ t + 315
unfolding place_of_role
place_of-time t = refl

-- the role at a role's place
pub role_of-at : (r : Role) (i : ℕ) → IsRole r → place_of_role r ≡ i → role_of i ≡ r
role_of-at r i h e = ap role_of (sym e) ∙ role_of-place_of r h

-- beyond its end a list reads 0
pub bit-below : (bits : List ℕ) → AreBits bits → (i : ℕ) → get_or bits i 0 < 2
bit-below bits h i = elim (cases_lt i (length bits)) [
  | inl below ↦ h i 0 below
  | inr beyond ↦ rw (get_or-eq_default bits 0 beyond) (omega arith)
]
