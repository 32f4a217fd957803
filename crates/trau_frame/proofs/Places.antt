-- For crates above: each role has its place in a frame (`role_of-place_of`), the sync bits theirs (`synced`).
use Rattle.std.proofs.Common.{◌≡◌, ℕ, ◌+◌, ◌-◌, ◌*◌, ◌/◌, ◌%◌, ◌<◌, ◌≤◌, Bool, true, false, ◌&&◌, ◌||◌, not, ◌⊎◌, inl, inr, nat_eq, nat_lt, nat_le, List}
use Rattle.std.proofs.Common.{get_or, refl, sym, ap, ◌∙◌, subst, arith}
use Rattle.std.specs.List.{list_all, range_with_len}
use Rattle.std.proofs.lemmas.List.Recursion.{and_at}
use Rattle.std.proofs.lemmas.List.FromFn.{length-range_with_len, get_or-range_with_len}
use Rattle.std.proofs.lemmas.Bool.{cases_eq, cases_lt, le-ltb, ne_eqb, and_parts, eqb-true, ltb-true, leb-true}
use Rattle.std.proofs.lemmas.Bool.Decides.{nat_tests}
use Rattle.trau_frame.specs.Role.{Role, Sync, Control, Data, Time, role_of, place_of_role, IsRole}
use Rattle.trau_frame.specs.Frame.{Synced}

-- ---- tables, computed once

-- tests of roles, for tables over all places
abbrev same_role : Role → Role → Bool
same_role (Sync a) (Sync b) = nat_eq a b
same_role (Control a) (Control b) = nat_eq a b
same_role (Data a) (Data b) = nat_eq a b
same_role (Time a) (Time b) = nat_eq a b
same_role r s = false

abbrev is_role : Role → Bool
is_role (Sync bit) = nat_lt bit 2
is_role (Control c) = nat_le 1 c && nat_le c 21
is_role (Data n) = nat_le 1 n && nat_le n 260
is_role (Time t) = nat_le 1 t && nat_le t 4

abbrev is_sync : Role → Bool
is_sync (Sync bit) = true
is_sync (Control c) = false
is_sync (Data n) = false
is_sync (Time t) = false

-- the tables
sync_table : list_all (λ bit. same_role (role_of (place_of_role (Sync bit))) (Sync bit)) (range_with_len 0 2) ≡ true
unfolding role_of place_of_role
sync_table = refl

control_table : list_all (λ c. same_role (role_of (place_of_role (Control c))) (Control c)) (range_with_len 1 21) ≡ true
unfolding role_of place_of_role
control_table = refl

data_table : list_all (λ n. same_role (role_of (place_of_role (Data n))) (Data n)) (range_with_len 1 260) ≡ true
unfolding role_of place_of_role
data_table = refl

time_table : list_all (λ t. same_role (role_of (place_of_role (Time t))) (Time t)) (range_with_len 1 4) ≡ true
unfolding role_of place_of_role
time_table = refl

zeros_table : list_all (λ i. same_role (role_of i) (Sync 0)) (range_with_len 0 16) ≡ true
unfolding role_of
zeros_table = refl

ones_table : list_all (λ row. same_role (role_of (16 * row)) (Sync 1)) (range_with_len 1 19) ≡ true
unfolding role_of
ones_table = refl

within_table : list_all (λ i. is_role (role_of i)) (range_with_len 0 320) ≡ true
unfolding role_of
within_table = refl

only_table : list_all (λ i. is_sync (role_of i) || nat_eq (place_of_role (role_of i)) i) (range_with_len 0 320) ≡ true
unfolding role_of place_of_role
only_table = refl

other_table : list_all (λ i. nat_lt i 16 || (nat_eq (i % 16) 0 || not (is_sync (role_of i)))) (range_with_len 0 320) ≡ true
unfolding role_of
other_table = refl

-- what holds of each number of a table
entry : (p : ℕ → Bool) (a len n : ℕ) → list_all p (range_with_len a len) ≡ true → a ≤ n → n < a + len → p n ≡ true
entry p a len n t l h =
    let e : get_or (range_with_len a len) (n - a) 0 ≡ n = get_or-range_with_len a len (n - a) 0 (omega arith) ∙ omega arith in
    subst (λ k. p k ≡ true) e (and_at (list_all p) p refl (λ x xs. refl) (range_with_len a len) (n - a) 0 (rw (length-range_with_len a len) (omega arith)) t)

-- what the tests say
from_same : (r s : Role) → same_role r s ≡ true → r ≡ s
from_same (Sync a) (Sync b) h = ap Sync (eqb-true a b h)
from_same (Control a) (Control b) h = ap Control (eqb-true a b h)
from_same (Data a) (Data b) h = ap Data (eqb-true a b h)
from_same (Time a) (Time b) h = ap Time (eqb-true a b h)
from_same r s h = cc

from_range : (low high n : ℕ) → (nat_le low n && nat_le n high) ≡ true → (low ≤ n) × (n ≤ high)
from_range low high n h =
    let both = and_parts (nat_le low n) (nat_le n high) h in
    (leb-true low n both.0, leb-true n high both.1)

from_is_role : (r : Role) → is_role r ≡ true → IsRole r
from_is_role (Sync bit) h = ltb-true bit 2 h
from_is_role (Control c) h = from_range 1 21 c h
from_is_role (Data n) h = from_range 1 260 n h
from_is_role (Time t) h = from_range 1 4 t h

-- ---- roles

pub role_of-place_of : (r : Role) → IsRole r → role_of (place_of_role r) ≡ r
role_of-place_of (Sync bit) h =
    from_same _ _ (entry (λ bit. same_role (role_of (place_of_role (Sync bit))) (Sync bit)) 0 2 bit sync_table (omega arith) (omega arith))
role_of-place_of (Control c) h = from_same _ _ (entry (λ c. same_role (role_of (place_of_role (Control c))) (Control c)) 1 21 c control_table h.0 (omega arith))
role_of-place_of (Data n) h = from_same _ _ (entry (λ n. same_role (role_of (place_of_role (Data n))) (Data n)) 1 260 n data_table h.0 (omega arith))
role_of-place_of (Time t) h = from_same _ _ (entry (λ t. same_role (role_of (place_of_role (Time t))) (Time t)) 1 4 t time_table h.0 (omega arith))

pub role_of-zeros : (i : ℕ) → i < 16 → role_of i ≡ Sync 0
role_of-zeros i h = from_same _ _ (entry (λ i. same_role (role_of i) (Sync 0)) 0 16 i zeros_table (omega arith) (omega arith))

pub role_of-ones : (row : ℕ) → 1 ≤ row → row < 20 → role_of (16 * row) ≡ Sync 1
role_of-ones row l h = from_same _ _ (entry (λ row. same_role (role_of (16 * row)) (Sync 1)) 1 19 row ones_table l (omega arith))

pub role_of-within : (i : ℕ) → i < 320 → IsRole (role_of i)
role_of-within i h = from_is_role (role_of i) (entry (λ i. is_role (role_of i)) 0 320 i within_table (omega arith) (omega arith))

-- a role other than a sync bit's has its place alone
only_here : (r : Role) (i : ℕ) → (is_sync r || nat_eq (place_of_role r) i) ≡ true → ((bit : ℕ) → r ≡ Sync bit → ⊥) → place_of_role r ≡ i
only_here (Sync bit) i t h = absurd (h bit refl)
only_here (Control c) i t h = eqb-true (place_of_role (Control c)) i t
only_here (Data n) i t h = eqb-true (place_of_role (Data n)) i t
only_here (Time n) i t h = eqb-true (place_of_role (Time n)) i t

pub place_of-role_of : (i : ℕ) → i < 320 → ((bit : ℕ) → role_of i ≡ Sync bit → ⊥) → place_of_role (role_of i) ≡ i
place_of-role_of i l h =
    only_here (role_of i) i (entry (λ i. is_sync (role_of i) || nat_eq (place_of_role (role_of i)) i) 0 320 i only_table (omega arith) (omega arith)) h

-- ---- sync bits

not_sync : (r : Role) (bit : ℕ) → not (is_sync r) ≡ true → r ≡ Sync bit → ⊥
not_sync r bit n e = let s : is_sync r ≡ true = ap is_sync e in cc

-- a sync bit is one of the first sixteen, or the first of a further row
sync_place : (i bit : ℕ) → i < 320 → role_of i ≡ Sync bit → (i < 16) ⊎ (i % 16 ≡ 0)
sync_place i bit h e =
    let t = entry (λ i. nat_lt i 16 || (nat_eq (i % 16) 0 || not (is_sync (role_of i)))) 0 320 i other_table (omega arith) (omega arith) in
    elim (cases_lt i 16) [
      | inl low ↦ inl low
      | inr high ↦ elim (cases_eq (i % 16) 0) [
        | inl first ↦ inr first
        | inr other ↦ absurd (not_sync (role_of i) bit (rw (le-ltb i 16 high, ne_eqb (i % 16) 0 other) at t) e)
      ]
    ]

sync_injective : (a b : ℕ) → Sync a ≡ Sync b → a ≡ b
sync_injective a b e = cc

-- the sync bits are sixteen zeros, and a one at the head of each further row
pub synced : (bits : List ℕ) → ((i : ℕ) → i < 16 → get_or bits i 0 ≡ 0) →
    ((row : ℕ) → 1 ≤ row → row < 20 → get_or bits (16 * row) 0 ≡ 1) → Synced bits
synced bits zeros ones = λ i bit h e.
    elim (cases_lt i 16) [
      | inl low ↦ zeros i low ∙ sync_injective 0 bit (sym (role_of-zeros i low) ∙ e)
      | inr high ↦ elim (sync_place i bit h e) [
        | inl low ↦ absurd (omega arith)
        | inr first ↦
            let row : i ≡ 16 * (i / 16) = omega arith in
            ap (λ k. get_or bits k 0) row ∙ ones (i / 16) (omega arith) (omega arith) ∙
            sync_injective 1 bit (sym (role_of-ones (i / 16) (omega arith) (omega arith)) ∙ ap role_of (sym row) ∙ e)
      ]
    ]

pub synced_zeros : (bits : List ℕ) → Synced bits → (i : ℕ) → i < 16 → get_or bits i 0 ≡ 0
synced_zeros bits s i h = s i 0 (omega arith) (role_of-zeros i h)

pub synced_ones : (bits : List ℕ) → Synced bits → (row : ℕ) → 1 ≤ row → row < 20 → get_or bits (16 * row) 0 ≡ 1
synced_ones bits s row l h = s (16 * row) 1 (omega arith) (role_of-ones row l h)

pub place_of-below : (r : Role) → IsRole r → place_of_role r < 320
unfolding place_of_role
place_of-below (Sync bit) h = omega arith
place_of-below (Control c) h = grind (arith, nat_tests)
place_of-below (Data n) h = grind (arith, nat_tests)
place_of-below (Time t) h = omega arith
