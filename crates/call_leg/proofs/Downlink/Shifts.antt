-- The shift of a frame, and what is asked for.
use Rattle.std.proofs.Common.{◌≡◌, refl, ℤ, pos, Bool, true, false, if◌then◌else◌, None, unwrap_or}
use Rattle.time_align.specs.Memory.{AlignMemory}
use Rattle.time_align.specs.Step.{adopted}

abbrev shift_by : Bool → AlignMemory → ℤ × AlignMemory
shift_by b m = if b then (pos 0, m) else (unwrap_or m.kept (pos 0), record { kept = None; frozen = false })

-- the shift that a frame adopts
pub adopted-shift : (m : AlignMemory) → (adopted m).0 ≡ (if m.frozen then pos 0 else unwrap_or m.kept (pos 0))
adopted-shift m = go m.frozen
  where
    go : (b : Bool) → (shift_by b m).0 ≡ (if b then pos 0 else unwrap_or m.kept (pos 0))
    go true = refl
    go false = refl

pub adopted-kept : (m : AlignMemory) → (adopted m).1.kept ≡ (if m.frozen then m.kept else None)
adopted-kept m = go m.frozen
  where
    go : (b : Bool) → (shift_by b m).1.kept ≡ (if b then m.kept else None)
    go true = refl
    go false = refl

pub adopted-frozen : (m : AlignMemory) → (adopted m).1.frozen ≡ m.frozen
adopted-frozen m = go m.frozen refl
  where
    go : (b : Bool) → m.frozen ≡ b → (shift_by b m).1.frozen ≡ b
    go true e = e
    go false e = refl
