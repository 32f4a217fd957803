use Rattle.std.proofs.Common.{◌+◌, pos, get_or, ◌≤◌, unsigned_abs, arith, rules, FitsSigned, w16, w32}
use Rattle.std.proofs.lemmas.Int.{to_z-of_z}
use Rattle.fr_rpe.proofs.weighting.first_four.Goals as goal

pub plus_tap-sum-requires-2-clause-room : goal.plus_tap-sum-requires-2-clause-room
plus_tap-sum-requires-2-clause-room c =
    let f0 : FitsSigned w32 c.plus_tap-sum.result = record { sfits = c.plus_tap-sum.type_inv } in
    let b0 : unsigned_abs c.plus_tap-sum.result ≤ 4395008 = c.plus_tap-sum.ensures.bound in
    simp to_z-of_z (omega arith)

pub plus_tap-sum-requires-3-clause-room : goal.plus_tap-sum-requires-3-clause-room
plus_tap-sum-requires-3-clause-room c =
    let f0 : FitsSigned w32 c.plus_tap-sum.result = record { sfits = c.plus_tap-sum.type_inv } in
    let f1 : FitsSigned w32 c.plus_tap-sum-2.result = record { sfits = c.plus_tap-sum-2.type_inv } in
    let b0 : unsigned_abs c.plus_tap-sum.result ≤ 4395008 = c.plus_tap-sum.ensures.bound in
    let b1 = simp to_z-of_z at c.plus_tap-sum-2.ensures.bound in
    simp to_z-of_z (omega arith)

pub plus_tap-requires-clause-room : goal.plus_tap-requires-clause-room
plus_tap-requires-clause-room c =
    let f0 : FitsSigned w32 c.plus_tap-sum.result = record { sfits = c.plus_tap-sum.type_inv } in
    let f1 : FitsSigned w32 c.plus_tap-sum-2.result = record { sfits = c.plus_tap-sum-2.type_inv } in
    let f2 : FitsSigned w32 c.plus_tap-sum-3.result = record { sfits = c.plus_tap-sum-3.type_inv } in
    let b0 : unsigned_abs c.plus_tap-sum.result ≤ 4395008 = c.plus_tap-sum.ensures.bound in
    let b1 = simp to_z-of_z at c.plus_tap-sum-2.ensures.bound in
    let b2 = simp to_z-of_z at c.plus_tap-sum-3.ensures.bound in
    simp to_z-of_z (omega arith)

pub returns-clause-bound : goal.returns-clause-bound
returns-clause-bound c =
    let f0 : FitsSigned w32 c.plus_tap-sum.result = record { sfits = c.plus_tap-sum.type_inv } in
    let f1 : FitsSigned w32 c.plus_tap-sum-2.result = record { sfits = c.plus_tap-sum-2.type_inv } in
    let f2 : FitsSigned w32 c.plus_tap-sum-3.result = record { sfits = c.plus_tap-sum-3.type_inv } in
    let f3 : FitsSigned w32 c.plus_tap.result = record { sfits = c.plus_tap.type_inv } in
    let b0 : unsigned_abs c.plus_tap-sum.result ≤ 4395008 = c.plus_tap-sum.ensures.bound in
    let b1 = simp to_z-of_z at c.plus_tap-sum-2.ensures.bound in
    let b2 = simp to_z-of_z at c.plus_tap-sum-3.ensures.bound in
    let b3 = simp to_z-of_z at c.plus_tap.ensures.bound in
    simp to_z-of_z (omega arith)

pub returns-clause-value : goal.returns-clause-value
returns-clause-value c =
    let f0 : FitsSigned w32 c.plus_tap-sum.result = record { sfits = c.plus_tap-sum.type_inv } in
    let f1 : FitsSigned w32 c.plus_tap-sum-2.result = record { sfits = c.plus_tap-sum-2.type_inv } in
    let f2 : FitsSigned w32 c.plus_tap-sum-3.result = record { sfits = c.plus_tap-sum-3.type_inv } in
    let f3 : FitsSigned w32 c.plus_tap.result = record { sfits = c.plus_tap.type_inv } in
    let x0 : FitsSigned w16 (get_or c.args.padded.now c.args.k (pos 0)) = search rules in
    let x1 : FitsSigned w16 (get_or c.args.padded.now (c.args.k + 1) (pos 0)) = search rules in
    let x3 : FitsSigned w16 (get_or c.args.padded.now (c.args.k + 3) (pos 0)) = search rules in
    let x4 : FitsSigned w16 (get_or c.args.padded.now (c.args.k + 4) (pos 0)) = search rules in
    let e0 = simp to_z-of_z at c.plus_tap-sum.ensures.value in
    let e1 = simp to_z-of_z at c.plus_tap-sum-2.ensures.value in
    let e2 = simp to_z-of_z at c.plus_tap-sum-3.ensures.value in
    let e3 = simp to_z-of_z at c.plus_tap.ensures.value in
    simp to_z-of_z cc
