use Rattle.std.proofs.Common.{rules, arith, get_or, pos, ◌≡◌, ◌-ℤ◌, ◌*ℤ◌, subst, sym, ℤ, to_z, of_z, FitsSigned, w16, w32, w64}
use Rattle.std.proofs.lemmas.Int.{ints, to_z-of_z}
use Rattle.fr_pre.specs.Offsets.{IsOffset}
use Rattle.fr_pre.proofs.Run.{frame, history}
use Rattle.fr_pre.proofs.state.PreState.preprocess.Goals as goal

pub downscale-so-requires : goal.downscale-so-requires
downscale-so-requires c =
    let f : FitsSigned w16 c.args.self.now.z1 = search rules in
    rw (to_z-of_z w16 _ f) c.args.self.now.z1_bound

pub follow-offsets-requires : goal.follow-offsets-requires
follow-offsets-requires c =
    let f1 : FitsSigned w16 c.args.self.now.z1 = search rules in
    let f2 : FitsSigned w32 c.args.self.now.l_z2 = search rules in
    let f3 : FitsSigned w64 c.offset_in.result = record { sfits = c.offset_in.type_inv } in
    let o = simp to_z-of_z at c.offset_in.ensures in
    record { offset = rw (to_z-of_z w64 _ f3, o) c.args.self.now.offset_bound; samples = c.downscale-so.ensures.within }

pub compensate-sof-requires : goal.compensate-sof-requires
compensate-sof-requires c = c.follow-offsets.ensures.within

pub sum-requires : goal.sum-requires
sum-requires c =
    let f : FitsSigned w16 (get_or c.downscale-so.result 160 (pos 0)) = search rules in
    let g : FitsSigned w32 (get_or c.follow-offsets.result 159 (pos 0)) = search rules in
    simp to_z-of_z (record { sample = c.downscale-so.ensures.within 160 (omega arith); offset = c.follow-offsets.ensures.within 159 (omega arith) })

pub invariant_of-self-clause-z1_bound : goal.invariant_of-self-clause-z1_bound
invariant_of-self-clause-z1_bound c =
    let f : FitsSigned w16 (get_or c.downscale-so.result 160 (pos 0)) = search rules in
    simp to_z-of_z (c.downscale-so.ensures.within 160 (omega arith))

-- as the code keeps both numbers
kept : (z1 l_z2 : ℤ) → FitsSigned w16 z1 → FitsSigned w32 l_z2 → IsOffset (l_z2 -ℤ z1 *ℤ pos 32768) →
    IsOffset (to_z w32 (of_z w32 l_z2) -ℤ to_z w16 (of_z w16 z1) *ℤ pos 32768)
kept z1 l_z2 f g o = rw (to_z-of_z w32 l_z2 g, to_z-of_z w16 z1 f) o

pub invariant_of-self-clause-offset_bound : goal.invariant_of-self-clause-offset_bound
invariant_of-self-clause-offset_bound c =
    let fz : FitsSigned w16 (get_or c.downscale-so.result 160 (pos 0)) = search rules in
    let fo : FitsSigned w32 (get_or c.follow-offsets.result 159 (pos 0)) = search rules in
    let fs : FitsSigned w32 c.sum.result = record { sfits = c.sum.type_inv } in
    let e = simp to_z-of_z at c.sum.ensures in
    let w : IsOffset (get_or c.follow-offsets.result 159 (pos 0)) = c.follow-offsets.ensures.within 159 (omega arith) in
    let same : c.sum.result -ℤ get_or c.downscale-so.result 160 (pos 0) *ℤ pos 32768 ≡ get_or c.follow-offsets.result 159 (pos 0) = omega (arith, ints) in
    kept (get_or c.downscale-so.result 160 (pos 0)) c.sum.result fz fs (subst (λ v. IsOffset v) (sym same) w)

pub returns-clause-step : goal.returns-clause-step
returns-clause-step c =
    let f1 : FitsSigned w16 c.args.self.now.z1 = search rules in
    let f2 : FitsSigned w32 c.args.self.now.l_z2 = search rules in
    let f3 : FitsSigned w16 c.args.self.now.mp = search rules in
    let f4 : FitsSigned w64 c.offset_in.result = record { sfits = c.offset_in.type_inv } in
    let f5 : FitsSigned w16 (get_or c.downscale-so.result 160 (pos 0)) = search rules in
    let f6 : FitsSigned w32 (get_or c.follow-offsets.result 159 (pos 0)) = search rules in
    let f7 : FitsSigned w16 (get_or c.compensate-sof.result 160 (pos 0)) = search rules in
    let f8 : FitsSigned w32 c.sum.result = record { sfits = c.sum.type_inv } in
    let o = simp to_z-of_z at c.offset_in.ensures in
    let within : IsOffset c.offset_in.result = subst (λ v. IsOffset v) (sym o) c.args.self.now.offset_bound in
    simp to_z-of_z (frame c.args.self.now.z1 c.args.self.now.l_z2 c.args.self.now.mp c.offset_in.result c.sum.result c.args.x.now c.downscale-so.result
    c.follow-offsets.result c.compensate-sof.result c.preemphasise.new.s
    (record {
      x_count = c.told-x;
      s_count = c.preemphasise.array_long;
      before = within;
      downscaled = simp to_z-of_z at c.downscale-so.ensures;
      followed = simp to_z-of_z at c.follow-offsets.ensures;
      freed = simp to_z-of_z at c.compensate-sof.ensures;
      preemphasised = c.preemphasise.ensures;
    }) o (simp to_z-of_z at c.sum.ensures))

pub returns-clause-history : goal.returns-clause-history
returns-clause-history c = history _ _ _ _ (returns-clause-step c)
